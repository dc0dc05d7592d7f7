use Rattle.std.proofs.Common.{◌≡◌, ◌+◌, ◌-◌, ◌*◌, ◌%◌, ◌<◌, ◌≤◌, length, get_or, take, drop, set, sym, refl, ap, ◌∙◌, zero-add, arith}
use lib.Seq.{paste}
use Rattle.std.proofs.lemmas.List.{take_all, length-take, length-drop}
use Rattle.std.proofs.lemmas.List.Edits.{paste_more}
use Rattle.layouts.specs.Pages.{page_length, page_message}
use Rattle.layouts.specs.PageLaws.{length_words_of, full_length}
use Rattle.layouts.proofs.Rows.{paste_put}
use Rattle.layouts.proofs.PageBytes.{words_of_at, word_at_drop, word_after}
use Rattle.page_mailbox.proofs.bytes.unpack.Goals as goal
use Rattle.page_mailbox.proofs.bytes.unpack.Goals.{After-as_chunks}

size-is : (c : goal.After-as_chunks) → c.length-n.result ≡ page_length c.args.page.now
size-is c = c.length-n.ensures.value ∙ ap (λ x. x % 256) c.head_of.ensures

few : (c : goal.After-as_chunks) → c.length-n.result ≤ 127
few c = omega (arith, size-is c, full_length c.args.page.now c.requires.full)

-- as many words are read as the message has
all-read : (c : goal.After-as_chunks) → length (take (1 + c.length-n.result - 1) (drop 1 c.as_chunks.result.0.now)) ≡ c.length-n.result
all-read c = let f = few c in simp (length-take, length-drop) (omega (arith, c.as_chunks.ensures.front_len))

pub loop-i-preserved : goal.loop-i-preserved
loop-i-preserved c =
    let at = (goal.at.loop-i-preserved c).After-as_chunks in
    let page = c.args.page.now in
    let words = c.args.words.now in
    let i = c.loop-i.i in
    let n = page_length page in
    let s = page_message page in
    let f = few at in
    let e = size-is at in
    let lt : i < c.length-n.result = omega (arith, all-read at, c.loop-i-test.true) in
    let g : c.from_le_bytes.result ≡ get_or s i 0 = c.from_le_bytes.ensures ∙ word_after page _ _ _ _ i c.as_chunks.ensures.front lt (omega arith) ∙ sym (words_of_at n i (drop 4 page) (omega arith) ∙ word_at_drop page 4 (4 * i) (4 + 4 * i) refl) in
    let ls = length_words_of n (drop 4 page) in
    let a : 0 + i < length words = omega (arith, c.requires.room) in
    let b : i < length s = omega (arith, ls) in
    ap (λ x. set x i c.from_le_bytes.result) c.loop-i.invariant ∙ ap (λ x. set (paste words 0 s i) i x) g ∙ ap (λ x. set (paste words 0 s i) x (get_or s i 0)) (sym (zero-add i)) ∙ paste_more words 0 s i 0 a b

pub returns : goal.returns
returns c =
    let at = (goal.at.returns c).After-as_chunks in
    let page = c.args.page.now in
    let words = c.args.words.now in
    let s = page_message page in
    let e = size-is at in
    let ls = length_words_of (page_length page) (drop 4 page) in
    let i : c.loop-i.i ≡ length s = omega (arith, ls, e, all-read at, c.loop-i.auto.i-end) in
    record {
      size = e ∙ sym ls;
      words = c.loop-i.invariant ∙ ap (paste words 0 s) i ∙ paste_put words 0 s s (length s) (take_all (length s) s (omega arith)) refl;
    }
