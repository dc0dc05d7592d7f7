use Rattle.std.proofs.Common.{◌≡◌, ℕ, ◌+◌, ◌-◌, ◌*◌, ◌^◌, ◌≤◌, List, length, set, Ok, sym, ap, ◌∙◌, arith}
use Rattle.words.specs.Words.{kind_number, word_of}
use Rattle.words.proofs.Writes.{answer_fits, leaves_fits}
use Rattle.entries.specs.Rows.{row_of}
use Rattle.entries.specs.Entries.{entry_word, row_written}
use Rattle.entries.proofs.Turns.{moved, Writing, writing_skip, writing_take, writing_end, writing_place}
use Rattle.entries.proofs.write.write.Goals as goal
use Rattle.entries.proofs.write.write.Goals.{then-number-ne0, else-number-ne0}

pub loop-i-preserved : goal.loop-i-preserved
loop-i-preserved g c =
    let k = kind_number g.K.EntryKind.WORD in
    let top = g.K.EntryKind.TOP in
    let xs = c.args.row.now in
    let i = c.loop-i.i in
    let low = c.loop-i-test.true in
    let is = c.low-number.ensures.value in
    let Next : List ℕ → ℕ → ℕ → Type 0 = λ ws n s. Writing k top xs c.args.words.now c.args.place ws n s (i + 1) in
    elim c.if-number-ne0.branch [
      | then-number-ne0 w ↦ moved Next w.words-is w.next-is w.seen-is (writing_take k top xs _ _ c.loop-i.words c.loop-i.next c.loop-i.seen i c.loop-i.invariant low (λ z. w.if-number-ne0.true (is ∙ z)) w.new.result.0 (w.new.ensures ∙ ap (λ e. word_of (kind_number e) (i * 2 ^ 24 + c.low-number.result)) w.WORD.ensures ∙ ap (entry_word k i) is))
      | else-number-ne0 w ↦ moved Next w.words-is w.next-is w.seen-is (writing_skip k top xs _ _ c.loop-i.words c.loop-i.next c.loop-i.seen i c.loop-i.invariant low (sym is ∙ w.if-number-ne0.false))
    ]

pub returns-clause-answer : goal.returns-clause-answer
returns-clause-answer g c =
    let ws = row_written (kind_number g.K.EntryKind.WORD) (row_of g.K.EntryKind.TOP c.args.row.now) in
    let all : c.size-all.result ≡ length ws = c.size-all.ensures.value in
    let few : length ws ≤ 127 = (let b = c.size-all.ensures.bound in omega arith) in
    let room : length ws ≤ length c.args.words.now - c.args.place = omega arith in
    ap Ok (writing_place _ _ _ _ _ _ _ _ _ c.loop-i.invariant c.loop-i-test.false) ∙ sym (answer_fits (length c.args.words.now) c.args.place (length ws) few room)

pub returns-clause-words : goal.returns-clause-words
returns-clause-words g c =
    let old = c.args.words.now in
    let ws = row_written (kind_number g.K.EntryKind.WORD) (row_of g.K.EntryKind.TOP c.args.row.now) in
    let all : c.size-all.result ≡ length ws = c.size-all.ensures.value in
    let few : length ws ≤ 127 = (let b = c.size-all.ensures.bound in omega arith) in
    let room : length ws ≤ length old - c.args.place = omega arith in
    ap (set c.loop-i.words c.loop-i.next) c.new-2.ensures ∙ writing_end _ _ _ _ _ _ _ _ _ c.loop-i.invariant c.loop-i-test.false ∙ sym (leaves_fits old c.args.place ws few room)
