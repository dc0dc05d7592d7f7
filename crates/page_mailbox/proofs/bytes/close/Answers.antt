use Rattle.std.proofs.Common.{rules, ◌≡◌, ◌+◌, ◌-◌, ◌*◌, ◌≤◌, length, take, drop, replicate, sym, ap, ◌∙◌, arith}
use lib.Seq.{paste}
use borrow.Rule.Slice.PartMut.{put_mid}
use Rattle.std.proofs.lemmas.List.{length-take, length-take-le, length-drop}
use Rattle.std.proofs.lemmas.List.Edits.{length-paste}
use Rattle.std.proofs.lemmas.Slice.{put_mid-paste}
use Rattle.layouts.proofs.PageBytes.{paste_cut, move_block}
use Rattle.layouts.proofs.PageLists.{closed_is}
use Rattle.page_mailbox.proofs.bytes.close.Goals as goal

-- one page more, through the spare one
pub loop-i-preserved : goal.loop-i-preserved
loop-i-preserved c =
    let b = c.args.bytes.now in
    let now = c.loop-i.bytes in
    let k = c.args.k in
    let i = c.loop-i.i in
    let j = 512 * (i - k) in
    let from = 512 * i + 512 in
    let page = c.copy_from_slice-in-loop-i.new.self in
    let new = put_mid (512 * i) (512 * i + 512 - 512 * i) now page in
    let all = c.loop-i.invariant.1 in
    let room : 512 ≤ length (drop from now) = simp length-drop (omega (arith, all, c.requires.room)) in
    let is : page ≡ take 512 (drop from now) = c.copy_from_slice-in-loop-i.ensures.after ∙ c.copy_from_slice.ensures.after ∙ ap (λ n. take n (drop from now)) {x = 512 * i + 1024 - from} {y = 512} (omega arith) in
    let one = put_mid-paste (512 * i) (512 * i + 512 - 512 * i) now page (take 512 (drop from now)) 512 is (omega arith) (sym (length-take-le 512 (drop from now) room)) ∙ paste_cut now (512 * i) (drop from now) 512 in
    let e1 : 512 * i ≡ 512 * k + j = omega arith in
    let e2 : from ≡ 512 * (k + 1) + j = omega arith in
    let e3 : j + 512 ≡ 512 * (i + 1 - k) = omega arith in
    let f = one ∙ ap (λ x. paste now x (drop from now) 512) e1 ∙ ap (λ x. paste now (512 * k + j) (drop x now) 512) e2 in (
      move_block b now new (512 * k) (512 * (k + 1)) j 512 (omega arith) (omega (arith, c.requires.room)) c.loop-i.invariant.0 f ∙ ap (paste b (512 * k) (drop (512 * (k + 1)) b)) e3,
      ap length one ∙ length-paste now (512 * i) (drop from now) 512 (omega (arith, all, c.requires.room)) room ∙ all,
      search rules,
    )

pub returns : goal.returns
returns c =
    let b = c.args.bytes.now in
    let k = c.args.k in
    let held = c.args.held in
    let moved = c.loop-i.bytes in
    let e : 512 * (c.loop-i.i - k) ≡ 512 * (held - 1 - k) = omega (arith, c.loop-i.auto.i-end (omega (arith, c.requires.below))) in
    let long : length (take (512 * held - 512 * (held - 1)) (drop (512 * (held - 1)) moved)) ≡ 512 = simp (length-take, length-drop) (omega (arith, c.loop-i.invariant.1, c.requires.below, c.requires.room)) in
    closed_is k held b moved c.fill.new.self c.requires.below c.requires.room (c.loop-i.invariant.0 ∙ ap (paste b (512 * k) (drop (512 * (k + 1)) b)) e) (c.fill.ensures.after (λ y e. e) ∙ ap (λ n. replicate n 0) long)
