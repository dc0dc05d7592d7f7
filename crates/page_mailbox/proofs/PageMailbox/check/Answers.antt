use Rattle.std.proofs.Common.{◌≡◌, ℕ, ◌-◌, ◌*◌, ◌/◌, ◌<◌, List, false, cond, ltb, length, get_or, take, drop, Ok, Err, sym, ap, ◌∙◌, arith}
use Rattle.std.proofs.lemmas.Result.{err_from_is_err_and}
use Rattle.words.specs.Readings.{told, told_fault}
use Rattle.layouts.specs.Mounts.{wrong, mount_pages}
use Rattle.layouts.proofs.PageBytes.{chunk_at}
use Rattle.layouts.proofs.Mounts.{mount_sized, mount_message, mount_empty, mount_wrong, foreign_answer}
use Rattle.layouts.proofs.Images.{written, images_accepted}
use Rattle.page_mailbox.proofs.PageMailbox.check.Goals as goal
use Rattle.page_mailbox.proofs.PageMailbox.check.Goals.{then-branch, else-branch}

pub returns-then-not-is_paged : goal.returns-then-not-is_paged
returns-then-not-is_paged c =
    let bs = c.args.bytes.now in
    let answer = ap Err c.fault.ensures ∙ sym (ap (λ x. cond x (mount_pages (length bs / 512) 0 0 false bs) (Err (wrong 16 0))) (sym c.if-not-is_paged.ensures)) in
    record { answer = answer; exact = tt; law = images_accepted; foreign = foreign_answer bs (Err (told_fault c.fault.result)) answer }

pub returns-in_err-check_page : goal.returns-in_err-check_page
returns-in_err-check_page c =
    let bs = c.args.bytes.now in
    let n = length bs / 512 in
    let i = c.loop-i.i in
    let below : i < n = omega (arith, c.loop-i-test.true, c.as_chunks.ensures.front_len) in
    let page : (d : List ℕ) → get_or c.as_chunks.result.0.now i d ≡ take 512 (drop (512 * i) bs) = λ d. ap (λ x. get_or x i d) c.as_chunks.ensures.front ∙ chunk_at 512 n i bs d below in
    let p = err_from_is_err_and c.from_residual.result c.from_residual.ensures.1 in
    let turn = mount_wrong n i c.loop-i.held bs _ below c.loop-i.invariant.1 (page _) (told_fault c.in_err-check_page.field-0.0) c.in_err-check_page.ensures in
    let all = mount_sized bs (sym c.if-not-is_paged.ensures) ∙ c.loop-i.invariant.0 ∙ turn in
    let answer = ap told (p.1 ∙ ap Err p.2) ∙ sym all in
    record { answer = answer; exact = written bs c.from_residual.result (λ i. omega (arith, c.type_inv.bytes i)) answer; law = images_accepted; foreign = foreign_answer bs (told c.from_residual.result) answer }

pub loop-i-preserved : goal.loop-i-preserved
loop-i-preserved c =
    let bs = c.args.bytes.now in
    let n = length bs / 512 in
    let i = c.loop-i.i in
    let held = c.loop-i.held in
    let below : i < n = omega (arith, c.loop-i-test.true, c.as_chunks.ensures.front_len) in
    let page : (d : List ℕ) → get_or c.as_chunks.result.0.now i d ≡ take 512 (drop (512 * i) bs) = λ d. ap (λ x. get_or x i d) c.as_chunks.ensures.front ∙ chunk_at 512 n i bs d below in
    elim c.if-branch.branch [
      | then-branch w ↦
          let on = mount_message n i held bs _ below c.loop-i.invariant.1 (page _) (ap Ok (sym w.if-branch.true) ∙ c.in_ok-check_page.ensures) in
          (rw w.held-is (c.loop-i.invariant.0 ∙ on), omega (arith, w.held-is, c.loop-i.invariant.1))
      | else-branch w ↦
          let on = mount_empty n i held bs _ below c.loop-i.invariant.1 (page _) (ap Ok (sym w.if-branch.false) ∙ c.in_ok-check_page.ensures) in
          (rw w.held-is (c.loop-i.invariant.0 ∙ on), omega (arith, w.held-is, c.loop-i.invariant.1))
    ]

pub returns : goal.returns
returns c =
    let bs = c.args.bytes.now in
    let n = length bs / 512 in
    let i = c.loop-i.i in
    let held = c.loop-i.held in
    let z : n - i ≡ 0 = omega (arith, c.loop-i-test.false, c.as_chunks.ensures.front_len) in
    let answer = sym (mount_sized bs (sym c.if-not-is_paged.ensures) ∙ c.loop-i.invariant.0 ∙ ap (λ x. mount_pages x (512 * i) held (ltb held i) (drop (512 * i) bs)) z) in
    record { answer = answer; exact = written bs (Ok held) (λ i. omega (arith, c.type_inv.bytes i)) answer; law = images_accepted; foreign = foreign_answer bs (Ok held) answer }
