use Rattle.std.proofs.Common.{true, false, Err, sym, ap, ◌∙◌, arith}
use Rattle.layouts.proofs.Mounts.{check_last}
use Rattle.page_mailbox.proofs.open.check_page.Goals as goal

pub returns-then-is_zero-2 : goal.returns-then-is_zero-2
returns-then-is_zero-2 c =
    sym (check_last c.args.place c.args.seen true c.args.page.now c.head_of-head.result.0 c.head_of-head.ensures (omega arith) c.if-head-eq0.false (sym c.if-not-is.ensures) c.if-seen.false (sym c.if-not-is_well_formed.ensures) (sym (rw c.length-n.ensures.value at c.if-not-is_sized.ensures)) (rw c.length-n.ensures.value at c.if-is_zero-2.ensures))

pub returns-else-is_zero-2 : goal.returns-else-is_zero-2
returns-else-is_zero-2 c =
    ap Err c.fault-else-is_zero-2.ensures
    ∙ sym (check_last c.args.place c.args.seen false c.args.page.now c.head_of-head.result.0 c.head_of-head.ensures (omega arith) c.if-head-eq0.false (sym c.if-not-is.ensures) c.if-seen.false (sym c.if-not-is_well_formed.ensures) (sym (rw c.length-n.ensures.value at c.if-not-is_sized.ensures)) (rw c.length-n.ensures.value at c.if-is_zero-2.ensures))
