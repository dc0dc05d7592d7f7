use Rattle.std.proofs.Common.{arith}
use Rattle.mailboxes.proofs.Spills.{counted_append}
use Rattle.mailboxes.proofs.overflow.OverflowMailbox.count.Goals as goal

pub returns : goal.returns
returns g c =
    let e = counted_append (g.A.Mailbox.waiting c.args.self.now.first) (g.B.Mailbox.waiting c.args.self.now.second) in
    omega (arith, e, c.saturating_add.ensures, c.count.ensures, c.count-2.ensures)
