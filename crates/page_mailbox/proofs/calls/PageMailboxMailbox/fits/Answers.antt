use Rattle.std.proofs.Common.{sym}
use Rattle.page_mailbox.proofs.Holds.{takes_is}
use Rattle.page_mailbox.proofs.calls.PageMailboxMailbox.fits.Goals as goal

pub returns-then-is_sized : goal.returns-then-is_sized
returns-then-is_sized c = takes_is c.args.self.now c.args.n (sym c.if-is_sized.ensures)
