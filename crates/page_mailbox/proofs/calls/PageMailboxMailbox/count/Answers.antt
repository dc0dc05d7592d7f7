use Rattle.std.proofs.Common.{arith}
use Rattle.page_mailbox.proofs.Holds.{room, held_few, held_is}
use Rattle.page_mailbox.proofs.calls.PageMailboxMailbox.count.Goals as goal

pub overflow_cast-result : goal.overflow_cast-result
overflow_cast-result c = omega (arith, room c.args.self.now, held_few c.args.self.now)

pub returns : goal.returns
returns c = held_is c.args.self.now
