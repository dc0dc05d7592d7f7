use Rattle.std.proofs.Common.{arith}
use Rattle.word_mailbox.proofs.Holds.{held_few, held_is}
use Rattle.word_mailbox.proofs.calls.WordMailboxMailbox.count.Goals as goal

pub overflow_cast-result : goal.overflow_cast-result
overflow_cast-result c = omega (arith, held_few c.args.self.now)

pub returns : goal.returns
returns c = held_is c.args.self.now
