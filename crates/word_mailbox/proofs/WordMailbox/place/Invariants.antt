use Rattle.std.proofs.Common.{◌≡◌, length, take}
use Rattle.layouts.specs.Rows.{laid}
use Rattle.word_mailbox.specs.Stores.{waiting_of}
use Rattle.word_mailbox.proofs.WordMailbox.place.Given as goal

abbrev pub invariant-loop-i : goal.invariant-loop-i
invariant-loop-i l = l.place ≡ length (laid (take l._i (waiting_of l.self)))
