use Rattle.words.specs.Words.{kind_number}
use Rattle.entries.proofs.Turns.{Writing}
use Rattle.entries.proofs.write.write.Given as goal

abbrev pub invariant-loop-i : goal.invariant-loop-i
invariant-loop-i g l = Writing (kind_number g.K.EntryKind.WORD) g.K.EntryKind.TOP l.row l.initial.words l.place l.words l.next l.seen l.i
