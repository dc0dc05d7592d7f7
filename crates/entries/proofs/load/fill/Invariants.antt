use Rattle.std.proofs.Common.{length}
use Rattle.words.specs.Readings.{left}
use Rattle.words.specs.Words.{kind_number}
use Rattle.entries.proofs.Fills.{Filling}
use Rattle.entries.proofs.load.fill.Given as goal

abbrev pub invariant-loop-word : goal.invariant-loop-word
invariant-loop-word g l = Filling (kind_number g.K.EntryKind.WORD) g.K.EntryKind.TOP l.initial.reader l.reader l.row l.low l.seen

abbrev pub decreases-loop-word : goal.decreases-loop-word
decreases-loop-word g l = length (left l.reader)
