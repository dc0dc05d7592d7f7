use Rattle.counters.proofs.Joins.{Joining}
use Rattle.counters.proofs.counts.CountsCrdt.join.Given as goal

abbrev pub invariant-loop-i : goal.invariant-loop-i
invariant-loop-i g l = Joining g.K.EntryKind.TOP l.initial.self.counts l.other.counts l.self.counts l.i
