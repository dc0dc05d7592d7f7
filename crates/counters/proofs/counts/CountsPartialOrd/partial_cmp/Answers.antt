use Rattle.std.proofs.Common.{true, false}
use Rattle.entries.specs.Rows.{row_of}
use Rattle.counters.specs.OrderLaws.{means}
use Rattle.counters.proofs.counts.CountsPartialOrd.partial_cmp.Goals as goal

pub returns-in-true-true-clause-cases : goal.returns-in-true-true-clause-cases
returns-in-true-true-clause-cases g c = means (row_of g.K.EntryKind.TOP c.args.self.now.counts) (row_of g.K.EntryKind.TOP c.args.other.now.counts) true true c.in-true-true.ensures c.in-true-true.ensures'

pub returns-in-true-false-clause-cases : goal.returns-in-true-false-clause-cases
returns-in-true-false-clause-cases g c = means (row_of g.K.EntryKind.TOP c.args.self.now.counts) (row_of g.K.EntryKind.TOP c.args.other.now.counts) true false c.in-true-false.ensures c.in-true-false.ensures'

pub returns-in-false-true-clause-cases : goal.returns-in-false-true-clause-cases
returns-in-false-true-clause-cases g c = means (row_of g.K.EntryKind.TOP c.args.self.now.counts) (row_of g.K.EntryKind.TOP c.args.other.now.counts) false true c.in-false-true.ensures c.in-false-true.ensures'

pub returns-in-false-false-clause-cases : goal.returns-in-false-false-clause-cases
returns-in-false-false-clause-cases g c = means (row_of g.K.EntryKind.TOP c.args.self.now.counts) (row_of g.K.EntryKind.TOP c.args.other.now.counts) false false c.in-false-false.ensures c.in-false-false.ensures'
