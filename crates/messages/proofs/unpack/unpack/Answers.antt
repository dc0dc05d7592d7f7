use Rattle.std.proofs.Common.{sym, refl, ◌∙◌}
use Rattle.wire.specs.Openings.{unpacked}
use Rattle.wire.proofs.Laws.{both_ways}
use Rattle.messages.proofs.Results.{none_unpacked, all_unpacked}
use Rattle.messages.proofs.unpack.unpack.Goals as goal

pub returns-then-is_err-clause-clock : goal.returns-then-is_err-clause-clock
returns-then-is_err-clause-clock g c =
    c.bottom.ensures ∙ (none_unpacked g.C.Crdt.least (unpacked g.C.Crdt c.args.words.now) _ c.read_all-answer.ensures.answer (sym c.if-is_err.ensures.value)).0

pub returns-then-is_err-clause-value : goal.returns-then-is_err-clause-value
returns-then-is_err-clause-value g c =
    c.bottom-then-is_err.ensures ∙ (none_unpacked g.C.Crdt.least (unpacked g.C.Crdt c.args.words.now) _ c.read_all-answer.ensures.answer (sym c.if-is_err.ensures.value)).1

pub returns-then-is_err-clause-law : goal.returns-then-is_err-clause-law
returns-then-is_err-clause-law g c = both_ways g.C.Crdt g.met.C.Crdt.reads g.met.C.Crdt.exact

pub returns-else-is_err-clause-exact : goal.returns-else-is_err-clause-exact
returns-else-is_err-clause-exact g c =
    let read = c.read_all-answer.ensures in
    all_unpacked g.C.Crdt (both_ways g.C.Crdt g.met.C.Crdt.reads g.met.C.Crdt.exact) c.args.words.now _ _ _ c.read_all-answer.result refl read.answer read.clock read.value

pub returns-else-is_err-clause-law : goal.returns-else-is_err-clause-law
returns-else-is_err-clause-law g c = both_ways g.C.Crdt g.met.C.Crdt.reads g.met.C.Crdt.exact
