use Rattle.wire.proofs.Laws.{both_ways}
use Rattle.lustrehem.specs.Rehearsals.{RehearsalPromised}
use Rattle.lustrehem.proofs.Rehearses.{then, rehearsal_promised}
use Rattle.lustrehem.proofs.cluster.serve.Given.{Over}
use Rattle.lustrehem.proofs.cluster.serve.Goals as goal

promised_of : (g : Over) → RehearsalPromised g.C.Crdt
promised_of g =
    let k = g.met.C.Crdt in
    rehearsal_promised g.C.Crdt (record { assoc = k.assoc; comm = k.comm; idem = k.idem; neutral = k.neutral; wire = both_ways g.C.Crdt k.reads k.exact })

pub loop-preserved : goal.loop-preserved
loop-preserved g c = then g.C.Crdt _ _ _ c.loop.invariant c.obey.ensures.lines

pub returns-in_err-obey-in-Some-2 : goal.returns-in_err-obey-in-Some-2
returns-in_err-obey-in-Some-2 g c = record { lines = then g.C.Crdt _ _ _ c.loop.invariant c.obey.ensures.lines; promised = promised_of g }

pub returns-in_err-announce-clause-promised : goal.returns-in_err-announce-clause-promised
returns-in_err-announce-clause-promised g c = promised_of g

pub returns-in_err-command-clause-promised : goal.returns-in_err-command-clause-promised
returns-in_err-command-clause-promised g c = promised_of g

pub returns-in-Some-Record-clause-promised : goal.returns-in-Some-Record-clause-promised
returns-in-Some-Record-clause-promised g c = promised_of g

pub returns-in-None-clause-promised : goal.returns-in-None-clause-promised
returns-in-None-clause-promised g c = promised_of g

pub returns-clause-promised : goal.returns-clause-promised
returns-clause-promised g c = promised_of g
