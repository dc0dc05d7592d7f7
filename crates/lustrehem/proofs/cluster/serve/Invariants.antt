use Rattle.stations.specs.Stored.{cluster_of}
use Rattle.lustrehem.specs.Rehearsals.{Rehearsed}
use Rattle.lustrehem.proofs.cluster.serve.Given as goal

abbrev pub invariant-loop : goal.invariant-loop
invariant-loop g l =
    Rehearsed g.C.Crdt (cluster_of g.C.Crdt g.M.Mailbox l.initial.table l.initial.mailbox) (cluster_of g.C.Crdt g.M.Mailbox l.table l.mailbox)
