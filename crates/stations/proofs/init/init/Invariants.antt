use Rattle.std.proofs.Common.{◌≡◌, ℕ, ◌<◌, get_or}
use Rattle.histories.specs.Clusters.{fresh}
use Rattle.stations.specs.declared.station.Station.{Station}
use Rattle.stations.specs.Stored.{station_of}
use Rattle.stations.proofs.init.init.Given as goal

abbrev pub invariant-loop-i : goal.invariant-loop-i
invariant-loop-i g l = (k : ℕ) (d : Station g.row.C.Denot) → k < l.i → station_of g.C.Crdt (get_or l.stations k d) ≡ fresh g.C.Crdt k
