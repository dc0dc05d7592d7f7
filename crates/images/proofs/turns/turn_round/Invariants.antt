use Rattle.std.proofs.Common.{◌≡◌, ◌*◌, ◌++◌, take, drop}
use Rattle.images.specs.Turns.{turned}
use Rattle.images.proofs.turns.turn_round.Given as goal

abbrev pub invariant-loop-i : goal.invariant-loop-i
invariant-loop-i l = turned l.initial.bytes ≡ take (4 * l.i) l.bytes ++ turned (drop (4 * l.i) l.bytes)
