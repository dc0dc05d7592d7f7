use Rattle.registers.specs.Sets.{Joining}
use Rattle.registers.proofs.gset.GSetCrdt.join.Given as goal

abbrev pub invariant-loop-i : goal.invariant-loop-i
invariant-loop-i l = Joining l.initial.self.bits l.other.bits l.self.bits l.i
