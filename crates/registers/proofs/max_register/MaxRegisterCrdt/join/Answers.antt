use Rattle.std.proofs.Common.{arith}
use Rattle.registers.specs.Values.{same_level}
use Rattle.registers.proofs.max_register.MaxRegisterCrdt.join.Goals as goal

pub returns-then-value-theirs : goal.returns-then-value-theirs
returns-then-value-theirs c = same_level _ _ (omega arith)

pub returns-else-value-theirs : goal.returns-else-value-theirs
returns-else-value-theirs c = same_level _ _ (omega arith)
