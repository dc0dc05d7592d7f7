use Rattle.registers.specs.Sets.{zeros_none}
use Rattle.registers.proofs.gset.GSetCrdt.bottom.Goals as goal

pub returns : goal.returns
returns c = zeros_none
