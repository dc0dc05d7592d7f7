use Rattle.std.proofs.Common.{refl}
use Rattle.entries.specs.Sixteen.{tabulated}
use Rattle.cards.proofs.Computed.{worked}
use Rattle.cards.proofs.examples.worked_examples.Goals as goal

pub returns : goal.returns
unfolding tabulated
returns c = record { theorem = worked; total = refl }
