use Rattle.std.proofs.Common.{arith}
use Rattle.words.proofs.Masks.{formed_mask}
use Rattle.words.proofs.word.Word.is_well_formed.Goals as goal

pub returns : goal.returns
returns c = formed_mask c.args.self.0 (omega arith)
