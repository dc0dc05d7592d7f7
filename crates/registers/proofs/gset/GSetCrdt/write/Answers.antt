use Rattle.registers.proofs.gset.GSetCrdt.write.Goals as goal

pub returns : goal.returns
returns c = record { words = c.write.ensures.words; answer = c.write.ensures.answer }
