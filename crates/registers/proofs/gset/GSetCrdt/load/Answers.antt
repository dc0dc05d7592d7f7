use Rattle.std.proofs.Common.{ap, ◌∙◌}
use Rattle.words.specs.Readings.{left, read_or}
use Rattle.entries.specs.Entries.{row_reading}
use Rattle.registers.specs.Sets.{empty_none}
use Rattle.registers.proofs.gset.GSetCrdt.load.Goals as goal

pub returns : goal.returns
returns c = record {
  answer = c.load.ensures.answer;
  after = c.load.ensures.row ∙ ap (λ d. read_or d (row_reading 7 65535 (left c.args.reader.now))) empty_none;
  reader = c.load.ensures.reader;
}
