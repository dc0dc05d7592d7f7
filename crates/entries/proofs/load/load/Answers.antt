use Rattle.std.proofs.Common.{sym, ◌∙◌}
use Rattle.words.proofs.Walks.{refused_least}
use Rattle.words.specs.Words.{kind_number}
use Rattle.words.specs.Readings.{left}
use Rattle.entries.specs.Rows.{empty}
use Rattle.entries.specs.Entries.{row_reading}
use Rattle.entries.proofs.Turns.{zeros_stand}
use Rattle.entries.proofs.load.load.Goals as goal

pub returns-then-is_err-clause-row : goal.returns-then-is_err-clause-row
returns-then-is_err-clause-row g c =
    let top = g.K.EntryKind.TOP in
    let x = row_reading (kind_number g.K.EntryKind.WORD) top (left c.args.reader.now) in
    zeros_stand top ∙ sym (refused_least c.args.reader.now x (empty top) c.fill-answer.result c.fill-answer.ensures.answer (sym c.if-is_err.ensures.value))
