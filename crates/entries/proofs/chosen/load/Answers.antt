use Rattle.std.proofs.Common.{◌≡◌, sym, subst}
use Rattle.words.specs.Readings.{left, read_or}
use Rattle.entries.specs.declared.chosen.RowKind.{RowKind}
use Rattle.entries.specs.Kinds.{top_of, entry_number}
use Rattle.entries.specs.Rows.{row_of, empty}
use Rattle.entries.specs.Entries.{row_reading}
use Rattle.entries.proofs.chosen.load.Goals as goal

pub returns-in-Clock-clause-row : goal.returns-in-Clock-clause-row
returns-in-Clock-clause-row c =
    let Row : RowKind → Type 0 = λ e. row_of (top_of e) c.load.new.row ≡ read_or (empty (top_of e)) (row_reading (entry_number e) (top_of e) (left c.args.reader.now)) in
    subst Row (sym c.in-Clock.is) c.load.ensures.row

pub returns-in-Counter-clause-row : goal.returns-in-Counter-clause-row
returns-in-Counter-clause-row c =
    let Row : RowKind → Type 0 = λ e. row_of (top_of e) c.load-in-Counter.new.row ≡ read_or (empty (top_of e)) (row_reading (entry_number e) (top_of e) (left c.args.reader.now)) in
    subst Row (sym c.in-Counter.is) c.load-in-Counter.ensures.row

pub returns-in-Set-clause-row : goal.returns-in-Set-clause-row
returns-in-Set-clause-row c =
    let Row : RowKind → Type 0 = λ e. row_of (top_of e) c.load-in-Set.new.row ≡ read_or (empty (top_of e)) (row_reading (entry_number e) (top_of e) (left c.args.reader.now)) in
    subst Row (sym c.in-Set.is) c.load-in-Set.ensures.row
