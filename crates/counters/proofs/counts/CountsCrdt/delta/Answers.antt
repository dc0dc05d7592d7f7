use Rattle.std.proofs.Common.{◌≡◌, ◌+◌, ◌%◌, get_or, Ok, Err, sym, ap, ◌∙◌, ⊎_elim, arith}
use Rattle.words.specs.Refusals.{bare, value_or}
use Rattle.entries.specs.Rows.{row_of, empty}
use Rattle.counters.specs.Counts.{only, count_reported}
use Rattle.counters.proofs.Deltas.{refusing, reported_station, reported_none, reported_many, reported_limit, reported_done, one_stored}
use Rattle.counters.proofs.counts.CountsCrdt.delta.Goals as goal

pub returns-then-station-ge-STATIONS-clause-into : goal.returns-then-station-ge-STATIONS-clause-into
returns-then-station-ge-STATIONS-clause-into g c =
    let top = g.K.EntryKind.TOP in
    (refusing top _ 1 (reported_station top c.args.self.now.counts c.args.station (g.K.CountKind.amount c.args.report) c.if-station-ge-STATIONS.true)).1

pub returns-then-amount-eq0-clause-into : goal.returns-then-amount-eq0-clause-into
returns-then-amount-eq0-clause-into g c =
    let top = g.K.EntryKind.TOP in
    let xs = c.args.self.now.counts in
    let s = c.args.station in
    let n = c.amount-amount.result in
    let low = c.if-station-ge-STATIONS.false in
    let e : count_reported (row_of top xs) s n ≡ Err 2 = ⊎_elim (λ z. reported_none top xs s n low z) (λ h. reported_many top xs s n low h.0 h.1) c.then-amount-eq0.either in
    (refusing top _ 2 (ap (count_reported (row_of top xs) s) (sym c.amount-amount.ensures) ∙ e)).1

pub returns-then-count-TOP : goal.returns-then-count-TOP
returns-then-count-TOP g c =
    let top = g.K.EntryKind.TOP in
    let xs = c.args.self.now.counts in
    let s = c.args.station in
    let n = c.amount-amount.result in
    let is = c.low.ensures.value in
    let limit = c.TOP.ensures in
    let e : count_reported (row_of top xs) s n ≡ Err 3 = reported_limit top xs s n c.if-station-ge-STATIONS.false c.if-amount-eq0.false c.if-amount-gt-MOST.false (omega arith) in
    let p = refusing top _ 3 (ap (count_reported (row_of top xs) s) (sym c.amount-amount.ensures) ∙ e) in
    record { answer = p.0; into = p.1 }

pub returns : goal.returns
returns g c =
    let top = g.K.EntryKind.TOP in
    let xs = c.args.self.now.counts in
    let s = c.args.station in
    let n = c.amount-amount.result in
    let low = c.if-station-ge-STATIONS.false in
    let is = c.low.ensures.value in
    let limit = c.TOP.ensures in
    let done : count_reported (row_of top xs) s n ≡ Ok (only s (get_or xs s 0 % (top + 1) + n)) = reported_done top xs s n low c.if-amount-eq0.false c.if-amount-gt-MOST.false (omega arith) in
    let e = ap (count_reported (row_of top xs) s) (sym c.amount-amount.ensures) ∙ done in
    record {
      answer = sym (ap bare e);
      into = one_stored top s _ low ∙ ap (λ m. only s (m + n)) is ∙ sym (ap (value_or (empty top)) e);
    }
