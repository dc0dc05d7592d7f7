use Rattle.std.proofs.Common.{rules, ◌≡◌, ◌+◌, ◌%◌, ◌<◌, ◌≤◌, get_or, sym, ◌∙◌, ⊎_elim, arith}
use Rattle.std.proofs.lemmas.Bool.{cases_lt}
use Rattle.std.proofs.lemmas.List.{get_or_past}
use Rattle.entries.specs.Sixteen.{getD_tabulated}
use Rattle.entries.specs.Rows.{length_row, row_of}
use Rattle.counters.proofs.counts.Counts.count.Goals as goal

pub returns : goal.returns
returns g c =
    let top = g.K.EntryKind.TOP in
    let xs = c.args.self.now.counts in
    let s = c.args.station in
    let v = row_of top xs in
    let long = length_row v in
    let within : s < 16 → c.map_or.result ≡ get_or xs s 0 % (top + 1) = λ h. search rules in
    let past : 16 ≤ s → c.map_or.result ≡ 0 = λ h. search rules in
    ⊎_elim
    (λ (h : s < 16). within h ∙ sym (getD_tabulated (λ k. get_or xs k 0 % (top + 1)) s h))
    (λ (h : 16 ≤ s). past h ∙ sym (get_or_past v.numbers s 0 (omega arith)))
    (cases_lt s 16)
