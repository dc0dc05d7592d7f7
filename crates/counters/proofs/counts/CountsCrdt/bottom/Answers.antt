use Rattle.std.proofs.Common.{rules, ◌≡◌, ℕ, List, replicate, ap, ◌∙◌}
use Rattle.entries.specs.Rows.{row_of, empty}
use Rattle.entries.proofs.Turns.{zeros_stand}
use Rattle.counters.proofs.counts.CountsCrdt.bottom.Goals as goal

same_sixteen : (top n : ℕ) (xs : List ℕ) → xs ≡ replicate 16 n → n ≡ 0 → row_of top xs ≡ empty top
same_sixteen top n xs e z = ap (row_of top) (e ∙ ap (replicate 16) z) ∙ zeros_stand top

pub returns : goal.returns
returns g c = same_sixteen g.K.EntryKind.TOP _ _ c.from.ensures (search rules)
