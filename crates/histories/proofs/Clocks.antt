-- The entries of clocks: of the larger of two, of a raised one, of the empty one. Assumes nothing.
use Rattle.std.proofs.Common.{◌≡◌, ℕ, ◌%◌, ◌<◌, ◌≤◌, max, cond, eqb, ◌≢◌, [], get_or, sym, refl, ap, ◌∙◌, subst, inl, inr, mod-eq_of_lt, arith}
use Rattle.std.proofs.lemmas.List.{get_or_past}
use Rattle.std.proofs.lemmas.Bool.{cond-true, cond-false, eq-eqb, ne_eqb, cases_eq, cases_lt}
use Rattle.entries.specs.Rows.{length_row, row_low, empty}
use Rattle.entries.specs.Sixteen.{tabulated, getD_tabulated}
use Rattle.counters.specs.Counts.{larger, only}
use Rattle.wire.specs.Messages.{Clock}
use Rattle.histories.specs.Clusters.{entry, raised}

pub entry_past : (c : Clock) (j : ℕ) → 16 ≤ j → entry c j ≡ 0
entry_past c j past = get_or_past c.numbers j 0 (let long = length_row c in omega arith)

pub entry_low : (c : Clock) (j : ℕ) → entry c j ≤ 65535
entry_low c j = elim (cases_lt j 16) [
  | inl within ↦ (let low = row_low c j within in omega arith)
  | inr past ↦ (let none = entry_past c j past in omega arith)
]

pub entry_empty : (j : ℕ) → entry (empty 65535) j ≡ 0
entry_empty j = elim (cases_lt j 16) [
  | inl within ↦ getD_tabulated (λ k. get_or {A = ℕ} [] k 0 % 65536) j within
  | inr past ↦ entry_past (empty 65535) j past
]

pub entry_larger : (a b : Clock) (j : ℕ) → entry (larger a b) j ≡ max (entry a j) (entry b j)
entry_larger a b j = elim (cases_lt j 16) [
  | inl within ↦ getD_tabulated (λ k. max (get_or a.numbers k 0) (get_or b.numbers k 0)) j within
  | inr past ↦ (let x = entry_past a j past in let y = entry_past b j past in let z = entry_past (larger a b) j past in omega arith)
]

pub only_at : (i n j : ℕ) → j < 16 → entry (only i n) j ≡ cond (eqb j i) n 0 % 65536
only_at i n j low =
    getD_tabulated (λ k. get_or (tabulated (λ m. cond (eqb m i) n 0)) k 0 % 65536) j low
    ∙ ap (λ x. x % 65536) (getD_tabulated (λ m. cond (eqb m i) n 0) j low)

only_same : (i n : ℕ) → i < 16 → n ≤ 65535 → entry (only i n) i ≡ n
only_same i n low small = only_at i n i low ∙ ap (λ x. x % 65536) (cond-true (eqb i i) n 0 (eq-eqb i i refl)) ∙ mod-eq_of_lt (omega arith)

only_other : (i n j : ℕ) → j ≢ i → entry (only i n) j ≡ 0
only_other i n j other = elim (cases_lt j 16) [
  | inl low ↦ only_at i n j low ∙ ap (λ x. x % 65536) (cond-false (eqb j i) n 0 (ne_eqb j i other))
  | inr past ↦ entry_past (only i n) j past
]

module _ (P : ℕ → ℕ → Type 0) (c : Clock) (i n : ℕ) (low : i < 16) (small : n ≤ 65535) where
  -- what holds of the raised entry and of each other holds of all
  pub raised_by : P i (max (entry c i) n) → ((j : ℕ) → j ≢ i → P j (entry c j)) → (j : ℕ) → P j (entry (raised c i n) j)
  raised_by here there j = elim (cases_eq j i) [
    | inl same ↦
        (let e : entry (raised c i n) i ≡ max (entry c i) n = entry_larger c (only i n) i ∙ ap (max (entry c i)) (only_same i n low small) in
        subst (λ k. P k (entry (raised c i n) k)) (sym same) (subst (P i) (sym e) here))
    | inr other ↦
        (let zero = only_other i n j other in
        let most = entry_larger c (only i n) j in
        let e : entry c j ≡ entry (raised c i n) j = omega arith in
        subst (P j) e (there j other))
  ]
