-- A stored count that is raised. Assumes nothing.
use Rattle.std.proofs.Common.{◌≡◌, ℕ, ◌%◌, ◌<◌, ◌≤◌, max, cond, eqb, ◌≢◌, List, length, get_or, set, sym, ap, ◌∙◌, inl, inr, mod-eq_of_lt, arith, get_or-set_other, get_or-set_same}
use Rattle.std.proofs.lemmas.Bool.{cond-true, cond-false, eq-eqb, ne_eqb, cases_eq, cases_lt}
use Rattle.entries.specs.Sixteen.{tabulated, getD_tabulated, tabulated_is}
use Rattle.entries.specs.Rows.{same_row, length_row}
use Rattle.counters.specs.Counts.{clock_of, only}
use Rattle.wire.specs.Messages.{Clock}
use Rattle.histories.specs.Clusters.{entry, raised}
use Rattle.histories.proofs.Clocks.{only_at, entry_past, entry_larger, raised_by}

pub same_clock : (a b : Clock) → ((j : ℕ) → j < 16 → entry a j ≡ entry b j) → a ≡ b
same_clock a b each = same_row a b (tabulated_is (entry b) a.numbers (length_row a) each ∙ sym (tabulated_is (entry b) b.numbers (length_row b) (λ j h. omega arith)))

stored : (xs : List ℕ) (j : ℕ) → j < 16 → entry (clock_of xs) j ≡ get_or xs j 0 % 65536
stored xs j h = getD_tabulated (λ k. get_or xs k 0 % 65536) j h

-- no station has a number of 16 or more
only_past : (i n j : ℕ) → j < 16 → 16 ≤ i → entry (only i n) j ≡ 0
only_past i n j low past = only_at i n j low ∙ ap (λ x. x % 65536) (cond-false (eqb j i) n 0 (ne_eqb j i (omega arith)))

module _ (xs : List ℕ) (i n : ℕ) (small : n ≤ 65535) where
  -- a lower count is stored anew
  pub raised_set : i < 16 → length xs ≡ 16 → entry (clock_of xs) i < n → clock_of (set xs i n) ≡ raised (clock_of xs) i n
  raised_set low long less = same_clock _ _ (λ j h. raised_by (λ k m. entry (clock_of (set xs i n)) k ≡ m) (clock_of xs) i n low small here there j)
    where
      here : entry (clock_of (set xs i n)) i ≡ max (entry (clock_of xs) i) n
      here =
          let within : i < length xs = omega arith in
          let b : entry (clock_of (set xs i n)) i ≡ n = stored (set xs i n) i low ∙ ap (λ x. x % 65536) (get_or-set_same xs i n 0 within) ∙ mod-eq_of_lt (omega arith) in
          omega arith

      there : (j : ℕ) → j ≢ i → entry (clock_of (set xs i n)) j ≡ entry (clock_of xs) j
      there j other = elim (cases_lt j 16) [
        | inl h ↦ stored (set xs i n) j h ∙ ap (λ x. x % 65536) (get_or-set_other xs i j n 0 other) ∙ sym (stored xs j h)
        | inr past ↦ entry_past (clock_of (set xs i n)) j past ∙ sym (entry_past (clock_of xs) j past)
      ]

  -- one that is not lower stays, and so do all where there is no such station
  pub raised_kept : (i < 16 → n ≤ entry (clock_of xs) i) → clock_of xs ≡ raised (clock_of xs) i n
  raised_kept high = elim (cases_lt i 16) [
    | inl low ↦
        same_clock _ _ (λ j h. raised_by (λ k m. entry (clock_of xs) k ≡ m) (clock_of xs) i n low small (let b = high low in omega arith) (λ k other. omega arith) j)
    | inr past ↦
        same_clock _ _ (λ j h. let a = entry_larger (clock_of xs) (only i n) j in let b = only_past i n j h past in omega arith)
  ]

-- a count that is alone is at most m at station j, where it is at most m if it is that station's
pub only_most : (i n j m : ℕ) → (j ≡ i → n ≤ m) → entry (only i n) j ≤ m
only_most i n j m low = elim (cases_lt j 16) [
  | inl within ↦
      (let e = only_at i n j within in
      elim (cases_eq j i) [
        | inl same ↦ (let here = low same in let c = cond-true (eqb j i) n 0 (eq-eqb j i same) in let d = mod_most n in let f : entry (only i n) j ≡ n % 65536 = e ∙ ap (λ x. x % 65536) c in omega arith)
        | inr other ↦ (let c = cond-false (eqb j i) n 0 (ne_eqb j i other) in let f : entry (only i n) j ≡ 0 = e ∙ ap (λ x. x % 65536) c in omega arith)
      ])
  | inr past ↦ (let z = entry_past (only i n) j past in omega arith)
]
  where
    mod_most : (x : ℕ) → x % 65536 ≤ x
    mod_most x = omega arith
