-- The ways of a report of an amount. Assumes nothing.
use Rattle.std.proofs.Common.{◌≡◌, ℕ, ◌+◌, ◌%◌, ◌<◌, ◌≤◌, cond, eqb, List, length, get_or, set, replicate, Ok, Err, Result, sym, ap, ◌∙◌, ⊎_elim, arith, get_or-set_other, get_or-set_same}
use Rattle.std.proofs.lemmas.Bool.{eq-eqb, ne_eqb, lt-ltb, le-ltb, cond-true, cond-false, cases_eq}
use Rattle.words.specs.Refusals.{bare, value_or}
use Rattle.entries.specs.Sixteen.{getD_tabulated}
use Rattle.entries.specs.Rows.{Row, same_row, row_of, empty}
use Rattle.entries.proofs.Scans.{tabulated_same}
use Rattle.entries.proofs.Turns.{zero_at, zeros_stand}
use Rattle.counters.specs.Counts.{only, count_reported}

-- a refused report leaves no counts
pub refusing : (top : ℕ) (o : Result (Row top) ℕ) (n : ℕ) → o ≡ Err n → (◌≡◌ {A = Result (Unit {0}) ℕ} (Err n) (bare o)) × (row_of top (replicate 16 0) ≡ value_or (empty top) o)
refusing top o n e = (sym (ap bare e), zeros_stand top ∙ sym (ap (value_or (empty top)) e))

module _ (top : ℕ) (xs : List ℕ) (s n : ℕ) where
  pub reported_station : 16 ≤ s → count_reported (row_of top xs) s n ≡ Err 1
  reported_station h = cond-true _ _ _ (lt-ltb 15 s h)

  pub reported_none : s < 16 → n ≡ 0 → count_reported (row_of top xs) s n ≡ Err 2
  reported_none h e = cond-false _ _ _ (le-ltb 15 s (omega arith)) ∙ cond-true _ _ _ (eq-eqb n 0 e)

  pub reported_many : s < 16 → (n ≡ 0 → ⊥) → 65535 < n → count_reported (row_of top xs) s n ≡ Err 2
  reported_many h e m = cond-false _ _ _ (le-ltb 15 s (omega arith)) ∙ cond-false _ _ _ (ne_eqb n 0 e) ∙ cond-true _ _ _ (lt-ltb 65535 n m)

  stored : s < 16 → get_or (row_of top xs).numbers s 0 ≡ get_or xs s 0 % (top + 1)
  stored h = getD_tabulated (λ k. get_or xs k 0 % (top + 1)) s h

  pub reported_limit : s < 16 → (n ≡ 0 → ⊥) → n ≤ 65535 → top < get_or xs s 0 % (top + 1) + n → count_reported (row_of top xs) s n ≡ Err 3
  reported_limit h e m t =
      let p = stored h in
      cond-false _ _ _ (le-ltb 15 s (omega arith)) ∙ cond-false _ _ _ (ne_eqb n 0 e) ∙ cond-false _ _ _ (le-ltb 65535 n m) ∙ cond-true _ _ _ (lt-ltb top (get_or (row_of top xs).numbers s 0 + n) (omega arith))

  pub reported_done : s < 16 → (n ≡ 0 → ⊥) → n ≤ 65535 → get_or xs s 0 % (top + 1) + n ≤ top → count_reported (row_of top xs) s n ≡ Ok (only s (get_or xs s 0 % (top + 1) + n))
  reported_done h e m t =
      let p = stored h in
      cond-false _ _ _ (le-ltb 15 s (omega arith)) ∙ cond-false _ _ _ (ne_eqb n 0 e) ∙ cond-false _ _ _ (le-ltb 65535 n m) ∙ cond-false _ _ _ (le-ltb top (get_or (row_of top xs).numbers s 0 + n) (omega arith)) ∙ ap (λ k. Ok (only s (k + n))) p

-- one stored count among zeros
pub one_stored : (top s m : ℕ) → s < 16 → row_of top (set (replicate 16 0) s m) ≡ only s m
one_stored top s m h = same_row _ _ (tabulated_same _ _ (λ k low. ap (λ x. x % (top + 1)) (at k ∙ sym (getD_tabulated (λ j. cond (eqb j s) m 0) k low))))
  where
    at : (k : ℕ) → get_or (set (replicate 16 0) s m) k 0 ≡ cond (eqb k s) m 0
    at k = ⊎_elim
        (λ (e : k ≡ s). let within : s < length {A = ℕ} (replicate 16 0) = omega arith in ap (λ j. get_or (set (replicate 16 0) s m) j 0) e ∙ get_or-set_same (replicate 16 0) s m 0 within ∙ sym (cond-true (eqb k s) m 0 (eq-eqb k s e)))
        (λ (ne : k ≡ s → ⊥). get_or-set_other (replicate 16 0) s k m 0 ne ∙ zero_at 16 k ∙ sym (cond-false (eqb k s) m 0 (ne_eqb k s ne)))
        (cases_eq k s)
