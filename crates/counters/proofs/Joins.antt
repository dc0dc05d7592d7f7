-- The turns of the loop that joins counts. Assumes nothing.
use Rattle.std.proofs.Common.{◌≡◌, ℕ, ◌+◌, ◌%◌, ◌<◌, ◌≤◌, max, ◌≢◌, List, length, get_or, set, ap, ◌∙◌, arith, get_or-set_other, get_or-set_same, below_more}
use native.Mathlib.Nat.{mod-mod}
use Rattle.entries.specs.Sixteen.{tabulated, getD_tabulated}
use Rattle.entries.specs.Rows.{same_row, row_of}
use Rattle.entries.proofs.Scans.{tabulated_same}
use Rattle.counters.specs.Counts.{larger}

-- the counts below i are joined, the others as they were
pub record Joining (top : ℕ) (old theirs cur : List ℕ) (i : ℕ) : Type 0 where
  pub joined : (k : ℕ) → k < i → get_or cur k 0 % (top + 1) ≡ max (get_or old k 0 % (top + 1)) (get_or theirs k 0 % (top + 1))
  pub others : (k : ℕ) → i ≤ k → get_or cur k 0 ≡ get_or old k 0

module _ (top : ℕ) (old theirs cur : List ℕ) (i : ℕ) (so : Joining top old theirs cur i) where
  same_here : get_or cur i 0 % (top + 1) ≡ get_or old i 0 % (top + 1)
  same_here = ap (λ n. n % (top + 1)) (so.others i (omega arith))

  pub joining_kept : get_or theirs i 0 % (top + 1) ≤ get_or cur i 0 % (top + 1) → Joining top old theirs cur (i + 1)
  joining_kept high = record {
    joined = below_more _ _ so.joined (let e = same_here in omega arith);
    others = λ k h. so.others k (omega arith);
  }

  pub joining_set : i < length cur → get_or cur i 0 % (top + 1) < get_or theirs i 0 % (top + 1) → Joining top old theirs (set cur i (get_or theirs i 0 % (top + 1))) (i + 1)
  joining_set within less =
      let n = get_or theirs i 0 % (top + 1) in
      record {
        joined = below_more _ _
            (λ k h. let ne : k ≢ i = omega arith in ap (λ m. m % (top + 1)) (get_or-set_other cur i k n 0 ne) ∙ so.joined k h)
            (let e = same_here in
            let m : get_or (set cur i n) i 0 % (top + 1) ≡ n = ap (λ x. x % (top + 1)) (get_or-set_same cur i n 0 within) ∙ mod-mod (get_or theirs i 0) (top + 1) in
            omega arith);
        others = λ k h. let ne : k ≢ i = omega arith in get_or-set_other cur i k n 0 ne ∙ so.others k (omega arith);
      }

pub joining_all : (top : ℕ) (old theirs cur : List ℕ) → Joining top old theirs cur 16 → row_of top cur ≡ larger (row_of top old) (row_of top theirs)
joining_all top old theirs cur so = same_row _ _ (tabulated_same _ _ (λ k h.
    let a : get_or (tabulated (λ j. get_or old j 0 % (top + 1))) k 0 ≡ get_or old k 0 % (top + 1) = getD_tabulated (λ j. get_or old j 0 % (top + 1)) k h in
    let b : get_or (tabulated (λ j. get_or theirs j 0 % (top + 1))) k 0 ≡ get_or theirs k 0 % (top + 1) = getD_tabulated (λ j. get_or theirs j 0 % (top + 1)) k h in
    let e = so.joined k h in
    omega arith))
