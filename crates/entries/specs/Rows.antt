-- Rows: sixteen numbers with a largest. No row exists that holds a larger one. Assumes nothing.
--     Row top          sixteen numbers, each at most top
--     row_of top xs    the row that sixteen stored numbers stand for: the low part of each
--     empty top        the row of zeros
use mathlib.Core.HLevel.{is_prop→PathP}
use Rattle.std.specs.Prelude.{◌≡◌, ℕ, ◌+◌, ◌%◌, ◌<◌, T, List, [], length, ◌==◌, slice_index}
use Rattle.std.proofs.Common.{arith, eqb→eq}
use Rattle.std.proofs.Math.Dec.{T_prop}
use Rattle.std.proofs.lemmas.Nat.{mod_below}
use Rattle.entries.specs.Sixteen.{all_below, sixteen, tabulated, sixteen_tabulated, first_of, second_of, below_at}

pub record Row (top : ℕ) : Type 0 where
  pub numbers : List ℕ
  pub sound : T (sixteen (top + 1) numbers)

module _ (top : ℕ) where
  abbrev pub row_of : List ℕ → Row top
  row_of xs = record { numbers = tabulated (λ k. slice_index xs k % (top + 1)); sound = sixteen_tabulated (top + 1) (λ k. slice_index xs k % (top + 1)) (λ k h. mod_below (slice_index xs k) (top + 1) (omega arith)) }

  abbrev pub empty : Row top
  empty = row_of []

-- rows are the same where their numbers are
pub same_row : {top : ℕ} (a b : Row top) → a.numbers ≡ b.numbers → a ≡ b
same_row {top} a b e = λ i. record { numbers = e i; sound = is_prop→PathP (λ j. T (sixteen (top + 1) (e j))) (λ j. T_prop (sixteen (top + 1) (e j))) a.sound b.sound i }

module _ {top : ℕ} (a : Row top) where
  pub length_row : length a.numbers ≡ 16
  length_row = eqb→eq (length a.numbers) 16 (first_of (length a.numbers == 16) (all_below (top + 1) a.numbers) a.sound)

  pub row_low : (k : ℕ) → k < 16 → slice_index a.numbers k < top + 1
  row_low k h =
      let long = length_row in
      below_at (top + 1) a.numbers (second_of (length a.numbers == 16) (all_below (top + 1) a.numbers) a.sound) k (omega arith)
