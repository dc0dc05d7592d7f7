-- The four laws of counts under the larger, over the largest count. Assumes nothing.
use Rattle.std.specs.Prelude.{◌≡◌, ℕ, ◌+◌, ◌%◌, max, [], slice_index, slice_index_or}
use Rattle.std.proofs.Common.{sym, arith}
use Rattle.std.proofs.Math.Nat.{zero-mod}
use Rattle.entries.specs.Sixteen.{tabulated, getD_tabulated, tabulated_is}
use Rattle.entries.specs.Rows.{Row, same_row, length_row, empty}
use Rattle.entries.proofs.Scans.{tabulated_same}
use Rattle.counters.specs.Counts.{larger}

module _ {top : ℕ} where
  pub larger_assoc : (a b c : Row top) → larger (larger a b) c ≡ larger a (larger b c)
  larger_assoc a b c = same_row _ _ (tabulated_same _ _ (λ k h.
      let p = getD_tabulated (λ j. max (slice_index a.numbers j) (slice_index b.numbers j)) k h in
      let q = getD_tabulated (λ j. max (slice_index b.numbers j) (slice_index c.numbers j)) k h in
      omega arith))

  pub larger_comm : (a b : Row top) → larger a b ≡ larger b a
  larger_comm a b = same_row _ _ (tabulated_same _ _ (λ k h. omega arith))

  pub larger_idem : (a : Row top) → larger a a ≡ a
  larger_idem a = same_row _ _ (sym (tabulated_is _ a.numbers (length_row a) (λ k h. omega arith)))

  pub larger_neutral : (a : Row top) → larger a (empty top) ≡ a
  larger_neutral a = same_row _ _ (sym (tabulated_is _ a.numbers (length_row a) (λ k h.
      let p : slice_index_or (tabulated (λ j. slice_index_or {A = ℕ} [] j 0 % (top + 1))) k 0 ≡ 0 % (top + 1) = getD_tabulated (λ j. slice_index_or {A = ℕ} [] j 0 % (top + 1)) k h in
      let z : 0 % (top + 1) ≡ 0 = zero-mod (top + 1) in
      omega arith)))
