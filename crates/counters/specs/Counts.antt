-- Counts as values: sixteen numbers, one a station, each at most top. Assumes nothing.
--     counter_of xs            the counter that sixteen stored counts stand for
--     clock_of xs              the clock that they stand for
--     larger a b               the larger count, station by station
--     only s n                 n at station s, and 0 elsewhere
--     count_reported v s n     the delta of amount n at station s: its count with n added, alone; or a refusal
use Rattle.std.specs.Prelude.{ℕ, ◌+◌, max, cond, List, Ok, Err, Result, ◌==◌, nat_lt, slice_index}
use Rattle.std.proofs.Common.{arith}
use Rattle.entries.specs.Sixteen.{tabulated, sixteen_tabulated}
use Rattle.entries.specs.Rows.{Row, row_of, row_low}

abbrev pub counter_of : List ℕ → Row 16777215
counter_of xs = row_of 16777215 xs

abbrev pub clock_of : List ℕ → Row 65535
clock_of xs = row_of 65535 xs

module _ {top : ℕ} where
  abbrev pub larger : Row top → Row top → Row top
  larger a b = record { numbers = tabulated (λ k. max (slice_index a.numbers k) (slice_index b.numbers k)); sound = sixteen_tabulated (top + 1) (λ k. max (slice_index a.numbers k) (slice_index b.numbers k)) (λ k h. let p = row_low a k h in let q = row_low b k h in omega arith) }

  abbrev pub only : ℕ → ℕ → Row top
  only s n = row_of top (tabulated (λ k. cond (k == s) n 0))

  abbrev pub count_reported : Row top → ℕ → ℕ → Result (Row top) ℕ
  count_reported v s n =
      cond (nat_lt 15 s) (Err 1)
      (cond (n == 0) (Err 2)
      (cond (nat_lt 65535 n) (Err 2)
      (cond (nat_lt top (slice_index v.numbers s + n)) (Err 3)
      (Ok (only s (slice_index v.numbers s + n))))))
