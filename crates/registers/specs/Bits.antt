-- Bits of a number. Assumes nothing.
--     bit x b          whether bit b of x is 1
--     packed P k       the number below 2 ^ k whose bit b is 1 where P b holds
use Rattle.std.specs.Prelude.{ℕ, zero, suc, ◌+◌, ◌*◌, ◌/◌, ◌%◌, ◌^◌, ◌<◌, ◌≤◌, Bool, true, false, cond, ◌==◌}
use Rattle.std.proofs.Math.Nat.{pow-succ'}
use Rattle.std.proofs.Common.{arith, lit<}

abbrev pub bit : ℕ → ℕ → Bool
bit x b = x / 2 ^ b % 2 == 1

unfoldable pub packed : (ℕ → Bool) → ℕ → ℕ
packed P zero = 0
packed P (suc k) = cond (P 0) 1 0 + 2 * packed (λ b. P (suc b)) k

-- one bit as a number
pub at_most_one : (b : Bool) → cond b 1 0 ≤ 1
at_most_one true = omega arith
at_most_one false = omega arith

pub packed_low : (P : ℕ → Bool) (k : ℕ) → packed P k < 2 ^ k
unfolding packed
packed_low P zero = lit< tt
packed_low P (suc k) =
    let one = at_most_one (P 0) in
    let more = packed_low (λ b. P (suc b)) k in
    let twice = pow-succ' 2 k in
    omega arith
