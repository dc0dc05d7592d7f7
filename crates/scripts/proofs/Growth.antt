-- A number of at most twenty digits fits 128 bits.
use Rattle.std.proofs.Common.{ℕ, suc, ◌+◌, ◌*◌, ◌^◌, ◌<◌, ◌≤◌, suc-mul, mul-le-mul, pow-suc, add-one, arith, Fits}
use native.Mathlib.Nat.{pow-le-pow_right}
use mir.Syntax.{w128}
use mir.Facts.{Fits-below}

module _ (n base i d : ℕ) (low : base ≤ 16) (h : n < 16 ^ i) (dh : d < base) where
  pub grown_lt : n * base + d < 16 ^ (i + 1)
  grown_lt =
      let step : suc n * base ≤ 16 ^ i * 16 = mul-le-mul h low in
      rw (add-one, pow-suc) (omega (arith, suc-mul n base))

  pub grown_fits : i < 20 → Fits w128 (n * base + d)
  grown_fits short =
      let more : i + 1 ≤ 20 = omega arith in
      let p : 16 ^ (i + 1) ≤ 16 ^ 20 = pow-le-pow_right (omega arith) more in
      let g = grown_lt in
      Fits-below {n = 16 ^ 20} tt (omega arith)
