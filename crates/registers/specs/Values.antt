-- The values of a max register: the numbers of 28 bits. No larger one exists. Assumes nothing.
--     Level                   a number below 2 ^ 28
--     level_of n              the one that a stored number stands for: its low 28 bits
--     higher a b              the larger of two
--     level_reported v s r    the delta of report r at station s: the value that is reported; or 1 or 2
--     level_written v         its one word, which has the value in bits 0 to 27
--     level_reading ws        what stands at the front of words
use Rattle.std.specs.Prelude.{◌≡◌, ℕ, ◌%◌, ◌^◌, max, cond, T, List, [], ◌∷◌, Ok, Err, Result, ◌==◌, nat_lt}
use mathlib.Core.HLevel.{is_prop→PathP}
use Rattle.std.proofs.Common.{arith, ltb→lt, lt→ltb}
use Rattle.std.proofs.Math.Dec.{T_prop}
use Rattle.words.specs.Readings.{Reading, read, wrong}
use Rattle.words.specs.Words.{kind, formed, word_of}
use Rattle.registers.specs.declared.max_register.Revision.{Revision}

pub record Level : Type 0 where
  pub level : ℕ
  pub low : T (nat_lt level (2 ^ 28))

-- levels are the same where their numbers are
pub same_level : (a b : Level) → a.level ≡ b.level → a ≡ b
same_level a b e = λ i. record { level = e i; low = is_prop→PathP (λ j. T (nat_lt (e j) (2 ^ 28))) (λ j. T_prop (nat_lt (e j) (2 ^ 28))) a.low b.low i }

pub low_28 : (n : ℕ) → T (nat_lt (n % 2 ^ 28) (2 ^ 28))
low_28 n = lt→ltb (n % 2 ^ 28) (2 ^ 28) (omega arith)

abbrev pub level_of : ℕ → Level
level_of n = record { level = n % 2 ^ 28; low = low_28 n }

pub max_28 : (a b : Level) → T (nat_lt (max a.level b.level) (2 ^ 28))
max_28 a b =
    let p = ltb→lt a.level (2 ^ 28) a.low in
    let q = ltb→lt b.level (2 ^ 28) b.low in
    lt→ltb (max a.level b.level) (2 ^ 28) (omega arith)

abbrev pub higher : Level → Level → Level
higher a b = record { level = max a.level b.level; low = max_28 a b }

abbrev pub level_reported : Level → ℕ → Revision → Result Level ℕ
level_reported v s r = cond (nat_lt 15 s) (Err 1) (cond (nat_lt r.0 (2 ^ 28)) (Ok (level_of r.0)) (Err 2))

abbrev pub level_written : Level → List ℕ
level_written v = word_of 8 v.level ∷ []

abbrev pub level_reading : List ℕ → Reading Level
level_reading [] = wrong 12 []
level_reading (w ∷ ws) = cond (kind w == 8) (cond (formed w) (read (level_of w) ws) (wrong 11 (w ∷ ws))) (wrong 10 (w ∷ ws))
