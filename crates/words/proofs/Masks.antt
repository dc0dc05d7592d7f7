-- The table of zero bits: its rule, proved once over the table, and what it says of a word. Assumes nothing.
use Rattle.std.proofs.Common.{◌≡◌, ℕ, zero, suc, ◌+◌, ◌-◌, ◌*◌, ◌/◌, ◌%◌, ◌^◌, ◌<◌, Bool, true, false, ◌&&◌, eqb, List, [], ◌∷◌, length, get_or, sym, refl, ap, ◌∙◌, ⊎_elim, zero-mul, arith}
use lib.Bits.{bit_and}
use Rattle.std.proofs.lemmas.Nat.{shr_split, and_shr, and_mod, and_mask, and_comm, pow_pos}
use Rattle.std.proofs.lemmas.Bool.{and_parts, false≢true, eqb-true, eq-eqb, ne_eqb, cases_eq}
use Rattle.words.specs.Words.{kind, zero_runs, zero_run, formed}

-- the masks of the code
abbrev pub masks : List ℕ
masks =
    0 ∷ 0x00FF_FF00 ∷ 0x00FF_FF00 ∷ 0x0FFF_0000 ∷ 0x0FFF_0000 ∷ 0x00FF_0000 ∷ 0 ∷ 0x00FF_0000
    ∷ 0 ∷ 0x0FFF_FFE0 ∷ 0 ∷ 0 ∷ 0 ∷ 0 ∷ 0 ∷ 0x0FFF_FF00 ∷ []

-- a mask has the bits of a run, and no others
abbrev masked : ℕ × ℕ → ℕ → Bool
masked run m = eqb (m / 2 ^ run.0) (2 ^ run.1 - 1) && eqb (m % 2 ^ run.0) 0

-- each mask that of its run
abbrev ruled : List (ℕ × ℕ) → List ℕ → Bool
ruled [] [] = true
ruled [] (m ∷ ms) = false
ruled (r ∷ rs) [] = true
ruled (r ∷ rs) (m ∷ ms) = masked r m && ruled rs ms

rule_at : (rs : List (ℕ × ℕ)) (ms : List ℕ) → ruled rs ms ≡ true → (k : ℕ) → k < length ms → masked (get_or rs k (0, 0)) (get_or ms k 0) ≡ true
rule_at rs [] e k h = absurd (omega arith)
rule_at [] (m ∷ ms) e k h = absurd (false≢true e)
rule_at (r ∷ rs) (m ∷ ms) e zero h = (and_parts (masked r m) (ruled rs ms) e).0
rule_at (r ∷ rs) (m ∷ ms) e (suc k) h = rule_at rs ms (and_parts (masked r m) (ruled rs ms) e).1 k (omega arith)

-- what a mask of j bits from bit k on picks out of a word
mask_is : (w j k m : ℕ) → m / 2 ^ k ≡ 2 ^ j - 1 → m % 2 ^ k ≡ 0 → bit_and w m ≡ (w / 2 ^ k % 2 ^ j) * 2 ^ k
mask_is w j k m high low =
    let a : bit_and w m / 2 ^ k ≡ w / 2 ^ k % 2 ^ j = and_shr w m k ∙ ap (bit_and (w / 2 ^ k)) high ∙ and_mask (w / 2 ^ k) j in
    let b : bit_and w m % 2 ^ k ≡ 0 = and_mod w m k ∙ ap (bit_and (w % 2 ^ k)) low ∙ and_comm (w % 2 ^ k) 0 in
    sym (shr_split (bit_and w m) k) ∙ ap (λ n. n * 2 ^ k + bit_and w m % 2 ^ k) a ∙ ap (λ n. (w / 2 ^ k % 2 ^ j) * 2 ^ k + n) b ∙ (let e : (w / 2 ^ k % 2 ^ j) * 2 ^ k + 0 ≡ (w / 2 ^ k % 2 ^ j) * 2 ^ k = omega arith in e)

-- a product with a power of two is 0 where the factor is
zero_factor : (a k : ℕ) → a * 2 ^ k ≡ 0 → a ≡ 0
zero_factor zero k e = refl
zero_factor (suc a) k e = let p = pow_pos k in absurd (omega (arith, p))

pub formed_mask : (w : ℕ) → kind w < 16 → eqb (bit_and w (get_or masks (kind w) 0)) 0 ≡ formed w
formed_mask w h =
    let run = zero_run (kind w) in
    let field = w / 2 ^ run.0 % 2 ^ run.1 in
    let m = get_or masks (kind w) 0 in
    let rule = and_parts (eqb (m / 2 ^ run.0) (2 ^ run.1 - 1)) (eqb (m % 2 ^ run.0) 0) (rule_at zero_runs masks refl (kind w) h) in
    let is : bit_and w m ≡ field * 2 ^ run.0 = mask_is w run.1 run.0 m (eqb-true (m / 2 ^ run.0) (2 ^ run.1 - 1) rule.0) (eqb-true (m % 2 ^ run.0) 0 rule.1) in
    ap (λ n. eqb n 0) is ∙ ⊎_elim
    (λ (z : field ≡ 0). eq-eqb (field * 2 ^ run.0) 0 (ap (λ n. n * 2 ^ run.0) z ∙ zero-mul (2 ^ run.0)) ∙ sym (eq-eqb field 0 z))
    (λ (ne : field ≡ 0 → ⊥). ne_eqb (field * 2 ^ run.0) 0 (λ z. ne (zero_factor field run.0 z)) ∙ sym (ne_eqb field 0 ne))
    (cases_eq field 0)
