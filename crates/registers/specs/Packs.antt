-- Bits that are packed into a number, read from one, joined and counted. Assumes nothing.
use Rattle.std.specs.Prelude.{◌≡◌, ℕ, zero, suc, ◌+◌, ◌*◌, ◌/◌, ◌%◌, ◌^◌, ◌<◌, Bool, true, false, cond, ◌||◌, ◌==◌, ◌≢◌, count_ones, nat_eq, refl}
use Rattle.std.proofs.Common.{sym, ap, ◌∙◌, arith}
use Rattle.std.proofs.Math.Nat.{pow-succ', zero-div}
use Rattle.std.specs.Int.Bits.{bit_or}
use Rattle.std.specs.Int.Count.{ones_step}
use Rattle.std.proofs.lemmas.Nat.{shr-shr, shl-shr, or_shr, or_mod, ones-le}
use Rattle.std.proofs.lemmas.Bool.{eq-eqb, ne_eqb}
use Rattle.registers.specs.Bits.{bit, packed, at_most_one}
use Rattle.registers.specs.Members.{how_many}

-- the bits above the lowest
pub bit_more : (x b : ℕ) → bit x (suc b) ≡ bit (x / 2) b
bit_more x b =
    let up : 1 + b ≡ suc b = omega arith in
    ap (λ k. nat_eq (x / 2 ^ k % 2) 1) (sym up) ∙ ap (λ n. nat_eq (n % 2) 1) (sym (shr-shr x 1 b))

pub bit_first : (x : ℕ) → cond (bit x 0) 1 0 ≡ x % 2
bit_first x = by_rest (x / 2 ^ 0 % 2) (omega arith) ∙ (let e : x / 2 ^ 0 % 2 ≡ x % 2 = omega arith in e)
  where
    by_rest : (n : ℕ) → n < 2 → cond (n == 1) 1 0 ≡ n
    by_rest zero h = refl
    by_rest (suc zero) h = refl
    by_rest (suc (suc n)) h = absurd (omega arith)

pub bit_zero : (b : ℕ) → bit 0 b ≡ false
bit_zero b = ap (λ n. nat_eq (n % 2) 1) (zero-div (2 ^ b))

pub packed_same : (P Q : ℕ → Bool) (k : ℕ) → ((b : ℕ) → b < k → P b ≡ Q b) → packed P k ≡ packed Q k
unfolding packed
packed_same P Q zero each = refl
packed_same P Q (suc k) each =
    ap (λ t. cond t 1 0 + 2 * packed (λ b. P (suc b)) k) (each 0 (omega arith))
    ∙ ap (λ n. cond (Q 0) 1 0 + 2 * n) (packed_same (λ b. P (suc b)) (λ b. Q (suc b)) k (λ b h. each (suc b) (omega arith)))

-- packed bits are read again
pub bit_packed : (P : ℕ → Bool) (k b : ℕ) → b < k → bit (packed P k) b ≡ P b
unfolding packed
bit_packed P zero b h = absurd (omega arith)
bit_packed P (suc k) zero h = lowest (P 0) (packed (λ b. P (suc b)) k)
  where
    lowest : (t : Bool) (n : ℕ) → bit (cond t 1 0 + 2 * n) 0 ≡ t
    lowest true n = eq-eqb ((1 + 2 * n) / 2 ^ 0 % 2) 1 (omega arith)
    lowest false n = ne_eqb ((0 + 2 * n) / 2 ^ 0 % 2) 1 (λ e. omega arith)
bit_packed P (suc k) (suc b) h =
    let one = at_most_one (P 0) in
    let half : (cond (P 0) 1 0 + 2 * packed (λ j. P (suc j)) k) / 2 ≡ packed (λ j. P (suc j)) k = omega arith in
    bit_more (cond (P 0) 1 0 + 2 * packed (λ j. P (suc j)) k) b
    ∙ ap (λ n. bit n b) half
    ∙ bit_packed (λ j. P (suc j)) k b (omega arith)

-- a number is its bits, packed
pub packed_bits : (x k : ℕ) → x < 2 ^ k → packed (bit x) k ≡ x
unfolding packed
packed_bits x zero h = omega arith
packed_bits x (suc k) h =
    let twice = pow-succ' 2 k in
    let low : x / 2 < 2 ^ k = omega arith in
    ap (λ n. cond (bit x 0) 1 0 + 2 * n) (packed_same (λ b. bit x (suc b)) (bit (x / 2)) k (λ b l. bit_more x b) ∙ packed_bits (x / 2) k low)
    ∙ (let first = bit_first x in omega arith)

-- a single bit
pub bit_same : (a : ℕ) → bit (2 ^ a) a ≡ true
bit_same a =
    let one : 1 * 2 ^ a ≡ 2 ^ a = omega arith in
    eq-eqb (2 ^ a / 2 ^ a % 2) 1 (ap (λ n. n / 2 ^ a % 2) (sym one) ∙ ap (λ n. n % 2) (shl-shr 1 a))

pub bit_other : (a b : ℕ) → a ≢ b → bit (2 ^ a) b ≡ false
bit_other zero zero ne = absurd (ne refl)
bit_other zero (suc b) ne = bit_more 1 b ∙ bit_zero b
bit_other (suc a) zero ne =
    let twice = pow-succ' 2 a in
    ne_eqb (2 ^ suc a / 2 ^ 0 % 2) 1 (λ e. omega arith)
bit_other (suc a) (suc b) ne =
    let twice = pow-succ' 2 a in
    let half : 2 ^ suc a / 2 ≡ 2 ^ a = omega arith in
    bit_more (2 ^ suc a) b ∙ ap (λ n. bit n b) half ∙ bit_other a b (λ e. ne (ap suc e))

-- the bits of either
either : (p q : ℕ) → p < 2 → q < 2 → (bit_or p q == 1) ≡ (p == 1 || q == 1)
either zero zero h l = refl
either zero (suc zero) h l = refl
either zero (suc (suc q)) h l = absurd (omega arith)
either (suc zero) zero h l = refl
either (suc zero) (suc zero) h l = refl
either (suc zero) (suc (suc q)) h l = absurd (omega arith)
either (suc (suc p)) q h l = absurd (omega arith)

pub bit-or : (x y b : ℕ) → bit (bit_or x y) b ≡ (bit x b || bit y b)
bit-or x y b =
    ap (λ n. nat_eq (n % 2) 1) (or_shr x y b)
    ∙ ap (λ n. nat_eq n 1) (or_mod (x / 2 ^ b) (y / 2 ^ b) 1)
    ∙ either (x / 2 ^ b % 2) (y / 2 ^ b % 2) (omega arith) (omega arith)

-- how many pass, in two parts
pub how_many_same : (P Q : ℕ → Bool) (n : ℕ) → ((j : ℕ) → j < n → P j ≡ Q j) → how_many P n ≡ how_many Q n
unfolding how_many
how_many_same P Q zero each = refl
how_many_same P Q (suc n) each =
    ap (λ m. m + cond (P n) 1 0) (how_many_same P Q n (λ j h. each j (omega arith)))
    ∙ ap (λ t. how_many Q n + cond t 1 0) (each n (omega arith))

pub how_many_first : (P : ℕ → Bool) (n : ℕ) → how_many P (suc n) ≡ cond (P 0) 1 0 + how_many (λ j. P (suc j)) n
unfolding how_many
how_many_first P zero = omega arith
how_many_first P (suc n) =
    let before = how_many_first P n in
    let all : (how_many P n + cond (P n) 1 0) + cond (P (suc n)) 1 0 ≡ cond (P 0) 1 0 + (how_many (λ j. P (suc j)) n + cond (P (suc n)) 1 0) = omega arith in
    all

pub how_many_more : (P : ℕ → Bool) (n k : ℕ) → how_many P (n + k) ≡ how_many P n + how_many (λ j. P (n + j)) k
unfolding how_many
how_many_more P n zero = ap (how_many P) (let e : n + 0 ≡ n = omega arith in e) ∙ (let e : how_many P n ≡ how_many P n + 0 = omega arith in e)
how_many_more P n (suc k) =
    let next : n + suc k ≡ suc (n + k) = omega arith in
    let before = how_many_more P n k in
    ap (how_many P) next ∙ (let all : how_many P (n + k) + cond (P (n + k)) 1 0 ≡ how_many P n + (how_many (λ j. P (n + j)) k + cond (P (n + k)) 1 0) = omega arith in all)

-- a number has as many ones as bits that are 1
pub ones_bits : (x k : ℕ) → x < 2 ^ k → count_ones x ≡ how_many (bit x) k
unfolding how_many
ones_bits x zero h = let few = ones-le 0 x h in omega arith
ones_bits x (suc k) h =
    let twice = pow-succ' 2 k in
    let low : x / 2 < 2 ^ k = omega arith in
    let first = bit_first x in
    let step = ones_step x in
    let more : count_ones (x / 2) ≡ how_many (λ j. bit x (suc j)) k = ones_bits (x / 2) k low ∙ how_many_same (bit (x / 2)) (λ j. bit x (suc j)) k (λ j l. sym (bit_more x j)) in
    let all : count_ones x ≡ cond (bit x 0) 1 0 + how_many (λ j. bit x (suc j)) k = omega arith in
    all ∙ sym (how_many_first (bit x) k)
