-- The four bytes of a page head. Assumes nothing.
use Rattle.std.proofs.Common.{◌≡◌, ℕ, ◌+◌, ◌*◌, ◌/◌, ◌%◌, ◌^◌, ◌<◌, ◌≤◌, true, ◌&&◌, eqb, List, [], ◌∷◌, length, get_or, take, sym, refl, ap, ◌∙◌, arith}
use Rattle.std.proofs.lemmas.Bool.{and_parts, and_from, eq-eqb, eqb-true}
use Rattle.words.specs.Words.{kind, formed, zero_run}
use Rattle.mailboxes.specs.Mailboxes.{sized}
use Rattle.layouts.specs.Rows.{head, sized_true, sized_from}
use Rattle.layouts.specs.Pages.{be_bytes}
use Rattle.images.specs.Causes.{right_head}

pub first_four : (page : List ℕ) → 4 ≤ length page → take 4 page ≡ get_or page 0 0 ∷ get_or page 1 0 ∷ get_or page 2 0 ∷ get_or page 3 0 ∷ []
first_four [] h = absurd (omega arith)
first_four (a ∷ []) h = absurd (omega arith)
first_four (a ∷ b ∷ []) h = absurd (omega arith)
first_four (a ∷ b ∷ c ∷ []) h = absurd (omega arith)
first_four (a ∷ b ∷ c ∷ d ∷ page) h = refl

-- the bits that must be zero in a page head
pub formed_is : (w : ℕ) → kind w ≡ 15 → formed w ≡ eqb (w / 2 ^ 8 % 2 ^ 20) 0
formed_is w k = ap (λ x. eqb (w / 2 ^ (zero_run x).0 % 2 ^ (zero_run x).1) 0) k

-- the word of four bytes, the lowest first
module _ (a b c d : ℕ) (sa : a < 256) (sb : b < 256) (sc : c < 256) (sd : d < 256) where
  pub low_byte : (a + b * 2 ^ 8 + c * 2 ^ 16 + d * 2 ^ 24) % 256 ≡ a
  low_byte = omega arith

  pub kind_byte : kind (a + b * 2 ^ 8 + c * 2 ^ 16 + d * 2 ^ 24) ≡ d / 16
  kind_byte = omega arith

  middle : (a + b * 2 ^ 8 + c * 2 ^ 16 + d * 2 ^ 24) / 2 ^ 8 ≡ b + c * 2 ^ 8 + d * 2 ^ 16
  middle = omega arith

  -- with bytes 1 and 2 zero, it is byte 3 that has a bit that must be zero
  pub last_byte : b ≡ 0 → c ≡ 0 → ((a + b * 2 ^ 8 + c * 2 ^ 16 + d * 2 ^ 24) / 2 ^ 8 % 2 ^ 20 ≡ 0 → ⊥) → d % 16 ≡ 0 → ⊥
  last_byte eb ec ne z = ne (ap (λ x. x % 2 ^ 20) middle ∙ by b c d eb ec z)
    where
      by : (b c d : ℕ) → b ≡ 0 → c ≡ 0 → d % 16 ≡ 0 → (b + c * 2 ^ 8 + d * 2 ^ 16) % 2 ^ 20 ≡ 0
      by b c d eb ec z = omega arith

  -- a right head has these bytes
  pub head_bytes : right_head (a + b * 2 ^ 8 + c * 2 ^ 16 + d * 2 ^ 24) ≡ true → (d ≡ 240) × (c ≡ 0) × (b ≡ 0) × (1 ≤ a) × (a ≤ 127)
  head_bytes e =
      let w = a + b * 2 ^ 8 + c * 2 ^ 16 + d * 2 ^ 24 in
      let p = and_parts (eqb (kind w) 15) (formed w && sized (w % 256)) e in
      let q = and_parts (formed w) (sized (w % 256)) p.1 in
      let k : kind w ≡ 15 = eqb-true (kind w) 15 p.0 in
      let z : w / 2 ^ 8 % 2 ^ 20 ≡ 0 = eqb-true (w / 2 ^ 8 % 2 ^ 20) 0 (sym (formed_is w k) ∙ q.0) in
      let s = sized_true (w % 256) q.1 in
      let m = by b c d sb sc sd (sym kind_byte ∙ k) (ap (λ x. x % 2 ^ 20) (sym middle) ∙ z) in
      (m.0, m.1, m.2, omega (arith, low_byte, s.0), omega (arith, low_byte, s.1))
    where
      by : (b c d : ℕ) → b < 256 → c < 256 → d < 256 → d / 16 ≡ 15 → (b + c * 2 ^ 8 + d * 2 ^ 16) % 2 ^ 20 ≡ 0 → (d ≡ 240) × (c ≡ 0) × (b ≡ 0)
      by b c d sb sc sd k z =
          let t : (b + c * 2 ^ 8 + d * 2 ^ 16) / 2 ^ 20 ≡ 15 = omega arith in
          let all : b + c * 2 ^ 8 + d * 2 ^ 16 ≡ 15 * 2 ^ 20 = omega arith in
          (omega arith, omega arith, omega arith)

pub be_head : (n : ℕ) → n ≤ 127 → be_bytes (head n) ≡ 240 ∷ 0 ∷ 0 ∷ n ∷ []
be_head n h =
    let e = digits n h in
    ap (λ x. x ∷ (head n / 2 ^ 16 % 256) ∷ (head n / 2 ^ 8 % 256) ∷ (head n % 256) ∷ []) e.0
    ∙ ap (λ x. 240 ∷ x ∷ (head n / 2 ^ 8 % 256) ∷ (head n % 256) ∷ []) e.1
    ∙ ap (λ x. 240 ∷ 0 ∷ x ∷ (head n % 256) ∷ []) e.2
    ∙ ap (λ x. 240 ∷ 0 ∷ 0 ∷ x ∷ []) e.3
  where
    digits : (n : ℕ) → n ≤ 127 → (head n / 2 ^ 24 % 256 ≡ 240) × (head n / 2 ^ 16 % 256 ≡ 0) × (head n / 2 ^ 8 % 256 ≡ 0) × (head n % 256 ≡ n)
    digits n h = (omega arith, omega arith, omega arith, omega arith)

-- and these bytes are a right head
pub right_head_from : (n : ℕ) → 1 ≤ n → n ≤ 127 → right_head (n + 0 * 2 ^ 8 + 0 * 2 ^ 16 + 240 * 2 ^ 24) ≡ true
right_head_from n a b =
    let w = n + 0 * 2 ^ 8 + 0 * 2 ^ 16 + 240 * 2 ^ 24 in
    let k : kind w ≡ 15 = omega arith in
    let z : w / 2 ^ 8 % 2 ^ 20 ≡ 0 = omega arith in
    let l : w % 256 ≡ n = omega arith in
    and_from _ _ (eq-eqb (kind w) 15 k) (and_from _ _ (formed_is w k ∙ eq-eqb (w / 2 ^ 8 % 2 ^ 20) 0 z) (ap sized l ∙ sized_from n a b))
