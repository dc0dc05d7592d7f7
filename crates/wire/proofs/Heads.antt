-- Heads and spans, there and back. Assumes nothing.
use Rattle.std.proofs.Common.{◌≡◌, ℕ, suc, ◌/◌, ◌%◌, ◌^◌, ◌<◌, ◌≤◌, Bool, true, false, cond, ◌&&◌, ◌||◌, eqb, ltb, leb, ◌⊎◌, List, [], ◌∷◌, length, drop, Ok, Err, Result, sym, refl, ap, ◌∙◌, subst, inl, inr, arith}
use Rattle.std.proofs.lemmas.Nat.{shr-shr}
use Rattle.std.proofs.lemmas.Bool.{cond-true, eq-eqb, eqb-true, ltb-true, leb-true, lt-ltb, le-leb, and_parts, and_from, or_cases, or_left, or_right}
use Rattle.words.specs.Readings.{found, Reading, read, wrong}
use Rattle.words.specs.Words.{kind, index, zero_run, formed, word_of}
use Rattle.words.proofs.Forms.{well_formed, zero_bits}
use Rattle.wire.specs.Messages.{head_word}
use Rattle.wire.specs.Openings.{length_right, head_found, to_read, from_read, span_reading}

-- a head's word has its fields
module _ (k s n : ℕ) (station : s < 16) (low : n < 256) where
  pub kind_head : kind (head_word k s n) ≡ k
  kind_head = omega arith

  pub index_head : index (head_word k s n) ≡ s
  index_head = omega arith

  pub length_head : head_word k s n % 2 ^ 8 ≡ n
  length_head = omega arith

  pub formed_head : zero_run k ≡ (8, 16) → formed (head_word k s n) ≡ true
  formed_head z =
      let none : head_word k s n / 2 ^ 8 % 2 ^ 16 ≡ 0 = omega arith in
      well_formed (head_word k s n) k kind_head (ap (λ (r : ℕ × ℕ). head_word k s n / 2 ^ r.0 % 2 ^ r.1) z ∙ none)

-- and is known by them
pub head_is : (w k : ℕ) → zero_run k ≡ (8, 16) → kind w ≡ k → formed w ≡ true → w ≡ head_word k (index w) (w % 2 ^ 8)
head_is w k z e f =
    let none : w / 2 ^ 8 % 2 ^ 16 ≡ 0 = ap (λ (r : ℕ × ℕ). w / 2 ^ r.0 % 2 ^ r.1) (sym z) ∙ zero_bits w k e f in
    omega (arith, shr-shr w 8 16, shr-shr w 24 4)

-- a word of one count
module _ (k : ℕ) (z : zero_run k ≡ (16, 12)) where
  pub found_count : (n : ℕ) (ws : List ℕ) → n < 2 ^ 16 → found k (word_of k n ∷ ws) ≡ Ok (word_of k n)
  found_count n ws low =
      let is : kind (word_of k n) ≡ k = omega arith in
      let none : word_of k n / 2 ^ 16 % 2 ^ 12 ≡ 0 = omega arith in
      cond-true _ _ _ (eq-eqb _ k is) ∙ cond-true _ _ _ (well_formed (word_of k n) k is (ap (λ (r : ℕ × ℕ). word_of k n / 2 ^ r.0 % 2 ^ r.1) z ∙ none))

  pub count_is : (w : ℕ) → kind w ≡ k → formed w ≡ true → w ≡ word_of k (w % 2 ^ 16)
  count_is w e f =
      let none : w / 2 ^ 16 % 2 ^ 12 ≡ 0 = ap (λ (r : ℕ × ℕ). w / 2 ^ r.0 % 2 ^ r.1) (sym z) ∙ zero_bits w k e f in
      omega (arith, shr-shr w 16 12)

pub count_of : (k n : ℕ) → n < 2 ^ 16 → word_of k n % 2 ^ 16 ≡ n
count_of k n low = omega arith

-- a test that is passed, where an answer is given
pub passed : {X : Type 0} (b : Bool) (r : Result X ℕ) (n : ℕ) (x : X) → cond b r (Err n) ≡ Ok x → (b ≡ true) × (r ≡ Ok x)
passed true r n x e = (refl, e)
passed false r n x e = let z : ◌≡◌ {A = ℕ} 0 1 = cc in absurd (omega arith)

pub was_found : (k : ℕ) (ws : List ℕ) (w : ℕ) → found k ws ≡ Ok w → (ws ≡ w ∷ drop 1 ws) × (kind w ≡ k) × (formed w ≡ true)
was_found k [] w e = let z : ◌≡◌ {A = ℕ} 0 1 = cc in absurd (omega arith)
was_found k (x ∷ ws) w e =
    let p = passed (eqb (kind x) k) (cond (formed x) (Ok x) (Err 11)) 10 w e in
    let q = passed (formed x) (Ok x) 11 w p.1 in
    let r = q.1 in
    let same : x ≡ w = cc in
    (ap (λ y. y ∷ ws) same, ap kind (sym same) ∙ eqb-true (kind x) k p.0, ap formed (sym same) ∙ q.0)

-- a span
pub span_reads : (f t : ℕ) (ws : List ℕ) → f < t → t ≤ 65535 → span_reading (word_of 3 f ∷ (word_of 4 t ∷ ws)) ≡ read (f, t) ws
span_reads f t ws rises low =
    ap (from_read (word_of 3 f ∷ (word_of 4 t ∷ ws))) (found_count 3 refl f (word_of 4 t ∷ ws) (omega arith))
    ∙ ap (to_read (word_of 3 f % 2 ^ 16) (word_of 4 t ∷ ws)) (found_count 4 refl t ws (omega arith))
    ∙ ap (λ x. to_read x (word_of 4 t ∷ ws) (Ok (word_of 4 t))) (count_of 3 f (omega arith))
    ∙ ap (λ y. cond (ltb f y) (read (f, y) ws) (wrong 11 (word_of 4 t ∷ ws))) (count_of 4 t (omega arith))
    ∙ cond-true _ _ _ (lt-ltb f t rises)

pub record Spans (ws : List ℕ) (p : ℕ × ℕ) (more : List ℕ) : Type 0 where
  pub words : ws ≡ word_of 3 p.0 ∷ (word_of 4 p.1 ∷ more)
  pub rises : p.0 < p.1
  pub low : p.1 ≤ 65535

passed_read : {X : Type 0} (b : Bool) (r : Reading X) (n : ℕ) (ws : List ℕ) (x : X) (more : List ℕ) → cond b r (wrong n ws) ≡ read x more → (b ≡ true) × (r ≡ read x more)
passed_read true r n ws x more e = (refl, e)
passed_read false r n ws x more e = let z : ◌≡◌ {A = ℕ} 0 1 = cc in absurd (omega arith)

to_was : (f : ℕ) (ws : List ℕ) (x : Result ℕ ℕ) (p : ℕ × ℕ) (more : List ℕ) → found 4 ws ≡ x → to_read f ws x ≡ read p more → (ws ≡ word_of 4 p.1 ∷ more) × (f ≡ p.0) × (p.0 < p.1) × (p.1 ≤ 65535)
to_was f ws (Ok t) p more is e =
    let n = t % 2 ^ 16 in
    let q = passed_read (ltb f n) (read (f, n) (drop 1 ws)) 11 ws p more e in
    let r = q.1 in
    let same : (f, n) ≡ p = cc in
    let behind : drop 1 ws ≡ more = cc in
    let a : f ≡ p.0 = ap (λ (x : ℕ × ℕ). x.0) same in
    let b : n ≡ p.1 = ap (λ (x : ℕ × ℕ). x.1) same in
    let w = was_found 4 ws t is in
    let h = ltb-true f n q.0 in
    let low : n < 2 ^ 16 = omega arith in
    (w.0 ∙ ap (λ y. y ∷ drop 1 ws) (count_is 4 refl t w.1 w.2 ∙ ap (word_of 4) b) ∙ ap (λ y. word_of 4 p.1 ∷ y) behind, a, omega arith, omega arith)
to_was f ws (Err n) p more is e = let z : ◌≡◌ {A = ℕ} 0 1 = cc in absurd (omega arith)

from_was : (ws : List ℕ) (x : Result ℕ ℕ) (p : ℕ × ℕ) (more : List ℕ) → found 3 ws ≡ x → from_read ws x ≡ read p more → Spans ws p more
from_was ws (Ok f) p more is e =
    let q = to_was (f % 2 ^ 16) (drop 1 ws) (found 4 (drop 1 ws)) p more refl e in
    let w = was_found 3 ws f is in
    record {
      words = w.0 ∙ ap (λ y. y ∷ drop 1 ws) (count_is 3 refl f w.1 w.2 ∙ ap (word_of 3) q.1) ∙ ap (λ y. word_of 3 p.0 ∷ y) q.0;
      rises = q.2;
      low = q.3;
    }
from_was ws (Err n) p more is e = let z : ◌≡◌ {A = ℕ} 0 1 = cc in absurd (omega arith)

pub span_exact : (ws : List ℕ) (p : ℕ × ℕ) (more : List ℕ) → span_reading ws ≡ read p more → Spans ws p more
span_exact ws p more e = from_was ws (found 3 ws) p more refl e

-- a head, in front of the words that it counts
length_from : (n all : ℕ) → n ≡ all → 2 ≤ n → n ≤ 127 → length_right n all ≡ true
length_from n all e low few = and_from _ _ (eq-eqb n all e) (and_from _ _ (le-leb 2 n low) (le-leb n 127 few))

module _ (k s : ℕ) (ws : List ℕ) (head : (k ≡ 1) ⊎ (k ≡ 2)) (z : zero_run k ≡ (8, 16)) (station : s < 16) (low : 1 ≤ length ws) (few : suc (length ws) ≤ 127) where
  one_or_two : (w : ℕ) → kind w ≡ k → (k ≡ 1) ⊎ (k ≡ 2) → (eqb (kind w) 1 || eqb (kind w) 2) ≡ true
  one_or_two w e (inl a) = or_left (eqb (kind w) 1) (eqb (kind w) 2) (eq-eqb (kind w) 1 (e ∙ a))
  one_or_two w e (inr b) = or_right (eqb (kind w) 1) (eqb (kind w) 2) (eq-eqb (kind w) 2 (e ∙ b))

  pub found_head : head_found (head_word k s (suc (length ws)) ∷ ws) ≡ Ok (head_word k s (suc (length ws)))
  found_head =
      let n = suc (length ws) in
      let h = head_word k s n in
      let small : n < 256 = omega arith in
      let is : h % 2 ^ 8 ≡ n = length_head k s n station small in
      cond-true _ _ _ (one_or_two h (kind_head k s n station small) head)
      ∙ cond-true _ _ _ (formed_head k s n station small z)
      ∙ cond-true _ _ _ (length_from (h % 2 ^ 8) n is (omega arith) (omega arith))

-- the head that was found, and the words behind it
pub record Headed (ws : List ℕ) (w : ℕ) : Type 0 where
  pub words : ws ≡ w ∷ drop 1 ws
  pub kinds : (kind w ≡ 1) ⊎ (kind w ≡ 2)
  pub form : formed w ≡ true
  pub size : w % 2 ^ 8 ≡ length ws
  pub low : 2 ≤ length ws
  pub few : length ws ≤ 127

either_kind : (w : ℕ) → (eqb (kind w) 1 ≡ true) ⊎ (eqb (kind w) 2 ≡ true) → (kind w ≡ 1) ⊎ (kind w ≡ 2)
either_kind w (inl e) = inl (eqb-true (kind w) 1 e)
either_kind w (inr e) = inr (eqb-true (kind w) 2 e)

pub head_was : (ws : List ℕ) (w : ℕ) → head_found ws ≡ Ok w → Headed ws w
head_was [] w e = let z : ◌≡◌ {A = ℕ} 0 1 = cc in absurd (omega arith)
head_was (x ∷ ws) w e =
    let sized : Result ℕ ℕ = cond (length_right (x % 2 ^ 8) (suc (length ws))) (Ok x) (Err 13) in
    let p = passed (eqb (kind x) 1 || eqb (kind x) 2) (cond (formed x) sized (Err 11)) 10 w e in
    let q = passed (formed x) sized 11 w p.1 in
    let r = passed (length_right (x % 2 ^ 8) (suc (length ws))) (Ok x) 13 w q.1 in
    let u = r.1 in
    let same : x ≡ w = cc in
    let a = and_parts (eqb (x % 2 ^ 8) (suc (length ws))) (leb 2 (x % 2 ^ 8) && leb (x % 2 ^ 8) 127) r.0 in
    let b = and_parts (leb 2 (x % 2 ^ 8)) (leb (x % 2 ^ 8) 127) a.1 in
    let size = eqb-true (x % 2 ^ 8) (suc (length ws)) a.0 in
    let low = leb-true 2 (x % 2 ^ 8) b.0 in
    let few = leb-true (x % 2 ^ 8) 127 b.1 in
    subst (Headed (x ∷ ws)) same (record {
      words = refl;
      kinds = either_kind x (or_cases (eqb (kind x) 1) (eqb (kind x) 2) p.0);
      form = q.0;
      size = size;
      low = omega arith;
      few = omega arith;
    })
