-- The zero bytes that come first. Assumes nothing.
use Rattle.std.proofs.Common.{◌≡◌, ℕ, suc, ◌+◌, ◌*◌, ◌<◌, ◌≤◌, Bool, true, false, cond, ◌&&◌, eqb, List, [], ◌∷◌, length, get_or, take, drop, refl, ap, ◌∙◌, arith}
use Rattle.std.proofs.lemmas.List.{length-take, length-drop}
use Rattle.std.proofs.lemmas.List.Sums.{prefix_len-le-length, prefix_len_passes, prefix_len_stops, prefix_len-drop_yes, prefix_len-drop_no, prefix_len-drop_all}
use Rattle.std.proofs.lemmas.Bool.{true≢false, eq-eqb, ne_eqb, eqb-true, eqb-false, and_parts}
use Rattle.layouts.specs.Pages.{page_length}
use Rattle.layouts.specs.Mounts.{all_zero}
use Rattle.images.specs.declared.diagnosis.Cause.{Cause}
use Rattle.images.specs.declared.diagnosis.Cause.TheVariants.{Kind, ZeroBits, Length, AfterEmpty, AfterWords, EmptyPage}
use Rattle.images.specs.Causes.{zeros, past_zeros, wrong_byte}

pub zeros_all : (bs : List ℕ) → all_zero bs ≡ true → zeros bs ≡ length bs
zeros_all [] e = refl
zeros_all (b ∷ bs) e =
    let p = and_parts (eqb b 0) (all_zero bs) e in
    ap (λ t. cond t (1 + zeros bs) 0) p.0 ∙ omega (arith, zeros_all bs p.1)

pub zeros_less : (bs : List ℕ) → all_zero bs ≡ false → (zeros bs < length bs) × (get_or bs (zeros bs) 0 ≡ 0 → ⊥)
zeros_less bs e = let l = less bs e in (l, eqb-false (get_or bs (zeros bs) 0) 0 (prefix_len_stops (λ b. eqb b 0) bs 0 l))
  where
    less : (bs : List ℕ) → all_zero bs ≡ false → zeros bs < length bs
    less [] e = absurd (true≢false e)
    less (b ∷ bs) e = by (less bs) (eqb b 0) e
      where
        by : (all_zero bs ≡ false → zeros bs < length bs) → (t : Bool) → (t && all_zero bs) ≡ false → cond t (1 + zeros bs) 0 < suc (length bs)
        by ih true e = omega (arith, ih e)
        by ih false e = omega arith

pub zeros_before : (bs : List ℕ) (k : ℕ) → k < zeros bs → get_or bs k 0 ≡ 0
zeros_before bs k h = eqb-true (get_or bs k 0) 0 (prefix_len_passes (λ b. eqb b 0) bs k 0 h)

pub zeros_few : (bs : List ℕ) → zeros bs ≤ length bs
zeros_few bs = prefix_len-le-length (λ b. eqb b 0) bs

-- one zero byte more, and the end of the zero bytes
pub past_more : (bs : List ℕ) (i : ℕ) → i < length bs → get_or bs i 0 ≡ 0 → past_zeros i bs ≡ past_zeros (i + 1) bs
past_more bs i h z =
    let f : zeros (drop i bs) ≡ 1 + zeros (drop (i + 1) bs) = prefix_len-drop_yes (λ b. eqb b 0) bs i 0 h (eq-eqb (get_or bs i 0) 0 z) in
    omega arith

pub past_set : (bs : List ℕ) (i : ℕ) → i < length bs → (get_or bs i 0 ≡ 0 → ⊥) → past_zeros i bs ≡ i
past_set bs i h z =
    let f : zeros (drop i bs) ≡ 0 = prefix_len-drop_no (λ b. eqb b 0) bs i 0 h (ne_eqb (get_or bs i 0) 0 z) in
    omega arith

pub past_end : (bs : List ℕ) (i : ℕ) → length bs ≤ i → past_zeros i bs ≡ i
past_end bs i h =
    let f : zeros (drop i bs) ≡ 0 = prefix_len-drop_all (λ b. eqb b 0) bs i h in
    omega arith

pub wrong_few : (c : Cause) (page : List ℕ) → length page ≡ 512 → wrong_byte c page ≤ 1024
wrong_few Kind page l = omega arith
wrong_few ZeroBits page l = omega (arith, zeros_few (drop 1 (take 3 page)), length-drop 1 (take 3 page), length-take 3 page)
wrong_few Length page l = omega arith
wrong_few AfterEmpty page l = omega arith
wrong_few AfterWords page l = let n : page_length page ≤ 255 = omega arith in omega (arith, zeros_few (drop (4 + 4 * page_length page) page), length-drop (4 + 4 * page_length page) page)
wrong_few EmptyPage page l = omega (arith, zeros_few page)
