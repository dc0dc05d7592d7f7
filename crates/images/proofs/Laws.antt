-- What the diagnosis of a refused image says of its bytes. Assumes nothing.
use Rattle.std.proofs.Common.{◌≡◌, ℕ, ◌+◌, ◌-◌, ◌*◌, ◌/◌, ◌%◌, ◌^◌, ◌<◌, ◌≤◌, Bool, true, false, cond, not, ◌&&◌, eqb, leb, List, [], ◌∷◌, length, get_or, take, drop, Ok, Err, Result, sym, refl, ap, ◌∙◌, subst, ⊎_elim, arith, lit<, lit≤}
use Rattle.std.proofs.lemmas.List.{length-take-le, length-drop, get_or-take, get_or-drop, take-take}
use Rattle.std.proofs.lemmas.Bool.{and_parts, eqb-true, eqb-false, leb-true, cases_Bool, both_ways}
use Rattle.words.specs.Words.{kind, formed}
use Rattle.words.specs.Readings.{Told}
use Rattle.mailboxes.specs.Mailboxes.{sized}
use Rattle.layouts.specs.Rows.{sized_true, sized_from}
use Rattle.layouts.specs.Pages.{word_at, page_length}
use Rattle.layouts.specs.Mounts.{all_zero, wrong, page_check}
use Rattle.layouts.proofs.Mounts.{foreign_answer}
use Rattle.images.specs.declared.diagnosis.Cause.{Cause}
use Rattle.images.specs.declared.diagnosis.Cause.TheVariants.{Kind, ZeroBits, Length, AfterEmpty, AfterWords, EmptyPage}
use Rattle.images.specs.Causes.{zeros, past_zeros, foreign_head, right_head, wrong_byte}
use Rattle.images.specs.Diagnoses.{page_at, after_empty, cause_at, Diagnosed, explained}
use Rattle.images.specs.Laws.{Within, FirstSet, Says, ForeignAt, Foreign}
use Rattle.images.proofs.Zeros.{zeros_all, zeros_less, zeros_before, zeros_few}
use Rattle.images.proofs.Heads
use Rattle.images.proofs.Walks.{Refused}

module _ (bs : List ℕ) (f : Told) (small : (i : ℕ) → get_or bs i 0 < 256) (is : Refused bs f) where
  long : length (page_at f.place bs) ≡ 512
  long = length-take-le 512 (drop f.place bs) (simp length-drop (omega (arith, is.0)))

  byte_at : (k : ℕ) → k < 512 → get_or (page_at f.place bs) k 0 ≡ get_or bs (f.place + k) 0
  byte_at k h = get_or-take 512 (drop f.place bs) k 0 h ∙ get_or-drop f.place bs k 0

  byte_small : (k : ℕ) → k < 512 → get_or (page_at f.place bs) k 0 < 256
  byte_small k h = omega (arith, byte_at k h, small (f.place + k))

  first_byte : get_or (page_at f.place bs) 0 0 ≡ get_or bs f.place 0
  first_byte = let j : f.place + 0 ≡ f.place = omega arith in byte_at 0 (lit< tt) ∙ ap (λ x. get_or bs x 0) j

  page_length_is : page_length (page_at f.place bs) ≡ get_or bs f.place 0
  page_length_is =
      let page = page_at f.place bs in
      Heads.low_byte (get_or page 0 0) (get_or page 1 0) (get_or page 2 0) (get_or page 3 0) (byte_small 0 (lit< tt)) (byte_small 1 (lit< tt)) (byte_small 2 (lit< tt)) (byte_small 3 (lit< tt)) ∙ first_byte

  kind_is : kind (word_at (page_at f.place bs) 0) ≡ get_or bs (f.place + 3) 0 / 16
  kind_is =
      let page = page_at f.place bs in
      Heads.kind_byte (get_or page 0 0) (get_or page 1 0) (get_or page 2 0) (get_or page 3 0) (byte_small 0 (lit< tt)) (byte_small 1 (lit< tt)) (byte_small 2 (lit< tt)) (byte_small 3 (lit< tt))
      ∙ ap (λ x. x / 16) (byte_at 3 (lit< tt))

  -- the first byte of the page from byte n on that is not zero
  first_in : (n : ℕ) → all_zero (drop n (page_at f.place bs)) ≡ false → (past_zeros n (page_at f.place bs) < 512) × FirstSet bs (f.place + n) (f.place + past_zeros n (page_at f.place bs))
  first_in n e =
      let p = f.place in
      let page = page_at p bs in
      let z = zeros (drop n page) in
      let q = zeros_less (drop n page) e in
      let l : n + z < 512 = omega (arith, q.0, length-drop n page, long) in
      let g : (k : ℕ) → n + k < 512 → get_or (drop n page) k 0 ≡ get_or bs (p + (n + k)) 0 = λ k h. get_or-drop n page k 0 ∙ byte_at (n + k) h in
      let earlier : (k : ℕ) → p + n ≤ k → k < p + (n + z) → get_or bs k 0 ≡ 0 = λ k a h.
      let i : p + (n + (k - (p + n))) ≡ k = omega arith in
      ap (λ x. get_or bs x 0) (sym i) ∙ sym (g (k - (p + n)) (omega arith)) ∙ zeros_before (drop n page) (k - (p + n)) (omega arith) in
      (l, (omega arith, λ (s : get_or bs (p + (n + z)) 0 ≡ 0). q.1 (g z l ∙ s), earlier))

  -- a bit that must be zero, in byte 1, 2 or 3 of the head
  zero_bits : kind (word_at (page_at f.place bs) 0) ≡ 15 → formed (word_at (page_at f.place bs) 0) ≡ false → (wrong_byte ZeroBits (page_at f.place bs) < 512) × Says ZeroBits bs f.place (f.place + wrong_byte ZeroBits (page_at f.place bs))
  zero_bits k e =
      let p = f.place in
      let page = page_at p bs in
      let xs = drop 1 (take 3 page) in
      let z = zeros xs in
      let l : length xs ≡ 2 = length-drop 1 (take 3 page) ∙ ap (λ x. x - 1) (length-take-le 3 page (omega (arith, long))) in
      let few : z ≤ 2 = omega (arith, zeros_few xs, l) in
      let g : (j : ℕ) → j < 2 → get_or xs j 0 ≡ get_or bs (p + (1 + j)) 0 = λ j h. get_or-drop 1 (take 3 page) j 0 ∙ get_or-take 3 page (1 + j) 0 (omega arith) ∙ byte_at (1 + j) (omega arith) in
      let set : p + (1 + z) < p + 3 → get_or bs (p + (1 + z)) 0 ≡ 0 → ⊥ = λ h s. ⊎_elim
      (λ (a : all_zero xs ≡ true). omega (arith, zeros_all xs a, l))
      (λ (a : all_zero xs ≡ false). (zeros_less xs a).1 (g z (omega arith) ∙ s))
      (cases_Bool (all_zero xs)) in
      let earlier : (k : ℕ) → p < k → k < p + (1 + z) → get_or bs k 0 ≡ 0 = λ k a h.
      let i : p + (1 + (k - (p + 1))) ≡ k = omega arith in
      ap (λ x. get_or bs x 0) (sym i) ∙ sym (g (k - (p + 1)) (omega arith)) ∙ zeros_before xs (k - (p + 1)) (omega arith) in
      let b : p + (1 + z) ≡ p + 3 → get_or page 1 0 ≡ 0 = λ h. byte_at 1 (lit< tt) ∙ earlier (p + 1) (omega arith) (omega arith) in
      let c : p + (1 + z) ≡ p + 3 → get_or page 2 0 ≡ 0 = λ h. byte_at 2 (lit< tt) ∙ earlier (p + 2) (omega arith) (omega arith) in
      let ne = eqb-false (word_at page 0 / 2 ^ 8 % 2 ^ 20) 0 (sym (Heads.formed_is (word_at page 0) k) ∙ e) in
      let last : p + (1 + z) ≡ p + 3 → get_or bs (p + (1 + z)) 0 % 16 ≡ 0 → ⊥ = λ h s. Heads.last_byte (get_or page 0 0) (get_or page 1 0) (get_or page 2 0) (get_or page 3 0) (byte_small 0 (lit< tt)) (byte_small 1 (lit< tt)) (byte_small 2 (lit< tt)) (byte_small 3 (lit< tt)) (b h) (c h) ne (ap (λ x. x % 16) (byte_at 3 (lit< tt) ∙ ap (λ x. get_or bs x 0) (sym h)) ∙ s) in
      (omega arith, (omega arith, omega arith, set, last, earlier))

  -- the page before is empty
  empty_before : after_empty f.place bs ≡ true → (512 ≤ f.place) × ((k : ℕ) → f.place ≤ k + 512 → k < f.place → get_or bs k 0 ≡ 0)
  empty_before e =
      let p = f.place in
      let xs = page_at (p - 512) bs in
      let q = and_parts (leb 512 p) (all_zero xs) e in
      let h : 512 ≤ p = leb-true 512 p q.0 in
      let l : length xs ≡ 512 = length-take-le 512 (drop (p - 512) bs) (simp length-drop (omega (arith, is.0))) in
      let zero_at : (k : ℕ) → p ≤ k + 512 → k < p → get_or bs k 0 ≡ 0 = λ k a b.
      let i : p - 512 + (k - (p - 512)) ≡ k = omega arith in
      ap (λ x. get_or bs x 0) (sym i) ∙ sym (get_or-take 512 (drop (p - 512) bs) (k - (p - 512)) 0 (omega arith) ∙ get_or-drop (p - 512) bs (k - (p - 512)) 0)
      ∙ zeros_before xs (k - (p - 512)) (omega (arith, zeros_all xs q.1, l)) in
      (h, zero_at)

  abbrev Law : Cause → Type 0
  Law c = (wrong_byte c (page_at f.place bs) < 512) × Says c bs f.place (f.place + wrong_byte c (page_at f.place bs))

  pub cause_law : Law (cause_at f.place bs)
  cause_law =
      let page = page_at f.place bs in
      by (eqb (word_at page 0) 0) (all_zero page) (eqb (kind (word_at page 0)) 15) (after_empty f.place bs) (formed (word_at page 0)) (sized (page_length page)) (all_zero (drop (4 + 4 * page_length page) page)) refl refl refl refl refl refl refl is.1
    where
      not_sized : sized (page_length (page_at f.place bs)) ≡ false → 1 ≤ get_or bs f.place 0 → get_or bs f.place 0 ≤ 127 → ⊥
      not_sized e a b = both_ways (sized (page_length (page_at f.place bs))) e (ap sized page_length_is ∙ sized_from (get_or bs f.place 0) a b)

      by : (z a k s m n t : Bool) → eqb (word_at (page_at f.place bs) 0) 0 ≡ z → all_zero (page_at f.place bs) ≡ a → eqb (kind (word_at (page_at f.place bs) 0)) 15 ≡ k → after_empty f.place bs ≡ s → formed (word_at (page_at f.place bs) 0) ≡ m → sized (page_length (page_at f.place bs)) ≡ n → all_zero (drop (4 + 4 * page_length (page_at f.place bs)) (page_at f.place bs)) ≡ t → ◌≡◌ {A = Result Bool Told} (cond z (cond a (Ok false) (Err (wrong 11 f.place))) (cond k (cond (not s && (m && (n && t))) (Ok true) (Err (wrong 11 f.place))) (Err (wrong 10 f.place)))) (Err f) → Law (cond z EmptyPage (cond k (cond m (cond n (cond s AfterEmpty AfterWords) Length) ZeroBits) Kind))
      by true true k s m n t ez ea ek es em en et e = let n : ◌≡◌ {A = ℕ} 0 1 = cc in absurd (omega arith)
      by true false k s m n t ez ea ek es em en et e = let q = first_in 0 ea in let j : f.place + 0 ≡ f.place = omega arith in (q.0, (omega arith, q.1.1, λ i l. q.1.2 i (omega arith)))
      by false a false s m n t ez ea ek es em en et e = (omega arith, (refl, λ h. eqb-false (kind (word_at (page_at f.place bs) 0)) 15 ek (kind_is ∙ h)))
      by false a true s false n t ez ea ek es em en et e = zero_bits (eqb-true (kind (word_at (page_at f.place bs) 0)) 15 ek) em
      by false a true s true false t ez ea ek es em en et e = (omega arith, (omega arith, not_sized en))
      by false a true true true true t ez ea ek es em en et e =
          let q = empty_before es in
          let l = sized_true (page_length (page_at f.place bs)) en in
          (omega arith, (omega arith, λ h. omega (arith, l.0, page_length_is, h), q.0, q.1))
      by false a true false true true true ez ea ek es em en et e = let n : ◌≡◌ {A = ℕ} 0 1 = cc in absurd (omega arith)
      by false a true false true true false ez ea ek es em en et e = let q = first_in (4 + 4 * page_length (page_at f.place bs)) et in (q.0, (omega (arith, q.1.0, page_length_is), q.1.1, λ i l. q.1.2 i (omega (arith, page_length_is))))

  -- a page head in the other byte order
  four : take 4 (drop f.place bs) ≡ get_or (page_at f.place bs) 0 0 ∷ get_or (page_at f.place bs) 1 0 ∷ get_or (page_at f.place bs) 2 0 ∷ get_or (page_at f.place bs) 3 0 ∷ []
  four = sym (take-take 4 512 (drop f.place bs) (lit≤ tt)) ∙ Heads.first_four (page_at f.place bs) (omega (arith, long))

  pub foreign_law : Foreign bs f.place f.number (foreign_head (page_at f.place bs))
  foreign_law = (λ e. (there e, ten (there e)), back)
    where
      there : foreign_head (page_at f.place bs) ≡ true → ForeignAt bs f.place
      there e =
          let page = page_at f.place bs in
          let a = get_or page 0 0 in
          let b = get_or page 1 0 in
          let c = get_or page 2 0 in
          let d = get_or page 3 0 in
          let q = Heads.head_bytes d c b a (byte_small 3 (lit< tt)) (byte_small 2 (lit< tt)) (byte_small 1 (lit< tt)) (byte_small 0 (lit< tt)) e in
          (d, q.3, q.4, four ∙ ap (λ x. x ∷ b ∷ c ∷ d ∷ []) q.0 ∙ ap (λ x. 240 ∷ x ∷ c ∷ d ∷ []) q.1 ∙ ap (λ x. 240 ∷ 0 ∷ x ∷ d ∷ []) q.2 ∙ sym (Heads.be_head d q.4))

      ten : ForeignAt bs f.place → f.number ≡ 10
      ten h =
          let p = f.place in
          let w : page_check p (after_empty p bs) (page_at p bs) ≡ Err (wrong 10 p) = (foreign_answer bs _ refl).0 p (after_empty p bs) (page_at p bs) h.0 h.1 h.2 (take-take 4 512 (drop p bs) (lit≤ tt) ∙ h.3) in
          let e : ◌≡◌ {A = Result Bool Told} (Err f) (Err (wrong 10 p)) = sym is.1 ∙ w in
          cc

      back : ForeignAt bs f.place → foreign_head (page_at f.place bs) ≡ true
      back h =
          let page = page_at f.place bs in
          let e = sym four ∙ h.3 ∙ Heads.be_head h.0 h.2 in
          let at : (i : ℕ) → get_or (get_or page 0 0 ∷ get_or page 1 0 ∷ get_or page 2 0 ∷ get_or page 3 0 ∷ []) i 0 ≡ get_or (240 ∷ 0 ∷ 0 ∷ h.0 ∷ []) i 0 = λ i. ap (λ x. get_or x i 0) e in
          ap (λ x. right_head (x + get_or page 2 0 * 2 ^ 8 + get_or page 1 0 * 2 ^ 16 + get_or page 0 0 * 2 ^ 24)) (at 3)
          ∙ ap (λ x. right_head (h.0 + x * 2 ^ 8 + get_or page 1 0 * 2 ^ 16 + get_or page 0 0 * 2 ^ 24)) (at 2)
          ∙ ap (λ x. right_head (h.0 + 0 * 2 ^ 8 + x * 2 ^ 16 + get_or page 0 0 * 2 ^ 24)) (at 1)
          ∙ ap (λ x. right_head (h.0 + 0 * 2 ^ 8 + 0 * 2 ^ 16 + x * 2 ^ 24)) (at 0)
          ∙ Heads.right_head_from h.0 h.1 h.2

  pub laws : (d : Diagnosed) → d ≡ explained bs f → Within bs d.fault.place d.byte × Says d.cause bs d.fault.place d.byte × Foreign bs d.fault.place d.fault.number d.foreign
  laws d e =
      let P : Diagnosed → Type 0 = λ d. Within bs d.fault.place d.byte × Says d.cause bs d.fault.place d.byte × Foreign bs d.fault.place d.fault.number d.foreign in
      subst P (sym e) ((omega arith, omega (arith, cause_law.0), is.0), cause_law.1, foreign_law)
