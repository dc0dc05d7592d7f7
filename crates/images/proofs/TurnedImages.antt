-- An image that a station of the other byte order wrote. Assumes nothing.
use Rattle.std.proofs.Common.{◌≡◌, ℕ, zero, suc, ◌+◌, ◌-◌, ◌*◌, ◌/◌, ◌^◌, ◌<◌, ◌≤◌, true, cond, ◌&&◌, eqb, List, [], ◌∷◌, length, get_or, take, drop, Some, None, Ok, Err, sym, refl, ap, ◌∙◌, arith, lit<}
use Rattle.std.proofs.lemmas.List.{get_or-take}
use Rattle.std.proofs.lemmas.Bool.{and_parts, and_from, ne_eqb, false≢true}
use Rattle.words.specs.Words.{kind, formed}
use Rattle.mailboxes.specs.Mailboxes.{sized}
use Rattle.layouts.specs.Pages.{word_at, page_length}
use Rattle.layouts.specs.Mounts.{all_zero, full, well, wrong, paged, mount_check, pages_sound}
use Rattle.layouts.proofs.Mounts.{accepted, paged_parts, foreign_answer}
use Rattle.images.specs.Causes.{right_head, foreign_head}
use Rattle.images.specs.Diagnoses.{page_at, after_empty, cause_at, diagnosed, diagnosis}
use Rattle.images.specs.Laws.{ForeignAt, foreign_image}
use Rattle.images.specs.Turns.{turned}
use Rattle.images.proofs.Heads
use Rattle.images.proofs.Laws.{foreign_law}
use Rattle.images.proofs.Explained.{explained_is}
use Rattle.images.proofs.Walks.{refused}
use Rattle.images.proofs.Turning.{length_turned, turned_at}

-- the first page of pages that hold a message is one of a message
first_full : (n held : ℕ) (bs : List ℕ) → 1 ≤ held → pages_sound n held bs ≡ true → full (take 512 bs) ≡ true
first_full n zero bs h e = absurd (omega arith)
first_full zero (suc held) bs h e = absurd (false≢true e)
first_full (suc n) (suc held) bs h e = (and_parts (full (take 512 bs)) (pages_sound n held (drop 512 bs)) e).0

-- bytes that are an accepted image with a message, turned round
module _ (bs : List ℕ) (small : (i : ℕ) → get_or bs i 0 < 256) (own : List ℕ) (held : ℕ) (is : bs ≡ turned own) (ok : mount_check own ≡ Ok held) (some : 1 ≤ held) where
  whole : paged (length own) ≡ true
  whole = (accepted own held ok).0

  long : 512 ≤ length own
  long = let p = paged_parts (length own) whole in omega (arith, p.0, p.2)

  byte_at : (i : ℕ) → i < 4 → get_or bs i 0 ≡ get_or own (3 - i) 0
  byte_at i h = ap (λ x. get_or x i 0) is ∙ turned_at own i (omega (arith, long)) h

  -- its first four bytes, when they are turned round
  own_head : (get_or bs 0 0 ≡ 240) × (get_or bs 1 0 ≡ 0) × (get_or bs 2 0 ≡ 0) × (1 ≤ get_or bs 3 0) × (get_or bs 3 0 ≤ 127)
  own_head =
      let page = take 512 own in
      let g : (i : ℕ) → i < 4 → get_or page (3 - i) 0 ≡ get_or bs i 0 = λ i h. get_or-take 512 own (3 - i) 0 (omega arith) ∙ sym (byte_at i h) in
      let w = word_at page 0 in
      let a = and_parts (eqb (kind w) 15) (well page) (first_full (length own / 512) held own some (accepted own held ok).1) in
      let b = and_parts (formed w) (sized (page_length page) && all_zero (drop (4 + 4 * page_length page) page)) a.1 in
      let c = and_parts (sized (page_length page)) (all_zero (drop (4 + 4 * page_length page) page)) b.1 in
      let r : right_head w ≡ true = and_from _ _ a.0 (and_from _ _ b.0 c.0) in
      let s : right_head (get_or bs 3 0 + get_or bs 2 0 * 2 ^ 8 + get_or bs 1 0 * 2 ^ 16 + get_or bs 0 0 * 2 ^ 24) ≡ true =
      sym (ap (λ x. right_head (x + get_or page 1 0 * 2 ^ 8 + get_or page 2 0 * 2 ^ 16 + get_or page 3 0 * 2 ^ 24)) (g 3 (lit< tt))
      ∙ ap (λ x. right_head (get_or bs 3 0 + x * 2 ^ 8 + get_or page 2 0 * 2 ^ 16 + get_or page 3 0 * 2 ^ 24)) (g 2 (lit< tt))
      ∙ ap (λ x. right_head (get_or bs 3 0 + get_or bs 2 0 * 2 ^ 8 + x * 2 ^ 16 + get_or page 3 0 * 2 ^ 24)) (g 1 (lit< tt))
      ∙ ap (λ x. right_head (get_or bs 3 0 + get_or bs 2 0 * 2 ^ 8 + get_or bs 1 0 * 2 ^ 16 + x * 2 ^ 24)) (g 0 (lit< tt))) ∙ r in
      let q = Heads.head_bytes (get_or bs 3 0) (get_or bs 2 0) (get_or bs 1 0) (get_or bs 0 0) (small 3) (small 2) (small 1) (small 0) s in
      (q.0, q.1, q.2, q.3, q.4)

  there : ForeignAt bs 0
  there =
      let h = own_head in
      let n = get_or bs 3 0 in
      let l : 4 ≤ length bs = omega (arith, ap length is, length_turned own, long) in
      (n, h.3, h.4, Heads.first_four bs l ∙ ap (λ x. x ∷ get_or bs 1 0 ∷ get_or bs 2 0 ∷ n ∷ []) h.0 ∙ ap (λ x. 240 ∷ x ∷ get_or bs 2 0 ∷ n ∷ []) h.1 ∙ ap (λ x. 240 ∷ 0 ∷ x ∷ n ∷ []) h.2 ∙ sym (Heads.be_head n h.4))

  sized_bs : paged (length bs) ≡ true
  sized_bs = ap paged (ap length is ∙ length_turned own) ∙ whole

  refused_bs : mount_check bs ≡ Err (wrong 10 0)
  refused_bs = let t = there in (foreign_answer bs _ refl).1 t.0 t.1 t.2 sized_bs t.3

  cause_bs : cause_at 0 bs ≡ foreign_image.cause
  cause_bs =
      let h = own_head in
      let page = page_at 0 bs in
      let g : (i : ℕ) → i < 4 → get_or page i 0 ≡ get_or bs i 0 = λ i l. get_or-take 512 bs i 0 (omega arith) in
      let w : word_at page 0 ≡ 240 + get_or bs 3 0 * 2 ^ 24 = omega (arith, g 0 (lit< tt), g 1 (lit< tt), g 2 (lit< tt), g 3 (lit< tt), h.0, h.1, h.2) in
      let nz : word_at page 0 ≡ 0 → ⊥ = λ z. omega (arith, w, z) in
      let k : kind (word_at page 0) ≡ 15 → ⊥ = λ z. not_head (get_or bs 3 0) h.4 (sym (ap kind w) ∙ z) in
      rw (ne_eqb (word_at page 0) 0 nz, ne_eqb (kind (word_at page 0)) 15 k) refl
    where
      not_head : (n : ℕ) → n ≤ 127 → kind (240 + n * 2 ^ 24) ≡ 15 → ⊥
      not_head n h e = omega arith

  pub turned_found : diagnosis bs ≡ Some foreign_image
  turned_found =
      let r = (refused bs (wrong 10 0) refused_bs (λ (n : 10 ≡ 16). omega arith)).1 in
      let f : foreign_head (page_at 0 bs) ≡ true = (foreign_law bs (wrong 10 0) small r).1 there in
      ap (λ b. cond b (diagnosed bs (mount_check bs)) None) sized_bs
      ∙ ap (diagnosed bs) refused_bs
      ∙ ap Some (sym (explained_is bs (page_at 0 bs) (wrong 10 0) (word_at (page_at 0 bs) 0) 3 (after_empty 0 bs) true foreign_image.cause refl refl refl (sym cause_bs) refl (sym f)))
