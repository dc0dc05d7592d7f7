-- The page at which the check of an image stops. Assumes nothing.
use Rattle.std.proofs.Common.{◌≡◌, ℕ, zero, suc, ◌+◌, ◌-◌, ◌*◌, ◌/◌, ◌≤◌, Bool, true, false, cond, not, ◌&&◌, eqb, leb, List, length, drop, Ok, Err, Result, sym, refl, ap, ◌∙◌, ⊎_elim, arith}
use Rattle.std.proofs.lemmas.List.{drop-drop}
use Rattle.std.proofs.lemmas.Bool.{and_from, and_right, le-leb, true≢false, cases_Bool}
use Rattle.words.specs.Words.{kind}
use Rattle.words.specs.Readings.{Told}
use Rattle.layouts.specs.Pages.{word_at}
use Rattle.layouts.specs.Mounts.{all_zero, well, full, wrong, page_check, mount_next, mount_pages, paged, mount_check}
use Rattle.layouts.proofs.Mounts.{check_empty, check_full, empty_checked, full_checked}
use Rattle.images.specs.Diagnoses.{page_at, after_empty}

-- a refused page has a fault at its place, as 10 or 11
pub refused_at : (at : ℕ) (seen : Bool) (page : List ℕ) (f : Told) → page_check at seen page ≡ Err f → (f.place ≡ at) × (f.number ≤ 11)
refused_at at seen page f e = by (eqb (word_at page 0) 0) (all_zero page) (eqb (kind (word_at page 0)) 15) (not seen && well page) e
  where
    by : (z a k w : Bool) → ◌≡◌ {A = Result Bool Told} (cond z (cond a (Ok false) (Err (wrong 11 at))) (cond k (cond w (Ok true) (Err (wrong 11 at))) (Err (wrong 10 at)))) (Err f) → (f.place ≡ at) × (f.number ≤ 11)
    by true true k w e = let n : ◌≡◌ {A = ℕ} 0 1 = cc in absurd (omega arith)
    by true false k w e = let p : f.place ≡ at = cc in let n : f.number ≡ 11 = cc in (p, omega arith)
    by false a true true e = let n : ◌≡◌ {A = ℕ} 0 1 = cc in absurd (omega arith)
    by false a true false e = let p : f.place ≡ at = cc in let n : f.number ≡ 11 = cc in (p, omega arith)
    by false a false w e = let p : f.place ≡ at = cc in let n : f.number ≡ 10 = cc in (p, omega arith)

-- a page of a message is not empty
full_not_empty : (page : List ℕ) → full page ≡ true → all_zero page ≡ false
full_not_empty page e =
    ⊎_elim
    (λ (z : all_zero page ≡ true). let n : true ≡ false = clash (sym (check_full 0 false page refl e) ∙ check_empty 0 false page z) in absurd (true≢false n))
    (λ (z : all_zero page ≡ false). z)
    (cases_Bool (all_zero page))
  where
    clash : ◌≡◌ {A = Result Bool Told} (Ok true) (Ok false) → true ≡ false
    clash e = cc

abbrev pub Refused : List ℕ → Told → Type 0
Refused bs f = (f.place + 512 ≤ length bs) × (page_check f.place (after_empty f.place bs) (page_at f.place bs) ≡ Err f)

walk : (n at held : ℕ) (seen : Bool) (bs : List ℕ) (f : Told) → at + 512 * n ≤ length bs → seen ≡ after_empty at bs → mount_pages n at held seen (drop at bs) ≡ Err f → Refused bs f
walk zero at held seen bs f l s e = let n : ◌≡◌ {A = ℕ} 0 1 = cc in absurd (omega arith)
walk (suc n) at held seen bs f l s e = by (λ a h t. walk n a h t bs f) (page_check at seen (page_at at bs)) refl e
  where
    next : drop 512 (drop at bs) ≡ drop (at + 512) bs
    next = drop-drop 512 at bs

    before : page_at (at + 512 - 512) bs ≡ page_at at bs
    before = let j : at + 512 - 512 ≡ at = omega arith in ap (λ x. page_at x bs) j

    by : ((at held : ℕ) (seen : Bool) → at + 512 * n ≤ length bs → seen ≡ after_empty at bs → mount_pages n at held seen (drop at bs) ≡ Err f → Refused bs f) → (v : Result Bool Told) → page_check at seen (page_at at bs) ≡ v → mount_next v (mount_pages n (at + 512) (held + 1) seen (drop 512 (drop at bs))) (mount_pages n (at + 512) held true (drop 512 (drop at bs))) ≡ Err f → Refused bs f
    by ih (Ok true) is e =
        let p = full_checked at seen (page_at at bs) is in
        let a : seen ≡ after_empty (at + 512) bs = p.0 ∙ sym (and_right (leb 512 (at + 512)) (all_zero (page_at (at + 512 - 512) bs)) (ap all_zero before ∙ full_not_empty (page_at at bs) p.1)) in
        ih (at + 512) (held + 1) seen (omega arith) a (ap (mount_pages n (at + 512) (held + 1) seen) (sym next) ∙ e)
    by ih (Ok false) is e =
        let z = empty_checked at seen (page_at at bs) is in
        let a : true ≡ after_empty (at + 512) bs = sym (and_from (leb 512 (at + 512)) (all_zero (page_at (at + 512 - 512) bs)) (le-leb 512 (at + 512) (omega arith)) (ap all_zero before ∙ z)) in
        ih (at + 512) held true (omega arith) a (ap (mount_pages n (at + 512) held true) (sym next) ∙ e)
    by ih (Err g) is e =
        let same : g ≡ f = cc in
        let p : f.place ≡ at = sym (ap (λ x. x.place) same) ∙ (refused_at at seen (page_at at bs) g is).0 in
        let q : page_check at (after_empty at bs) (page_at at bs) ≡ Err f = ap (λ x. page_check at x (page_at at bs)) (sym s) ∙ is ∙ ap Err same in
        (omega arith, ap (λ x. page_check x (after_empty x bs) (page_at x bs)) p ∙ q)

pub refused : (bs : List ℕ) (f : Told) → mount_check bs ≡ Err f → (f.number ≡ 16 → ⊥) → (paged (length bs) ≡ true) × Refused bs f
refused bs f e ne = by (paged (length bs)) refl e
  where
    by : (b : Bool) → paged (length bs) ≡ b → ◌≡◌ {A = Result ℕ Told} (cond b (mount_pages (length bs / 512) 0 0 false bs) (Err (wrong 16 0))) (Err f) → (paged (length bs) ≡ true) × Refused bs f
    by true is e = (is, walk (length bs / 512) 0 0 false bs f (omega arith) refl e)
    by false is e = let n : f.number ≡ 16 = cc in absurd (ne n)

pub not_paged : (bs : List ℕ) (f : Told) → mount_check bs ≡ Err f → f.number ≡ 16 → paged (length bs) ≡ false
not_paged bs f e n = by (paged (length bs)) refl e
  where
    by : (b : Bool) → paged (length bs) ≡ b → ◌≡◌ {A = Result ℕ Told} (cond b (mount_pages (length bs / 512) 0 0 false bs) (Err (wrong 16 0))) (Err f) → paged (length bs) ≡ false
    by true is e =
        let p = walk (length bs / 512) 0 0 false bs f (omega arith) refl e in
        let q = refused_at f.place (after_empty f.place bs) (page_at f.place bs) f p.1 in
        absurd (omega (arith, q.1))
    by false is e = is
