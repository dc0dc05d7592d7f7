-- The messages of a row of pages. Assumes nothing.
use Rattle.std.proofs.Common.{◌≡◌, ℕ, zero, suc, ◌+◌, ◌-◌, ◌*◌, ◌<◌, ◌≤◌, min, List, [], ◌∷◌, ◌++◌, length, get_or, take, drop, replicate, sym, refl, ap, ◌∙◌, append_assoc, zero-add, add-one, arith}
use lib.Seq.{paste}
use borrow.Rule.Slice.PartMut.{put_mid}
use Rattle.std.specs.List.{remove}
use Rattle.std.proofs.lemmas.List.{length-take-le, length-drop, take-append-drop, take-append-le, drop-append-le, drop-drop, take_at, drop_at, take_all, length-replicate}
use Rattle.std.proofs.lemmas.List.Edits.{length-paste, take-paste}
use Rattle.std.proofs.lemmas.Slice.{put_mid-paste}
use Rattle.mailboxes.specs.Mailboxes.{counted}
use Rattle.words.specs.Writes.{put}
use Rattle.layouts.specs.Pages.{page_message, pages_of, page_of, page_closed}
use Rattle.layouts.proofs.Rows.{paste_put}

pub length_pages : (n : ℕ) (bs : List ℕ) → length (pages_of n bs) ≡ n
length_pages zero bs = refl
length_pages (suc n) bs = ap suc (length_pages n (drop 512 bs))

-- n pages, then m more
pub pages_add : (n m : ℕ) (bs : List ℕ) → pages_of (n + m) bs ≡ pages_of n bs ++ pages_of m (drop (512 * n) bs)
pages_add zero m bs = ap (λ x. pages_of x bs) (zero-add m)
pages_add (suc n) m bs =
    let e : suc n + m ≡ suc (n + m) = omega arith in
    let f : 512 + 512 * n ≡ 512 * suc n = omega arith in
    ap (λ x. pages_of x bs) e
    ∙ ap (λ x. page_message (take 512 bs) ∷ x) (pages_add n m (drop 512 bs) ∙ ap (λ x. pages_of n (drop 512 bs) ++ pages_of m x) (drop-drop (512 * n) 512 bs ∙ ap (λ x. drop x bs) f))

-- what lies past the pages does not matter
pub pages_front : (n : ℕ) (xs ys : List ℕ) → 512 * n ≤ length xs → pages_of n (xs ++ ys) ≡ pages_of n xs
pages_front zero xs ys h = refl
pages_front (suc n) xs ys h =
    let l : 512 ≤ length xs = omega arith in
    let r : 512 * n ≤ length (drop 512 xs) = simp length-drop (omega arith) in
    ap (λ x. page_message x ∷ pages_of n (drop 512 (xs ++ ys))) (take-append-le 512 xs ys l)
    ∙ ap (λ x. page_message (take 512 xs) ∷ x) (ap (pages_of n) (drop-append-le 512 xs ys l) ∙ pages_front n (drop 512 xs) ys r)

pub pages_take : (n j : ℕ) (bs : List ℕ) → 512 * n ≤ j → j ≤ length bs → pages_of n (take j bs) ≡ pages_of n bs
pages_take n j bs h l =
    let e : length (take j bs) ≡ j = length-take-le j bs l in
    sym (pages_front n (take j bs) (drop j bs) (omega arith)) ∙ ap (pages_of n) (take-append-drop j bs)

pub page_at : (n k : ℕ) (bs : List ℕ) → k < n → get_or (pages_of n bs) k [] ≡ page_message (take 512 (drop (512 * k) bs))
page_at zero k bs h = absurd (omega arith)
page_at (suc n) zero bs h = refl
page_at (suc n) (suc k) bs h =
    let f : 512 + 512 * k ≡ 512 * suc k = omega arith in
    page_at n k (drop 512 bs) (omega arith) ∙ ap (λ x. page_message (take 512 x)) (drop-drop (512 * k) 512 bs ∙ ap (λ x. drop x bs) f)

pub counted_pages : (n : ℕ) (bs : List ℕ) → counted (pages_of n bs) ≡ min n 65535
counted_pages n bs = ap (λ x. min x 65535) (length_pages n bs)

-- one page more
pub put_pages : (held : ℕ) (m bs : List ℕ) → 512 * held + 512 ≤ length bs → length (page_of m) ≡ 512 → page_message (page_of m) ≡ m → pages_of (held + 1) (paste bs (512 * held) (page_of m) 512) ≡ pages_of held bs ++ (m ∷ [])
put_pages held m bs room l back =
    let a = take (512 * held) bs in
    let p = page_of m in
    let r = drop (512 * held + 512) bs in
    let la : length a ≡ 512 * held = length-take-le (512 * held) bs (omega arith) in
    let tp : take 512 p ≡ p = take_all 512 p (omega arith) in
    let new : paste bs (512 * held) p 512 ≡ a ++ (p ++ r) = ap (λ x. (a ++ x) ++ r) tp ∙ append_assoc a p r in
    let one : pages_of 1 (p ++ r) ≡ m ∷ [] = ap (λ x. page_message x ∷ []) (take_at p r 512 l) ∙ ap (λ x. x ∷ []) back in
    ap (pages_of (held + 1)) new ∙ pages_add held 1 (a ++ (p ++ r))
    ∙ ap (λ x. x ++ pages_of 1 (drop (512 * held) (a ++ (p ++ r)))) (pages_front held a (p ++ r) (omega arith) ∙ pages_take held (512 * held) bs (omega arith) (omega arith))
    ∙ ap (λ x. pages_of held bs ++ pages_of 1 x) (drop_at a (p ++ r) (512 * held) la)
    ∙ ap (λ x. pages_of held bs ++ x) one

-- taking and dropping messages
pub take_pages : (n k : ℕ) (bs : List ℕ) → k ≤ n → take k (pages_of n bs) ≡ pages_of k bs
take_pages n zero bs h = refl
take_pages zero (suc k) bs h = absurd (omega arith)
take_pages (suc n) (suc k) bs h = ap (λ x. page_message (take 512 bs) ∷ x) (take_pages n k (drop 512 bs) (omega arith))

pub drop_pages : (n k : ℕ) (bs : List ℕ) → drop k (pages_of n bs) ≡ pages_of (n - k) (drop (512 * k) bs)
drop_pages n zero bs = let e : n ≡ n - 0 = omega arith in ap (λ x. pages_of x bs) e
drop_pages zero (suc k) bs = let e : 0 ≡ 0 - suc k = omega arith in ap (λ x. pages_of x (drop (512 * suc k) bs)) e
drop_pages (suc n) (suc k) bs =
    let f : 512 + 512 * k ≡ 512 * suc k = omega arith in
    let g : n - k ≡ suc n - suc k = omega arith in
    drop_pages n k (drop 512 bs) ∙ ap (pages_of (n - k)) (drop-drop (512 * k) 512 bs ∙ ap (λ x. drop x bs) f) ∙ ap (λ x. pages_of x (drop (512 * suc k) bs)) g

-- the bytes after the pages past page k were moved down, and the last used page was zeroed
abbrev pub moved_down : ℕ → ℕ → List ℕ → List ℕ
moved_down k held bs = paste (paste bs (512 * k) (drop (512 * (k + 1)) bs) (512 * (held - (k + 1)))) (512 * (held - 1)) (replicate 512 0) 512

pub closed_pages : (k held : ℕ) (bs : List ℕ) → k < held → 512 * held ≤ length bs → pages_of (held - 1) (moved_down k held bs) ≡ remove (pages_of held bs) k
closed_pages k held bs h l =
    let d = drop (512 * (k + 1)) bs in
    let j = 512 * (held - (k + 1)) in
    let one = paste bs (512 * k) d j in
    let ld : j ≤ length d = simp length-drop (omega arith) in
    let lo : length one ≡ length bs = length-paste bs (512 * k) d j (omega arith) ld in
    let e : 512 * (held - 1) ≡ 512 * k + j = omega arith in
    let a = take (512 * k) bs in
    let b = take j d in
    let la : length a ≡ 512 * k = length-take-le (512 * k) bs (omega arith) in
    let lb : length b ≡ j = length-take-le j d ld in
    let t : take (512 * (held - 1)) (moved_down k held bs) ≡ a ++ b =
    take_at_paste one (512 * (held - 1)) (replicate 512 0) 512 (omega arith) ∙ ap (λ x. take x one) e ∙ take-paste bs (512 * k) d j (omega arith) ld in
    let lc : length (moved_down k held bs) ≡ length one = length-paste one (512 * (held - 1)) (replicate 512 0) 512 (omega arith) (omega (arith, length-replicate {A = ℕ} 512 0)) in
    let n : held - 1 ≡ k + (held - (k + 1)) = omega arith in
    sym (pages_take (held - 1) (512 * (held - 1)) (moved_down k held bs) (omega arith) (omega arith))
    ∙ ap (pages_of (held - 1)) t
    ∙ ap (λ x. pages_of x (a ++ b)) n
    ∙ pages_add k (held - (k + 1)) (a ++ b)
    ∙ ap (λ x. x ++ pages_of (held - (k + 1)) (drop (512 * k) (a ++ b))) (pages_front k a b (omega arith) ∙ pages_take k (512 * k) bs (omega arith) (omega arith))
    ∙ ap (λ x. pages_of k bs ++ pages_of (held - (k + 1)) x) (drop_at a b (512 * k) la)
    ∙ ap (λ x. pages_of k bs ++ x) (pages_take (held - (k + 1)) j d (omega arith) ld ∙ tail)
    ∙ ap (λ x. x ++ drop (suc k) (pages_of held bs)) (sym (take_pages held k bs (omega arith)))
  where
    tail : pages_of (held - (k + 1)) (drop (512 * (k + 1)) bs) ≡ drop (suc k) (pages_of held bs)
    tail = ap (λ x. pages_of (held - x) (drop (512 * x) bs)) (add-one k) ∙ sym (drop_pages held (suc k) bs)

    take_at_paste : (d : List ℕ) (at : ℕ) (s : List ℕ) (n : ℕ) → at ≤ length d → take at (paste d at s n) ≡ take at d
    take_at_paste d at s n g = ap (take at) (append_assoc (take at d) (take n s) (drop (at + n) d)) ∙ take_at (take at d) (take n s ++ drop (at + n) d) at (length-take-le at d g)

pub length_closed : (k held : ℕ) (bs : List ℕ) → k < held → 512 * held ≤ length bs → length (moved_down k held bs) ≡ length bs
length_closed k held bs h l =
    let d = drop (512 * (k + 1)) bs in
    let j = 512 * (held - (k + 1)) in
    let ld : j ≤ length d = simp length-drop (omega arith) in
    let lo = length-paste bs (512 * k) d j (omega arith) ld in
    length-paste (paste bs (512 * k) d j) (512 * (held - 1)) (replicate 512 0) 512 (omega (arith, lo)) (omega (arith, length-replicate {A = ℕ} 512 0)) ∙ lo

pub moved_down_is : (k held : ℕ) (bs : List ℕ) → k < held → 512 * held ≤ length bs → moved_down k held bs ≡ page_closed k held bs
moved_down_is k held bs h l =
    let d = drop (512 * (k + 1)) bs in
    let j = 512 * (held - (k + 1)) in
    let ld : j ≤ length d = simp length-drop (omega arith) in
    let one : paste bs (512 * k) d j ≡ put bs (512 * k) (take j d) = paste_put bs (512 * k) d (take j d) j refl (sym (length-take-le j d ld)) in
    paste_put (paste bs (512 * k) d j) (512 * (held - 1)) (replicate 512 0) (replicate 512 0) 512 (take_all 512 (replicate 512 0) (omega (arith, length-replicate {A = ℕ} 512 0))) (sym (length-replicate {A = ℕ} 512 0))
    ∙ ap (λ x. put x (512 * (held - 1)) (replicate 512 0)) one

-- so they are where the pages have been moved one by one, and the last is filled
pub closed_is : (k held : ℕ) (bs moved zeros : List ℕ) → k < held → 512 * held ≤ length bs → moved ≡ paste bs (512 * k) (drop (512 * (k + 1)) bs) (512 * (held - 1 - k)) → zeros ≡ replicate 512 0 → put_mid (512 * (held - 1)) (512 * held - 512 * (held - 1)) moved zeros ≡ page_closed k held bs
closed_is k held bs moved zeros h l em ez =
    let j : 512 * (held - 1 - k) ≡ 512 * (held - (k + 1)) = omega arith in
    let one : moved ≡ paste bs (512 * k) (drop (512 * (k + 1)) bs) (512 * (held - (k + 1))) = em ∙ ap (paste bs (512 * k) (drop (512 * (k + 1)) bs)) j in
    put_mid-paste (512 * (held - 1)) (512 * held - 512 * (held - 1)) moved zeros (replicate 512 0) 512 ez (omega arith) (sym (length-replicate {A = ℕ} 512 0))
    ∙ ap (λ x. paste x (512 * (held - 1)) (replicate 512 0) 512) one
    ∙ moved_down_is k held bs h l
