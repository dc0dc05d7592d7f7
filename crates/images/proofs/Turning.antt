-- The words of bytes turned round, one by one. Assumes nothing.
use Rattle.std.proofs.Common.{◌≡◌, ℕ, zero, suc, ◌+◌, ◌-◌, ◌*◌, ◌<◌, ◌≤◌, List, [], ◌∷◌, ◌++◌, reverse, length, get_or, take, drop, sym, refl, ap, ◌∙◌, append_assoc, arith}
use borrow.Rule.Slice.PartMut.{put_mid}
use Rattle.std.proofs.lemmas.List.{length-drop, length-take-le, length-reverse, drop-drop, take-append-drop}
use Rattle.std.proofs.lemmas.Slice.{take-put_mid, drop-put_mid}
use Rattle.layouts.specs.Pages.{be_bytes, bytes_of}
use Rattle.images.specs.Turns.{turned, foreign_of}

pub turned_twice : (bs : List ℕ) → turned (turned bs) ≡ bs
turned_twice [] = refl
turned_twice (a ∷ []) = refl
turned_twice (a ∷ b ∷ []) = refl
turned_twice (a ∷ b ∷ c ∷ []) = refl
turned_twice (a ∷ b ∷ c ∷ d ∷ bs) = ap (λ x. a ∷ b ∷ c ∷ d ∷ x) (turned_twice bs)

pub turned_words : (ws : List ℕ) → turned (bytes_of ws) ≡ foreign_of ws
turned_words [] = refl
turned_words (w ∷ ws) = ap (λ x. be_bytes w ++ x) (turned_words ws)

pub length_turned : (bs : List ℕ) → length (turned bs) ≡ length bs
length_turned [] = refl
length_turned (a ∷ []) = refl
length_turned (a ∷ b ∷ []) = refl
length_turned (a ∷ b ∷ c ∷ []) = refl
length_turned (a ∷ b ∷ c ∷ d ∷ bs) = ap (λ n. suc (suc (suc (suc n)))) (length_turned bs)

-- the first four bytes
pub turned_at : (bs : List ℕ) (i : ℕ) → 4 ≤ length bs → i < 4 → get_or (turned bs) i 0 ≡ get_or bs (3 - i) 0
turned_at [] i h l = absurd (omega arith)
turned_at (a ∷ []) i h l = absurd (omega arith)
turned_at (a ∷ b ∷ []) i h l = absurd (omega arith)
turned_at (a ∷ b ∷ c ∷ []) i h l = absurd (omega arith)
turned_at (a ∷ b ∷ c ∷ d ∷ bs) zero h l = refl
turned_at (a ∷ b ∷ c ∷ d ∷ bs) (suc zero) h l = refl
turned_at (a ∷ b ∷ c ∷ d ∷ bs) (suc (suc zero)) h l = refl
turned_at (a ∷ b ∷ c ∷ d ∷ bs) (suc (suc (suc zero))) h l = refl
turned_at (a ∷ b ∷ c ∷ d ∷ bs) (suc (suc (suc (suc i)))) h l = absurd (omega arith)

-- the first word
turned_word : (bs : List ℕ) → 4 ≤ length bs → turned bs ≡ reverse (take 4 bs) ++ turned (drop 4 bs)
turned_word [] h = absurd (omega arith)
turned_word (a ∷ []) h = absurd (omega arith)
turned_word (a ∷ b ∷ []) h = absurd (omega arith)
turned_word (a ∷ b ∷ c ∷ []) h = absurd (omega arith)
turned_word (a ∷ b ∷ c ∷ d ∷ bs) h = refl

-- no whole word
pub turned_few : (bs : List ℕ) → length bs < 4 → turned bs ≡ bs
turned_few [] h = refl
turned_few (a ∷ []) h = refl
turned_few (a ∷ b ∷ []) h = refl
turned_few (a ∷ b ∷ c ∷ []) h = refl
turned_few (a ∷ b ∷ c ∷ d ∷ bs) h = absurd (omega arith)

-- word i, after the words before it
pub turned_more : (bs new : List ℕ) (i k : ℕ) → 4 * i + 4 ≤ length bs → k ≡ 4 → new ≡ reverse (take k (drop (4 * i) bs)) → take (4 * i) bs ++ turned (drop (4 * i) bs) ≡ take (4 * (i + 1)) (put_mid (4 * i) k bs new) ++ turned (drop (4 * (i + 1)) (put_mid (4 * i) k bs new))
turned_more bs new i k room ek is =
    let d = drop (4 * i) bs in
    let ld : 4 ≤ length d = simp length-drop (omega arith) in
    let long : length new ≡ k = ap length is ∙ length-reverse (take k d) ∙ length-take-le k d (omega arith) in
    let w : turned d ≡ new ++ turned (drop 4 d) = turned_word d ld ∙ ap (λ x. reverse (take x d) ++ turned (drop 4 d)) (sym ek) ∙ ap (λ x. x ++ turned (drop 4 d)) (sym is) in
    let t : take (4 * (i + 1)) (put_mid (4 * i) k bs new) ≡ take (4 * i) bs ++ new = take-put_mid (4 * i) k bs new (4 * (i + 1)) (omega arith) (omega arith) in
    let j : 4 * i + 4 ≡ 4 * (i + 1) = omega arith in
    let r : drop (4 * (i + 1)) (put_mid (4 * i) k bs new) ≡ drop 4 d = drop-put_mid (4 * i) k bs new (4 * (i + 1)) (omega arith) (omega arith) long ∙ ap (λ x. drop x bs) (sym j) ∙ sym (drop-drop 4 (4 * i) bs) in
    ap (λ x. take (4 * i) bs ++ x) w ∙ sym (append_assoc (take (4 * i) bs) new (turned (drop 4 d))) ∙ ap (λ x. x ++ turned (drop 4 d)) (sym t) ∙ ap (λ x. take (4 * (i + 1)) (put_mid (4 * i) k bs new) ++ turned x) (sym r)

pub turned_end : (bs : List ℕ) (i : ℕ) → length bs < 4 * i + 4 → take (4 * i) bs ++ turned (drop (4 * i) bs) ≡ bs
turned_end bs i h =
    let ld : length (drop (4 * i) bs) < 4 = simp length-drop (omega arith) in
    ap (λ x. take (4 * i) bs ++ x) (turned_few (drop (4 * i) bs) ld) ∙ take-append-drop (4 * i) bs
