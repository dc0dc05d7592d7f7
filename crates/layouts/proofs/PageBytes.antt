-- The bytes of a page, and the words that they are read as. Assumes nothing.
use Rattle.std.proofs.Common.{◌≡◌, ℕ, zero, suc, ◌+◌, ◌-◌, ◌*◌, ◌/◌, ◌%◌, ◌^◌, ◌<◌, ◌≤◌, List, [], ◌∷◌, ◌++◌, length, get_or, take, drop, replicate, sym, refl, ap, ◌∙◌, append_assoc, add_assoc, zero-add, add-zero, mul-zero, mul-suc, arith, lit<}
use native.Mathlib.Nat.{div-div-eq-div-mul}
use lib.Seq.{paste}
use borrow.Rule.Slice.PartMut.{put_mid}
use Rattle.std.specs.Int.{w32, from_le_bytes}
use Rattle.std.specs.Simd.{first_chunks}
use Rattle.std.proofs.lemmas.List.{append-nil, length-append, length-take-le, length-drop, drop-drop, take_at, drop_at, length-replicate, drop-replicate, take_more, get_or-drop, get_or-take, take-take}
use Rattle.std.proofs.lemmas.List.Edits.{take-paste, drop-paste}
use Rattle.layouts.specs.Rows.{head}
use Rattle.layouts.specs.Pages.{le_bytes, bytes_of, words_of, word_at, page_length, page_message, page_of}

pub length_bytes_of : (m : List ℕ) → length (bytes_of m) ≡ 4 * length m
length_bytes_of [] = refl
length_bytes_of (w ∷ m) = let e = length_bytes_of m in omega arith

pub bytes_of_append : (a b : List ℕ) → bytes_of (a ++ b) ≡ bytes_of a ++ bytes_of b
bytes_of_append [] b = refl
bytes_of_append (w ∷ a) b = ap (λ x. le_bytes w ++ x) (bytes_of_append a b)

-- one word more, in the zero bytes behind the words before it
pub pack_more : (h m page w : List ℕ) (i a k : ℕ) → length h ≡ 4 → i < length m → length m ≤ 127 → a ≡ 4 + 4 * i → k ≡ 4 → page ≡ h ++ (bytes_of (take i m) ++ replicate (508 - 4 * i) 0) → w ≡ le_bytes (get_or m i 0) → put_mid a k page w ≡ h ++ (bytes_of (take (i + 1) m) ++ replicate (508 - 4 * (i + 1)) 0)
pack_more h m page w i a k lh li lm ea ek ep ew =
    let b = bytes_of (take i m) in
    let r : List ℕ = replicate (508 - 4 * i) 0 in
    let lt : length (take i m) ≡ i = length-take-le i m (omega arith) in
    let lb : length (h ++ b) ≡ a = omega (arith, length-append h b, length_bytes_of (take i m)) in
    let e : page ≡ (h ++ b) ++ r = ep ∙ sym (append_assoc h b r) in
    let f : 508 - 4 * i - k ≡ 508 - 4 * (i + 1) = omega arith in
    let t : take a page ≡ h ++ b = ap (take a) e ∙ take_at (h ++ b) r a lb in
    let d : drop a page ≡ r = ap (drop a) e ∙ drop_at (h ++ b) r a lb in
    let z : drop k (drop a page) ≡ replicate (508 - 4 * (i + 1)) 0 = ap (drop k) d ∙ drop-replicate k (508 - 4 * i) 0 ∙ ap (λ x. replicate x 0) f in
    let n : bytes_of (take (i + 1) m) ≡ b ++ le_bytes (get_or m i 0) = ap bytes_of (take_more m i 0 li) ∙ bytes_of_append (take i m) (get_or m i 0 ∷ []) ∙ ap (λ x. b ++ x) (append-nil (le_bytes (get_or m i 0))) in
    ap (λ x. x ++ (w ++ drop k (drop a page))) t ∙ ap (λ x. (h ++ b) ++ (x ++ drop k (drop a page))) ew ∙ ap (λ x. (h ++ b) ++ (le_bytes (get_or m i 0) ++ x)) z
    ∙ append_assoc h b (le_bytes (get_or m i 0) ++ replicate (508 - 4 * (i + 1)) 0)
    ∙ ap (λ x. h ++ x) (sym (append_assoc b (le_bytes (get_or m i 0)) (replicate (508 - 4 * (i + 1)) 0)) ∙ ap (λ x. x ++ replicate (508 - 4 * (i + 1)) 0) (sym n))

pub length_packed : (h m : List ℕ) (i : ℕ) → length h ≡ 4 → i ≤ length m → length m ≤ 127 → length (h ++ (bytes_of (take i m) ++ replicate (508 - 4 * i) 0)) ≡ 512
length_packed h m i lh li lm =
    let lt : length (take i m) ≡ i = length-take-le i m li in
    omega (arith, length-append h (bytes_of (take i m) ++ replicate (508 - 4 * i) 0), length-append (bytes_of (take i m)) (replicate (508 - 4 * i) 0), length_bytes_of (take i m), length-replicate {A = ℕ} (508 - 4 * i) 0)

pub length_page_of : (m : List ℕ) → length m ≤ 127 → length (page_of m) ≡ 512
length_page_of m lm = omega (arith, length-append (bytes_of m) (replicate (508 - 4 * length m) 0), length_bytes_of m, length-replicate {A = ℕ} (508 - 4 * length m) 0)

-- a word comes back from its bytes
word_back : (w : ℕ) → w < 2 ^ 32 → w % 256 + w / 256 % 256 * 256 + w / 65536 % 256 * 65536 + w / 16777216 % 256 * 16777216 ≡ w
word_back w h =
    let a = w / 256 in
    let b = w / 256 / 256 in
    let d = w / 256 / 256 / 256 in
    let eb : w / 65536 ≡ w / 256 / 256 = sym (div-div-eq-div-mul w 256 256) in
    let ed : w / 16777216 ≡ w / 256 / 256 / 256 = sym (div-div-eq-div-mul w 65536 256) ∙ ap (λ x. x / 256) eb in
    let h1 : w ≡ 256 * (w / 256) + w % 256 = omega arith in
    let h2 : w / 256 ≡ 256 * (w / 256 / 256) + w / 256 % 256 = omega arith in
    let h3 : w / 256 / 256 ≡ 256 * (w / 256 / 256 / 256) + w / 256 / 256 % 256 = omega arith in
    let h4 : w / 256 / 256 / 256 % 256 ≡ w / 256 / 256 / 256 = last_digit w h in
    rw (eb, ed) (joined_digits w (w / 256) (w / 256 / 256) (w / 256 / 256 / 256) (w % 256) (w / 256 % 256) (w / 256 / 256 % 256) (w / 256 / 256 / 256 % 256) h1 h2 h3 h4)
  where
    joined_digits : (w a b d p q r s : ℕ) → w ≡ 256 * a + p → a ≡ 256 * b + q → b ≡ 256 * d + r → s ≡ d → p + q * 256 + r * 65536 + s * 16777216 ≡ w
    joined_digits w a b d p q r s h1 h2 h3 h4 = omega arith

    last_digit : (w : ℕ) → w < 2 ^ 32 → w / 256 / 256 / 256 % 256 ≡ w / 256 / 256 / 256
    last_digit w h = let lt : w / 256 / 256 / 256 < 256 = omega arith in omega arith

pub words_back : (m rest : List ℕ) → ((i : ℕ) → get_or m i 0 < 2 ^ 32) → words_of (length m) (bytes_of m ++ rest) ≡ m
words_back [] rest h = refl
words_back (w ∷ m) rest h = ap (λ x. x ∷ words_of (length m) (bytes_of m ++ rest)) (word_back w (h 0)) ∙ ap (λ x. w ∷ x) (words_back m rest (λ i. h (suc i)))

-- the page head of a message's page
pub page_head : (m : List ℕ) → length m ≤ 127 → word_at (page_of m) 0 ≡ head (length m)
page_head m b = word_back (head (length m)) (below (length m) b)
  where
    below : (n : ℕ) → n ≤ 127 → head n < 2 ^ 32
    below n h = omega arith

pub page_size : (m : List ℕ) → length m ≤ 127 → page_length (page_of m) ≡ length m
page_size m b = ap (λ x. x % 256) (page_head m b) ∙ low (length m) b
  where
    low : (n : ℕ) → n ≤ 127 → head n % 256 ≡ n
    low n h = omega arith

pub page_back : (m : List ℕ) → length m ≤ 127 → ((i : ℕ) → get_or m i 0 < 2 ^ 32) → page_message (page_of m) ≡ m
page_back m b h =
    ap (λ x. words_of x (bytes_of m ++ replicate (508 - 4 * length m) 0)) (page_size m b) ∙ words_back m (replicate (508 - 4 * length m) 0) h

-- a word of the bytes past the first ones
pub word_at_drop : (bs : List ℕ) (a p q : ℕ) → a + p ≡ q → word_at (drop a bs) p ≡ word_at bs q
word_at_drop bs a p q e =
    let e1 : a + (p + 1) ≡ q + 1 = omega arith in
    let e2 : a + (p + 2) ≡ q + 2 = omega arith in
    let e3 : a + (p + 3) ≡ q + 3 = omega arith in
    let g0 = get_or-drop a bs p 0 ∙ ap (λ x. get_or bs x 0) e in
    let g1 = get_or-drop a bs (p + 1) 0 ∙ ap (λ x. get_or bs x 0) e1 in
    let g2 = get_or-drop a bs (p + 2) 0 ∙ ap (λ x. get_or bs x 0) e2 in
    let g3 = get_or-drop a bs (p + 3) 0 ∙ ap (λ x. get_or bs x 0) e3 in
    omega (arith, g0, g1, g2, g3)

-- word i of these bytes
pub words_of_at : (n i : ℕ) (bs : List ℕ) → i < n → get_or (words_of n bs) i 0 ≡ word_at bs (4 * i)
words_of_at zero i bs h = absurd (omega arith)
words_of_at (suc n) zero bs h = refl
words_of_at (suc n) (suc i) bs h = let e : 4 + 4 * i ≡ 4 * suc i = omega arith in words_of_at n i (drop 4 bs) (omega arith) ∙ word_at_drop bs 4 (4 * i) (4 * suc i) e

take-add : (j n : ℕ) (xs : List ℕ) → take (j + n) xs ≡ take j xs ++ take n (drop j xs)
take-add zero n xs = ap (λ x. take x xs) (zero-add n)
take-add (suc j) n [] = take_nil (suc j + n) ∙ sym (take_nil n)
  where
    take_nil : (k : ℕ) → take {A = ℕ} k [] ≡ []
    take_nil zero = refl
    take_nil (suc k) = refl
take-add (suc j) n (x ∷ xs) = let e : suc j + n ≡ suc (j + n) = omega arith in ap (λ k. take k (x ∷ xs)) e ∙ ap (λ r. x ∷ r) (take-add j n xs)

pub paste_cut : (d : List ℕ) (at : ℕ) (s : List ℕ) (n : ℕ) → paste d at (take n s) n ≡ paste d at s n
paste_cut d at s n = ap (λ x. (take at d ++ x) ++ drop (at + n) d) (take-take n n s (omega arith))

drop_past_paste : (d : List ℕ) (at : ℕ) (s : List ℕ) (n q : ℕ) → at + n ≤ q → at ≤ length d → n ≤ length s → drop q (paste d at s n) ≡ drop q d
drop_past_paste d at s n q h l r =
    let e : at + n + (q - (at + n)) ≡ q = omega arith in
    ap (λ x. drop x (paste d at s n)) (sym e) ∙ sym (drop-drop (q - (at + n)) (at + n) (paste d at s n))
    ∙ ap (drop (q - (at + n))) (drop-paste d at s n l r) ∙ drop-drop (q - (at + n)) (at + n) d ∙ ap (λ x. drop x d) e

-- one block more moved down, from `from` to `to`
pub move_block : (b now new : List ℕ) (to from j n : ℕ) → to ≤ from → from + j + n ≤ length b → now ≡ paste b to (drop from b) j → new ≡ paste now (to + j) (drop (from + j) now) n → new ≡ paste b to (drop from b) (j + n)
move_block b now new to from j n h l e f =
    let d = drop from b in
    let ld : j ≤ length d = simp length-drop (omega arith) in
    let p = paste b to d j in
    let t : take (to + j) p ≡ take to b ++ take j d = take-paste b to d j (omega arith) ld in
    let q : drop (from + j) p ≡ drop j d = drop_past_paste b to d j (from + j) (omega arith) (omega arith) ld ∙ sym (drop-drop j from b) in
    let r : drop (to + j + n) p ≡ drop (to + (j + n)) b = drop_past_paste b to d j (to + j + n) (omega arith) (omega arith) ld ∙ ap (λ x. drop x b) (add_assoc to j n) in
    f ∙ ap (λ x. paste x (to + j) (drop (from + j) x) n) e
    ∙ ap (λ x. (take (to + j) p ++ take n x) ++ drop (to + j + n) p) q
    ∙ ap (λ x. (x ++ take n (drop j d)) ++ drop (to + j + n) p) t
    ∙ ap (λ x. ((take to b ++ take j d) ++ take n (drop j d)) ++ x) r
    ∙ ap (λ x. x ++ drop (to + (j + n)) b) (append_assoc (take to b) (take j d) (take n (drop j d)) ∙ ap (λ x. take to b ++ x) (sym (take-add j n d)))

-- chunk i of n bytes
pub chunk_at : (n k i : ℕ) (bs d : List ℕ) → i < k → get_or (first_chunks n k bs) i d ≡ take n (drop (n * i) bs)
chunk_at n zero i bs d h = absurd (omega arith)
chunk_at n (suc k) zero bs d h = ap (λ j. take n (drop j bs)) (sym (mul-zero n))
chunk_at n (suc k) (suc i) bs d h =
    let e : n + n * i ≡ n * suc i = omega (arith, mul-suc n i) in
    chunk_at n k i (drop n bs) d (omega arith) ∙ ap (take n) (drop-drop (n * i) n bs ∙ ap (λ j. drop j bs) e)

-- the word of four bytes
pub word_of_four : (bs : List ℕ) (p : ℕ) → from_le_bytes w32 (take 4 (drop p bs)) ≡ word_at bs p
word_of_four bs p =
    let at : (i : ℕ) → i < 4 → get_or (take 4 (drop p bs)) i 0 ≡ get_or bs (p + i) 0 = λ i h. get_or-take 4 (drop p bs) i 0 h ∙ get_or-drop p bs i 0 in
    let a = at 0 (lit< tt) ∙ ap (λ i. get_or bs i 0) (add-zero p) in
    omega (arith, a, at 1 (lit< tt), at 2 (lit< tt), at 3 (lit< tt))

-- word i after the first, where bytes are cut into words
pub word_after : (bs d : List ℕ) (words : List (List ℕ)) (k n i : ℕ) → words ≡ first_chunks 4 k bs → i < n → n < k → from_le_bytes w32 (get_or (take (1 + n - 1) (drop 1 words)) i d) ≡ word_at bs (4 + 4 * i)
word_after bs d words k n i e h l =
    let j : 4 * (1 + i) ≡ 4 + 4 * i = omega arith in
    let at : get_or (take (1 + n - 1) (drop 1 words)) i d ≡ take 4 (drop (4 * (1 + i)) bs) =
    get_or-take (1 + n - 1) (drop 1 words) i d (omega arith) ∙ get_or-drop 1 words i d ∙ ap (λ x. get_or x (1 + i) d) e ∙ chunk_at 4 k (1 + i) bs d (omega arith) in
    ap (from_le_bytes w32) at ∙ word_of_four bs (4 * (1 + i)) ∙ ap (word_at bs) j
