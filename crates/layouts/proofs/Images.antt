-- What the check accepts is the one writing of its messages, and every writing of messages is accepted. Assumes nothing.
use Rattle.std.proofs.Common.{◌≡◌, ℕ, zero, suc, ◌+◌, ◌-◌, ◌*◌, ◌/◌, ◌%◌, ◌^◌, ◌<◌, ◌≤◌, true, ◌&&◌, eqb, List, [], ◌∷◌, ◌++◌, length, get_or, take, drop, replicate, IfOk, Ok, Err, Result, sym, refl, ap, ◌∙◌, arith}
use native.Mathlib.Nat.{div-div-eq-div-mul}
use Rattle.std.specs.List.{AllByRecursion}
use Rattle.std.proofs.lemmas.List.{length-append, length-take-le, length-drop, length-replicate, take-append-drop, take_at, drop_at, drop-drop, get_or-drop, nil_from_length}
use Rattle.std.proofs.lemmas.Bool.{and_parts, and_from, eq-eqb, ne_eqb, le-leb, eqb-true, false≢true}
use Rattle.words.specs.declared.fault.Fault.{Fault}
use Rattle.words.specs.Words.{kind, formed, zero_run}
use Rattle.words.specs.Readings.{told}
use Rattle.mailboxes.specs.Mailboxes.{Message, sized}
use Rattle.layouts.specs.Rows.{head}
use Rattle.layouts.specs.Pages.{le_bytes, bytes_of, word_at, words_of, page_of, page_length, page_message, pages_of}
use Rattle.layouts.specs.PageLaws.{length_words_of, full_length, sound_messages}
use Rattle.layouts.specs.Mounts.{all_zero, well, full, mount_check, pages_sound, whole}
use Rattle.layouts.specs.Images.{image_of, Written, ImagesAccepted}
use Rattle.layouts.proofs.PageBytes.{length_page_of, page_back}
use Rattle.layouts.proofs.PageLists.{length_pages}
use Rattle.layouts.proofs.Mounts.{all_zero_replicate, page_full, sound_held, paged_parts, accepted, accepts}

-- bytes, each below 256
abbrev Small : List ℕ → Type 0
Small bs = (i : ℕ) → get_or bs i 0 < 256

small_drop : (k : ℕ) (bs : List ℕ) → Small bs → Small (drop k bs)
small_drop k bs s i = omega (arith, get_or-drop k bs i 0, s (k + i))

small_take : (k : ℕ) (bs : List ℕ) → Small bs → Small (take k bs)
small_take zero bs s i = omega arith
small_take (suc k) [] s i = omega arith
small_take (suc k) (b ∷ bs) s zero = s 0
small_take (suc k) (b ∷ bs) s (suc i) = small_take k bs (λ j. s (suc j)) i

-- the word of four bytes, the lowest first, has these bytes
four : (a b c d : ℕ) → a < 256 → b < 256 → c < 256 → d < 256 → le_bytes (a + b * 2 ^ 8 + c * 2 ^ 16 + d * 2 ^ 24) ≡ a ∷ b ∷ c ∷ d ∷ []
four a b c d sa sb sc sd =
    let w = a + b * 2 ^ 8 + c * 2 ^ 16 + d * 2 ^ 24 in
    let e0 : w % 256 ≡ a = omega arith in
    let q1 : w / 2 ^ 8 ≡ b + c * 2 ^ 8 + d * 2 ^ 16 = omega arith in
    let q2 : w / 2 ^ 16 ≡ c + d * 2 ^ 8 = omega arith in
    let q3 : w / 2 ^ 24 ≡ d = omega arith in
    let e1 : w / 2 ^ 8 % 256 ≡ b = ap (λ x. x % 256) q1 ∙ low b c d sb in
    let e2 : w / 2 ^ 16 % 256 ≡ c = ap (λ x. x % 256) q2 ∙ low2 c d sc in
    let e3 : w / 2 ^ 24 % 256 ≡ d = ap (λ x. x % 256) q3 ∙ low3 d sd in
    cc
  where
    low : (b c d : ℕ) → b < 256 → (b + c * 2 ^ 8 + d * 2 ^ 16) % 256 ≡ b
    low b c d s = omega arith

    low2 : (c d : ℕ) → c < 256 → (c + d * 2 ^ 8) % 256 ≡ c
    low2 c d s = omega arith

    low3 : (d : ℕ) → d < 256 → d % 256 ≡ d
    low3 d s = omega arith

-- the words of bytes have these bytes, and are of 32 bits
words_whole : (n : ℕ) (bs : List ℕ) → 4 * n ≤ length bs → Small bs → bytes_of (words_of n bs) ≡ take (4 * n) bs
words_whole zero bs l s = refl
words_whole (suc n) [] l s = absurd (omega arith)
words_whole (suc n) (a ∷ []) l s = absurd (omega arith)
words_whole (suc n) (a ∷ b ∷ []) l s = absurd (omega arith)
words_whole (suc n) (a ∷ b ∷ c ∷ []) l s = absurd (omega arith)
words_whole (suc n) (a ∷ b ∷ c ∷ d ∷ bs) l s =
    let j : 4 * suc n ≡ suc (suc (suc (suc (4 * n)))) = omega arith in
    ap (λ x. x ++ bytes_of (words_of n bs)) (four a b c d (s 0) (s 1) (s 2) (s 3))
    ∙ ap (λ x. a ∷ b ∷ c ∷ d ∷ x) (words_whole n bs (omega arith) (λ i. s (suc (suc (suc (suc i))))))
    ∙ ap (λ x. take x (a ∷ b ∷ c ∷ d ∷ bs)) (sym j)

words_small : (n : ℕ) (bs : List ℕ) → Small bs → AllByRecursion (λ w. w < 2 ^ 32) (words_of n bs)
words_small zero bs s = tt
words_small (suc n) bs s = (omega (arith, s 0, s 1, s 2, s 3), words_small n (drop 4 bs) (small_drop 4 bs s))

pages_small : (n : ℕ) (bs : List ℕ) → Small bs → AllByRecursion (AllByRecursion (λ w. w < 2 ^ 32)) (pages_of n bs)
pages_small zero bs s = tt
pages_small (suc n) bs s =
    let page = take 512 bs in
    (words_small (page_length page) (drop 4 page) (small_drop 4 page (small_take 512 bs s)), pages_small n (drop 512 bs) (small_drop 512 bs s))

zeros_are : (bs : List ℕ) → all_zero bs ≡ true → bs ≡ replicate (length bs) 0
zeros_are [] e = refl
zeros_are (b ∷ bs) e =
    let p = and_parts (eqb b 0) (all_zero bs) e in
    ap (λ x. x ∷ bs) (eqb-true b 0 p.0) ∙ ap (λ x. 0 ∷ x) (zeros_are bs p.1)

-- a page head of kind 15 is that of its length
head_is : (w : ℕ) → kind w ≡ 15 → formed w ≡ true → head (w % 256) ≡ w
head_is w k f =
    let z : w / 2 ^ 8 % 2 ^ 20 ≡ 0 = eqb-true (w / 2 ^ 8 % 2 ^ 20) 0 (sym (ap (λ x. eqb (w / 2 ^ (zero_run x).0 % 2 ^ (zero_run x).1) 0) k) ∙ f) in
    let t : w / 2 ^ 8 / 2 ^ 20 ≡ 15 = div-div-eq-div-mul w (2 ^ 8) (2 ^ 20) ∙ k in
    by w (w / 2 ^ 8) (omega arith) t z
  where
    by : (w q : ℕ) → w ≡ 256 * q + w % 256 → q / 2 ^ 20 ≡ 15 → q % 2 ^ 20 ≡ 0 → head (w % 256) ≡ w
    by w q e t z = let all : q ≡ 15 * 2 ^ 20 = omega arith in omega arith

-- a full page is the page of its message
page_whole : (page : List ℕ) → length page ≡ 512 → Small page → full page ≡ true → page_of (page_message page) ≡ page
page_whole page l s e =
    let w = word_at page 0 in
    let n = page_length page in
    let m = page_message page in
    let p = and_parts (eqb (kind w) 15) (well page) e in
    let q = and_parts (formed w) (sized n && all_zero (drop (4 + 4 * n) page)) p.1 in
    let zeros = (and_parts (sized n) (all_zero (drop (4 + 4 * n) page)) q.1).1 in
    let few : n ≤ 127 = (full_length page e).1 in
    let ln : length m ≡ n = length_words_of n (drop 4 page) in
    let ld : length (drop 4 page) ≡ 508 = simp length-drop (omega arith) in
    let tail = drop (4 + 4 * n) page in
    let lr : length tail ≡ 508 - 4 * n = simp length-drop (omega arith) in
    let z : tail ≡ replicate (508 - 4 * n) 0 = zeros_are tail zeros ∙ ap (λ x. replicate x 0) lr in
    let h : le_bytes (head n) ≡ take 4 page = ap le_bytes (head_is w (eqb-true (kind w) 15 p.0) q.0) ∙ words_whole 1 page (omega arith) s in
    let b : bytes_of m ≡ take (4 * n) (drop 4 page) = words_whole n (drop 4 page) (omega arith) (small_drop 4 page s) in
    let r : replicate (508 - 4 * n) 0 ≡ drop (4 * n) (drop 4 page) = sym (drop-drop (4 * n) 4 page ∙ z) in
    ap (λ x. le_bytes (head x) ++ (bytes_of m ++ replicate (508 - 4 * x) 0)) ln ∙ joined page (4 * n) (le_bytes (head n)) (bytes_of m) (replicate (508 - 4 * n) 0) h b r
  where
    joined : (page : List ℕ) (k : ℕ) (h b z : List ℕ) → h ≡ take 4 page → b ≡ take k (drop 4 page) → z ≡ drop k (drop 4 page) → h ++ (b ++ z) ≡ page
    joined page k h b z eh eb ez = cc (take-append-drop k (drop 4 page), take-append-drop 4 page)

-- sound pages are the image of their messages
sound_image : (n held : ℕ) (bs : List ℕ) → length bs ≡ 512 * n → Small bs → pages_sound n held bs ≡ true → bs ≡ image_of n (pages_of held bs)
sound_image zero zero bs l s e = nil_from_length bs l
sound_image zero (suc held) bs l s e = absurd (false≢true e)
sound_image (suc n) zero bs l s e =
    let p = and_parts (all_zero (take 512 bs)) (pages_sound n zero (drop 512 bs)) e in
    let lt : length (take 512 bs) ≡ 512 = length-take-le 512 bs (omega arith) in
    let ld : length (drop 512 bs) ≡ 512 * n = simp length-drop (omega arith) in
    sym (take-append-drop 512 bs)
    ∙ ap (λ x. x ++ drop 512 bs) (zeros_are (take 512 bs) p.0 ∙ ap (λ x. replicate x 0) lt)
    ∙ ap (λ x. replicate 512 0 ++ x) (sound_image n zero (drop 512 bs) ld (small_drop 512 bs s) p.1)
sound_image (suc n) (suc held) bs l s e =
    let p = and_parts (full (take 512 bs)) (pages_sound n held (drop 512 bs)) e in
    let lt : length (take 512 bs) ≡ 512 = length-take-le 512 bs (omega arith) in
    let ld : length (drop 512 bs) ≡ 512 * n = simp length-drop (omega arith) in
    sym (take-append-drop 512 bs)
    ∙ ap (λ x. x ++ drop 512 bs) (sym (page_whole (take 512 bs) lt (small_take 512 bs s) p.0))
    ∙ ap (λ x. page_of (page_message (take 512 bs)) ++ x) (sound_image n held (drop 512 bs) ld (small_drop 512 bs s) p.1)

-- what is accepted is the writing of its messages
exact : (bs : List ℕ) (held : ℕ) → Small bs → mount_check bs ≡ Ok held → Written bs held
exact bs held s e =
    let a = accepted bs held e in
    let p = paged_parts (length bs) a.0 in
    let n = length bs / 512 in
    let l : length bs ≡ 512 * n = omega (arith, p.2) in
    let lp = length_pages held bs in
    let h = sound_held n held bs a.1 in
    record {
      image = sound_image n held bs l s a.1;
      count = lp;
      writable = record {
        some = omega (arith, p.0);
        few = omega (arith, p.1);
        room = omega (arith, lp, h);
        messages = sound_messages n held bs a.1;
        words = pages_small held bs s;
      };
    }

pub written : (bs : List ℕ) (r : Result ℕ Fault) → ((i : ℕ) → get_or bs i 0 < 256) → told r ≡ mount_check bs → IfOk r (Written bs)
written bs (Ok held) s e = exact bs held s (sym e)
written bs (Err f) s e = tt

-- an image has its pages' length
length_image : (n : ℕ) (ms : List (List ℕ)) → AllByRecursion Message ms → length (image_of n ms) ≡ 512 * n
length_image zero ms a = refl
length_image (suc n) [] a =
    let ih = length_image n [] tt in
    omega (arith, length-append (replicate 512 0) (image_of n []), length-replicate {A = ℕ} 512 0)
length_image (suc n) (m ∷ ms) a =
    let ih = length_image n ms a.1 in
    omega (arith, length-append (page_of m) (image_of n ms), length_page_of m a.0.1)

-- it is of sound pages
image_sound : (n : ℕ) (ms : List (List ℕ)) → length ms ≤ n → AllByRecursion Message ms → pages_sound n (length ms) (image_of n ms) ≡ true
image_sound zero [] h a = refl
image_sound zero (m ∷ ms) h a = absurd (omega arith)
image_sound (suc n) [] h a =
    let z : List ℕ = replicate 512 0 in
    let rest = image_of n [] in
    and_from _ _ (ap all_zero (take_at z rest 512 (length-replicate {A = ℕ} 512 0)) ∙ all_zero_replicate 512)
    (ap (pages_sound n zero) (drop_at z rest 512 (length-replicate {A = ℕ} 512 0)) ∙ image_sound n [] (omega arith) tt)
image_sound (suc n) (m ∷ ms) h a =
    let l = length_page_of m a.0.1 in
    let rest = image_of n ms in
    and_from _ _ (ap full (take_at (page_of m) rest 512 l) ∙ page_full m a.0.0 a.0.1)
    (ap (pages_sound n (length ms)) (drop_at (page_of m) rest 512 l) ∙ image_sound n ms (omega arith) a.1)

-- and its messages read back
image_back : (n : ℕ) (ms : List (List ℕ)) → length ms ≤ n → AllByRecursion Message ms → AllByRecursion (AllByRecursion (λ w. w < 2 ^ 32)) ms → pages_of (length ms) (image_of n ms) ≡ ms
image_back n [] h a s = refl
image_back zero (m ∷ ms) h a s = absurd (omega arith)
image_back (suc n) (m ∷ ms) h a s =
    let l = length_page_of m a.0.1 in
    let rest = image_of n ms in
    ap (λ x. page_message x ∷ pages_of (length ms) (drop 512 (page_of m ++ rest))) (take_at (page_of m) rest 512 l)
    ∙ ap (λ x. page_message (page_of m) ∷ pages_of (length ms) x) (drop_at (page_of m) rest 512 l)
    ∙ ap (λ x. x ∷ pages_of (length ms) rest) (page_back m a.0.1 (within m s.0))
    ∙ ap (λ x. m ∷ x) (image_back n ms (omega arith) a.1 s.1)
  where
    within : (m : List ℕ) → AllByRecursion (λ w. w < 2 ^ 32) m → (i : ℕ) → get_or m i 0 < 2 ^ 32
    within [] s i = omega arith
    within (w ∷ m) s zero = s.0
    within (w ∷ m) s (suc i) = within m s.1 i

pub images_accepted : ImagesAccepted
images_accepted n ms w =
    let l = length_image n ms w.messages in
    let ne : n ≡ 0 → ⊥ = λ z. omega (arith, w.some) in
    let g : whole n (length (image_of n ms)) ≡ true = rw (ne_eqb n 0 ne, eq-eqb (512 * n) (length (image_of n ms)) (sym l), le-leb n 128 w.few) refl in
    ((accepts n (length ms) (image_of n ms) ne g (image_sound n ms w.room w.messages)).0, image_back n ms w.room w.messages w.words)
