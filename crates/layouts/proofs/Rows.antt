-- What the words of a word store hold, and what a put and a discard make of them. Assumes nothing.
use Rattle.std.proofs.Common.{◌≡◌, ℕ, zero, suc, ◌+◌, ◌-◌, ◌%◌, ◌<◌, ◌≤◌, Bool, true, ◌&&◌, ltb, leb, List, [], ◌∷◌, ◌++◌, length, get_or, take, drop, set, sym, refl, ap, ◌∙◌, append_assoc, arith, drop-cons}
use lib.Seq.{take-append_seam, drop-append_seam, paste}
use Rattle.std.specs.List.{remove, AllByRecursion}
use Rattle.std.proofs.lemmas.List.{append-nil, length-append, length-take-le, length-drop, take-append-drop, get_or_at, get_or-take, take-take, take_more, drop_at, take_at, length-set, take_more_set, take_all, drop-take}
use borrow.Rule.Slice.PartMut.{put_mid}
use Rattle.std.proofs.lemmas.Slice.{put_mid-paste}
use Rattle.std.proofs.lemmas.List.Edits.{take-paste, length-remove}
use Rattle.std.proofs.lemmas.Bool.{and_parts, and_from, leb-true, le-leb, cond-true, le-ltb, lt-ltb, eq-eqb}
use Rattle.mailboxes.specs.Mailboxes.{Message, sized, counted}
use Rattle.layouts.specs.Rows.{head, laid, parsed, sound, row_takes, row_put, row_discard, sized_from, sound_parsed}
use Rattle.mailboxes.specs.Overflows.{all_append}
use Rattle.words.specs.Writes.{put}
use Rattle.words.proofs.Writes.{put_step}

pub laid_append : (a b : List (List ℕ)) → laid (a ++ b) ≡ laid a ++ laid b
laid_append [] b = refl
laid_append (m ∷ a) b = ap (λ x. head (length m) ∷ x) (ap (λ x. m ++ x) (laid_append a b) ∙ sym (append_assoc m (laid a) (laid b)))

-- a page head has its message's length
head_length : (n : ℕ) → n ≤ 127 → head n % 256 ≡ n
head_length n h = omega arith

pub parsed_laid : (ms : List (List ℕ)) → AllByRecursion Message ms → parsed (length ms) (laid ms) ≡ ms
parsed_laid [] a = refl
parsed_laid (m ∷ ms) a =
    let e : head (length m) % 256 ≡ length m = head_length (length m) a.0.1 in
    rw (e, take-append_seam m (laid ms), drop-append_seam m (laid ms)) (ap (λ x. m ∷ x) (parsed_laid ms a.1))

pub sound_laid : (ms : List (List ℕ)) → AllByRecursion Message ms → sound (length ms) (laid ms) ≡ true
sound_laid [] a = refl
sound_laid (m ∷ ms) a =
    let e : head (length m) % 256 ≡ length m = head_length (length m) a.0.1 in
    let l : length m ≤ length (m ++ laid ms) = simp length-append (omega arith) in
    and_from _ _ (eq-eqb (head (length m)) (head (head (length m) % 256)) (ap head (sym e)))
    (rw (e, drop-append_seam m (laid ms))
    (and_from _ _ (sized_from (length m) a.0.0 a.0.1) (and_from _ _ (le-leb (length m) (length (m ++ laid ms)) l) (sound_laid ms a.1))))

-- the row of messages is known by the words that it is laid as
pub parsed_is : (n : ℕ) (ws : List ℕ) (ms : List (List ℕ)) → n ≡ length ms → ws ≡ laid ms → AllByRecursion Message ms → parsed n ws ≡ ms
parsed_is n ws ms e f a = rw (e, f) (parsed_laid ms a)

pub sound_is : (n : ℕ) (ws : List ℕ) (ms : List (List ℕ)) → n ≡ length ms → ws ≡ laid ms → AllByRecursion Message ms → sound n ws ≡ true
sound_is n ws ms e f a = rw (e, f) (sound_laid ms a)

pub split_at : (ms : List (List ℕ)) (k : ℕ) → k < length ms → ms ≡ take k ms ++ (get_or ms k [] ∷ drop (suc k) ms)
split_at ms k h = sym (take-append-drop k ms) ∙ ap (λ x. take k ms ++ x) (drop-cons ms k [] h)

pub laid_split : (ms : List (List ℕ)) (k : ℕ) → k < length ms → laid ms ≡ laid (take k ms) ++ (head (length (get_or ms k [])) ∷ (get_or ms k [] ++ laid (drop (suc k) ms)))
laid_split ms k h = ap laid (split_at ms k h) ∙ laid_append (take k ms) (get_or ms k [] ∷ drop (suc k) ms)

pub count_laid : (ms : List (List ℕ)) → length ms ≤ length (laid ms)
count_laid [] = omega arith
count_laid (m ∷ ms) = let h = count_laid ms in simp length-append (omega arith)

all_at : (P : List ℕ → Type 0) (xs : List (List ℕ)) (k : ℕ) (d : List ℕ) → k < length xs → AllByRecursion P xs → P (get_or xs k d)
all_at P [] k d h a = absurd (omega arith)
all_at P (x ∷ xs) zero d h a = a.0
all_at P (x ∷ xs) (suc k) d h a = all_at P xs k d (omega arith) a.1

all_take : (P : List ℕ → Type 0) (k : ℕ) (xs : List (List ℕ)) → AllByRecursion P xs → AllByRecursion P (take k xs)
all_take P zero xs a = tt
all_take P (suc k) [] a = tt
all_take P (suc k) (x ∷ xs) a = (a.0, all_take P k xs a.1)

all_drop : (P : List ℕ → Type 0) (k : ℕ) (xs : List (List ℕ)) → AllByRecursion P xs → AllByRecursion P (drop k xs)
all_drop P zero xs a = a
all_drop P (suc k) [] a = tt
all_drop P (suc k) (x ∷ xs) a = all_drop P k xs a.1

pub row_room : (all : ℕ) (ms : List (List ℕ)) (n : ℕ) → row_takes all ms n ≡ true → (all ≤ 4096) × (length (laid ms) + n + 1 ≤ all)
row_room all ms n e =
    let p = and_parts (sized n) (leb all 4096 && leb (length (laid ms) + n + 1) all) e in
    let q = and_parts (leb all 4096) (leb (length (laid ms) + n + 1) all) p.1 in
    (leb-true all 4096 q.0, leb-true (length (laid ms) + n + 1) all q.1)

-- what is pasted whole is put
pub paste_put : (d : List ℕ) (at : ℕ) (s part : List ℕ) (n : ℕ) → take n s ≡ part → n ≡ length part → paste d at s n ≡ put d at part
paste_put d at s part n e f = ap (λ x. (take at d ++ x) ++ drop (at + n) d) e ∙ append_assoc (take at d) part (drop (at + n) d) ∙ ap (λ x. take at d ++ (part ++ drop (at + x) d)) f

-- so is what a part of the words was made
pub mid_put : (d part ys : List ℕ) (at k : ℕ) → ys ≡ part → k ≡ length part → put_mid at k d ys ≡ put d at part
mid_put d part ys at k e f = put_mid-paste at k d ys part (length part) e (sym f) refl ∙ paste_put d at part part (length part) (take_all (length part) part (omega arith)) refl

-- a head and its message, written one after the other
pub put_memory : (fits : Bool) (ms : List (List ℕ)) (ws m new : List ℕ) (used : ℕ) → fits ≡ true → used ≡ length (laid ms) → used + length m + 1 ≤ length ws → new ≡ paste (set ws used (head (length m))) (used + 1) m (length m) → new ≡ row_put fits ms m ws
put_memory fits ms ws m new used fo eu room e =
    let h = head (length m) in
    let a : paste (set ws used h) (used + 1) m (length m) ≡ put (set ws used h) (used + 1) m = paste_put (set ws used h) (used + 1) m m (length m) (take_all (length m) m (omega arith)) refl in
    let b : put ws used (laid (m ∷ [])) ≡ put (set ws used h) (used + 1) m = ap (λ x. put ws used (h ∷ x)) (append-nil m) ∙ put_step ws used h m (omega arith) in
    let d : put ws (length (laid ms)) (laid (m ∷ [])) ≡ put ws used (laid (m ∷ [])) = ap (λ x. put ws x (laid (m ∷ []))) (sym eu) in
    e ∙ a ∙ sym b ∙ sym d ∙ sym (cond-true fits (put ws (length (laid ms)) (laid (m ∷ []))) ws fo)

pub discard_none : (k : ℕ) (ms : List (List ℕ)) (ws : List ℕ) → counted ms ≤ k → ws ≡ row_discard ms k ws
discard_none k ms ws h = rw (le-ltb k (counted ms) h) refl

-- a store whose used words are sound
module _ (ws : List ℕ) (used held : ℕ) (fit : used ≤ length ws) (ok : sound held (take used ws) ≡ true) where
  pub held_is : length (parsed held (take used ws)) ≡ held
  held_is = (sound_parsed held (take used ws) ok).1

  pub laid_is : laid (parsed held (take used ws)) ≡ take used ws
  laid_is = (sound_parsed held (take used ws) ok).0

  pub laid_length : length (laid (parsed held (take used ws))) ≡ used
  laid_length = ap length laid_is ∙ length-take-le used ws fit

  pub held_small : held ≤ used
  held_small = omega (arith, count_laid (parsed held (take used ws)), laid_length, held_is)

  pub counted_is : used ≤ 4096 → held ≡ counted (parsed held (take used ws))
  counted_is h = omega (arith, held_small, held_is)

  module _ (k : ℕ) (below : k < held) where
    words_split : take used ws ≡ laid (take k (parsed held (take used ws))) ++ (head (length (get_or (parsed held (take used ws)) k [])) ∷ (get_or (parsed held (take used ws)) k [] ++ laid (drop (suc k) (parsed held (take used ws)))))
    words_split = sym laid_is ∙ laid_split (parsed held (take used ws)) k (omega (arith, held_is))

    pub end_in : length (laid (take k (parsed held (take used ws)))) + 1 + length (get_or (parsed held (take used ws)) k []) ≤ used
    end_in =
        let ms = parsed held (take used ws) in
        let m = get_or ms k [] in
        let a = length-append (laid (take k ms)) (head (length m) ∷ (m ++ laid (drop (suc k) ms))) in
        let b = length-append m (laid (drop (suc k) ms)) in
        omega (arith, ap length words_split, length-take-le used ws fit, a, b)

    pub head_at : get_or ws (length (laid (take k (parsed held (take used ws))))) 0 ≡ head (length (get_or (parsed held (take used ws)) k []))
    head_at =
        let ms = parsed held (take used ws) in
        let m = get_or ms k [] in
        let lt : length (laid (take k ms)) < used = omega (arith, end_in) in
        sym (get_or-take used ws (length (laid (take k ms))) 0 lt)
        ∙ ap (λ x. get_or x (length (laid (take k ms))) 0) words_split
        ∙ get_or_at (laid (take k ms)) (head (length m)) (m ++ laid (drop (suc k) ms)) 0 (length (laid (take k ms))) refl

    pub next_place : length (laid (take (k + 1) (parsed held (take used ws)))) ≡ length (laid (take k (parsed held (take used ws)))) + (length (get_or (parsed held (take used ws)) k []) + 1)
    next_place =
        let ms = parsed held (take used ws) in
        let m = get_or ms k [] in
        let t : take (k + 1) ms ≡ take k ms ++ (m ∷ []) = take_more ms k [] (omega (arith, held_is)) in
        let b = length-append m (laid []) in
        ap (λ x. length (laid x)) t ∙ ap length (laid_append (take k ms) (m ∷ [])) ∙ length-append (laid (take k ms)) (laid (m ∷ [])) ∙ omega (arith, b)

    -- at the place of message k
    pub at_place : (p : ℕ) → p ≡ length (laid (take k (parsed held (take used ws)))) → (p + 1 + length (get_or (parsed held (take used ws)) k []) ≤ used) × (get_or ws p 0 ≡ head (length (get_or (parsed held (take used ws)) k []))) × (length (laid (take (k + 1) (parsed held (take used ws)))) ≡ p + (length (get_or (parsed held (take used ws)) k []) + 1))
    at_place p e = rw e (end_in, head_at, next_place)

    pub message_short : (1 ≤ length (get_or (parsed held (take used ws)) k [])) × (length (get_or (parsed held (take used ws)) k []) ≤ 127)
    message_short = all_at Message (parsed held (take used ws)) k [] (omega (arith, held_is)) (sound_parsed held (take used ws) ok).2

    -- the words of message k
    pub words_at : (p n : ℕ) → p ≡ length (laid (take k (parsed held (take used ws)))) → n ≡ length (get_or (parsed held (take used ws)) k []) → take n (drop (p + 1) ws) ≡ get_or (parsed held (take used ws)) k []
    words_at p n e f =
        let ms = parsed held (take used ws) in
        let m = get_or ms k [] in
        let a = laid (take k ms) in
        let b = laid (drop (suc k) ms) in
        let w : ws ≡ (a ++ (head (length m) ∷ (m ++ b))) ++ drop used ws = sym (take-append-drop used ws) ∙ ap (λ x. x ++ drop used ws) words_split in
        let g : ws ≡ (a ++ (head (length m) ∷ [])) ++ (m ++ (b ++ drop used ws)) = w ∙ simp append_assoc in
        let q : length (a ++ (head (length m) ∷ [])) ≡ p + 1 = omega (arith, length-append a (head (length m) ∷ []), e) in
        ap (λ x. take n (drop (p + 1) x)) g
        ∙ ap (take n) (drop_at (a ++ (head (length m) ∷ [])) (m ++ (b ++ drop used ws)) (p + 1) q)
        ∙ take_at m (b ++ drop used ws) n (sym f)

  -- a message put behind the used words
  pub put_laid : (m new : List ℕ) → used + length m + 1 ≤ length ws → new ≡ paste (set ws used (head (length m))) (used + 1) m (length m) → take (used + length m + 1) new ≡ laid (parsed held (take used ws) ++ (m ∷ []))
  put_laid m new room e =
      let ms = parsed held (take used ws) in
      let w = set ws used (head (length m)) in
      let j : used + length m + 1 ≡ used + 1 + length m = omega arith in
      let l : used + 1 ≤ length w = simp length-set (omega arith) in
      let a : take (used + 1 + length m) new ≡ take (used + 1) w ++ take (length m) m = ap (take (used + 1 + length m)) e ∙ take-paste w (used + 1) m (length m) l (omega arith) in
      let b : take (used + 1) w ≡ take used ws ++ (head (length m) ∷ []) = take_more_set ws used (head (length m)) (omega arith) in
      let d : take (length m) m ≡ m = take_all (length m) m (omega arith) in
      let f : laid (ms ++ (m ∷ [])) ≡ take used ws ++ (head (length m) ∷ m) = laid_append ms (m ∷ []) ∙ ap (λ x. x ++ laid (m ∷ [])) laid_is ∙ ap (λ x. take used ws ++ (head (length m) ∷ x)) (append-nil m) in
      ap (λ x. take x new) j ∙ a ∙ ap (λ x. x ++ take (length m) m) b ∙ ap (λ x. (take used ws ++ (head (length m) ∷ [])) ++ x) d ∙ append_assoc (take used ws) (head (length m) ∷ []) m ∙ sym f

  pub put_all : (m : List ℕ) → 1 ≤ length m → length m ≤ 127 → AllByRecursion Message (parsed held (take used ws) ++ (m ∷ []))
  put_all m a b = all_append Message (parsed held (take used ws)) (m ∷ []) (sound_parsed held (take used ws) ok).2 ((a, b), tt)

  pub put_count : (m : List ℕ) → held + 1 ≡ length (parsed held (take used ws) ++ (m ∷ []))
  put_count m = omega (arith, length-append (parsed held (take used ws)) (m ∷ []), held_is)

  module _ (k : ℕ) (below : k < held) (p n : ℕ) (p-is : p ≡ length (laid (take k (parsed held (take used ws))))) (n-is : n ≡ length (get_or (parsed held (take used ws)) k [])) where
    -- the words before message k
    pub front_laid : take p ws ≡ laid (take k (parsed held (take used ws)))
    front_laid =
        let ms = parsed held (take used ws) in
        let le : p ≤ used = omega (arith, end_in k below, p-is) in
        sym (take-take p used ws le) ∙ ap (take p) (words_split k below) ∙ take_at (laid (take k ms)) _ p (sym p-is)

    pub front_all : AllByRecursion Message (take k (parsed held (take used ws)))
    front_all = all_take Message k (parsed held (take used ws)) (sound_parsed held (take used ws) ok).2

    -- the words after message k
    back_laid : drop (p + 1 + n) (take used ws) ≡ laid (drop (suc k) (parsed held (take used ws)))
    back_laid =
        let ms = parsed held (take used ws) in
        let m = get_or ms k [] in
        let a = laid (take k ms) in
        let b = laid (drop (suc k) ms) in
        let g : a ++ (head (length m) ∷ (m ++ b)) ≡ (a ++ (head (length m) ∷ m)) ++ b = sym (append_assoc a (head (length m) ∷ m) b) in
        let q : length (a ++ (head (length m) ∷ m)) ≡ p + 1 + n = omega (arith, length-append a (head (length m) ∷ m), p-is, n-is) in
        ap (drop (p + 1 + n)) (words_split k below ∙ g) ∙ drop_at (a ++ (head (length m) ∷ m)) b (p + 1 + n) q

    pub close_laid : (new : List ℕ) → new ≡ paste ws p (drop (p + 1 + n) ws) (used - (p + 1 + n)) → take (used - (n + 1)) new ≡ laid (remove (parsed held (take used ws)) k)
    close_laid new e =
        let ms = parsed held (take used ws) in
        let le : p + 1 + n ≤ used = omega (arith, end_in k below, p-is, n-is) in
        let j : used - (n + 1) ≡ p + (used - (p + 1 + n)) = omega arith in
        let u : (p + 1 + n) + (used - (p + 1 + n)) ≡ used = omega arith in
        let d : used - (p + 1 + n) ≤ length (drop (p + 1 + n) ws) = simp length-drop (omega arith) in
        let a : take (p + (used - (p + 1 + n))) new ≡ take p ws ++ take (used - (p + 1 + n)) (drop (p + 1 + n) ws) = ap (take (p + (used - (p + 1 + n)))) e ∙ take-paste ws p (drop (p + 1 + n) ws) (used - (p + 1 + n)) (omega arith) d in
        let b : take (used - (p + 1 + n)) (drop (p + 1 + n) ws) ≡ drop (p + 1 + n) (take used ws) = sym (drop-take (p + 1 + n) (used - (p + 1 + n)) ws) ∙ ap (λ x. drop (p + 1 + n) (take x ws)) u in
        ap (λ x. take x new) j ∙ a ∙ ap (λ x. take p ws ++ x) (b ∙ back_laid) ∙ ap (λ x. x ++ laid (drop (suc k) ms)) front_laid ∙ sym (laid_append (take k ms) (drop (suc k) ms))

    pub removed_all : AllByRecursion Message (remove (parsed held (take used ws)) k)
    removed_all = all_append Message (take k (parsed held (take used ws))) (drop (suc k) (parsed held (take used ws))) front_all (all_drop Message (suc k) (parsed held (take used ws)) (sound_parsed held (take used ws) ok).2)

    pub removed_count : held - 1 ≡ length (remove (parsed held (take used ws)) k)
    removed_count = omega (arith, length-remove (parsed held (take used ws)) k (omega (arith, held_is)), held_is)

    pub discard_memory : (new : List ℕ) → k < counted (parsed held (take used ws)) → new ≡ paste ws p (drop (p + 1 + n) ws) (used - (p + 1 + n)) → new ≡ row_discard (parsed held (take used ws)) k ws
    discard_memory new h e =
        let ms = parsed held (take used ws) in
        let later = laid (drop (suc k) ms) in
        let le : p + 1 + n ≤ used = omega (arith, end_in k below, p-is, n-is) in
        let u : (p + 1 + n) + (used - (p + 1 + n)) ≡ used = omega arith in
        let b : take (used - (p + 1 + n)) (drop (p + 1 + n) ws) ≡ later = sym (drop-take (p + 1 + n) (used - (p + 1 + n)) ws) ∙ ap (λ x. drop (p + 1 + n) (take x ws)) u ∙ back_laid in
        let d : used - (p + 1 + n) ≤ length (drop (p + 1 + n) ws) = simp length-drop (omega arith) in
        let l : used - (p + 1 + n) ≡ length later = sym (length-take-le (used - (p + 1 + n)) (drop (p + 1 + n) ws) d) ∙ ap length b in
        e ∙ paste_put ws p (drop (p + 1 + n) ws) later (used - (p + 1 + n)) b l ∙ ap (λ x. put ws x later) p-is ∙ sym (cond-true (ltb k (counted ms)) (put ws (length (laid (take k ms))) later) ws (lt-ltb k (counted ms) h))
