-- What blanks and words at the front of a line come to.
use Rattle.std.proofs.Common.{◌≡◌, ℕ, zero, suc, ◌-◌, ◌<◌, ◌≤◌, Bool, true, false, ◌&&◌, ◌||◌, eqb, List, [], ◌∷◌, ◌++◌, length, get_or, take, drop, sym, refl, ap, ◌∙◌, ⊎_elim, arith, length-drop, take-append-drop, Some, None, Option, Bor}
use Rattle.std.specs.Bool.{then_some}
use Rattle.std.specs.Option.{MatchOption}
use Rattle.std.specs.Iterator.{YieldsFirstRef, MakesProgress, item_count}
use native.Mathlib.Nat.{sub-zero}
use Rattle.std.proofs.lemmas.List.{at_drop_more, take_rest}
use Rattle.std.proofs.lemmas.Bool.{or_parts, or_cases, and_parts, not-true, not-false}
use Rattle.std.proofs.lemmas.Bool.Decides.{nat_tests}
use Rattle.scripts.specs.Tokens.{blank, letter, uncommented, onto, pieces, not_empty, tokens}

abbrev pub all_letters : List ℕ → Bool
all_letters [] = true
all_letters (c ∷ cs) = letter c && all_letters cs

no_comment : (c : ℕ) → blank c ≡ true → eqb c 35 ≡ false
no_comment c e = grind (arith, nat_tests)

pub past_blank : (c : ℕ) (cs : List ℕ) → blank c ≡ true → tokens (c ∷ cs) ≡ tokens cs
unfolding tokens
past_blank c cs e = rw (no_comment c e, e)

-- blanks at the front go
blanks_gone : (line : List ℕ) (n : ℕ) → n ≤ length line → ((k : ℕ) → k < n → blank (get_or line k 0) ≡ true) → tokens (drop n line) ≡ tokens line
blanks_gone line zero low all = refl
blanks_gone [] (suc n) low all = refl
blanks_gone (c ∷ cs) (suc n) low all = blanks_gone cs n (omega arith) (λ k h. all (suc k) (omega arith)) ∙ sym (past_blank c cs (all 0 (omega arith)))

letters_taken : (line : List ℕ) (n : ℕ) → n ≤ length line → ((k : ℕ) → k < n → letter (get_or line k 0) ≡ true) → all_letters (take n line) ≡ true
letters_taken line zero low all = refl
letters_taken [] (suc n) low all = refl
letters_taken (c ∷ cs) (suc n) low all = rw (all 0 (omega arith)) (letters_taken cs n (omega arith) (λ k h. all (suc k) (omega arith)))

letter_parts : (c : ℕ) → letter c ≡ true → (blank c ≡ false) × (eqb c 35 ≡ false)
letter_parts c e = or_parts (blank c) (eqb c 35) (not-true (blank c || eqb c 35) e)

pub letters_push : (w : List ℕ) (c : ℕ) → all_letters w ≡ true → letter c ≡ true → all_letters (w ++ (c ∷ [])) ≡ true
letters_push [] c all e = rw e
letters_push (d ∷ w) c all e =
    let p = and_parts (letter d) (all_letters w) all in
    rw (p.0, letters_push w c p.1 e)

-- bytes in front of the first piece
abbrev onto_all : List ℕ → List (List ℕ) → List (List ℕ)
onto_all [] ps = ps
onto_all (c ∷ w) ps = onto c (onto_all w ps)

onto_empty : (w : List ℕ) (ps : List (List ℕ)) → onto_all w ([] ∷ ps) ≡ w ∷ ps
onto_empty [] ps = refl
onto_empty (c ∷ w) ps = rw (onto_empty w ps)

uncommented_word : (w tail : List ℕ) → all_letters w ≡ true → uncommented (w ++ tail) ≡ w ++ uncommented tail
uncommented_word [] tail all = refl
uncommented_word (c ∷ w) tail all =
    let p = and_parts (letter c) (all_letters w) all in
    rw ((letter_parts c p.0).1, uncommented_word w tail p.1)

pieces_word : (w u : List ℕ) → all_letters w ≡ true → pieces (w ++ u) ≡ onto_all w (pieces u)
pieces_word [] u all = refl
pieces_word (c ∷ w) u all =
    let p = and_parts (letter c) (all_letters w) all in
    rw ((letter_parts c p.0).0, pieces_word w u p.1)

-- what comes after a word begins with no letter
abbrev pub Stops : List ℕ → Type 0
Stops [] = Unit {0}
Stops (c ∷ cs) = letter c ≡ false

-- then its first piece is empty
stops_pieces : (tail : List ℕ) → Stops tail → (ps : List (List ℕ)) × (pieces (uncommented tail) ≡ [] ∷ ps)
stops_pieces [] h = ([], refl)
stops_pieces (c ∷ cs) h =
    ⊎_elim
    (λ b. (pieces (uncommented cs), rw (no_comment c b, b)))
    (λ e. ([], rw e))
    (or_cases (blank c) (eqb c 35) (not-false (blank c || eqb c 35) h))

-- a word, unless it has no letters
abbrev pub front : List ℕ → List (List ℕ) → List (List ℕ)
front [] ts = ts
front (c ∷ cs) ts = (c ∷ cs) ∷ ts

not_empty_front : (w : List ℕ) (ps : List (List ℕ)) → not_empty (w ∷ ps) ≡ front w (not_empty ps)
not_empty_front [] ps = refl
not_empty_front (c ∷ w) ps = refl

pub tokens_word : (w tail : List ℕ) → all_letters w ≡ true → Stops tail → tokens (w ++ tail) ≡ front w (tokens tail)
unfolding tokens
tokens_word w tail all stops =
    let s = stops_pieces tail stops in
    rw (uncommented_word w tail all, pieces_word w (uncommented tail) all, s.1, onto_empty w s.0) (not_empty_front w s.0)

comment_first : (c : ℕ) (cs : List ℕ) → blank c ≡ false → letter c ≡ false → tokens (c ∷ cs) ≡ []
unfolding tokens
comment_first c cs b l = let e : eqb c 35 ≡ true = grind (arith, nat_tests) in rw e

stops_drop : (m : List ℕ) (n : ℕ) → (n < length m → letter (get_or m n 0) ≡ false) → Stops (drop n m)
stops_drop [] zero h = tt
stops_drop [] (suc n) h = tt
stops_drop (c ∷ cs) zero h = h (omega arith)
stops_drop (c ∷ cs) (suc n) h = stops_drop cs n (λ k. h (omega arith))

tokens_none : tokens [] ≡ []
unfolding tokens
tokens_none = refl

-- where neither a blank nor a letter is in front, there are no words
cut_none : (m : List ℕ) → (0 < length m → blank (get_or m 0 0) ≡ false) → (0 < length m → letter (get_or m 0 0) ≡ false) → tokens m ≡ []
cut_none [] plain ends = tokens_none
cut_none (c ∷ cs) plain ends = comment_first c cs (plain (omega arith)) (ends (omega arith))

-- a word at the front is the first, and the others are those of what comes after it
cut_word : (m : List ℕ) (n : ℕ) → 0 < n → n ≤ length m → all_letters (take n m) ≡ true → (n < length m → letter (get_or m n 0) ≡ false) → tokens m ≡ take n m ∷ tokens (drop n m)
cut_word m zero some low all ends = absurd (omega arith)
cut_word [] (suc n) some low all ends = absurd (omega arith)
cut_word (c ∷ cs) (suc n) some low all ends =
    ap (λ l. tokens (c ∷ l)) (sym (take-append-drop n cs)) ∙ tokens_word (c ∷ take n cs) (drop n cs) all (stops_drop cs n (λ k. ends (omega arith)))

-- the same of a line with blanks in front, as slices are cut
module _ (line : List ℕ) (a : ℕ) where
  abbrev pub onward : List ℕ
  onward = take (length line - a) (drop a line)

  plain_onward : (a < length line → blank (get_or line a 0) ≡ false) → 0 < length onward → blank (get_or onward 0 0) ≡ false
  plain_onward plain some =
      let some' : 0 < length (drop a line) = rw (take_rest line a) at some in
      let low : a < length line = omega (arith, length-drop a line) in
      rw (take_rest line a, at_drop_more (λ l. blank (get_or l 0 0)) line a 0 low) (plain low)

  module _ (n : ℕ) (blanks : (k : ℕ) → k < a → blank (get_or line k 0) ≡ true) (some : a ≤ length line) (low : n ≤ length onward) (ends : n < length onward → letter (get_or onward n 0) ≡ false) where
    abbrev pub after : List ℕ
    after = take (length onward - n) (drop n onward)

    all_same : tokens onward ≡ tokens line
    all_same = ap tokens (take_rest line a) ∙ blanks_gone line a some blanks

    pub next_none : n ≤ 0 → (a < length line → blank (get_or line a 0) ≡ false) → (tokens line ≡ []) × (tokens after ≡ [])
    next_none z plain =
        let none : n ≡ 0 = omega arith in
        let e : tokens onward ≡ [] = cut_none onward (plain_onward plain) (rw none at ends) in
        (sym all_same ∙ e, ap tokens (take_rest onward n) ∙ rw none e)

    pub next_word : 0 < n → ((k : ℕ) → k < n → letter (get_or onward k 0) ≡ true) → tokens line ≡ take (n - 0) onward ∷ tokens after
    next_word first all = rw (sub-zero n, take_rest onward n) (sym all_same ∙ cut_word onward n first low (letters_taken onward n low all) ends)

-- a call of an iterator that has a list left
pub yields : (ts us : List (List ℕ)) (b : Bool) (x : Bor (List ℕ)) → (b ≡ true → ts ≡ x.now ∷ us) → (b ≡ false → (ts ≡ []) × (us ≡ []))
    → MatchOption (then_some b x) ((ts ≡ []) × (us ≡ [])) (λ y. ts ≡ y.now ∷ us)
yields ts us true x some none = some refl
yields ts us false x some none = none refl

pub progresses : {S : Type 0} (can : S → Type 0) (rest : S → List (List ℕ)) (s t : S) (r : Option (Bor (List ℕ))) → can t → YieldsFirstRef rest s r t → MakesProgress can (item_count rest) s r t
progresses can rest s t None c y = record { on = λ f. tt; keeps = tt; rests = λ f. tt }
progresses can rest s t (Some x) c y = record { on = λ f. (c, tt, rw y (omega arith)); keeps = c; rests = λ f. tt }
