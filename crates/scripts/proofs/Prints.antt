-- A number that is printed is read again, and words with blanks between them are the words of the line.
use Rattle.std.proofs.Common.{◌≡◌, ℕ, ◌+◌, ◌-◌, ◌*◌, ◌/◌, ◌%◌, ◌^◌, ◌<◌, ◌≤◌, true, leb, List, [], ◌∷◌, ◌++◌, length, Some, None, decimal, Option, sym, refl, ap, ◌∙◌, append-nil, zero-add, arith}
use Rattle.std.proofs.lemmas.Nat.{mod_below}
use Rattle.std.proofs.lemmas.Fmt.{decimal_by_steps, decimal_nonempty, length-decimal-le}
use Rattle.std.proofs.lemmas.Bool.{le-leb, lt-ltb}
use Rattle.std.proofs.lemmas.Bool.Decides.{nat_tests}
use Rattle.scripts.specs.Numbers.{digit_in, and_then, digits_on, decimal_of}
use Rattle.scripts.specs.Tokens.{letter, tokens}
use Rattle.scripts.proofs.Cuts.{all_letters, past_blank, letters_push, front, tokens_word}
use Rattle.scripts.proofs.Digits.{number_some}

carried : (o : Option ℕ) (f g : ℕ → Option ℕ) (m r : ℕ) → ((v : ℕ) → f v ≡ Some m → g v ≡ Some r) → and_then o f ≡ Some m → and_then o g ≡ Some r
carried None f g m r k e = let z : ◌≡◌ {A = ℕ} 0 1 = cc in absurd (omega arith)
carried (Some v) f g m r k e = k v e

digits_push : (base a : ℕ) (ds : List ℕ) (c m d : ℕ) → digits_on base a ds ≡ Some m → digit_in base c ≡ Some d → digits_on base a (ds ++ (c ∷ [])) ≡ Some (m * base + d)
digits_push base a [] c m d e f = let same : a ≡ m = cc in rw (f, same)
digits_push base a (x ∷ ds) c m d e f =
    carried (digit_in base x) (λ v. digits_on base (a * base + v) ds) (λ v. digits_on base (a * base + v) (ds ++ (c ∷ []))) m (m * base + d)
    (λ v g. digits_push base (a * base + v) ds c m d g f) e

digit_plain : (d : ℕ) → d < 10 → digit_in 10 (48 + d) ≡ Some d
digit_plain d h =
    let low : leb 48 (48 + d) ≡ true = le-leb 48 (48 + d) (omega arith) in
    let high : leb (48 + d) 57 ≡ true = le-leb (48 + d) 57 (omega arith) in
    let same : 48 + d - 48 ≡ d = omega arith in
    rw (low, high, same, lt-ltb d 10 h)

letter_plain : (d : ℕ) → d < 10 → letter (48 + d) ≡ true
letter_plain d h = grind (arith, nat_tests)

digits_back : (n : ℕ) → n < 2 ^ 64 → digits_on 10 0 (decimal n) ≡ Some n
digits_back n h =
    decimal_by_steps (λ k ds. digits_on 10 0 ds ≡ Some k)
    (λ k low. rw (digit_plain k low, zero-add k))
    (λ k ds big e. let whole : k / 10 * 10 + k % 10 ≡ k = omega arith in
    digits_push 10 0 ds (48 + k % 10) (k / 10) (k % 10) e (digit_plain (k % 10) (mod_below k 10 (omega arith))) ∙ ap (λ x. Some x) whole)
    n h

pub decimal_back : (top n : ℕ) → n ≤ top → n < 2 ^ 64 → decimal_of top (decimal n) ≡ Some n
decimal_back top n low h =
    sym (number_some 10 20 top (decimal n) n (digits_back n h) low (decimal_nonempty n h) (length-decimal-le 20 n (omega arith) (omega arith) h))

decimal_letters : (n : ℕ) → n < 2 ^ 64 → all_letters (decimal n) ≡ true
decimal_letters n h =
    decimal_by_steps (λ k ds. all_letters ds ≡ true)
    (λ k low. rw (letter_plain k low))
    (λ k ds big e. letters_push ds (48 + k % 10) e (letter_plain (k % 10) (mod_below k 10 (omega arith))))
    n h

front_some : (w : List ℕ) (ts : List (List ℕ)) → 0 < length w → front w ts ≡ w ∷ ts
front_some [] ts h = absurd (omega arith)
front_some (c ∷ w) ts h = refl

tokens_none : tokens [] ≡ []
unfolding tokens
tokens_none = refl

module _ (w : List ℕ) (all : all_letters w ≡ true) (some : 0 < length w) where
  pub word_on : (tail : List ℕ) (ts : List (List ℕ)) → tokens tail ≡ ts → tokens (w ++ (32 ∷ tail)) ≡ w ∷ ts
  word_on tail ts e = tokens_word w (32 ∷ tail) all refl ∙ front_some w (tokens (32 ∷ tail)) some ∙ ap (λ l. w ∷ l) (past_blank 32 tail refl ∙ e)

  pub word_last : tokens w ≡ w ∷ []
  word_last = ap tokens (sym (append-nil w)) ∙ tokens_word w [] all tt ∙ front_some w (tokens []) some ∙ ap (λ l. w ∷ l) tokens_none

module _ (n : ℕ) (h : n < 2 ^ 64) where
  pub number_on : (tail : List ℕ) (ts : List (List ℕ)) → tokens tail ≡ ts → tokens (decimal n ++ (32 ∷ tail)) ≡ decimal n ∷ ts
  number_on tail ts e = word_on (decimal n) (decimal_letters n h) (decimal_nonempty n h) tail ts e

  pub number_last : tokens (decimal n) ≡ decimal n ∷ []
  number_last = word_last (decimal n) (decimal_letters n h) (decimal_nonempty n h)
