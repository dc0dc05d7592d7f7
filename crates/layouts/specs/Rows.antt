-- How messages lie in a row of words, and why what is read from such a row are messages. Assumes nothing.
--     head n        the page head of a message of n words
--     laid ms       messages one after another, each after its page head
--     parsed n ws   the first n messages that are laid in words
--     sound n ws    whether words are n messages, each after its page head, and nothing else
--     row_takes all ms n    whether a word store of so many words, in which ms wait, takes a message of n words
--     row_put fits ms m ws  its words after a put of m
--     row_discard ms k ws   its words after a discard of message k
use Rattle.std.specs.Prelude.{◌≡◌, ℕ, zero, suc, ◌+◌, ◌%◌, ◌≤◌, Bool, true, false, cond, ◌&&◌, List, [], ◌∷◌, ◌++◌, length, take, drop, ◌==◌, nat_le, nat_lt, refl}
use Rattle.std.proofs.Common.{sym, ap, ◌∙◌, arith}
use Rattle.std.specs.List.{AllByRecursion}
use Rattle.std.proofs.lemmas.List.{length-take-le, take-append-drop}
use Rattle.std.proofs.lemmas.Bool.{and_parts, and_from, leb-true, le-leb, eqb-true, false≢true}
use Rattle.words.specs.Writes.{most, put}
use Rattle.words.specs.Words.{word_of}
use Rattle.mailboxes.specs.Mailboxes.{Message, sized, counted}

abbrev pub head : ℕ → ℕ
head n = word_of 15 n

abbrev pub laid : List (List ℕ) → List ℕ
laid [] = []
laid (m ∷ ms) = head (length m) ∷ (m ++ laid ms)

-- a page head has the length in its low 8 bits
abbrev pub parsed : ℕ → List ℕ → List (List ℕ)
parsed zero ws = []
parsed (suc n) [] = []
parsed (suc n) (h ∷ ws) = take (h % 256) ws ∷ parsed n (drop (h % 256) ws)

abbrev pub sound : ℕ → List ℕ → Bool
sound zero [] = true
sound zero (h ∷ ws) = false
sound (suc n) [] = false
sound (suc n) (h ∷ ws) = h == head (h % 256) && (sized (h % 256) && (nat_le (h % 256) (length ws) && sound n (drop (h % 256) ws)))

abbrev pub row_takes : ℕ → List (List ℕ) → ℕ → Bool
row_takes all ms n = sized n && (nat_le all 4096 && nat_le (length (laid ms) + n + 1) all)

-- the message, after its page head, behind those that wait; no other word changes
abbrev pub row_put : Bool → List (List ℕ) → List ℕ → List ℕ → List ℕ
row_put fits ms m ws = cond fits (put ws (length (laid ms)) (laid (m ∷ []))) ws

-- the later messages, where message k stood; no other word changes
abbrev pub row_discard : List (List ℕ) → ℕ → List ℕ → List ℕ
row_discard ms k ws = cond (nat_lt k (counted ms)) (put ws (length (laid (take k ms))) (laid (drop (suc k) ms))) ws

pub sized_true : (n : ℕ) → sized n ≡ true → (1 ≤ n) × (n ≤ most)
sized_true n e = let p = and_parts (nat_le 1 n) (nat_le n most) e in (leb-true 1 n p.0, leb-true n most p.1)

pub sized_from : (n : ℕ) → 1 ≤ n → n ≤ most → sized n ≡ true
sized_from n a b = and_from (nat_le 1 n) (nat_le n most) (le-leb 1 n a) (le-leb n most b)

pub row_sizes : (all : ℕ) (ms : List (List ℕ)) (n : ℕ) → row_takes all ms n ≡ true → (1 ≤ n) × (n ≤ most)
row_sizes all ms n e = sized_true n (and_parts (sized n) (nat_le all 4096 && nat_le (length (laid ms) + n + 1) all) e).0

pub sound_parsed : (n : ℕ) (ws : List ℕ) → sound n ws ≡ true → (laid (parsed n ws) ≡ ws) × (length (parsed n ws) ≡ n) × AllByRecursion Message (parsed n ws)
sound_parsed zero [] e = (refl, refl, tt)
sound_parsed zero (h ∷ ws) e = absurd (false≢true e)
sound_parsed (suc n) [] e = absurd (false≢true e)
sound_parsed (suc n) (h ∷ ws) e =
    let k = h % 256 in
    let p = and_parts (h == head k) (sized k && (nat_le k (length ws) && sound n (drop k ws))) e in
    let q = and_parts (sized k) (nat_le k (length ws) && sound n (drop k ws)) p.1 in
    let r = and_parts (nat_le k (length ws)) (sound n (drop k ws)) q.1 in
    let ih = sound_parsed n (drop k ws) r.1 in
    let lt : length (take k ws) ≡ k = length-take-le k ws (leb-true k (length ws) r.0) in
    let s = sized_true k q.0 in
    let eh : head (length (take k ws)) ≡ h = ap head lt ∙ sym (eqb-true h (head k) p.0) in (
      ap (λ x. head (length (take k ws)) ∷ (take k ws ++ x)) ih.0 ∙ ap (λ x. x ∷ (take k ws ++ drop k ws)) eh ∙ ap (λ x. h ∷ x) (take-append-drop k ws),
      ap suc ih.1,
      (((omega arith), (omega arith)), ih.2),
    )
