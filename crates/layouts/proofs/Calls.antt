-- What each call of a mailbox answers and leaves, case by case. Assumes nothing.
use Rattle.std.proofs.Common.{◌≡◌, ℕ, ◌<◌, ◌≤◌, Bool, true, List, [], ◌∷◌, ◌++◌, length, get_or, drop, Ok, Err, sym, refl, ap, ◌∙◌, zero-add}
use Rattle.std.specs.List.{remove}
use Rattle.std.proofs.lemmas.Bool.{lt-ltb, le-ltb}
use Rattle.words.specs.Writes.{put}
use Rattle.mailboxes.specs.Mailboxes.{sized, counted, put_answer, put_leaves, read_answer, read_leaves, discard_answer, discard_leaves}

module _ (ms : List (List ℕ)) (k : ℕ) where
  module _ (old : List ℕ) (room : 127 ≤ length old) where
    pub read_past : counted ms ≤ k → (Err 9 ≡ read_answer ms k (length old)) × (old ≡ read_leaves ms k old)
    read_past h = rw (le-ltb (length old) 127 room, le-ltb k (counted ms) h) (refl, refl)

    pub read_there : (n : ℕ) (left : List ℕ) → k < counted ms → n ≡ length (get_or ms k []) → left ≡ put old 0 (get_or ms k []) → (Ok n ≡ read_answer ms k (length old)) × (left ≡ read_leaves ms k old)
    read_there n left h e f = rw (le-ltb (length old) 127 room, lt-ltb k (counted ms) h) (ap Ok e, f)

  pub discard_past : counted ms ≤ k → (Err 9 ≡ discard_answer ms k) × (ms ≡ discard_leaves ms k)
  discard_past h = rw (le-ltb k (counted ms) h) (refl, refl)

  pub discard_there : (left : List (List ℕ)) → k < counted ms → left ≡ remove ms k → (Ok tt ≡ discard_answer ms k) × (left ≡ discard_leaves ms k)
  discard_there left h e = rw (lt-ltb k (counted ms) h) (refl, e)

pub put_there : (fits : Bool) (m : List ℕ) (ms left : List (List ℕ)) → sized (length m) ≡ true → fits ≡ true → left ≡ ms ++ (m ∷ []) → (Ok tt ≡ put_answer fits (length m)) × (left ≡ put_leaves fits ms m)
put_there fits m ms left s f e = rw (s, f) (refl, e)

-- a message copied to the front of the given words
pub copied : (got m old : List ℕ) (j : ℕ) → got ≡ m → j ≡ length m → got ++ drop j old ≡ put old 0 m
copied got m old j e f = ap (λ x. x ++ drop j old) e ∙ ap (λ n. m ++ drop n old) (f ∙ sym (zero-add (length m)))
