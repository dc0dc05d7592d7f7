-- What the calls of a mailbox answer and leave, over the list of the messages that wait. Assumes nothing.
--     Message m             m has the length of a message
--     sized n               whether n is the length of a message: 1 to 127
--     counted ms            how many wait, as a count tells it: 65,535 where there are more
--     put_answer fits n     what a put of n words answers, where fits is whether they are taken now: done, 7 or 8
--     put_leaves fits ms m  the messages after a put of m
--     read_answer ms k n    what a read of message k into n words answers: its length, 6 or 9
--     read_leaves ms k old  what the given words hold after it
--     discard_answer ms k   what a discard of message k answers: done or 9
--     discard_leaves ms k   the messages after it
--     Kept r was is         where r is a refusal, what is is what was
--     Lawful                what every mailbox keeps
use Rattle.std.specs.Prelude.{◌≡◌, ℕ, ◌≤◌, min, Bool, true, cond, ◌&&◌, List, [], ◌∷◌, ◌++◌, length, Ok, Err, Result, nat_le, nat_lt, slice_index_or}
use Rattle.std.specs.List.{remove, AllByRecursion}
use Rattle.words.specs.Writes.{most, put}

abbrev pub Message : List ℕ → Type 0
Message m = (1 ≤ length m) × (length m ≤ most)

abbrev pub sized : ℕ → Bool
sized n = nat_le 1 n && nat_le n most

abbrev pub counted : List (List ℕ) → ℕ
counted ms = min (length ms) 65535

abbrev pub put_answer : Bool → ℕ → Result (Unit {0}) ℕ
put_answer fits n = cond (sized n) (cond fits (Ok tt) (Err 8)) (Err 7)

abbrev pub put_leaves : Bool → List (List ℕ) → List ℕ → List (List ℕ)
put_leaves fits ms m = cond fits (ms ++ (m ∷ [])) ms

abbrev pub read_answer : List (List ℕ) → ℕ → ℕ → Result ℕ ℕ
read_answer ms k n = cond (nat_lt n most) (Err 6) (cond (nat_lt k (counted ms)) (Ok (length (slice_index_or ms k []))) (Err 9))

abbrev pub read_leaves : List (List ℕ) → ℕ → List ℕ → List ℕ
read_leaves ms k old = cond (nat_lt (length old) most) old (cond (nat_lt k (counted ms)) (put old 0 (slice_index_or ms k [])) old)

abbrev pub discard_answer : List (List ℕ) → ℕ → Result (Unit {0}) ℕ
discard_answer ms k = cond (nat_lt k (counted ms)) (Ok tt) (Err 9)

abbrev pub discard_leaves : List (List ℕ) → ℕ → List (List ℕ)
discard_leaves ms k = cond (nat_lt k (counted ms)) (remove ms k) ms

abbrev pub Kept : {X T E : Type 0} → Result T E → X → X → Type 0
Kept (Ok x) was is = Unit {0}
Kept (Err e) was is = is ≡ was

-- its messages have 1 to 127 words, and it takes none of another length
pub record Lawful {M : Type 0} (waiting : M → List (List ℕ)) (takes : M → ℕ → Bool) : Type 0 where
  pub messages : (m : M) → AllByRecursion Message (waiting m)
  pub sizes : (m : M) (n : ℕ) → takes m n ≡ true → (1 ≤ n) × (n ≤ most)
