-- Which part of an overflow takes a message, and why an overflow keeps what every mailbox keeps. Assumes nothing.
--     to_first first waits       the first takes it, and nothing waits in the second
--     spills first second waits  one of the two takes it
use Rattle.std.specs.Prelude.{◌≡◌, ℕ, ◌≤◌, Bool, true, false, ◌&&◌, ◌||◌, List, [], ◌∷◌, ◌++◌, length, ◌==◌, refl}
use Rattle.std.specs.List.{AllByRecursion}
use Rattle.std.proofs.lemmas.Bool.{both_ways, and_right}
use Rattle.words.specs.Writes.{most}

abbrev pub to_first : Bool → List (List ℕ) → Bool
to_first first waits = length waits == 0 && first

abbrev pub spills : Bool → Bool → List (List ℕ) → Bool
spills first second waits = to_first first waits || second

or_false_right : (x : Bool) → (x || false) ≡ true → x ≡ true
or_false_right true e = refl
or_false_right false e = e

pub spills_sizes : (f s : Bool) (waits : List (List ℕ)) (n : ℕ) → (f ≡ true → (1 ≤ n) × (n ≤ most)) → (s ≡ true → (1 ≤ n) × (n ≤ most)) → spills f s waits ≡ true → (1 ≤ n) × (n ≤ most)
spills_sizes true s waits n a b e = a refl
spills_sizes false true waits n a b e = b refl
spills_sizes false false waits n a b e = absurd (both_ways _ (and_right (length waits == 0) false refl) (or_false_right _ e))

pub all_append : {X : Type 0} (P : X → Type 0) (xs ys : List X) → AllByRecursion P xs → AllByRecursion P ys → AllByRecursion P (xs ++ ys)
all_append P [] ys p q = q
all_append P (x ∷ xs) ys p q = (p.0, all_append P xs ys p.1 q)
