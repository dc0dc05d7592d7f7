-- The test that no count is higher, and the sum of the counts, over stored counts. Assumes nothing.
use Rattle.std.proofs.Common.{◌≡◌, ℕ, ◌+◌, ◌%◌, ◌&&◌, leb, List, [], ◌∷◌, length, map, refl, ap, ◌∙◌}
use Rattle.std.specs.List.{zip, list_all}
use Rattle.entries.specs.Rows.{row_of}
use Rattle.entries.proofs.Turns.{numbers_of}
use Rattle.counters.specs.Orders.{none_higher}

none_of : (f : ℕ → ℕ) (xs ys : List ℕ) → list_all (λ (p : ℕ × ℕ). leb (f p.0) (f p.1)) (zip xs ys) ≡ none_higher (map f xs) (map f ys)
none_of f [] ys = refl
none_of f (x ∷ xs) [] = refl
none_of f (x ∷ xs) (y ∷ ys) = ap (λ b. leb (f x) (f y) && b) (none_of f xs ys)

pub none_stored : (top : ℕ) (xs ys : List ℕ) → length xs ≡ 16 → length ys ≡ 16 → list_all (λ (p : ℕ × ℕ). leb (p.0 % (top + 1)) (p.1 % (top + 1))) (zip xs ys) ≡ none_higher (row_of top xs).numbers (row_of top ys).numbers
none_stored top xs ys a b =
    none_of (λ x. x % (top + 1)) xs ys
    ∙ ap (λ ms. none_higher ms (map (λ x. x % (top + 1)) ys)) (numbers_of top xs a)
    ∙ ap (none_higher (row_of top xs).numbers) (numbers_of top ys b)
