-- Lists of sixteen numbers below a limit: the test, and what passes it. Assumes nothing.
--     sixteen limit ns     whether ns has sixteen numbers, each below the limit
--     tabulated f          f 0, f 1 and so on to f 15
use Rattle.std.specs.Prelude.{◌≡◌, ℕ, zero, suc, ◌<◌, Bool, true, false, ◌&&◌, T, List, [], ◌∷◌, map, length, ◌==◌, nat_lt, slice_index}
use Rattle.std.proofs.Common.{sym, subst, arith, ltb→lt, lt→ltb}
use Rattle.std.proofs.Math.Dec.{eqb_refl}
use Rattle.std.specs.List.{range_with_len}
use Rattle.std.proofs.lemmas.List.FromFn.{length-map-range_with_len, get_or-map-range_with_len, fill_by_all}

abbrev pub all_below : ℕ → List ℕ → Bool
all_below limit [] = true
all_below limit (n ∷ ns) = nat_lt n limit && all_below limit ns

abbrev pub sixteen : ℕ → List ℕ → Bool
sixteen limit ns = length ns == 16 && all_below limit ns

unfoldable pub tabulated : (ℕ → ℕ) → List ℕ
tabulated f = map f (range_with_len 0 16)

pub length_tabulated : (f : ℕ → ℕ) → length (tabulated f) ≡ 16
unfolding tabulated
length_tabulated f = length-map-range_with_len f 0 16

pub getD_tabulated : (f : ℕ → ℕ) (k : ℕ) → k < 16 → slice_index (tabulated f) k ≡ f k
unfolding tabulated
getD_tabulated f k h = get_or-map-range_with_len f 0 16 k k 0 h (omega arith)

pub tabulated_is : (f : ℕ → ℕ) (ns : List ℕ) → length ns ≡ 16 → ((k : ℕ) → k < 16 → slice_index ns k ≡ f k) → ns ≡ tabulated f
unfolding tabulated
tabulated_is f ns long each = fill_by_all f ns 16 0 long each

pub both : (a b : Bool) → T a → T b → T (a && b)
both true b p q = q
both false b p q = p

pub first_of : (a b : Bool) → T (a && b) → T a
first_of true b p = tt
first_of false b p = p

pub second_of : (a b : Bool) → T (a && b) → T b
second_of true b p = p
second_of false b p = absurd p

pub below_at : (limit : ℕ) (ns : List ℕ) → T (all_below limit ns) → (k : ℕ) → k < length ns → slice_index ns k < limit
below_at limit [] p k h = absurd (omega arith)
below_at limit (n ∷ ns) p zero h = ltb→lt n limit (first_of (nat_lt n limit) (all_below limit ns) p)
below_at limit (n ∷ ns) p (suc k) h = below_at limit ns (second_of (nat_lt n limit) (all_below limit ns) p) k (omega arith)

pub below_from : (limit : ℕ) (ns : List ℕ) → ((k : ℕ) → k < length ns → slice_index ns k < limit) → T (all_below limit ns)
below_from limit [] each = tt
below_from limit (n ∷ ns) each =
    both (nat_lt n limit) (all_below limit ns) (lt→ltb n limit (each 0 (omega arith))) (below_from limit ns (λ k h. each (suc k) (omega arith)))

is_eqb : (a b : ℕ) → a ≡ b → T (a == b)
is_eqb a b e = subst (λ n. T (a == n)) e (eqb_refl a)

pub sixteen_tabulated : (limit : ℕ) (f : ℕ → ℕ) → ((k : ℕ) → k < 16 → f k < limit) → T (sixteen limit (tabulated f))
sixteen_tabulated limit f each =
    both (length (tabulated f) == 16) (all_below limit (tabulated f))
    (is_eqb (length (tabulated f)) 16 (length_tabulated f))
    (below_from limit (tabulated f) (λ k h. let long = length_tabulated f in let low : k < 16 = omega arith in subst (λ n. n < limit) (sym (getD_tabulated f k low)) (each k low)))
