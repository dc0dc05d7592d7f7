-- The laws of how counts stand to each other, and what the four answers mean. Lemmas. Assumes nothing.
use Rattle.std.proofs.Common.{◌≡◌, ℕ, zero, suc, ◌<◌, ◌≤◌, Bool, true, false, cond, ◌&&◌, leb, List, [], ◌∷◌, length, get_or, Some, None, Option, sym, refl, ap, ◌∙◌, ⊎_elim, arith}
use Rattle.std.specs.Cmp.{IsPartialEquivalence, IsPartialOrder}
use Rattle.std.specs.Bool.{Decides}
use Rattle.std.specs.Option.{option_map}
use Rattle.std.specs.Ordering.{on, ordering_reverse}
use Rattle.std.specs.declared.cmp.Ordering.{Ordering}
use Rattle.std.specs.declared.cmp.Ordering.TheVariants.{Less, Equal, Greater}
use Rattle.std.proofs.lemmas.List.{ext_get_or}
use Rattle.std.proofs.lemmas.Bool.{leb-true, leb-false, and_parts, and_cases, true≢false, false≢true}
use Rattle.entries.specs.Rows.{Row, same_row, length_row}
use Rattle.counters.specs.Orders.{none_higher, nowhere_higher, NowhereHigher, SomewhereHigher, same, compared, Compared}

none_at : (ms ns : List ℕ) → length ms ≡ length ns → none_higher ms ns ≡ true → (k : ℕ) → get_or ms k 0 ≤ get_or ns k 0
none_at [] ns long e k = omega arith
none_at (m ∷ ms) [] long e k = absurd (omega arith)
none_at (m ∷ ms) (n ∷ ns) long e zero = leb-true m n (and_parts (leb m n) (none_higher ms ns) e).0
none_at (m ∷ ms) (n ∷ ns) long e (suc k) = none_at ms ns (omega arith) (and_parts (leb m n) (none_higher ms ns) e).1 k

some_at : (ms ns : List ℕ) → none_higher ms ns ≡ false → (k : ℕ) × (get_or ns k 0 < get_or ms k 0)
some_at [] ns e = absurd (true≢false e)
some_at (m ∷ ms) [] e = absurd (true≢false e)
some_at (m ∷ ms) (n ∷ ns) e =
    ⊎_elim (λ (f : leb m n ≡ false). (0, leb-false m n f)) (λ (f : none_higher ms ns ≡ false). let p = some_at ms ns f in (suc p.0, p.1)) (and_cases (leb m n) (none_higher ms ns) e)

-- what two tests say of the answer
abbrev answer : Bool → Bool → Option Ordering
answer x y = cond x (cond y (Some Equal) (Some Less)) (cond y (Some Greater) None)

answer_back : (x y : Bool) → answer x y ≡ option_map ordering_reverse (answer y x)
answer_back true true = refl
answer_back true false = refl
answer_back false true = refl
answer_back false false = refl

answer_less : (x y : Bool) → answer x y ≡ Some Less → (x ≡ true) × (y ≡ false)
answer_less true true e = let z : ◌≡◌ {A = ℕ} 0 1 = cc in absurd (omega arith)
answer_less true false e = (refl, refl)
answer_less false true e = let z : ◌≡◌ {A = ℕ} 0 1 = cc in absurd (omega arith)
answer_less false false e = let z : ◌≡◌ {A = ℕ} 0 1 = cc in absurd (omega arith)

answer_equal : (x y : Bool) → Decides (x && y) (answer x y ≡ Some Equal)
answer_equal true true = (λ e. refl, λ e. refl)
answer_equal true false = (λ e. absurd (false≢true e), λ e. let z : ◌≡◌ {A = ℕ} 0 1 = cc in absurd (omega arith))
answer_equal false true = (λ e. absurd (false≢true e), λ e. let z : ◌≡◌ {A = ℕ} 0 1 = cc in absurd (omega arith))
answer_equal false false = (λ e. absurd (false≢true e), λ e. let z : ◌≡◌ {A = ℕ} 0 1 = cc in absurd (omega arith))

and_back : (x y : Bool) → (x && y) ≡ (y && x)
and_back true true = refl
and_back true false = refl
and_back false true = refl
and_back false false = refl

module _ {top : ℕ} (a b : Row top) where
  long : length a.numbers ≡ length b.numbers
  long = length_row a ∙ sym (length_row b)

  pub nowhere : nowhere_higher a b ≡ true → NowhereHigher a b
  nowhere e = none_at a.numbers b.numbers long e

  pub somewhere : nowhere_higher a b ≡ false → SomewhereHigher a b
  somewhere e = some_at a.numbers b.numbers e

  by_all : (x : Bool) → nowhere_higher a b ≡ x → NowhereHigher a b → x ≡ true
  by_all true e p = refl
  by_all false e p = let (k, h) = somewhere e in let l = p k in absurd (omega arith)

  tested_by : NowhereHigher a b → nowhere_higher a b ≡ true
  tested_by p = by_all (nowhere_higher a b) refl p

  equal : NowhereHigher a b → NowhereHigher b a → a ≡ b
  equal p q = same_row a b (ext_get_or 0 a.numbers b.numbers long (λ k h. let x = p k in let y = q k in omega arith))

  apart : SomewhereHigher a b → a ≡ b → ⊥
  apart (k, h) e = let s : get_or a.numbers k 0 ≡ get_or b.numbers k 0 = ap (λ (r : Row top). get_or r.numbers k 0) e in omega arith

module _ {top : ℕ} (a b : Row top) where
  by_tests : (x y : Bool) → nowhere_higher a b ≡ x → nowhere_higher b a ≡ y → Compared a b (answer x y)
  by_tests true true p q = equal a b (nowhere a b p) (nowhere b a q)
  by_tests true false p q = (nowhere a b p, λ e. apart b a (somewhere b a q) (sym e))
  by_tests false true p q = (nowhere b a q, apart a b (somewhere a b p))
  by_tests false false p q = (somewhere a b p, somewhere b a q)

  -- what two tests say of the answer
  pub means : (x y : Bool) → x ≡ nowhere_higher a b → y ≡ nowhere_higher b a → Compared a b (answer x y)
  means x y p q = by_tests x y (sym p) (sym q)

  same_is : same a b ≡ true → a ≡ b
  same_is e = let p = and_parts (nowhere_higher a b) (nowhere_higher b a) e in equal a b (nowhere a b p.0) (nowhere b a p.1)

module _ {top : ℕ} (a b c : Row top) where
  nowhere_on : nowhere_higher a b ≡ true → nowhere_higher b c ≡ true → nowhere_higher a c ≡ true
  nowhere_on p q = tested_by a c (λ k. let x = nowhere a b p k in let y = nowhere b c q k in omega arith)

  by_back : (x : Bool) → nowhere_higher c a ≡ x → nowhere_higher a b ≡ true → nowhere_higher c b ≡ false → x ≡ false
  by_back false e p q = refl
  by_back true e p q = absurd (false≢true (sym q ∙ tested_by c b (λ k. let x = nowhere c a e k in let y = nowhere a b p k in omega arith)))

  less_on : compared a b ≡ Some Less → compared b c ≡ Some Less → compared a c ≡ Some Less
  less_on e f =
      let p = answer_less (nowhere_higher a b) (nowhere_higher b a) e in
      let q = answer_less (nowhere_higher b c) (nowhere_higher c b) f in
      ap (λ x. answer x (nowhere_higher c a)) (nowhere_on p.0 q.0) ∙ ap (answer true) (by_back (nowhere_higher c a) refl p.0 q.1)

module _ {X : Type 0} {top : ℕ} (of : X → Row top) where
  pub same_laws : IsPartialEquivalence (on of same)
  same_laws = record {
    symm = λ x y. and_back (nowhere_higher (of x) (of y)) (nowhere_higher (of y) (of x));
    trans = λ x y z p q. ap (λ a. same a (of z)) (same_is (of x) (of y) p) ∙ q;
  }

  pub compared_laws : IsPartialOrder (on of same) (on of compared)
  compared_laws = record {
    antisymm = λ x y. answer_back (nowhere_higher (of x) (of y)) (nowhere_higher (of y) (of x));
    trans = λ x y z. less_on (of x) (of y) (of z);
    matches_eq = λ x y. answer_equal (nowhere_higher (of x) (of y)) (nowhere_higher (of y) (of x));
    congr = λ x y z e. ap (λ a. compared a (of z)) (same_is (of x) (of y) e);
  }
