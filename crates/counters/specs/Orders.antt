-- How counts stand to each other. Assumes nothing.
--     nowhere_higher a b     whether no count of a is higher than that of b
--     same a b               whether the counts are the same
--     compared a b           how a stands to b
--     Compared a b r         what each of the four answers means
use Rattle.std.specs.Prelude.{◌≡◌, ℕ, ◌<◌, ◌≤◌, Bool, true, cond, ◌&&◌, List, [], ◌∷◌, ◌≢◌, Some, None, Option, nat_le, slice_index}
use Rattle.std.specs.declared.cmp.Ordering.{Ordering}
use Rattle.std.specs.declared.cmp.Ordering.TheVariants.{Less, Equal, Greater}
use Rattle.entries.specs.Rows.{Row}

abbrev pub none_higher : List ℕ → List ℕ → Bool
none_higher [] ns = true
none_higher (m ∷ ms) [] = true
none_higher (m ∷ ms) (n ∷ ns) = nat_le m n && none_higher ms ns

module _ {top : ℕ} (a b : Row top) where
  abbrev pub nowhere_higher : Bool
  nowhere_higher = none_higher a.numbers b.numbers

  -- at no station is a above b, and at some station it is
  abbrev pub NowhereHigher : Type 0
  NowhereHigher = (k : ℕ) → slice_index a.numbers k ≤ slice_index b.numbers k

  abbrev pub SomewhereHigher : Type 0
  SomewhereHigher = (k : ℕ) × (slice_index b.numbers k < slice_index a.numbers k)

module _ {top : ℕ} (a b : Row top) where
  abbrev pub same : Bool
  same = nowhere_higher a b && nowhere_higher b a

  abbrev pub compared : Option Ordering
  compared = cond (nowhere_higher a b) (cond (nowhere_higher b a) (Some Equal) (Some Less)) (cond (nowhere_higher b a) (Some Greater) None)

  abbrev pub Compared : Option Ordering → Type 0
  Compared (Some Equal) = a ≡ b
  Compared (Some Less) = NowhereHigher a b × (a ≢ b)
  Compared (Some Greater) = NowhereHigher b a × (a ≢ b)
  Compared None = SomewhereHigher a b × SomewhereHigher b a
