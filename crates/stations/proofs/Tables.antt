-- One place of a table. Assumes nothing.
use Rattle.std.proofs.Common.{◌≡◌, ℕ, zero, suc, ◌<◌, ◌≤◌, List, [], ◌∷◌, map, length, get_or, Ok, Err, refl, ap, ◌∙◌, arith}
use Rattle.std.proofs.lemmas.List.{length-map}
use Rattle.std.proofs.lemmas.Bool.{lt-ltb, le-ltb, eq-eqb, ne_eqb, cond-true, cond-false}
use Rattle.crdt.specs.declared.kind.Crdt.{Ghosts}
use Rattle.histories.specs.Clusters.{at_place, bearing, found}
use Rattle.stations.specs.declared.station.Station.{Station}
use Rattle.stations.specs.Stored.{station_of}

pub at_map : {X Y : Type 0} (f : X → Y) (xs : List X) (s : ℕ) (d : X) → s < length xs → at_place (map f xs) s ≡ Ok (f (get_or xs s d))
at_map f [] s d h = absurd (omega arith)
at_map f (x ∷ xs) zero d h = refl
at_map f (x ∷ xs) (suc s) d h = at_map f xs s d (omega arith)

pub at_past : {X Y : Type 0} (f : X → Y) (xs : List X) (s : ℕ) → length xs ≤ s → at_place (map f xs) s ≡ Err 1
at_past f [] s h = refl
at_past f (x ∷ xs) zero h = absurd (omega arith)
at_past f (x ∷ xs) (suc s) h = at_past f xs s (omega arith)

-- what is found of a stored table
module _ {S R : Type 0} (K : Ghosts S R) (ts : List (Station S)) (s : ℕ) where
  -- the table is no table
  pub found_many : 16 < length ts → found K (map (station_of K) ts) s ≡ Err 1
  found_many h = let l = length-map ts (station_of K) in cond-true _ _ _ (lt-ltb 16 (length (map (station_of K) ts)) (omega arith))

  few : length ts ≤ 16 → found K (map (station_of K) ts) s ≡ bearing K s (at_place (map (station_of K) ts) s)
  few h = let l = length-map ts (station_of K) in cond-false _ _ _ (le-ltb 16 (length (map (station_of K) ts)) (omega arith))

  pub found_past : length ts ≤ 16 → length ts ≤ s → found K (map (station_of K) ts) s ≡ Err 1
  found_past h past = few h ∙ ap (bearing K s) (at_past (station_of K) ts s past)

  -- it bears another number
  pub found_other : (d : Station S) → length ts ≤ 16 → s < length ts → ((get_or ts s d).number ≡ s → ⊥) → found K (map (station_of K) ts) s ≡ Err 1
  found_other d h within other = few h ∙ ap (bearing K s) (at_map (station_of K) ts s d within) ∙ cond-false _ _ _ (ne_eqb _ _ other)

  pub found_here : (d : Station S) → length ts ≤ 16 → s < length ts → (get_or ts s d).number ≡ s → found K (map (station_of K) ts) s ≡ Ok (station_of K (get_or ts s d))
  found_here d h within own = few h ∙ ap (bearing K s) (at_map (station_of K) ts s d within) ∙ cond-true _ _ _ (eq-eqb _ _ own)
