-- A change at one place of a table. Assumes nothing.
use Rattle.std.proofs.Common.{◌≡◌, ℕ, suc, ◌+◌, ◌<◌, List, [], ◌∷◌, map, length, get_or, set, Ok, Err, Result, sym, refl, ap, ◌∙◌, subst, ⊎_elim, arith}
use Rattle.std.proofs.lemmas.List.{map-set, set-get_or, get_or-set_same, get_or-set_other}
use Rattle.std.proofs.lemmas.Bool.{cases_eq}
use Rattle.words.specs.Refusals.{value_or}
use Rattle.crdt.specs.declared.kind.Crdt.{Ghosts}
use Rattle.mailboxes.specs.Mailboxes.{Kept}
use Rattle.histories.specs.Clusters.{fresh}
use Rattle.histories.specs.Calls.{changed}
use Rattle.stations.specs.declared.station.Station.{Station}
use Rattle.stations.specs.Stored.{station_of}
use Rattle.stations.specs.Tables.{Others, all_fresh}

-- what one place becomes, the table becomes
pub changed_one : {X Y E : Type 0} (f : X → Y) (ts : List X) (s : ℕ) (d y : X) (o : Result Y E) → f y ≡ value_or (f (get_or ts s d)) o → map f (set ts s y) ≡ changed (map f ts) s o
changed_one f ts s d y (Ok p) e = map-set f ts s y ∙ ap (set (map f ts) s) e
changed_one f ts s d y (Err w) e = map-set f ts s y ∙ ap (set (map f ts) s) e ∙ sym (map-set f ts s (get_or ts s d)) ∙ ap (map f) (set-get_or ts s d)

pub others_one : {X : Type 0} (ts : List X) (s : ℕ) (y : X) → Others s ts (set ts s y)
others_one ts s y k d ne = get_or-set_other ts s k y d ne

pub kept_one : {X T E : Type 0} (r : Result T E) (ts : List X) (s : ℕ) (d y : X) → Kept r (get_or ts s d) y → Kept r ts (set ts s y)
kept_one (Ok x) ts s d y h = tt
kept_one (Err e) ts s d y h = ap (set ts s) h ∙ set-get_or ts s d

-- one more fresh station
module _ {S R : Type 0} (K : Ghosts S R) where
  pub fresh_more : (ts : List (Station S)) (i : ℕ) (st : Station S) → i < length ts → ((k : ℕ) (d : Station S) → k < i → station_of K (get_or ts k d) ≡ fresh K k) → station_of K st ≡ fresh K i → (k : ℕ) (d : Station S) → k < i + 1 → station_of K (get_or (set ts i st) k d) ≡ fresh K k
  fresh_more ts i st low before here k d h =
      ⊎_elim
      (λ (e : k ≡ i). subst (λ (j : ℕ). station_of K (get_or (set ts i st) j d) ≡ fresh K j) (sym e) (ap (station_of K) (get_or-set_same ts i st d low) ∙ here))
      (λ (ne : k ≡ i → ⊥). ap (station_of K) (get_or-set_other ts i k st d ne) ∙ before k d (omega (arith, ne)))
      (cases_eq k i)

  -- where each is fresh, all are
  pub fresh_all : (ts : List (Station S)) (i : ℕ) → ((k : ℕ) (d : Station S) → k < length ts → station_of K (get_or ts k d) ≡ fresh K (i + k)) → map (station_of K) ts ≡ all_fresh K i (length ts)
  fresh_all [] i each = refl
  fresh_all (t ∷ ts) i each =
      let first : station_of K t ≡ fresh K i = each 0 t (omega arith) ∙ ap (fresh K) (omega arith) in
      let rest = fresh_all ts (suc i) (λ k d h. each (suc k) d (omega arith) ∙ ap (fresh K) (omega arith)) in
      ap (λ x. x ∷ map (station_of K) ts) first ∙ ap (λ xs. fresh K i ∷ xs) rest
