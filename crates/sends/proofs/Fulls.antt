-- What a send of a full message comes to. Assumes nothing.
use Rattle.std.proofs.Common.{◌≡◌, ℕ, ◌+◌, ◌≤◌, min, Bool, List, map, length, get_or, Ok, Err, Result, sym, ap, ◌∙◌, arith, length-append}
use Rattle.std.proofs.lemmas.Bool.{le-ltb, cond-false}
use Rattle.words.specs.Refusals.{bare}
use Rattle.words.specs.Writes.{capped}
use Rattle.crdt.specs.declared.kind.Crdt.{Ghosts}
use Rattle.counters.specs.Counts.{clock_of}
use Rattle.wire.specs.Messages.{Message, full, Clock, packed, clock_written}
use Rattle.histories.specs.Clusters.{found}
use Rattle.histories.specs.Calls.{posting, sending_full}
use Rattle.stations.specs.declared.station.Station.{Station}
use Rattle.stations.specs.Stored.{station_of, Here}
use Rattle.stations.proofs.Tables.{found_here}

-- a bare refusal is a refusal
pub refused_found : {X : Type 0} (o : Result X ℕ) (n : ℕ) → ◌≡◌ {A = Result (Unit {0}) ℕ} (Err n) (bare o) → o ≡ Err n
refused_found (Ok x) n h = let z : ◌≡◌ {A = ℕ} 0 1 = cc in absurd (omega arith)
refused_found (Err m) n h = let q : m ≡ n = cc in ap Err q

module _ {S R : Type 0} (K : Ghosts S R) (ts : List (Station S)) (s : ℕ) (e : Station S) (here : Here ts s) (is : e ≡ get_or ts s e) where
  pub found_stored : found K (map (station_of K) ts) s ≡ Ok (station_of K e)
  found_stored = found_here K ts s e here.few here.within (here.own e) ∙ ap (λ x. Ok (station_of K x)) (sym is)

  pub near : s ≤ 15
  near = let few = here.few in let within = here.within in omega arith

  abbrev pub full_of : Message Clock K.Value
  full_of = full s (clock_of e.clock.counts) (K.value e.«record»)

  pub full_size : (a b : ℕ) → a ≡ capped (length (clock_written (clock_of e.clock.counts))) → b ≡ capped (length (K.written (K.value e.«record»))) → min (1 + a + b) 128 ≡ min (length (packed K full_of)) 128
  full_size a b p q = let all = length-append (clock_written (clock_of e.clock.counts)) (K.written (K.value e.«record»)) in omega arith

  pub full_what : (takes : ℕ → Bool) (room : ℕ) → 127 ≤ room → sending_full K takes s room (found K (map (station_of K) ts) s) ≡ posting K takes full_of (station_of K e)
  full_what takes room enough = ap (sending_full K takes s room) found_stored ∙ cond-false _ _ _ (le-ltb room 127 enough)
