-- What a send of a delta message comes to. Assumes nothing.
use Rattle.std.proofs.Common.{◌≡◌, ℕ, ◌+◌, ◌<◌, ◌≤◌, min, Bool, false, ltb, List, map, length, get_or, set, Ok, Err, Result, Some, None, Option, is_some, refl, sym, ap, ◌∙◌, subst, arith}
use Rattle.std.proofs.lemmas.List.{map-set, get_or-set_other}
use Rattle.std.proofs.lemmas.Bool.{le-ltb, ltb-false, eq-eqb, ne_eqb, cond-true, cond-false}
use Rattle.std.specs.Option.{ok_or}
use Rattle.words.specs.declared.refusal.Refusal.{Refusal}
use Rattle.words.specs.declared.refusal.Refusal.TheVariants as why
use Rattle.words.specs.Writes.{capped}
use Rattle.crdt.specs.declared.kind.Crdt.{Ghosts}
use Rattle.counters.specs.Counts.{clock_of}
use Rattle.mailboxes.specs.Mailboxes.{Kept}
use Rattle.wire.specs.Messages.{Message, delta, Clock, packed}
use Rattle.histories.specs.Clusters.{entry, found}
use Rattle.histories.specs.Calls.{posting, emptied, sending_delta, changed_too}
use Rattle.stations.specs.declared.station.Station.{Station}
use Rattle.stations.specs.Stored.{station_of, Here}
use Rattle.stations.specs.Tables.{Others}
use Rattle.stations.proofs.Tables.{found_here}

-- what holds of the table, by what came of the send
pub record Tabled {X Y W E : Type 0} (f : X → Y) (s : ℕ) (what : Result (W × Y) E) (r : Result ℕ Refusal) (was is : List X) : Type 0 where
  pub stations : map f is ≡ changed_too (map f was) s what
  pub others : Others s was is
  pub refused : Kept r was is

module _ {X Y W E : Type 0} (f : X → Y) (s : ℕ) (what : Result (W × Y) E) (was : List X) where
  -- it is what it was
  pub table_kept : (r : Result ℕ Refusal) (is : List X) (e : E) (u : Refusal) → r ≡ Err u → what ≡ Err e → is ≡ was → Tabled f s what r was is
  table_kept r is e u q w same = record {
    stations = ap (map f) same ∙ sym (ap (changed_too (map f was) s) w);
    others = λ k d ne. ap (λ (l : List X). get_or l k d) same;
    refused = subst (λ (x : Result ℕ Refusal). Kept x was is) (sym q) same;
  }

  -- one place has changed
  pub table_changed : (n : ℕ) (m : W) (x : Y) (y : X) → what ≡ Ok (m, x) → f y ≡ x → Tabled f s what (Ok n) was (set was s y)
  table_changed n m x y w h = record {
    stations = map-set f was s y ∙ ap (set (map f was) s) h ∙ sym (ap (changed_too (map f was) s) w);
    others = λ k d ne. get_or-set_other was s k y d ne;
    refused = tt;
  }

-- a span that is missing
pub no_span : {X : Type 0} (o : Option X) (e : Refusal) → Err e ≡ ok_or o why.Nothing → (is_some o ≡ false) × (e ≡ why.Nothing)
no_span None e h = (refl, cc)
no_span (Some x) e h = let z : ◌≡◌ {A = ℕ} 0 1 = cc in absurd (omega arith)

module _ {S R : Type 0} (K : Ghosts S R) (ts : List (Station S)) (s : ℕ) (d : Station S) (here : Here ts s) (takes : ℕ → Bool) (room : ℕ) where
  abbrev pub stored : Station S
  stored = get_or ts s d

  abbrev pub own : ℕ
  own = entry (clock_of stored.clock.counts) stored.number

  pub low : s ≤ 15
  low = let few = here.few in let within = here.within in omega arith

  own_is : own ≡ entry (clock_of stored.clock.counts) s
  own_is = ap (entry (clock_of stored.clock.counts)) (here.own d)

  abbrev pub delta_of : (from to : ℕ) → Message Clock K.Value
  delta_of from to = delta s from to (K.value stored.pending)

  pub delta_size : (from to a : ℕ) → a ≡ capped (length (K.written (K.value stored.pending))) → min (3 + a) 128 ≡ min (length (packed K (delta_of from to))) 128
  delta_size from to a p = omega arith

  module _ (enough : 127 ≤ room) where
    -- all has been sent
    pub delta_nothing : ltb (station_of K stored).sent own ≡ false → sending_delta K takes s room (found K (map (station_of K) ts) s) ≡ Err 5
    delta_nothing h =
        let all : own ≤ (station_of K stored).sent = ltb-false _ _ h in
        ap (sending_delta K takes s room) (found_here K ts s d here.few here.within (here.own d))
        ∙ cond-false _ _ _ (le-ltb room 127 enough)
        ∙ cond-true _ _ _ (eq-eqb (station_of K stored).sent (entry (clock_of stored.clock.counts) s) (omega (arith, all, own_is)))

    pub delta_what : (from to : ℕ) → from ≡ (station_of K stored).sent → to ≡ own → from < to → sending_delta K takes s room (found K (map (station_of K) ts) s) ≡ posting K takes (delta_of from to) (emptied K s (station_of K stored))
    delta_what from to f t rises =
        ap (sending_delta K takes s room) (found_here K ts s d here.few here.within (here.own d))
        ∙ cond-false _ _ _ (le-ltb room 127 enough)
        ∙ cond-false _ _ _ (ne_eqb (station_of K stored).sent (entry (clock_of stored.clock.counts) s) (λ e. omega (arith, e, f, t, rises, own_is)))
        ∙ ap (λ x. posting K takes (delta_of x (entry (clock_of stored.clock.counts) s)) (emptied K s (station_of K stored))) (sym f)
        ∙ ap (λ x. posting K takes (delta_of from x) (emptied K s (station_of K stored))) (sym (t ∙ own_is))

  pub settled : (y : Station S) → station_of K y ≡ emptied K stored.number (station_of K stored) → station_of K y ≡ emptied K s (station_of K stored)
  settled y h = h ∙ ap (λ n. emptied K n (station_of K stored)) (here.own d)
