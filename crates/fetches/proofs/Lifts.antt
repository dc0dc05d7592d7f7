-- From a message that was read to a fetch. Assumes nothing.
use Rattle.std.proofs.Common.{◌≡◌, ℕ, ◌+◌, ◌-◌, Bool, true, false, cond, ltb, List, [], ◌∷◌, ◌++◌, map, length, get_or, take, drop, Ok, Err, Result, MatchResult, OnOk, is_ok, sym, refl, ap, ◌∙◌, arith}
use Rattle.std.proofs.lemmas.List.{take-append-le, take_all}
use Rattle.words.specs.declared.fault.Fault.{Fault}
use Rattle.words.specs.declared.fault.Layer.TheVariants as layer
use Rattle.words.specs.Readings.{Told, told_fault, plain_fault}
use Rattle.words.specs.Refusals.{bare}
use Rattle.words.specs.Writes.{most, put}
use Rattle.crdt.specs.declared.kind.Crdt.{Ghosts}
use Rattle.mailboxes.specs.Mailboxes.{counted, read_answer, read_leaves, Kept}
use Rattle.wire.specs.Openings.{unpacked}
use Rattle.histories.specs.Clusters.{Station as Meant, found}
use Rattle.histories.specs.Calls.{faulted, hearing_opened, fetching, fetched_if}
use Rattle.stations.specs.declared.station.Station.{Station}
use Rattle.stations.specs.Stored.{station_of, Here}
use Rattle.stations.proofs.Tables.{found_here}
use Rattle.fetches.specs.declared.fault.FetchFault.{FetchFault}
use Rattle.fetches.specs.Fetches.{fetch_told}

pub kept_same : {X T E : Type 0} (r : Result T E) (x : X) → Kept r x x
kept_same (Ok t) x = tt
kept_same (Err e) x = refl

-- what a map_err was given, by what it gives
pub was_ok : {T E : Type 0} (F : Type 0) (r : Result T E) (x : T) (Q : E → Type 0) → MatchResult r (λ y. ◌≡◌ {A = Result T F} (Ok x) (Ok y)) Q → ((e : E) → Q e → ⊥) → r ≡ Ok x
was_ok F (Ok y) x Q h not = let e : x ≡ y = cc in ap Ok (sym e)
was_ok F (Err e) x Q h not = absurd (not e h)

pub was_err : {T E F : Type 0} (r : Result T E) (x : F) (Q : E → Type 0) → MatchResult r (λ y. ◌≡◌ {A = Result T F} (Err x) (Ok y)) Q → (e : E) × (r ≡ Err e) × Q e
was_err (Ok y) x Q h = let z : ◌≡◌ {A = ℕ} 0 1 = cc in absurd (omega arith)
was_err (Err e) x Q h = (e, refl, h)

pub on_ok : {T E P : Type 0} (r : Result T E) → true ≡ is_ok r → OnOk r P → P
on_ok (Ok x) h p = p
on_ok (Err e) h p = let z : ◌≡◌ {A = ℕ} 0 1 = cc in absurd (omega arith)

pub kept_err : {X T E : Type 0} (r : Result T E) (was is : X) → false ≡ is_ok r → Kept r was is → is ≡ was
kept_err (Ok t) was is h k = let z : ◌≡◌ {A = ℕ} 0 1 = cc in absurd (omega arith)
kept_err (Err e) was is h k = k

pub kept_as : {X T E : Type 0} (r : Result T E) (was is : X) → is ≡ was → Kept r was is
kept_as (Ok t) was is h = tt
kept_as (Err e) was is h = h

pub bare_err : {X E : Type 0} (x : Result X E) (e : E) → Err e ≡ bare x → x ≡ Err e
bare_err (Ok y) e p = let z : ◌≡◌ {A = ℕ} 0 1 = cc in absurd (omega arith)
bare_err (Err f) e p = let h : e ≡ f = cc in ap Err (sym h)

-- a read that is done
pub record Done {X : Type 0} (b c : Bool) (len n : ℕ) (o : Result X Told) (old new : List ℕ) : Type 0 where
  pub long : n ≡ len
  pub heard : cond b (Err (plain_fault layer.Mailbox 6)) (cond c o (Err (plain_fault layer.Mailbox 9))) ≡ o
  pub leaves : cond b old (cond c new old) ≡ new

read_ok_by : {X : Type 0} (b c : Bool) (len n : ℕ) (o : Result X Told) (old new : List ℕ) → ◌≡◌ {A = Result ℕ ℕ} (Ok n) (cond b (Err 6) (cond c (Ok len) (Err 9))) → Done b c len n o old new
read_ok_by true c len n o old new e = let z : ◌≡◌ {A = ℕ} 0 1 = cc in absurd (omega arith)
read_ok_by false true len n o old new e = record { long = cc; heard = refl; leaves = refl }
read_ok_by false false len n o old new e = let z : ◌≡◌ {A = ℕ} 0 1 = cc in absurd (omega arith)

module _ {S R : Type 0} (K : Ghosts S R) (ws : List (List ℕ)) (s k : ℕ) (old : List ℕ) (st : Meant K.Value) where
  -- message k was read
  pub record Read (n : ℕ) : Type 0 where
    pub long : n ≡ length (get_or ws k [])
    pub heard : fetching K ws s k (length old) (Ok st) ≡ hearing_opened K s st (unpacked K (get_or ws k []))
    pub leaves : read_leaves ws k old ≡ put old 0 (get_or ws k [])

  pub was_read : (n : ℕ) → Ok n ≡ read_answer ws k (length old) → Read n
  was_read n e =
      let p = read_ok_by (ltb (length old) most) (ltb k (counted ws)) (length (get_or ws k [])) n (hearing_opened K s st (unpacked K (get_or ws k []))) old (put old 0 (get_or ws k [])) e in
      record { long = p.long; heard = p.heard; leaves = p.leaves }

-- the words of a message that stand at the front
front : (old m : List ℕ) → put old 0 m ≡ m ++ drop (length m) old
front [] m = let z : 0 + length m ≡ length m = omega arith in ap (λ n. m ++ drop n []) z
front (w ∷ old) m = let z : 0 + length m ≡ length m = omega arith in ap (λ n. m ++ drop n (w ∷ old)) z

at_front : (old m new : List ℕ) (n : ℕ) → n ≡ length m → new ≡ put old 0 m → take (n - 0) new ≡ m
at_front old m new n long is =
    let l : n - 0 ≡ length m = omega arith in
    ap (λ x. take x new) l ∙ ap (take (length m)) (is ∙ front old m) ∙ take-append-le (length m) m (drop (length m) old) (omega arith) ∙ take_all (length m) m (omega arith)

-- a fetch by a station that is there, of a message that was read as part
fetch_is : {S R : Type 0} (K : Ghosts S R) (ws : List (List ℕ)) (s k : ℕ) (old : List ℕ) (ts : List (Station S)) (d : Station S) (n : ℕ) (part : List ℕ) → Here ts s → Ok n ≡ read_answer ws k (length old) → part ≡ get_or ws k [] →
    fetching K ws s k (length old) (found K (map (station_of K) ts) s) ≡ hearing_opened K (get_or ts s d).number (station_of K (get_or ts s d)) (unpacked K part)
fetch_is K ws s k old ts d n part here e is =
    let st = get_or ts s d in
    ap (fetching K ws s k (length old)) (found_here K ts s d here.few here.within (here.own d))
    ∙ (was_read K ws s k old (station_of K st) n e).heard
    ∙ ap (λ m. hearing_opened K m (station_of K st) (unpacked K (get_or ws k []))) (sym (here.own d))
    ∙ ap (λ m. hearing_opened K st.number (station_of K st) (unpacked K m)) (sym is)

-- and so the fetch is what is made of the words at the front
pub fetch_read : {S R : Type 0} (K : Ghosts S R) (ws : List (List ℕ)) (s k : ℕ) (old : List ℕ) (ts : List (Station S)) (d : Station S) (n : ℕ) (new : List ℕ) → Here ts s → Ok n ≡ read_answer ws k (length old) → new ≡ read_leaves ws k old →
    fetching K ws s k (length old) (found K (map (station_of K) ts) s) ≡ hearing_opened K (get_or ts s d).number (station_of K (get_or ts s d)) (unpacked K (take (n - 0) new))
fetch_read K ws s k old ts d n new here e left =
    let r = was_read K ws s k old (station_of K d) n e in
    fetch_is K ws s k old ts d n (take (n - 0) new) here e (at_front old (get_or ws k []) new n r.long (left ∙ r.leaves))

-- what a fetch tells of its fault
pub told_by : (r : Result ℕ FetchFault) (x : FetchFault) {s k : ℕ} {t : Told} → r ≡ Err x → x.station ≡ s → x.message ≡ k → told_fault x.fault ≡ t → fetch_told r ≡ faulted s k t
told_by r x {s} {k} is at of why = ap fetch_told is ∙ ap (λ i. faulted i x.message (told_fault x.fault)) at ∙ ap (λ i. faulted s i (told_fault x.fault)) of ∙ ap (faulted s k) why

-- what a fetch tells of a message that was taken in or refused
pub told_ok : {X : Type 0} (o : Result X Told) (u : Unit {0}) (s k n len : ℕ) → Ok u ≡ bare o → n ≡ len → fetch_told (Ok n) ≡ fetched_if s k len o
told_ok (Ok x) u s k n len e h = cc
told_ok (Err f) u s k n len e h = let z : ◌≡◌ {A = ℕ} 0 1 = cc in absurd (omega arith)

pub told_err : {X : Type 0} (o : Result X Told) (f : Fault) (s k len : ℕ) → Err (told_fault f) ≡ bare o → fetch_told (Err (record { station = s; message = k; fault = f })) ≡ fetched_if s k len o
told_err (Ok x) f s k len e = let z : ◌≡◌ {A = ℕ} 0 1 = cc in absurd (omega arith)
told_err (Err g) f s k len e = cc
