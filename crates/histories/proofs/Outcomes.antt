-- What is so where a call is done: the ways of its tests, taken back. Assumes nothing.
use Rattle.std.proofs.Common.{◌≡◌, ℕ, zero, suc, ◌<◌, ◌≤◌, Bool, true, false, cond, ◌≢◌, List, [], ◌∷◌, length, get_or, Ok, Err, Result, sym, refl, ap, ◌∙◌, arith}
use Rattle.std.proofs.lemmas.Bool.{ltb-true, ltb-false, leb-false, eqb-true, eqb-false}
use Rattle.words.specs.declared.fault.Layer.TheVariants as layer
use Rattle.words.specs.Readings.{plain_fault}
use Rattle.words.specs.Writes.{most}
use Rattle.crdt.specs.declared.kind.Crdt.{Ghosts}
use Rattle.mailboxes.specs.Mailboxes.{counted}
use Rattle.wire.specs.Messages.{Message, full, delta, Clock, packed}
use Rattle.wire.specs.Openings.{unpacked}
use Rattle.histories.specs.Clusters.{Station, entry, at_place, bearing, found}
use Rattle.histories.specs.Calls.{with_delta, reporting, posting, emptied, sending_delta, sending_full, hearing, hearing_opened, fetching}
use Rattle.histories.proofs.Sound.{with_report, with_message, Reaches}

module _ {X E : Type 0} where
  pub ok_same : (x y : X) → ◌≡◌ {A = Result X E} (Ok x) (Ok y) → x ≡ y
  ok_same x y e = cc

  pub never_ok : {P : Type 0} (n : E) (y : X) → ◌≡◌ {A = Result X E} (Err n) (Ok y) → P
  never_ok n y e = let z : ◌≡◌ {A = ℕ} 0 1 = cc in absurd (omega arith)

  pub passes : (b : Bool) (n : E) (x : Result X E) (y : X) → cond b (Err n) x ≡ Ok y → (b ≡ false) × (x ≡ Ok y)
  passes true n x y e = never_ok n y e
  passes false n x y e = (refl, e)

  pub passes_else : (b : Bool) (n : E) (x : Result X E) (y : X) → cond b x (Err n) ≡ Ok y → (b ≡ true) × (x ≡ Ok y)
  passes_else true n x y e = (refl, e)
  passes_else false n x y e = never_ok n y e

placed : {X : Type 0} (xs : List X) (i : ℕ) (x : X) → at_place xs i ≡ Ok x → (i < length xs) × ((d : X) → get_or xs i d ≡ x)
placed [] i x e = never_ok 1 x e
placed (y ∷ ys) zero x e = (omega arith, λ d. ok_same y x e)
placed (y ∷ ys) (suc i) x e = let p = placed ys i x e in (omega (arith, p.0), p.1)

-- station s of a table, where it is found
pub record Found {V : Type 0} (ts : List (Station V)) (s : ℕ) (st : Station V) : Type 0 where
  pub few : length ts ≤ 16
  pub within : s < length ts
  pub named : st.number ≡ s
  pub here : (d : Station V) → get_or ts s d ≡ st

module _ {S R : Type 0} (K : Ghosts S R) where
  bearing_was : (s : ℕ) (x : Result (Station K.Value) ℕ) (st : Station K.Value) → bearing K s x ≡ Ok st → (st.number ≡ s) × (x ≡ Ok st)
  bearing_was s (Ok x) st e =
      let p = passes_else _ _ _ st e in
      (ap (λ (y : Station K.Value). y.number) (sym (ok_same x st p.1)) ∙ eqb-true x.number s p.0, p.1)
  bearing_was s (Err n) st e = never_ok n st e

  pub found_was : (ts : List (Station K.Value)) (s : ℕ) (st : Station K.Value) → found K ts s ≡ Ok st → Found ts s st
  found_was ts s st e =
      let p = passes _ _ _ st e in
      let q = bearing_was s (at_place ts s) st p.1 in
      let r = placed ts s st q.1 in
      record { few = ltb-false 16 (length ts) p.0; within = r.0; named = q.0; here = r.1 }

  -- a report
  pub record Reported (ts : List (Station K.Value)) (s : ℕ) (r : R) (after : Station K.Value) : Type 0 where
    pub before : Station K.Value
    pub known : Found ts s before
    pub room : entry before.clock s < 65535
    pub change : K.Value
    pub allowed : K.reported before.held s r ≡ Ok change
    pub leaves : after ≡ with_report K s change before

  module _ (ts : List (Station K.Value)) (s : ℕ) (r : R) (after : Station K.Value) where
    delta_was : (st : Station K.Value) (x : Result K.Value ℕ) → Found ts s st → entry st.clock s < 65535 → K.reported st.held s r ≡ x → with_delta K s st x ≡ Ok after → Reported ts s r after
    delta_was st (Ok d) known room is e = record { before = st; known = known; room = room; change = d; allowed = is; leaves = sym (ok_same _ after e) }
    delta_was st (Err n) known room is e = never_ok n after e

    report_was : (x : Result (Station K.Value) ℕ) → found K ts s ≡ x → reporting K s r x ≡ Ok after → Reported ts s r after
    report_was (Ok st) is e =
        let p = passes _ _ _ after e in
        delta_was st (K.reported st.held s r) (found_was ts s st is) (leb-false 65535 (entry st.clock s) p.0) refl p.1
    report_was (Err n) is e = never_ok n after e

    pub reported_was : reporting K s r (found K ts s) ≡ Ok after → Reported ts s r after
    reported_was e = report_was (found K ts s) refl e

  -- a message that is put, and the station that is left
  pub record Posted (m : Message Clock K.Value) (st : Station K.Value) (put : List ℕ × Station K.Value) : Type 0 where
    pub short : length (packed K m) ≤ most
    pub words : put.0 ≡ packed K m
    pub leaves : put.1 ≡ st

  posted_was : (takes : ℕ → Bool) (m : Message Clock K.Value) (st : Station K.Value) (put : List ℕ × Station K.Value) → posting K takes m st ≡ Ok put → Posted m st put
  posted_was takes m st put e =
      let n : ℕ = length (packed K m) in
      let p = passes _ _ _ put e in
      let q = passes_else _ _ _ put p.1 in
      let same : (packed K m, st) ≡ put = ok_same (packed K m, st) put q.1 in
      record { short = ltb-false most n p.0; words = ap (λ (x : List ℕ × Station K.Value). x.0) (sym same); leaves = ap (λ (x : List ℕ × Station K.Value). x.1) (sym same) }

  pub record SentDelta (ts : List (Station K.Value)) (s : ℕ) (put : List ℕ × Station K.Value) : Type 0 where
    pub before : Station K.Value
    pub known : Found ts s before
    pub some : before.sent ≢ entry before.clock s
    pub posted : Posted (delta s before.sent (entry before.clock s) before.pending) (emptied K s before) put

  pub record SentFull (ts : List (Station K.Value)) (s : ℕ) (put : List ℕ × Station K.Value) : Type 0 where
    pub before : Station K.Value
    pub known : Found ts s before
    pub posted : Posted (full s before.clock before.held) before put

  module _ (takes : ℕ → Bool) (ts : List (Station K.Value)) (s room : ℕ) (put : List ℕ × Station K.Value) where
    delta_sent : (x : Result (Station K.Value) ℕ) → found K ts s ≡ x → sending_delta K takes s room x ≡ Ok put → SentDelta ts s put
    delta_sent (Ok st) is e =
        let m : Message Clock K.Value = delta s st.sent (entry st.clock s) st.pending in
        let p = passes _ _ _ put e in
        let r = passes _ _ _ put p.1 in
        record { before = st; known = found_was ts s st is; some = eqb-false _ _ r.0; posted = posted_was takes m (emptied K s st) put r.1 }
    delta_sent (Err n) is e = never_ok n put e

    pub delta_was_sent : sending_delta K takes s room (found K ts s) ≡ Ok put → SentDelta ts s put
    delta_was_sent e = delta_sent (found K ts s) refl e

    full_sent : (x : Result (Station K.Value) ℕ) → found K ts s ≡ x → sending_full K takes s room x ≡ Ok put → SentFull ts s put
    full_sent (Ok st) is e =
        let m : Message Clock K.Value = full s st.clock st.held in
        let p = passes _ _ _ put e in
        record { before = st; known = found_was ts s st is; posted = posted_was takes m st put p.1 }
    full_sent (Err n) is e = never_ok n put e

    pub full_was_sent : sending_full K takes s room (found K ts s) ≡ Ok put → SentFull ts s put
    full_was_sent e = full_sent (found K ts s) refl e

  -- a fetch
  pub record Fetched (ws : List (List ℕ)) (ts : List (Station K.Value)) (s k : ℕ) (after : Station K.Value) : Type 0 where
    pub before : Station K.Value
    pub known : Found ts s before
    pub waits : k < counted ws
    pub heard : hearing_opened K s before (unpacked K (get_or ws k [])) ≡ Ok after

  module _ (ws : List (List ℕ)) (ts : List (Station K.Value)) (s k room : ℕ) (after : Station K.Value) where
    fetch_was : (x : Result (Station K.Value) ℕ) → found K ts s ≡ x → fetching K ws s k room x ≡ Ok after → Fetched ws ts s k after
    fetch_was (Ok st) is e =
        let p = passes _ _ _ after e in
        let q = passes_else _ _ _ after p.1 in
        record { before = st; known = found_was ts s st is; waits = ltb-true k (counted ws) q.0; heard = q.1 }
    fetch_was (Err n) is e = never_ok (plain_fault layer.Station n) after e

    pub fetched_was : fetching K ws s k room (found K ts s) ≡ Ok after → Fetched ws ts s k after
    fetched_was e = fetch_was (found K ts s) refl e

  pub heard_was : (s : ℕ) (st : Station K.Value) (m : Message Clock K.Value) (after : Station K.Value) → hearing K s st m ≡ Ok after → Reaches st m × (after ≡ with_message K m st)
  heard_was s st (full i c v) after e = let p = passes _ _ _ after e in (tt, sym (ok_same _ after p.1))
  heard_was s st (delta i f t v) after e =
      let p = passes _ _ _ after e in
      let q = passes _ _ _ after p.1 in
      (ltb-false (entry st.clock i) f q.0, sym (ok_same _ after q.1))
