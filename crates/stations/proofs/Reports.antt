-- A report that is taken in. Assumes nothing.
use Rattle.std.proofs.Common.{◌≡◌, ℕ, ◌+◌, ◌%◌, ◌<◌, ◌≤◌, min, max, cond, eqb, List, length, get_or, set, Ok, Err, Result, sym, refl, ap, ◌∙◌, ⊎_elim, arith, get_or-set_other, get_or-set_same}
use Rattle.std.proofs.lemmas.Bool.{eq-eqb, ne_eqb, lt-leb, cond-true, cond-false, cases_eq}
use Rattle.words.specs.Refusals.{bare, value_or}
use Rattle.crdt.specs.declared.kind.Crdt.{Ghosts}
use Rattle.entries.specs.Sixteen.{tabulated, getD_tabulated}
use Rattle.entries.specs.Rows.{same_row}
use Rattle.entries.proofs.Scans.{tabulated_same}
use Rattle.counters.specs.Counts.{clock_of, only}
use Rattle.histories.specs.Clusters.{Station as Meant, entry, raised}
use Rattle.histories.specs.Calls.{with_delta, reporting}
use Rattle.stations.specs.declared.station.Station.{Station}
use Rattle.stations.specs.Stored.{station_of}

-- a stored count that is not lowered raises the clock
pub raised_stored : (xs : List ℕ) (s m : ℕ) → length xs ≡ 16 → s < 16 → m ≤ 65535 → entry (clock_of xs) s ≤ m → clock_of (set xs s m) ≡ raised (clock_of xs) s m
raised_stored xs s m long low small above = same_row _ _ (tabulated_same _ _ each)
  where
    one : (k : ℕ) → k < 16 → get_or (only {top = 65535} s m).numbers k 0 ≡ cond (eqb k s) m 0 % 65536
    one k h = getD_tabulated (λ j. get_or (tabulated (λ i. cond (eqb i s) m 0)) j 0 % 65536) k h ∙ ap (λ x. x % 65536) (getD_tabulated (λ i. cond (eqb i s) m 0) k h)

    was : (k : ℕ) → k < 16 → entry (clock_of xs) k ≡ get_or xs k 0 % 65536
    was k h = getD_tabulated (λ j. get_or xs j 0 % 65536) k h

    each : (k : ℕ) → k < 16 → get_or (set xs s m) k 0 % 65536 ≡ max (entry (clock_of xs) k) (get_or (only {top = 65535} s m).numbers k 0)
    each k h = ⊎_elim
        (λ (e : k ≡ s).
        let within : s < length xs = omega arith in
        let now : get_or (set xs s m) k 0 ≡ m = ap (λ j. get_or (set xs s m) j 0) e ∙ get_or-set_same xs s m 0 within in
        let new : get_or (only {top = 65535} s m).numbers k 0 ≡ m % 65536 = one k h ∙ ap (λ x. x % 65536) (cond-true (eqb k s) m 0 (eq-eqb k s e)) in
        let old : entry (clock_of xs) k ≡ entry (clock_of xs) s = ap (entry (clock_of xs)) e in
        ap (λ x. x % 65536) now ∙ omega (arith, new, old, above, small))
        (λ (ne : k ≡ s → ⊥).
        let now : get_or (set xs s m) k 0 ≡ get_or xs k 0 = get_or-set_other xs s k m 0 ne in
        let new : get_or (only {top = 65535} s m).numbers k 0 ≡ 0 = one k h ∙ ap (λ x. x % 65536) (cond-false (eqb k s) m 0 (ne_eqb k s ne)) in
        let old = was k h in
        ap (λ x. x % 65536) now ∙ omega (arith, new, old))
        (cases_eq k s)

pub entry_set : (xs : List ℕ) (s m : ℕ) → length xs ≡ 16 → s < 16 → m ≤ 65535 → entry (clock_of (set xs s m)) s ≡ m
entry_set xs s m long low small =
    let within : s < length xs = omega arith in
    getD_tabulated (λ j. get_or (set xs s m) j 0 % 65536) s low ∙ ap (λ x. x % 65536) (get_or-set_same xs s m 0 within) ∙ omega arith

-- what a delta that is not refused is
pub delta_done : {V : Type 0} (o : Result V ℕ) (d e : V) → ◌≡◌ {A = Result (Unit {0}) ℕ} (Ok tt) (bare o) → d ≡ value_or e o → o ≡ Ok d
delta_done (Ok x) d e h is = ap Ok (sym is)
delta_done (Err n) d e h is = let z : ◌≡◌ {A = ℕ} 0 1 = cc in absurd (omega arith)

module _ {S R : Type 0} (K : Ghosts S R) where
  pub same_station : (a b : Meant K.Value) → a.number ≡ b.number → a.clock ≡ b.clock → a.held ≡ b.held → a.pending ≡ b.pending → a.sent ≡ b.sent → a ≡ b
  same_station a b n c h p t = λ i. record { number = n i; clock = c i; held = h i; pending = p i; sent = t i }

  module _ (st : Station S) (r : R) (v : K.Value) where
    pub reporting_done : entry (clock_of st.clock.counts) st.number < 65535 → K.reported (K.value st.«record») st.number r ≡ Ok v → reporting K st.number r (Ok (station_of K st)) ≡ with_delta K st.number (station_of K st) (Ok v)
    reporting_done low is = cond-false _ _ _ (lt-leb 65535 _ low) ∙ ap (with_delta K st.number (station_of K st)) is

    -- the station as it is stored after it
    pub reporting_leaves : (own : ℕ) (held pending : S) (sent : ℕ) → length st.clock.counts ≡ 16 → st.number < 16 → own ≡ entry (clock_of st.clock.counts) st.number → own < 65535 → K.value held ≡ K.joined (K.value st.«record») v → K.value pending ≡ K.joined (K.value st.pending) v → sent ≡ min st.sent own → with_delta K st.number (station_of K st) (Ok v) ≡ Ok (station_of K (record { number = st.number; clock = record st.clock { counts = set st.clock.counts st.number (own + 1) }; «record» = held; pending = pending; sent = sent }))
    reporting_leaves own held pending sent long few is low h p t =
        let xs = st.clock.counts in
        let s = st.number in
        let rises : clock_of (set xs s (own + 1)) ≡ raised (clock_of xs) s (entry (clock_of xs) s + 1) = raised_stored xs s (own + 1) long few (omega arith) (omega arith) ∙ ap (λ n. raised (clock_of xs) s (n + 1)) is in
        let at : entry (clock_of (set xs s (own + 1))) s ≡ own + 1 = entry_set xs s (own + 1) long few (omega arith) in
        ap Ok (same_station _ _ refl (sym rises) (sym h) (sym p) (omega (arith, at, t, is)))
