-- What a stored station stands for after a message, and before a refused one. Assumes nothing.
use Rattle.std.proofs.Common.{◌≡◌, ℕ, ◌≤◌, min, false, ◌&&◌, eqb, ltb, Ok, Err, Result, sym, ap, ◌∙◌, arith}
use Rattle.std.proofs.lemmas.Bool.{cond-false, le-ltb}
use Rattle.std.proofs.lemmas.Bool.Decides.{nat_tests}
use Rattle.crdt.specs.declared.kind.Crdt.{Ghosts}
use Rattle.counters.specs.declared.counts.Counts.{Counts}
use Rattle.counters.specs.Counts.{clock_of, larger, only}
use Rattle.entries.specs.declared.kind.Clock.{Clock as ClockKind}
use Rattle.words.specs.Readings.{Told}
use Rattle.wire.specs.Messages.{Message, full, delta, Clock}
use Rattle.wire.specs.Answers.{unpack_answer, clock_unpacked, record_unpacked}
use Rattle.messages.specs.declared.header.Header.{Header}
use Rattle.messages.specs.declared.header.Header.TheVariants as header
use Rattle.messages.specs.Headers.{header_parts, message_of}
use Rattle.histories.specs.Clusters.{entry, raised}
use Rattle.histories.specs.Calls.{hearing}
use Rattle.histories.proofs.Clocks.{entry_larger}
use Rattle.fetches.proofs.Raises.{only_most}
use Rattle.stations.specs.declared.station.Station.{Station}
use Rattle.stations.specs.Stored.{station_of}

-- a stored clock
abbrev VectorClock : Type 0
VectorClock = Counts ClockKind

not_ahead : (i s own t : ℕ) → (i ≡ s → t ≤ own) → (eqb i s && ltb own t) ≡ false
not_ahead i s own t low = grind (arith, nat_tests)

-- the own entry is not raised, so the sent mark stands for what it did
module _ {S R : Type 0} (K : Ghosts S R) (st : Station S) where
  abbrev pub own : ℕ
  own = entry (clock_of st.clock.counts) st.number

  -- the station with another clock and record
  abbrev pub with : VectorClock → S → Station S
  with time held = record { number = st.number; clock = time; «record» = held; pending = st.pending; sent = st.sent }

  stands : (time : VectorClock) (held : S) (c : Clock) (v : K.Value) → clock_of time.counts ≡ c → K.value held ≡ v → entry c st.number ≡ own →
      record { number = st.number; clock = c; held = v; pending = K.value st.pending; sent = min st.sent own } ≡ station_of K (with time held)
  stands time held c v e d same = λ i. record {
    number = st.number;
    clock = sym e i;
    held = sym d i;
    pending = K.value st.pending;
    sent = ap (min st.sent) (sym (ap (λ x. entry x st.number) e ∙ same)) i;
  }

  module _ (time : VectorClock) (held : S) (v : K.Value) (joins : K.value held ≡ K.joined (K.value st.«record») v) where
    pub heard_full : (i : ℕ) (c : Clock) → entry c st.number ≤ own → clock_of time.counts ≡ larger (clock_of st.clock.counts) c →
        hearing K st.number (station_of K st) (full i c v) ≡ Ok (station_of K (with time held))
    heard_full i c low e =
        let most = entry_larger (clock_of st.clock.counts) c st.number in
        let kept : entry (larger (clock_of st.clock.counts) c) st.number ≡ own = omega arith in
        cond-false _ _ _ (le-ltb own (entry c st.number) low) ∙ ap Ok (stands time held _ _ e joins kept)

    pub heard_delta : (i f t : ℕ) → (i ≡ st.number → t ≤ own) → f ≤ entry (clock_of st.clock.counts) i → clock_of time.counts ≡ raised (clock_of st.clock.counts) i t →
        hearing K st.number (station_of K st) (delta i f t v) ≡ Ok (station_of K (with time held))
    heard_delta i f t low near e =
        let most = entry_larger (clock_of st.clock.counts) (only i t) st.number in
        let least = only_most i t st.number own (λ same. low (sym same)) in
        let kept : entry (raised (clock_of st.clock.counts) i t) st.number ≡ own = omega arith in
        cond-false _ _ _ (not_ahead i st.number own t low) ∙ cond-false _ _ _ (le-ltb (entry (clock_of st.clock.counts) i) f near) ∙ ap Ok (stands time held _ _ e joins kept)

-- what was unpacked, by the header, the clock and the record that came of it
pub unpack_err : {V : Type 0} (x : Result (Message Clock V) Told) (f : Told) → Err f ≡ unpack_answer x → x ≡ Err f
unpack_err (Ok m) f e = let z : ◌≡◌ {A = ℕ} 0 1 = cc in absurd (omega arith)
unpack_err (Err g) f e = let h : f ≡ g = cc in ap Err (sym h)

pub unpack_ok : {V : Type 0} (h : Header) (x : Result (Message Clock V) Told) (c : Clock) (v d : V) → Ok (header_parts h) ≡ unpack_answer x → c ≡ clock_unpacked x → v ≡ record_unpacked d x → x ≡ Ok (message_of h c v)
unpack_ok h (Err g) c v d e p q = let z : ◌≡◌ {A = ℕ} 0 1 = cc in absurd (omega arith)
unpack_ok (header.Full s) (Ok (full r c' v')) c v d e p q = let a : s ≡ r = cc in cc
unpack_ok (header.Full s) (Ok (delta r f t v')) c v d e p q = let z : ◌≡◌ {A = ℕ} 0 1 = cc in absurd (omega arith)
unpack_ok (header.Delta s n) (Ok (full r c' v')) c v d e p q = let z : ◌≡◌ {A = ℕ} 0 1 = cc in absurd (omega arith)
unpack_ok (header.Delta s n) (Ok (delta r f t v')) c v d e p q =
    let a : s ≡ r = cc in
    let b : n.from ≡ f = cc in
    let g : n.to ≡ t = cc in
    cc
