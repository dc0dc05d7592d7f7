-- Stations and messages that tell the truth of a list of reports, and how each call keeps them so. Assumes nothing.
use Rattle.std.proofs.Common.{◌≡◌, ℕ, suc, ◌+◌, ◌<◌, ◌≤◌, ◌||◌, eqb, leb, ◌≢◌, List, [], ◌∷◌, Ok, sym, refl, ap, ◌∙◌, subst, inl, inr, arith}
use Rattle.std.proofs.lemmas.Bool.{cond-false, ne_eqb, lt-leb, le-leb, cases_eq}
use Rattle.std.proofs.lemmas.Bool.Decides.{nat_tests}
use Rattle.words.specs.Refusals.{value_or}
use Rattle.crdt.specs.declared.kind.Crdt.{Ghosts}
use Rattle.counters.specs.Counts.{larger}
use Rattle.wire.specs.Messages.{Message, full, delta, Clock}
use Rattle.histories.specs.Clusters.{Station, entry, raised, fresh}
use Rattle.histories.specs.Calls.{with_delta, emptied}
use Rattle.histories.specs.Histories.{Accepted, report_count}
use Rattle.histories.proofs.Clocks.{entry_empty, entry_larger, entry_low, raised_by}
use Rattle.histories.proofs.Overs.{Laws, covers, spans, over, count_self, count_le, over_or, over_same, over_none, over_skips, over_takes}

pub record Sound {S R : Type 0} (K : Ghosts S R) (log : List (Accepted K.Value)) (i : ℕ) (st : Station K.Value) : Type 0 where
  pub named : st.number ≡ i
  pub few : i < 16
  pub own : entry st.clock i ≡ report_count i log
  pub below : (j : ℕ) → entry st.clock j ≤ report_count j log
  pub held : st.held ≡ over K log (covers (entry st.clock))
  pub marked : st.sent ≤ entry st.clock i
  pub pending : st.pending ≡ over K log (spans i st.sent (entry st.clock i))

pub record SoundSpan {S R : Type 0} (K : Ghosts S R) (log : List (Accepted K.Value)) (i f t : ℕ) (v : K.Value) : Type 0 where
  pub few : i < 16
  pub small : t ≤ 65535
  pub below : t ≤ report_count i log
  pub held : v ≡ over K log (spans i f t)

pub record SoundFull {S R : Type 0} (K : Ghosts S R) (log : List (Accepted K.Value)) (c : Clock) (v : K.Value) : Type 0 where
  pub below : (j : ℕ) → entry c j ≤ report_count j log
  pub held : v ≡ over K log (covers (entry c))

abbrev pub SoundMessage : {S R : Type 0} (K : Ghosts S R) (log : List (Accepted K.Value)) → Message Clock K.Value → Type 0
SoundMessage K log (full i c v) = SoundFull K log c v
SoundMessage K log (delta i f t v) = SoundSpan K log i f t v

-- the stations that the calls leave
abbrev pub with_report : {S R : Type 0} (K : Ghosts S R) → ℕ → K.Value → Station K.Value → Station K.Value
with_report K s d st = value_or st (with_delta K s st (Ok d))

abbrev pub with_message : {S R : Type 0} (K : Ghosts S R) → Message Clock K.Value → Station K.Value → Station K.Value
with_message K (full i c v) st = record { number = st.number; clock = larger st.clock c; held = K.joined st.held v; pending = st.pending; sent = st.sent }
with_message K (delta i f t v) st = record { number = st.number; clock = raised st.clock i t; held = K.joined st.held v; pending = st.pending; sent = st.sent }

-- a span that is fetched begins where the receiver's clock has come
abbrev pub Reaches : {V : Type 0} → Station V → Message Clock V → Type 0
Reaches st (full i c v) = Unit {0}
Reaches st (delta i f t v) = f ≤ entry st.clock i

span_more : (i m x j k : ℕ) → (j ≡ i → k ≤ x) → spans i m x j k ≡ spans i m (suc x) j k
span_more i m x j k low = elim (cases_eq j i) [
  | inl same ↦ (let lower : k ≤ x = low same in grind (arith, nat_tests))
  | inr other ↦ grind (arith, nat_tests)
]

span_joins : (c : Clock) (i a b k : ℕ) → i < 16 → b ≤ 65535 → a ≤ entry c i → (j : ℕ) → (leb k (entry c j) || spans i a b j k) ≡ leb k (entry (raised c i b) j)
span_joins c i a b k few small reaches = raised_by (λ j n. (leb k (entry c j) || spans i a b j k) ≡ leb k n) c i b few small (grind (arith, nat_tests)) (λ j other. grind (arith, nat_tests))

module _ {S R : Type 0} (K : Ghosts S R) (laws : Laws K) where
  pub fresh_sound : (i : ℕ) → i < 16 → Sound K [] i (fresh K i)
  fresh_sound i few = record {
    named = refl;
    few = few;
    own = entry_empty i;
    below = λ j. omega (arith, entry_empty j);
    held = refl;
    marked = omega arith;
    pending = refl;
  }

  pub covers_grown : (e : Accepted K.Value) (log : List (Accepted K.Value)) (c : ℕ → ℕ) → ((j : ℕ) → c j ≤ report_count j log) → over K (e ∷ log) (covers c) ≡ over K log (covers c)
  covers_grown e log c low = over_skips K laws e log (covers c) (lt-leb _ _ (omega (arith, low e.by)))

  spans_grown : (e : Accepted K.Value) (log : List (Accepted K.Value)) (i a b : ℕ) → b ≤ report_count i log → over K (e ∷ log) (spans i a b) ≡ over K log (spans i a b)
  spans_grown e log i a b low = over_skips K laws e log (spans i a b) (elim (cases_eq e.by i) [
    | inl same ↦ (let lower : b ≤ report_count e.by log = subst (λ j. b ≤ report_count j log) (sym same) low in grind (arith, nat_tests))
    | inr other ↦ grind (arith, nat_tests)
  ])

  pub grown : (e : Accepted K.Value) (log : List (Accepted K.Value)) (i : ℕ) (st : Station K.Value) → e.by ≢ i → Sound K log i st → Sound K (e ∷ log) i st
  grown e log i st other s = record {
    named = s.named;
    few = s.few;
    own = s.own ∙ sym (cond-false (eqb e.by i) _ _ (ne_eqb e.by i other));
    below = λ j. omega (arith, s.below j, count_le j e log);
    held = s.held ∙ sym (covers_grown e log (entry st.clock) s.below);
    marked = s.marked;
    pending = s.pending ∙ sym (spans_grown e log i st.sent (entry st.clock i) (s.below i));
  }

  pub grown_message : (e : Accepted K.Value) (log : List (Accepted K.Value)) (m : Message Clock K.Value) → SoundMessage K log m → SoundMessage K (e ∷ log) m
  grown_message e log (full i c v) s = record { below = λ j. omega (arith, s.below j, count_le j e log); held = s.held ∙ sym (covers_grown e log (entry c) s.below) }
  grown_message e log (delta i f t v) s = record {
    few = s.few;
    small = s.small;
    below = omega (arith, s.below, count_le i e log);
    held = s.held ∙ sym (spans_grown e log i f t s.below);
  }

  pub full_sound : (log : List (Accepted K.Value)) (i : ℕ) (st : Station K.Value) → Sound K log i st → SoundMessage K log (full i st.clock st.held)
  full_sound log i st s = record { below = s.below; held = s.held }

  pub delta_sound : (log : List (Accepted K.Value)) (i : ℕ) (st : Station K.Value) → Sound K log i st → SoundMessage K log (delta i st.sent (entry st.clock i) st.pending)
  delta_sound log i st s = record { few = s.few; small = entry_low st.clock i; below = s.below i; held = s.pending }

  pub emptied_sound : (log : List (Accepted K.Value)) (i : ℕ) (st : Station K.Value) → Sound K log i st → Sound K log i (emptied K i st)
  emptied_sound log i st s = record {
    named = s.named;
    few = s.few;
    own = s.own;
    below = s.below;
    held = s.held;
    marked = omega arith;
    pending = sym (over_none K laws log (spans i (entry st.clock i) (entry st.clock i)) (λ j k low high. grind (arith, nat_tests)));
  }

  pub report_sound : (log : List (Accepted K.Value)) (i : ℕ) (d : K.Value) (st : Station K.Value) → entry st.clock i < 65535 → Sound K log i st →
      Sound K (record { by = i; nth = suc (report_count i log); change = d } ∷ log) i (with_report K i d st)
  report_sound log i d st room s =
      let e : Accepted K.Value = record { by = i; nth = suc (report_count i log); change = d } in
      let x : ℕ = entry st.clock i in
      let c : Clock = raised st.clock i (x + 1) in
      let few : i < 16 = s.few in
      let small : x + 1 ≤ 65535 = omega arith in
      let own : x ≡ report_count i log = s.own in
      let at_i : entry c i ≡ suc x = raised_by (λ j n. j ≡ i → n ≡ suc x) st.clock i (x + 1) few small (λ same. omega arith) (λ j other same. absurd (other same)) i refl in
      record {
        named = s.named;
        few = few;
        own = at_i ∙ ap suc own ∙ sym (count_self e log);
        below = raised_by (λ j n. n ≤ report_count j (e ∷ log)) st.clock i (x + 1) few small (omega (arith, count_self e log)) (λ j other. omega (arith, s.below j, count_le j e log));
        held =
            ap (λ v. K.joined v d) s.held
            ∙ laws.comm _ d
            ∙ ap (K.joined d) (over_same K laws log (covers (entry st.clock)) (covers (entry c)) (λ j k low high.
            raised_by (λ j n. k ≤ report_count j log → leb k (entry st.clock j) ≡ leb k n) st.clock i (x + 1) few small (λ high. grind (arith, nat_tests)) (λ j other high. refl) j high))
            ∙ sym (over_takes K laws e log (covers (entry c)) (le-leb _ _ (omega arith)));
        marked = omega (arith, s.marked);
        pending =
            ap (λ v. K.joined v d) s.pending
            ∙ laws.comm _ d
            ∙ ap (K.joined d) (over_same K laws log (spans i st.sent x) (spans i st.sent (suc x)) (λ j k low high.
            span_more i st.sent x j k (λ same. omega (arith, subst (λ n. k ≤ report_count n log) same high))))
            ∙ sym (over_takes K laws e log (spans i st.sent (suc x)) (let marked : st.sent ≤ x = s.marked in grind (arith, nat_tests)))
            ∙ ap (λ n. over K (e ∷ log) (spans i st.sent n)) (sym at_i);
      }

  fetch_full : (log : List (Accepted K.Value)) (s : ℕ) (c : Clock) (i : ℕ) (v : K.Value) (st : Station K.Value) → Sound K log s st → SoundFull K log c v → Sound K log s (with_message K (full i c v) st)
  fetch_full log s c i v st good m =
      let c' : Clock = larger st.clock c in
      let same : entry st.clock s ≡ entry c' s = omega (arith, good.own, m.below s, entry_larger st.clock c s) in
      record {
        named = good.named;
        few = good.few;
        own = sym same ∙ good.own;
        below = λ j. omega (arith, good.below j, m.below j, entry_larger st.clock c j);
        held =
            ap (λ x. K.joined x v) good.held
            ∙ ap (K.joined _) m.held
            ∙ sym (over_or K laws log (covers (entry st.clock)) (covers (entry c)))
            ∙ over_same K laws log (λ j k. covers (entry st.clock) j k || covers (entry c) j k) (covers (entry c')) (λ j k low high.
            let most = entry_larger st.clock c j in grind (arith, nat_tests));
        marked = omega (arith, good.marked);
        pending = good.pending ∙ ap (λ n. over K log (spans s st.sent n)) same;
      }

  fetch_span : (log : List (Accepted K.Value)) (s i f t : ℕ) (v : K.Value) (st : Station K.Value) → Sound K log s st → SoundSpan K log i f t v → f ≤ entry st.clock i →
      Sound K log s (with_message K (delta i f t v) st)
  fetch_span log s i f t v st good m reaches =
      let c : Clock = st.clock in
      let c' : Clock = raised c i t in
      let same : entry c s ≡ entry c' s =
      raised_by (λ j n. j ≡ s → entry c s ≡ n) c i t m.few m.small
      (λ is.
      let low : t ≤ report_count i log = m.below in
      let own : entry c i ≡ report_count i log = subst (λ j. entry c j ≡ report_count j log) (sym is) good.own in
      ap (entry c) (sym is) ∙ omega arith)
      (λ j other is. ap (entry c) (sym is)) s refl in
      record {
        named = good.named;
        few = good.few;
        own = sym same ∙ good.own;
        below = raised_by (λ j n. n ≤ report_count j log) c i t m.few m.small (omega (arith, good.below i, m.below)) (λ j other. good.below j);
        held =
            ap (λ x. K.joined x v) good.held
            ∙ ap (K.joined _) m.held
            ∙ sym (over_or K laws log (covers (entry c)) (spans i f t))
            ∙ over_same K laws log (λ j k. covers (entry c) j k || spans i f t j k) (covers (entry c')) (λ j k low high. span_joins c i f t k m.few m.small reaches j);
        marked = omega (arith, good.marked);
        pending = good.pending ∙ ap (λ n. over K log (spans s st.sent n)) same;
      }

  pub fetch_sound : (log : List (Accepted K.Value)) (s : ℕ) (m : Message Clock K.Value) (st : Station K.Value) → Sound K log s st → SoundMessage K log m → Reaches st m → Sound K log s (with_message K m st)
  fetch_sound log s (full i c v) st good m reaches = fetch_full log s c i v st good m
  fetch_sound log s (delta i f t v) st good m reaches = fetch_span log s i f t v st good m reaches
