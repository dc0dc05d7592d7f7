-- Every history of calls keeps the whole promise. Assumes nothing.
use Rattle.std.proofs.Common.{◌≡◌, ℕ, ◌<◌, ◌≤◌, List, [], ◌∷◌, ◌++◌, length, get_or, set, Ok, Err, Result, sym, refl, ap, ◌∙◌, subst, inl, inr, arith}
use Rattle.std.proofs.lemmas.List.{get_or-set_same}
use Rattle.std.proofs.lemmas.Bool.{cases_eq, cases_lt, le-leb}
use Rattle.words.specs.Readings.{Told}
use Rattle.words.specs.Writes.{write_answer, write_leaves}
use Rattle.crdt.specs.declared.kind.Crdt.{Ghosts}
use Rattle.counters.specs.Counts.{larger}
use Rattle.wire.specs.Messages.{Message, full, delta, Clock}
use Rattle.histories.specs.Clusters.{Station, Cluster, entry, fresh, found}
use Rattle.histories.specs.Calls.{fetch, number, fetched_if, changed, hearing_opened, fetching, Step}
use Rattle.histories.specs.Histories.{did, History, Accepted, as_full, origin, report_count, end, station, Lawful, clock_of, held_by, reports, Fresh}
use Rattle.histories.specs.Promises.{CaughtUp, Gathered, CoversAll, Truly, Promised, HistoriesPromised}
use Rattle.histories.proofs.Clocks.{entry_larger}
use Rattle.histories.proofs.Overs.{Laws, Numbered, covers, numbered_le, over_same, join_covered, join_spanned}
use Rattle.histories.proofs.Sound.{with_message, SoundMessage}
use Rattle.histories.proofs.Outcomes.{Fetched, fetched_was, heard_was}
use Rattle.histories.proofs.Steps.{kept}
use Rattle.histories.proofs.Moments.{lawful_before, FullMail, full_mail, joins_over, joins, numbered, ordered, equal, accepted, rises_later}

module _ {S R : Type 0} (K : Ghosts S R) where
  -- a fetch that answers a number is done
  answers_number : (y z : Cluster K.Value) (s k size m : ℕ) (o : Result (Station K.Value) Told) → number size ≡ fetched_if s k m o → z.stations ≡ changed y.stations s o →
      (after : Station K.Value) × (o ≡ Ok after) × (z.stations ≡ set y.stations s after)
  answers_number y z s k size m (Ok after) is stations = (after, refl, stations)
  answers_number y z s k size m (Err f) is stations = let z : ◌≡◌ {A = ℕ} 0 1 = cc in absurd (omega arith)

module _ {S R : Type 0} (K : Ghosts S R) (laws : Laws K) (start : Cluster K.Value) (n : ℕ) (blank : Fresh K n start) where
  -- a fetch of a full message brings the entry for its sender to what it was there, at least
  full_heard : (y z : Cluster K.Value) (s k i : ℕ) (after : Station K.Value) (log : List (Accepted K.Value)) (sent_after : History K.Value R) →
      Fetched K y.waiting y.stations s k after → FullMail K laws start log (get_or y.waiting k []) i sent_after → z.stations ≡ set y.stations s after →
      report_count i (reports K start sent_after) ≤ entry (station K z s).clock i
  full_heard y z s k i after log sent_after f m stations =
      let heard = heard_was K s f.before (full m.sender m.clock m.held) after (ap (hearing_opened K s f.before) (sym m.opens) ∙ f.heard) in
      let there : station K z s ≡ with_message K (full m.sender m.clock m.held) f.before =
      ap (λ ts. get_or ts s (fresh K 0)) stations ∙ get_or-set_same y.stations s after (fresh K 0) f.known.within ∙ heard.1 in
      let e : entry (station K z s).clock i ≡ entry (larger f.before.clock m.clock) i = ap (λ (x : Station K.Value). entry x.clock i) there in
      omega (arith, e, entry_larger f.before.clock m.clock i, m.sent)

  full_fetched : (g : History K.Value R) → Lawful K start g → (z : Cluster K.Value) (s k room size : ℕ) → Step K (end start g) (fetch s k room) (number size) z →
      (i : ℕ) (sent_after : History K.Value R) → origin g k ≡ as_full i sent_after → report_count i (reports K start sent_after) ≤ entry (station K z s).clock i
  full_fetched g lawful z s k room size step i sent_after came =
      let y : Cluster K.Value = end start g in
      let w : List ℕ = get_or y.waiting k [] in
      let done = answers_number K y z s k size (length w) (fetching K y.waiting s k room (found K y.stations s)) step.answer step.stations in
      let f = fetched_was K y.waiting y.stations s k room done.0 done.1 in
      let mail = (kept K laws start n blank g lawful).mails k (omega (arith, f.waits)) in
      full_heard y z s k i done.0 (reports K start g) sent_after f (full_mail K laws start (origin g k) i sent_after came (reports K start g) w mail) done.2

  caught : (h : History K.Value R) → Lawful K start h → (s i : ℕ) → s < n → CaughtUp K start h s i → report_count i (reports K start h) ≤ entry (clock_of K start h s) i
  caught h lawful s i low c =
      let here : History K.Value R = did (fetch s c.place c.given) (number c.size) c.then ∷ c.earlier in
      let whole : Lawful K start (c.later ++ here) = subst (Lawful K start) c.fetched lawful in
      let part : Lawful K start here = lawful_before K laws start c.later here whole in
      let got : report_count i (reports K start c.sent_after) ≤ entry (clock_of K start here s) i =
      full_fetched c.earlier part.1 c.then s c.place c.given c.size part.0 i c.sent_after c.sent in
      let rest : entry (clock_of K start here s) i ≤ entry (clock_of K start h s) i =
      subst (λ l. entry (clock_of K start here s) i ≤ entry (clock_of K start l s) i) (sym c.fetched) (rises_later K laws start n blank c.later here whole s i low) in
      omega (arith, c.last)

  covers_counts : (h : History K.Value R) → Lawful K start h → (s : ℕ) → s < n → Gathered K start n h s → (i : ℕ) → report_count i (reports K start h) ≤ entry (clock_of K start h s) i
  covers_counts h lawful s low gathered i = elim (cases_lt i n) [
    | inl within ↦ elim (cases_eq i s) [
      | inl same ↦ omega (arith, subst (λ j. entry (clock_of K start h s) j ≡ report_count j (reports K start h)) (sym same) (numbered K laws start n blank h lawful s low))
      | inr other ↦ caught h lawful s i low (gathered i within other)
    ]
    | inr past ↦ omega (arith, (kept K laws start n blank h lawful).strangers i past)
  ]

  covering : (h : History K.Value R) → Lawful K start h → (s : ℕ) → s < n → Gathered K start n h s → CoversAll K start h s
  covering h lawful s low gathered =
      numbered_le (entry (clock_of K start h s)) (reports K start h) (kept K laws start n blank h lawful).numbered (covers_counts h lawful s low gathered)

  agreeing : (h : History K.Value R) → Lawful K start h → (s t : ℕ) → s < n → t < n → Gathered K start n h s → Gathered K start n h t → held_by K start h s ≡ held_by K start h t
  agreeing h lawful s t low high left right =
      joins_over K laws start n blank h lawful s low
      ∙ over_same K laws (reports K start h) (covers (entry (clock_of K start h s))) (covers (entry (clock_of K start h t))) (λ j k one some.
      le-leb _ _ (omega (arith, covers_counts h lawful s low left j)) ∙ sym (le-leb _ _ (omega (arith, covers_counts h lawful t high right j))))
      ∙ sym (joins_over K laws start n blank h lawful t high)

  truly : (log : List (Accepted K.Value)) (m : Message Clock K.Value) → Numbered log → SoundMessage K log m → Truly K start log m
  truly log (full i c v) numbered sound = sound.held ∙ sym (join_covered K laws c log numbered)
  truly log (delta i f t v) numbered sound = sound.held ∙ sym (join_spanned K laws i f t log numbered)

  promised : (h : History K.Value R) → Lawful K start h → Promised K start n h
  promised h lawful =
      let whole : (x : History K.Value R) → x ≡ h → Lawful K start x = λ x e. subst (Lawful K start) (sym e) lawful in
      let part : (later g : History K.Value R) → later ++ g ≡ h → Lawful K start g = λ later g e. lawful_before K laws start later g (whole (later ++ g) e) in
      record {
        numbered = λ later g e. numbered K laws start n blank g (part later g e);
        joins = λ later g e. joins K laws start n blank g (part later g e);
        pending = λ later g e s low.
            let k = kept K laws start n blank g (part later g e) in
            (k.stations s low).pending ∙ sym (join_spanned K laws s (station K (end start g) s).sent (entry (clock_of K start g s) s) (reports K start g) k.numbered);
        messages = λ later g e k low.
            let all = kept K laws start n blank g (part later g e) in
            let mail = all.mails k low in
            record { message = mail.message; unpacks = mail.opens; says = truly (reports K start g) mail.message all.numbered mail.sound };
        ordered = λ later g later' g' e e'. ordered K laws start n blank later g later' g' (whole (later ++ g) e) (e ∙ sym e');
        alike = λ later g later' g' e e' s t low high level old place.
            let same : held_by K start g s ≡ held_by K start g' t = equal K laws start n blank later g later' g' (whole (later ++ g) e) (e ∙ sym e') s t low high level in
            (ap (λ v. write_answer (length old) place (length (K.written v))) same, ap (λ v. write_leaves old place (K.written v)) same);
        accepted = λ later g e. accepted K laws start n blank g (part later g e);
        covering = λ later g e. covering g (part later g e);
        agreeing = λ later g e. agreeing g (part later g e);
      }

pub histories_promised : {S R : Type 0} (K : Ghosts S R) → Laws K → HistoriesPromised K
histories_promised K laws start n blank h lawful = promised K laws start n blank h lawful
