-- No call lowers an entry of any clock. Assumes nothing.
use Rattle.std.proofs.Common.{◌≡◌, ℕ, ◌+◌, ◌<◌, ◌≤◌, List, [], length, get_or, set, Ok, Err, Result, sym, refl, subst, arith}
use Rattle.words.specs.Readings.{Told}
use Rattle.crdt.specs.declared.kind.Crdt.{Ghosts}
use Rattle.counters.specs.Counts.{only}
use Rattle.wire.specs.Messages.{Message, full, delta, Clock}
use Rattle.wire.specs.Openings.{unpacked}
use Rattle.histories.specs.Clusters.{Station, Cluster, entry, raised, fresh, found}
use Rattle.histories.specs.Calls.{Call, report, send_delta, send_full, fetch, discard, count, fits, peek, Answer, changed, changed_too, reporting, sending_delta, hearing_opened, fetching, Step}
use Rattle.histories.specs.Histories.{station}
use Rattle.histories.proofs.Clocks.{entry_larger}
use Rattle.histories.proofs.Sound.{with_message}
use Rattle.histories.proofs.Outcomes.{never_ok, Found, reported_was, delta_was_sent, fetched_was, heard_was}
use Rattle.histories.proofs.Mails.{set_all}

abbrev Higher : {V : Type 0} → Station V → Station V → Type 0
Higher x y = (j : ℕ) → entry x.clock j ≤ entry y.clock j

raised_higher : (c : Clock) (i m j : ℕ) → entry c j ≤ entry (raised c i m) j
raised_higher c i m j = omega (arith, entry_larger c (only i m) j)

module _ {S R : Type 0} (K : Ghosts S R) where
  message_higher : (m : Message Clock K.Value) (st : Station K.Value) → Higher st (with_message K m st)
  message_higher (full i c v) st j = omega (arith, entry_larger st.clock c j)
  message_higher (delta i f t v) st j = raised_higher st.clock i t j

  opened_higher : (s : ℕ) (st after : Station K.Value) (x : Result (Message Clock K.Value) Told) → hearing_opened K s st x ≡ Ok after → Higher st after
  opened_higher s st after (Ok m) e = let heard = heard_was K s st m after e in subst (Higher st) (sym heard.1) (message_higher m st)
  opened_higher s st after (Err f) e = never_ok f after e

  module _ (n : ℕ) (y z : Cluster K.Value) (size : length y.stations ≡ n) where
    none_changed : z.stations ≡ y.stations → (s : ℕ) → Higher (station K y s) (station K z s)
    none_changed same s = subst (λ ts. Higher (station K y s) (get_or ts s (fresh K 0))) (sym same) (λ j. omega arith)

    one_changed : (i : ℕ) (before after : Station K.Value) → Found y.stations i before → z.stations ≡ set y.stations i after → Higher before after →
        (s : ℕ) → s < n → Higher (station K y s) (station K z s)
    one_changed i before after known is more s low =
        subst (λ ts. Higher (station K y s) (get_or ts s (fresh K 0))) (sym is)
        (set_all (λ k x. Higher (station K y k) x) y.stations (fresh K 0) i after
        (subst (λ x. Higher x after) (sym (known.here (fresh K 0))) more)
        (λ k within other j. omega arith) s (omega arith))

    by_report : (i : ℕ) (r : R) (o : Result (Station K.Value) ℕ) → reporting K i r (found K y.stations i) ≡ o → z.stations ≡ changed y.stations i o →
        (s : ℕ) → s < n → Higher (station K y s) (station K z s)
    by_report i r (Ok after) e is s low =
        let done = reported_was K y.stations i r after e in
        one_changed i done.before after done.known is
        (subst (Higher done.before) (sym done.leaves) (raised_higher done.before.clock i (entry done.before.clock i + 1))) s low
    by_report i r (Err e) was is s low = none_changed is s

    by_delta : (i room : ℕ) (o : Result (List ℕ × Station K.Value) ℕ) → sending_delta K y.takes i room (found K y.stations i) ≡ o → z.stations ≡ changed_too y.stations i o →
        (s : ℕ) → s < n → Higher (station K y s) (station K z s)
    by_delta i room (Ok put) e is s low =
        let done = delta_was_sent K y.takes y.stations i room put e in
        one_changed i done.before put.1 done.known is (subst (Higher done.before) (sym done.posted.leaves) (λ j. omega arith)) s low
    by_delta i room (Err e) was is s low = none_changed is s

    by_fetch : (i k room : ℕ) (o : Result (Station K.Value) Told) → fetching K y.waiting i k room (found K y.stations i) ≡ o → z.stations ≡ changed y.stations i o →
        (s : ℕ) → s < n → Higher (station K y s) (station K z s)
    by_fetch i k room (Ok after) e is s low =
        let done = fetched_was K y.waiting y.stations i k room after e in
        one_changed i done.before after done.known is (opened_higher i done.before after (unpacked K (get_or y.waiting k [])) done.heard) s low
    by_fetch i k room (Err e) was is s low = none_changed is s

    pub rises : (c : Call R) (a : Answer) → Step K y c a z → (s : ℕ) → s < n → (j : ℕ) → entry (station K y s).clock j ≤ entry (station K z s).clock j
    rises (report i r) a step s low = by_report i r _ refl step.stations s low
    rises (send_delta i room) a step s low = by_delta i room _ refl step.stations s low
    rises (send_full i room) a step s low = none_changed step.stations s
    rises (fetch i k room) a step s low = by_fetch i k room _ refl step.stations s low
    rises (discard k) a step s low = none_changed step.stations s
    rises count a step s low = none_changed step.stations s
    rises (fits m) a step s low = none_changed step.stations s
    rises (peek k room) a step s low = none_changed step.stations s
