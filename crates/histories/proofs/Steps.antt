-- Every step of a history keeps the invariant. Assumes nothing.
use Rattle.std.proofs.Common.{◌≡◌, ℕ, Bool, true, false, cond, ltb, List, [], ◌∷◌, length, Ok, Err, Result, sym, refl, ap, subst, arith}
use Rattle.std.specs.List.{remove}
use Rattle.std.proofs.lemmas.Bool.{ltb-true}
use Rattle.words.specs.Readings.{Told}
use Rattle.crdt.specs.declared.kind.Crdt.{Ghosts}
use Rattle.mailboxes.specs.Mailboxes.{counted}
use Rattle.histories.specs.Clusters.{Station, Cluster, found}
use Rattle.histories.specs.Calls.{Call, report, send_delta, send_full, fetch, discard, count, fits, peek, Answer, done_if, sent_if, changed, changed_too, appended, reporting, sending_delta, sending_full, fetching, Step}
use Rattle.histories.specs.Histories.{did, History, end, origins, Lawful, reports, Fresh}
use Rattle.histories.proofs.Overs.{Laws}
use Rattle.histories.proofs.Sound.{Sound, fresh_sound}
use Rattle.histories.proofs.Outcomes.{reported_was, delta_was_sent, full_was_sent, fetched_was}
use Rattle.histories.proofs.Mails.{Mails}
use Rattle.histories.proofs.Kept.{Good, same_good, report_good, delta_good, full_good, fetch_good, discard_good}

module _ {S R : Type 0} (K : Ghosts S R) (laws : Laws K) (start : Cluster K.Value) (n : ℕ) where
  -- the invariant after a history
  abbrev pub Kept : History K.Value R → Type 0
  Kept h = Good K laws start n (reports K start h) (origins h) (end start h)

  -- a fresh table and an empty mailbox
  start_kept : Fresh K n start → Kept []
  start_kept blank = record {
    size = blank.size;
    stations = λ i low. subst (Sound K [] i) (sym (blank.blank i low)) (fresh_sound K laws i (omega (arith, blank.few)));
    sizes = sym (ap length blank.empty);
    mails = subst (Mails K start [] []) (sym blank.empty) (λ k low. absurd (omega arith));
    numbered = tt;
    strangers = λ j high. refl;
  }

  module _ (h : History K.Value R) (z : Cluster K.Value) (g : Kept h) where
    report_kept : (s : ℕ) (r : R) (o : Result (Station K.Value) ℕ) → reporting K s r (found K (end start h).stations s) ≡ o →
        z.stations ≡ changed (end start h).stations s o → z.waiting ≡ (end start h).waiting → Kept (did (report s r) (done_if o) z ∷ h)
    report_kept s r (Ok after) is stations waiting =
        report_good K laws start n (reports K start h) (origins h) (end start h) z g s r after _ (reported_was K (end start h).stations s r after is) refl stations waiting
    report_kept s r (Err e) is stations waiting = same_good K laws start n (reports K start h) (origins h) (end start h) z g stations waiting

    delta_kept : (s room : ℕ) (o : Result (List ℕ × Station K.Value) ℕ) → sending_delta K (end start h).takes s room (found K (end start h).stations s) ≡ o →
        z.stations ≡ changed_too (end start h).stations s o → z.waiting ≡ appended (end start h).waiting o → Kept (did (send_delta s room) (sent_if o) z ∷ h)
    delta_kept s room (Ok put) is stations waiting =
        delta_good K laws start n (reports K start h) (origins h) (end start h) z g s put h (delta_was_sent K (end start h).takes (end start h).stations s room put is) stations waiting
    delta_kept s room (Err e) is stations waiting = same_good K laws start n (reports K start h) (origins h) (end start h) z g stations waiting

    full_kept : (s room : ℕ) (o : Result (List ℕ × Station K.Value) ℕ) → sending_full K (end start h).takes s room (found K (end start h).stations s) ≡ o →
        z.stations ≡ (end start h).stations → z.waiting ≡ appended (end start h).waiting o → Kept (did (send_full s room) (sent_if o) z ∷ h)
    full_kept s room (Ok put) is stations waiting =
        full_good K laws start n (reports K start h) (origins h) (end start h) z g s put h (full_was_sent K (end start h).takes (end start h).stations s room put is) refl stations waiting
    full_kept s room (Err e) is stations waiting = same_good K laws start n (reports K start h) (origins h) (end start h) z g stations waiting

    fetch_kept : (s k room : ℕ) (a : Answer) (o : Result (Station K.Value) Told) → fetching K (end start h).waiting s k room (found K (end start h).stations s) ≡ o →
        z.stations ≡ changed (end start h).stations s o → z.waiting ≡ (end start h).waiting → Kept (did (fetch s k room) a z ∷ h)
    fetch_kept s k room a (Ok after) is stations waiting =
        fetch_good K laws start n (reports K start h) (origins h) (end start h) z g s k after (fetched_was K (end start h).waiting (end start h).stations s k room after is) stations waiting
    fetch_kept s k room a (Err e) is stations waiting = same_good K laws start n (reports K start h) (origins h) (end start h) z g stations waiting

    discard_kept : (k : ℕ) (b : Bool) → ltb k (counted (end start h).waiting) ≡ b →
        z.stations ≡ (end start h).stations → z.waiting ≡ cond b (remove (end start h).waiting k) (end start h).waiting → Kept (did (discard k) (done_if {X = Unit {0}} (cond b (Ok tt) (Err 9))) z ∷ h)
    discard_kept k true is stations waiting =
        discard_good K laws start n (reports K start h) (origins h) (end start h) z g k (ltb-true k (counted (end start h).waiting) is) stations waiting
    discard_kept k false is stations waiting = same_good K laws start n (reports K start h) (origins h) (end start h) z g stations waiting

    step_kept : (c : Call R) (a : Answer) → Step K (end start h) c a z → Kept (did c a z ∷ h)
    step_kept (report s r) a step =
        subst (λ x. Kept (did (report s r) x z ∷ h)) (sym step.answer) (report_kept s r _ refl step.stations step.waiting)
    step_kept (send_delta s room) a step =
        subst (λ x. Kept (did (send_delta s room) x z ∷ h)) (sym step.answer) (delta_kept s room _ refl step.stations step.waiting)
    step_kept (send_full s room) a step =
        subst (λ x. Kept (did (send_full s room) x z ∷ h)) (sym step.answer) (full_kept s room _ refl step.stations step.waiting)
    step_kept (fetch s k room) a step = fetch_kept s k room a _ refl step.stations step.waiting
    step_kept (discard k) a step =
        subst (λ x. Kept (did (discard k) x z ∷ h)) (sym step.answer) (discard_kept k _ refl step.stations step.waiting)
    step_kept count a step = same_good K laws start n (reports K start h) (origins h) (end start h) z g step.stations step.waiting
    step_kept (fits m) a step = same_good K laws start n (reports K start h) (origins h) (end start h) z g step.stations step.waiting
    step_kept (peek k room) a step = same_good K laws start n (reports K start h) (origins h) (end start h) z g step.stations step.waiting

  -- every history from a fresh table and an empty mailbox keeps the invariant
  pub kept : Fresh K n start → (h : History K.Value R) → Lawful K start h → Kept h
  kept blank [] lawful = start_kept blank
  kept blank (did c a z ∷ h) lawful = step_kept h z (kept blank h lawful.1) c a lawful.0
