-- What every history keeps: the invariant, and each call that keeps it. Assumes nothing.
use Rattle.std.proofs.Common.{◌≡◌, ℕ, suc, ◌<◌, ◌≤◌, eqb, ◌≢◌, List, [], ◌∷◌, ◌++◌, length, get_or, set, sym, refl, ap, ◌∙◌, subst, arith, length-set}
use Rattle.std.specs.List.{remove}
use Rattle.std.proofs.lemmas.Bool.{ne_eqb, cond-false}
use Rattle.words.specs.Refusals.{value_or}
use Rattle.crdt.specs.declared.kind.Crdt.{Ghosts}
use Rattle.mailboxes.specs.Mailboxes.{counted}
use Rattle.wire.specs.Messages.{Message, full, delta, Clock, Sendable}
use Rattle.histories.specs.Clusters.{Station, Cluster, entry, fresh}
use Rattle.histories.specs.Calls.{emptied, hearing_opened}
use Rattle.histories.specs.Histories.{History, Accepted, Origin, as_full, as_delta, report_count, covered, join_of, station, reports}
use Rattle.histories.proofs.Clocks.{entry_low}
use Rattle.histories.proofs.Overs.{Laws, Numbered, join_covered}
use Rattle.histories.proofs.Sound.{Sound, grown, full_sound, delta_sound, emptied_sound, report_sound, fetch_sound, with_report, with_message}
use Rattle.histories.proofs.Outcomes.{Found, Reported, SentDelta, SentFull, Fetched, heard_was}
use Rattle.histories.proofs.Mails.{pushed, removed_both, set_all, Mail, Mails, mails_push, mails_removed, mail_grown}

module _ {S R : Type 0} (K : Ghosts S R) (laws : Laws K) (start : Cluster K.Value) (n : ℕ) where
  abbrev pub Stations : List (Accepted K.Value) → List (Station K.Value) → Type 0
  Stations log ts = (i : ℕ) → i < n → Sound K log i (get_or ts i (fresh K 0))

  pub record Good (log : List (Accepted K.Value)) (os : List (Origin K.Value R)) (y : Cluster K.Value) : Type 0 where
    pub size : length y.stations ≡ n
    pub stations : Stations log y.stations
    pub sizes : length os ≡ length y.waiting
    pub mails : Mails K start log os y.waiting
    pub numbered : Numbered log
    pub strangers : (j : ℕ) → n ≤ j → report_count j log ≡ 0

  -- one station replaced by another that is sound
  stations_set : (log : List (Accepted K.Value)) (ts : List (Station K.Value)) (i : ℕ) (st : Station K.Value) → length ts ≡ n →
      Sound K log i st → ((j : ℕ) → j < n → j ≢ i → Sound K log j (get_or ts j (fresh K 0))) → Stations log (set ts i st)
  stations_set log ts i st size here there j low = set_all (Sound K log) ts (fresh K 0) i st here (λ k within other. there k (omega arith) other) j (omega arith)

  module _ (log : List (Accepted K.Value)) (os : List (Origin K.Value R)) (y z : Cluster K.Value) (g : Good log os y) where
    pub same_good : z.stations ≡ y.stations → z.waiting ≡ y.waiting → Good log os z
    same_good stations waiting = record {
      size = ap length stations ∙ g.size;
      stations = subst (Stations log) (sym stations) g.stations;
      sizes = g.sizes ∙ sym (ap length waiting);
      mails = subst (Mails K start log os) (sym waiting) g.mails;
      numbered = g.numbered;
      strangers = g.strangers;
    }

    pub found_low : (s : ℕ) (st : Station K.Value) → Found y.stations s st → s < n
    found_low s st known = omega (arith, known.within, g.size)

    pub found_sound : (s : ℕ) (st : Station K.Value) → Found y.stations s st → Sound K log s st
    found_sound s st known = subst (Sound K log s) (known.here (fresh K 0)) (g.stations s (found_low s st known))

    pub report_good : (s : ℕ) (r : R) (after : Station K.Value) (d : K.Value) → Reported K y.stations s r after →
        d ≡ value_or K.least (K.reported (join_of K (covered (station K y s).clock log)) s r) →
        z.stations ≡ set y.stations s after → z.waiting ≡ y.waiting → Good (record { by = s; nth = suc (report_count s log); change = d } ∷ log) os z
    report_good s r after d done is stations waiting =
        let e : Accepted K.Value = record { by = s; nth = suc (report_count s log); change = d } in
        let st : Station K.Value = done.before in
        let low : s < n = found_low s st done.known in
        let before : Sound K log s st = found_sound s st done.known in
        let same : done.change ≡ d =
        ap (value_or K.least) (sym done.allowed)
        ∙ ap (λ v. value_or K.least (K.reported v s r)) (before.held ∙ sym (join_covered K laws st.clock log g.numbered))
        ∙ ap (λ (x : Station K.Value). value_or K.least (K.reported (join_of K (covered x.clock log)) s r)) (sym (done.known.here (fresh K 0)))
        ∙ sym is in
        let table : z.stations ≡ set y.stations s (with_report K s d st) = stations ∙ ap (set y.stations s) (done.leaves ∙ ap (λ v. with_report K s v st) same) in
        record {
          size = ap length table ∙ length-set y.stations s _ ∙ g.size;
          stations = subst (Stations (e ∷ log)) (sym table) (stations_set (e ∷ log) y.stations s (with_report K s d st) g.size
              (report_sound K laws log s d st done.room before)
              (λ j high other. grown K laws e log j _ (λ is'. other (sym is')) (g.stations j high)));
          sizes = g.sizes ∙ sym (ap length waiting);
          mails = subst (Mails K start (e ∷ log) os) (sym waiting) (λ k waits. mail_grown K start laws e log _ _ (g.mails k waits));
          numbered = (refl, g.numbered);
          strangers = λ j high. cond-false (eqb s j) _ _ (ne_eqb s j (omega arith)) ∙ g.strangers j high;
        }

    -- a message more, and the stations after it
    post_good : (o : Origin K.Value R) (w : List ℕ) → Mail K start log o w → length z.stations ≡ n → Stations log z.stations → z.waiting ≡ y.waiting ++ (w ∷ []) → Good log (os ++ (o ∷ [])) z
    post_good o w new size stations waiting = record {
      size = size;
      stations = stations;
      sizes = pushed os y.waiting o w g.sizes ∙ sym (ap length waiting);
      mails = subst (Mails K start log (os ++ (o ∷ []))) (sym waiting) (mails_push K start log os y.waiting g.sizes g.mails o w new);
      numbered = g.numbered;
      strangers = g.strangers;
    }

    pub delta_good : (s : ℕ) (put : List ℕ × Station K.Value) (h : History K.Value R) → SentDelta K y.stations s put →
        z.stations ≡ set y.stations s put.1 → z.waiting ≡ y.waiting ++ (put.0 ∷ []) → Good log (os ++ (as_delta s h ∷ [])) z
    delta_good s put h done stations waiting =
        let st : Station K.Value = done.before in
        let before : Sound K log s st = found_sound s st done.known in
        let m : Message Clock K.Value = delta s st.sent (entry st.clock s) st.pending in
        let marked : st.sent ≤ entry st.clock s = before.marked in
        let some : st.sent ≢ entry st.clock s = done.some in
        let sendable : Sendable K m = record { few = done.posted.short; station = before.few; rises = (omega arith, entry_low st.clock s) } in
        let new : Mail K start log (as_delta s h) put.0 =
        subst (Mail K start log (as_delta s h)) (sym done.posted.words) (record { message = m; opens = laws.wire.back m sendable; sound = delta_sound K laws log s st before; came = tt }) in
        let table : z.stations ≡ set y.stations s (emptied K s st) = stations ∙ ap (set y.stations s) done.posted.leaves in
        post_good (as_delta s h) put.0 new (ap length table ∙ length-set y.stations s _ ∙ g.size)
        (subst (Stations log) (sym table) (stations_set log y.stations s (emptied K s st) g.size (emptied_sound K laws log s st before) (λ j high other. g.stations j high)))
        waiting

    pub full_good : (s : ℕ) (put : List ℕ × Station K.Value) (h : History K.Value R) → SentFull K y.stations s put → report_count s log ≡ report_count s (reports K start h) →
        z.stations ≡ y.stations → z.waiting ≡ y.waiting ++ (put.0 ∷ []) → Good log (os ++ (as_full s h ∷ [])) z
    full_good s put h done is stations waiting =
        let st : Station K.Value = done.before in
        let before : Sound K log s st = found_sound s st done.known in
        let m : Message Clock K.Value = full s st.clock st.held in
        let sendable : Sendable K m = record { few = done.posted.short; station = before.few; rises = tt } in
        let new : Mail K start log (as_full s h) put.0 =
        subst (Mail K start log (as_full s h)) (sym done.posted.words) (record { message = m; opens = laws.wire.back m sendable; sound = full_sound K laws log s st before; came = before.own ∙ is }) in
        post_good (as_full s h) put.0 new (ap length stations ∙ g.size) (subst (Stations log) (sym stations) g.stations) waiting

    pub fetch_good : (s k : ℕ) (after : Station K.Value) → Fetched K y.waiting y.stations s k after → z.stations ≡ set y.stations s after → z.waiting ≡ y.waiting → Good log os z
    fetch_good s k after done stations waiting =
        let st : Station K.Value = done.before in
        let before : Sound K log s st = found_sound s st done.known in
        let mail = g.mails k (omega (arith, done.waits)) in
        let heard = heard_was K s st mail.message after (ap (hearing_opened K s st) (sym mail.opens) ∙ done.heard) in
        let table : z.stations ≡ set y.stations s (with_message K mail.message st) = stations ∙ ap (set y.stations s) heard.1 in
        record {
          size = ap length table ∙ length-set y.stations s _ ∙ g.size;
          stations = subst (Stations log) (sym table) (stations_set log y.stations s (with_message K mail.message st) g.size
              (fetch_sound K laws log s mail.message st before mail.sound heard.0) (λ j high other. g.stations j high));
          sizes = g.sizes ∙ sym (ap length waiting);
          mails = subst (Mails K start log os) (sym waiting) g.mails;
          numbered = g.numbered;
          strangers = g.strangers;
        }

    pub discard_good : (k : ℕ) → k < counted y.waiting → z.stations ≡ y.stations → z.waiting ≡ remove y.waiting k → Good log (remove os k) z
    discard_good k waits stations waiting = record {
      size = ap length stations ∙ g.size;
      stations = subst (Stations log) (sym stations) g.stations;
      sizes = removed_both os y.waiting k (omega (arith, waits)) g.sizes ∙ sym (ap length waiting);
      mails = subst (Mails K start log (remove os k)) (sym waiting) (mails_removed K start log os y.waiting g.sizes g.mails k (omega (arith, waits)));
      numbered = g.numbered;
      strangers = g.strangers;
    }
