-- The step that a call makes, from what its contract says. Assumes nothing.
use Rattle.std.proofs.Common.{◌≡◌, ℕ, ◌<◌, Bool, true, false, cond, ltb, List, [], ◌∷◌, map, length, get_or, Ok, Err, Result, sym, refl, ap, ◌∙◌, arith, length-append}
use Rattle.std.proofs.lemmas.List.Edits.{length-remove}
use Rattle.std.proofs.lemmas.Bool.{ltb-true}
use Rattle.std.specs.List.{remove}
use Rattle.words.specs.declared.refusal.Refusal.{Refusal}
use Rattle.words.specs.Refusals.{numbered, bare}
use Rattle.crdt.specs.declared.kind.Crdt.{Ghosts}
use Rattle.mailboxes.specs.declared.mailbox.Mailbox.{Ghosts as Boxes}
use Rattle.mailboxes.specs.Mailboxes.{counted, discard_answer, discard_leaves, Kept}
use Rattle.histories.specs.Clusters.{found}
use Rattle.histories.specs.Calls.{report, send_delta, send_full, sending_delta, sending_full, sent_if, changed_too, appended, fetch, discard, Answer, reporting, fetching, done_if, number_if, fetched_if, changed, Step}
use Rattle.stations.specs.declared.station.Station.{Station}
use Rattle.stations.specs.Stored.{station_of, cluster_of}
use Rattle.sends.specs.Sends.{sent_length}

done_bare : {X : Type 0} (x : Result X ℕ) → done_if (bare x) ≡ done_if x
done_bare (Ok x) = refl
done_bare (Err n) = refl

-- a discard that leaves as many messages was refused
discard_refused : (ms : List (List ℕ)) (k : ℕ) (b : Bool) → ltb k (counted ms) ≡ b → length (cond b (remove ms k) ms) ≡ length ms → b ≡ false
discard_refused ms k true is same =
    let low : k < counted ms = ltb-true k (counted ms) is in
    let l = length-remove ms k (omega arith) in
    absurd (omega arith)
discard_refused ms k false is same = refl

refused_kept : {X M : Type 0} (r : Result X Refusal) (x : Result X ℕ) (n : ℕ) (was is : M) → numbered r ≡ x → x ≡ Err n → Kept r was is → is ≡ was
refused_kept (Ok y) x n was is e p kept = let z : ◌≡◌ {A = ℕ} 0 1 = cc in absurd (omega arith)
refused_kept (Err f) x n was is e p kept = kept

number_sent : {X : Type 0} (x : Result (List ℕ × X) ℕ) → number_if (sent_length x) ≡ sent_if x
number_sent (Ok p) = refl
number_sent (Err n) = refl

-- a send that leaves as many messages was refused
sent_kept : {X M : Type 0} (ws : List (List ℕ)) (x : Result (List ℕ × X) ℕ) (r : Result ℕ Refusal) (was is : M) → numbered r ≡ sent_length x → Kept r was is → length (appended ws x) ≡ length ws → is ≡ was
sent_kept ws (Ok p) r was is e kept same = let l = length-append ws (p.0 ∷ []) in absurd (omega arith)
sent_kept ws (Err n) (Ok y) was is e kept same = let z : ◌≡◌ {A = ℕ} 0 1 = cc in absurd (omega arith)
sent_kept ws (Err n) (Err f) was is e kept same = kept

module _ {S R M : Type 0} (K : Ghosts S R) (P : Boxes M) where
  pub step_report : (ts after : List (Station S)) (m : M) (s : ℕ) (x : R) (r : Result (Unit {0}) Refusal) →
      numbered r ≡ bare (reporting K s x (found K (map (station_of K) ts) s)) →
      map (station_of K) after ≡ changed (map (station_of K) ts) s (reporting K s x (found K (map (station_of K) ts) s)) →
      Step K (cluster_of K P ts m) (report s x) (done_if (numbered r)) (cluster_of K P after m)
  step_report ts after m s x r e table = record { answer = ap done_if e ∙ done_bare (reporting K s x (found K (map (station_of K) ts) s)); stations = table; waiting = refl; takes = λ _. refl }

  pub step_fetch : (ts after : List (Station S)) (m : M) (s k room : ℕ) (a : Answer) →
      a ≡ fetched_if s k (length (get_or (P.waiting m) k [])) (fetching K (P.waiting m) s k room (found K (map (station_of K) ts) s)) →
      map (station_of K) after ≡ changed (map (station_of K) ts) s (fetching K (P.waiting m) s k room (found K (map (station_of K) ts) s)) →
      Step K (cluster_of K P ts m) (fetch s k room) a (cluster_of K P after m)
  step_fetch ts after m s k room a e table = record { answer = e; stations = table; waiting = refl; takes = λ _. refl }

  pub step_discard : (ts : List (Station S)) (was is : M) (k : ℕ) (r : Result (Unit {0}) Refusal) →
      numbered r ≡ discard_answer (P.waiting was) k → P.waiting is ≡ discard_leaves (P.waiting was) k → Kept r was is →
      Step K (cluster_of K P ts was) (discard k) (done_if (numbered r)) (cluster_of K P ts is)
  step_discard ts was is k r e leaves kept = record {
    answer = ap done_if e;
    stations = refl;
    waiting = leaves;
    takes = λ same.
        let ms = P.waiting was in
        let none = discard_refused ms k (ltb k (counted ms)) refl (sym (ap length leaves) ∙ same) in
        ap P.takes (refused_kept r (discard_answer ms k) 9 was is e (ap (λ b. cond b (Ok tt) (Err 9)) none) kept);
  }

  pub step_send_full : (ts : List (Station S)) (was is : M) (s room : ℕ) (r : Result ℕ Refusal) →
      numbered r ≡ sent_length (sending_full K (P.takes was) s room (found K (map (station_of K) ts) s)) →
      P.waiting is ≡ appended (P.waiting was) (sending_full K (P.takes was) s room (found K (map (station_of K) ts) s)) → Kept r was is →
      Step K (cluster_of K P ts was) (send_full s room) (number_if (numbered r)) (cluster_of K P ts is)
  step_send_full ts was is s room r e leaves kept =
      let x = sending_full K (P.takes was) s room (found K (map (station_of K) ts) s) in
      record { answer = ap number_if e ∙ number_sent x; stations = refl; waiting = leaves; takes = λ same. ap P.takes (sent_kept (P.waiting was) x r was is e kept (sym (ap length leaves) ∙ same)) }

  pub step_send_delta : (ts after : List (Station S)) (was is : M) (s room : ℕ) (r : Result ℕ Refusal) →
      numbered r ≡ sent_length (sending_delta K (P.takes was) s room (found K (map (station_of K) ts) s)) →
      map (station_of K) after ≡ changed_too (map (station_of K) ts) s (sending_delta K (P.takes was) s room (found K (map (station_of K) ts) s)) →
      P.waiting is ≡ appended (P.waiting was) (sending_delta K (P.takes was) s room (found K (map (station_of K) ts) s)) → Kept r was is →
      Step K (cluster_of K P ts was) (send_delta s room) (number_if (numbered r)) (cluster_of K P after is)
  step_send_delta ts after was is s room r e table leaves kept =
      let x = sending_delta K (P.takes was) s room (found K (map (station_of K) ts) s) in
      record { answer = ap number_if e ∙ number_sent x; stations = table; waiting = leaves; takes = λ same. ap P.takes (sent_kept (P.waiting was) x r was is e kept (sym (ap length leaves) ∙ same)) }
