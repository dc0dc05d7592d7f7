-- Lines of a script, put together, and the history that calls alone are. Assumes nothing.
use Rattle.std.proofs.Common.{◌≡◌, ℕ, false, List, [], ◌∷◌, ◌++◌, length, Some, None, unwrap_or, sym, refl, ap, ◌∙◌, subst, arith}
use Rattle.crdt.specs.declared.kind.Crdt.{Ghosts}
use Rattle.mailboxes.specs.declared.mailbox.Mailbox.{Ghosts as Boxes}
use Rattle.mailboxes.specs.Mailboxes.{put_leaves}
use Rattle.histories.specs.Clusters.{Cluster}
use Rattle.histories.specs.Calls.{Call, Answer, Step}
use Rattle.histories.specs.Histories.{end, Lawful}
use Rattle.histories.proofs.Overs.{Laws}
use Rattle.histories.proofs.Promised.{histories_promised}
use Rattle.stations.specs.declared.station.Station.{Station}
use Rattle.stations.specs.Stored.{cluster_of}
use Rattle.replication.specs.declared.call.Call.{Call as Stored}
use Rattle.replication.specs.Runs.{asked}
use Rattle.scripts.specs.declared.command.Command.{Command}
use Rattle.scripts.specs.declared.command.Command.TheVariants as command
use Rattle.lustrehem.specs.Rehearsals.{Line, called, delivered, reached, Delivered, CallsOnly, history_of, Follows, Rehearsed, Made, Obeyed, plain_of, RehearsalPromised}

reached_more : {V R : Type 0} (x : Cluster V) (ms ls : List (Line V R)) → reached x (ms ++ ls) ≡ reached (reached x ls) ms
reached_more x [] ls = refl
reached_more x (called c a z ∷ ms) ls = refl
reached_more x (delivered m z ∷ ms) ls = refl

not_some : {X : Type 0} (x : X) → Some x ≡ None → ⊥
not_some x e = let z : ◌≡◌ {A = ℕ} 0 1 = cc in absurd (omega arith)

module _ {S R : Type 0} (K : Ghosts S R) where
  follows_more : (x : Cluster K.Value) (ms ls : List (Line K.Value R)) → Follows K (reached x ls) ms → Follows K x ls → Follows K x (ms ++ ls)
  follows_more x [] ls p q = q
  follows_more x (called c a z ∷ ms) ls p q = (subst (λ y. Step K y c a z) (sym (reached_more x ms ls)) p.0, follows_more x ms ls p.1 q)
  follows_more x (delivered m z ∷ ms) ls p q = (subst (λ y. Delivered y m z) (sym (reached_more x ms ls)) p.0, follows_more x ms ls p.1 q)

  by_call : (y z : Cluster K.Value) (c : Call R) (a : Answer) → Step K y c a z → Rehearsed K y z
  by_call y z c a step = record { lines = called c a z ∷ []; follows = (step, tt); ends = refl }

  pub put_delivers : {M : Type 0} (P : Boxes M) (ts : List (Station S)) (was is : M) (m : List ℕ) → P.waiting is ≡ put_leaves (P.takes was (length m)) (P.waiting was) m →
      (P.takes was (length m) ≡ false → is ≡ was) → Delivered (cluster_of K P ts was) m (cluster_of K P ts is)
  put_delivers P ts was is m e kept = record { stations = refl; waiting = e; takes = λ no. ap P.takes (kept no) }

  pub by_put : (y z : Cluster K.Value) (m : List ℕ) → Delivered y m z → Rehearsed K y z
  by_put y z m d = record { lines = delivered m z ∷ []; follows = (d, tt); ends = refl }

  pub by_made : (y z : Cluster K.Value) (c : Call R) → Made K y c z → Rehearsed K y z
  by_made y z c p = by_call y z c p.0 p.1

  pub then : (x y z : Cluster K.Value) → Rehearsed K x y → Rehearsed K y z → Rehearsed K x z
  then x y z p q = record {
    lines = q.lines ++ p.lines;
    follows = follows_more x q.lines p.lines (subst (λ w. Follows K w q.lines) (sym p.ends) q.follows) p.follows;
    ends = reached_more x q.lines p.lines ∙ ap (λ w. reached w q.lines) p.ends ∙ q.ends;
  }

  pub plain_obeyed : (ws : List ℕ) (y z : Cluster K.Value) (c : Command) (x : Stored R) → Some x ≡ plain_of c → Made K y (asked 127 x) z → Obeyed K ws y z c
  plain_obeyed ws y z (command.SendDelta s) x e p = subst (λ d. Made K y (asked 127 d) z) (ap (λ o. unwrap_or o x) e) p
  plain_obeyed ws y z (command.SendFull s) x e p = subst (λ d. Made K y (asked 127 d) z) (ap (λ o. unwrap_or o x) e) p
  plain_obeyed ws y z (command.Fetch s k) x e p = subst (λ d. Made K y (asked 127 d) z) (ap (λ o. unwrap_or o x) e) p
  plain_obeyed ws y z (command.Discard k) x e p = subst (λ d. Made K y (asked 127 d) z) (ap (λ o. unwrap_or o x) e) p
  plain_obeyed ws y z command.Count x e p = subst (λ d. Made K y (asked 127 d) z) (ap (λ o. unwrap_or o x) e) p
  plain_obeyed ws y z (command.Fits n) x e p = subst (λ d. Made K y (asked 127 d) z) (ap (λ o. unwrap_or o x) e) p
  plain_obeyed ws y z (command.Read k) x e p = subst (λ d. Made K y (asked 127 d) z) (ap (λ o. unwrap_or o x) e) p
  plain_obeyed ws y z (command.Record k) x e p = absurd (not_some x e)
  plain_obeyed ws y z (command.Stations n) x e p = absurd (not_some x e)
  plain_obeyed ws y z (command.Mailbox m) x e p = absurd (not_some x e)
  plain_obeyed ws y z (command.Report s w n) x e p = absurd (not_some x e)
  plain_obeyed ws y z (command.Put n) x e p = absurd (not_some x e)
  plain_obeyed ws y z (command.Show s) x e p = absurd (not_some x e)
  plain_obeyed ws y z (command.Compare s t) x e p = absurd (not_some x e)
  plain_obeyed ws y z command.Image x e p = absurd (not_some x e)

  same_end : (start : Cluster K.Value) (ls : List (Line K.Value R)) → CallsOnly ls → end start (history_of ls) ≡ reached start ls
  same_end start [] only = refl
  same_end start (called c a z ∷ ls) only = refl
  same_end start (delivered m z ∷ ls) only = absurd only

  lawful_calls : (start : Cluster K.Value) (ls : List (Line K.Value R)) → Follows K start ls → CallsOnly ls → Lawful K start (history_of ls)
  lawful_calls start [] follows only = tt
  lawful_calls start (called c a z ∷ ls) follows only = (subst (λ y. Step K y c a z) (sym (same_end start ls only)) follows.0, lawful_calls start ls follows.1 only)
  lawful_calls start (delivered m z ∷ ls) follows only = absurd only

  pub rehearsal_promised : Laws K → RehearsalPromised K
  rehearsal_promised laws start n fresh ls follows only =
      let lawful = lawful_calls start ls follows only in
      (lawful, same_end start ls only, histories_promised K laws start n fresh (history_of ls) lawful)
