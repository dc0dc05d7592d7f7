-- What the lines of a script do to a cluster. Assumes nothing.
--     Line V R               a line that did something: a call with its answer, or words that a link delivers; and the cluster after it
--     reached y ls           the cluster after lines ls, the newest first, from cluster y on
--     Delivered y m z        words m, put into the mailbox of cluster y, leave cluster z
--     Follows K y ls         each of the lines ls, from cluster y on, leaves what its call or its put leaves
--     Rehearsed K y z        some such lines lead from cluster y to cluster z
--     CallsOnly ls           none of the lines puts words
--     history_of ls          the history of the calls among them
--     Made K y c z           call c, made in cluster y, leaves cluster z
--     Obeyed K ws y z c      a line that asks for command c makes of cluster y what it asks for, cluster z; ws are the words of a put. What
--                            station s reports is a report of the record kind, or nothing where the kind has none of that sort
--     plain_of c             the call that command c asks for, where it is one that every record kind has
--     RehearsalPromised K    calls alone, from a fresh cluster, are a history, and all that is promised of histories holds of it
use Rattle.std.specs.Prelude.{◌≡◌, ℕ, min, false, ◌⊎◌, List, [], ◌∷◌, length, take, Some, None, Option}
use Rattle.crdt.specs.declared.kind.Crdt.{Ghosts}
use Rattle.mailboxes.specs.Mailboxes.{put_leaves}
use Rattle.histories.specs.Clusters.{Cluster}
use Rattle.histories.specs.Calls.{Call, report, send_delta, send_full, fetch, discard, count, fits, peek, Answer, Step}
use Rattle.histories.specs.Histories.{History, did, end, Fresh, Lawful}
use Rattle.histories.specs.Promises.{Promised}
use Rattle.replication.specs.declared.call.Call.{Call as Stored}
use Rattle.replication.specs.declared.call.Call.TheVariants as stored
use Rattle.scripts.specs.declared.command.Command.{Command}
use Rattle.scripts.specs.declared.command.Command.TheVariants as command

pub data Line (V R : Type 0) : Type 0 where
  called : Call R → Answer → Cluster V → Line V R
  delivered : List ℕ → Cluster V → Line V R

abbrev pub reached : {V R : Type 0} → Cluster V → List (Line V R) → Cluster V
reached y [] = y
reached y (called c a z ∷ ls) = z
reached y (delivered m z ∷ ls) = z

pub record Delivered {V : Type 0} (y : Cluster V) (m : List ℕ) (z : Cluster V) : Type 0 where
  pub stations : z.stations ≡ y.stations
  pub waiting : z.waiting ≡ put_leaves (y.takes (length m)) y.waiting m
  pub takes : y.takes (length m) ≡ false → z.takes ≡ y.takes

abbrev pub CallsOnly : {V R : Type 0} → List (Line V R) → Type 0
CallsOnly [] = Unit {0}
CallsOnly (called c a z ∷ ls) = CallsOnly ls
CallsOnly (delivered m z ∷ ls) = ⊥

abbrev pub history_of : {V R : Type 0} → List (Line V R) → History V R
history_of [] = []
history_of (called c a z ∷ ls) = did c a z ∷ history_of ls
history_of (delivered m z ∷ ls) = history_of ls

abbrev pub plain_of : {R : Type 0} → Command → Option (Stored R)
plain_of (command.Record k) = None
plain_of (command.Stations n) = None
plain_of (command.Mailbox m) = None
plain_of (command.Report s w n) = None
plain_of (command.SendDelta s) = Some (stored.SendDelta s)
plain_of (command.SendFull s) = Some (stored.SendFull s)
plain_of (command.Put n) = None
plain_of (command.Fetch s k) = Some (stored.Fetch s k)
plain_of (command.Discard k) = Some (stored.Discard k)
plain_of command.Count = Some stored.Count
plain_of (command.Fits n) = Some (stored.Fits n)
plain_of (command.Read k) = Some (stored.Read k)
plain_of (command.Show s) = None
plain_of (command.Compare s t) = None
plain_of command.Image = None

module _ {S R : Type 0} (K : Ghosts S R) where
  abbrev pub Follows : Cluster K.Value → List (Line K.Value R) → Type 0
  Follows y [] = Unit {0}
  Follows y (called c a z ∷ ls) = Step K (reached y ls) c a z × Follows y ls
  Follows y (delivered m z ∷ ls) = Delivered (reached y ls) m z × Follows y ls

  pub record Rehearsed (y z : Cluster K.Value) : Type 0 where
    pub lines : List (Line K.Value R)
    pub follows : Follows y lines
    pub ends : reached y lines ≡ z

  abbrev pub Made : Cluster K.Value → Call R → Cluster K.Value → Type 0
  Made y c z = (a : Answer) × Step K y c a z

  module _ (ws : List ℕ) (y z : Cluster K.Value) where
    abbrev pub Obeyed : Command → Type 0
    Obeyed (command.Record k) = z ≡ y
    Obeyed (command.Stations n) = z ≡ y
    Obeyed (command.Mailbox m) = z ≡ y
    Obeyed (command.Report s w n) = ((r : R) × Made y (report s r) z) ⊎ (z ≡ y)
    Obeyed (command.SendDelta s) = Made y (send_delta s 127) z
    Obeyed (command.SendFull s) = Made y (send_full s 127) z
    Obeyed (command.Put n) = Delivered y (take (min n 255) ws) z
    Obeyed (command.Fetch s k) = Made y (fetch s k 127) z
    Obeyed (command.Discard k) = Made y (discard k) z
    Obeyed command.Count = Made y count z
    Obeyed (command.Fits n) = Made y (fits n) z
    Obeyed (command.Read k) = Made y (peek k 127) z
    Obeyed (command.Show s) = z ≡ y
    Obeyed (command.Compare s t) = z ≡ y
    Obeyed command.Image = z ≡ y

  abbrev pub RehearsalPromised : Type 0
  RehearsalPromised = (start : Cluster K.Value) (n : ℕ) → Fresh K n start → (ls : List (Line K.Value R)) → Follows start ls → CallsOnly ls →
      Lawful K start (history_of ls) × (end start (history_of ls) ≡ reached start ls) × Promised K start n (history_of ls)
