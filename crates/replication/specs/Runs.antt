-- A run of given calls from a fresh table and an empty mailbox. Assumes nothing.
--     asked room c                     what a stored call asks for, where room words are given
--     told a                           what a stored answer says
--     words_after K y c old            what given words old hold after call c in cluster y
--     words_left K start h old         what they hold after history h from cluster start
--     calls_of h, answers_of h         the calls of a history and their answers, the oldest first
--     Ran                              a history of exactly these calls, with exactly these answers, from a fresh start to a cluster
--     Replayed                         the same, and all that is promised of that history
--     GoesOn K y c a z                 whatever history led from a fresh start to cluster y, all that is promised of histories holds of it with call c
--     replay_answer                    whether a list of so many calls is begun, by the room for answers, the messages that wait and the places of the table
use Rattle.std.specs.Prelude.{◌≡◌, ℕ, Bool, cond, List, [], ◌∷◌, ◌++◌, Ok, Err, Result, nat_lt}
use Rattle.words.specs.Readings.{told_fault}
use Rattle.words.specs.Refusals.{number_of}
use Rattle.crdt.specs.declared.kind.Crdt.{Ghosts}
use Rattle.mailboxes.specs.Mailboxes.{read_leaves}
use Rattle.histories.specs.Clusters.{Cluster, found}
use Rattle.histories.specs.Calls.{Call as Asked, report, send_delta, send_full, fetch, discard, count, fits, peek, Answer as Said, done, number, room_for, refused, faulted, sending_delta, sending_full}
use Rattle.histories.specs.Histories.{History, did, end, Lawful, Fresh}
use Rattle.histories.specs.Promises.{Promised}
use Rattle.stations.specs.Tables.{init_answer}
use Rattle.sends.specs.Sends.{sent_words}
use Rattle.fetches.specs.Fetches.{fetch_leaves}
use Rattle.replication.specs.declared.call.Call.{Call}
use Rattle.replication.specs.declared.call.Call.TheVariants.{Report, SendDelta, SendFull, Fetch, Discard, Count, Fits, Read}
use Rattle.replication.specs.declared.answer.CallError.{CallError}
use Rattle.replication.specs.declared.answer.CallError.TheVariants as error
use Rattle.replication.specs.declared.answer.Reply.{Reply}
use Rattle.replication.specs.declared.answer.Reply.TheVariants as reply
use Rattle.replication.specs.declared.unready.Unready.{Unready}
use Rattle.replication.specs.declared.unready.Unready.TheVariants as unready

abbrev pub asked : {R : Type 0} → ℕ → Call R → Asked R
asked room (Report s r) = report s r
asked room (SendDelta s) = send_delta s room
asked room (SendFull s) = send_full s room
asked room (Fetch s k) = fetch s k room
asked room (Discard k) = discard k
asked room Count = count
asked room (Fits n) = fits n
asked room (Read k) = peek k room

abbrev pub told : Result Reply CallError → Said
told (Ok reply.Done) = done
told (Ok (reply.Number n)) = number n
told (Ok (reply.Fits b)) = room_for b
told (Err (error.Refused e)) = refused (number_of e)
told (Err (error.Faulted f)) = faulted f.station f.message (told_fault f.fault)

abbrev pub table_ready : Result (Unit {0}) ℕ → Result (Unit {0}) Unready
table_ready (Ok u) = Ok u
table_ready (Err n) = Err unready.Table

abbrev pub replay_answer : (calls answers waiting places : ℕ) → Result (Unit {0}) Unready
replay_answer calls answers waiting places =
    cond (nat_lt answers calls) (Err unready.Answers) (cond (nat_lt 0 waiting) (Err unready.Mailbox) (table_ready (init_answer places)))

abbrev pub calls_of : {V R : Type 0} → History V R → List (Asked R)
calls_of [] = []
calls_of (did c a y ∷ h) = calls_of h ++ (c ∷ [])

abbrev pub answers_of : {V R : Type 0} → History V R → List Said
answers_of [] = []
answers_of (did c a y ∷ h) = answers_of h ++ (a ∷ [])

module _ {S R : Type 0} (K : Ghosts S R) where
  abbrev pub words_after : Cluster K.Value → Asked R → List ℕ → List ℕ
  words_after y (report s r) old = old
  words_after y (send_delta s room) old = sent_words old (sending_delta K y.takes s room (found K y.stations s))
  words_after y (send_full s room) old = sent_words old (sending_full K y.takes s room (found K y.stations s))
  words_after y (fetch s k room) old = fetch_leaves (found K y.stations s) y.waiting k old
  words_after y (discard k) old = old
  words_after y count old = old
  words_after y (fits n) old = old
  words_after y (peek k room) old = read_leaves y.waiting k old

  abbrev pub words_left : Cluster K.Value → History K.Value R → List ℕ → List ℕ
  words_left start [] old = old
  words_left start (did c a y ∷ h) old = words_after (end start h) c (words_left start h old)

  -- from a fresh table of n stations and an empty mailbox that takes what takes says, and given words old, to cluster z and words new
  pub record Ran (n : ℕ) (takes : ℕ → Bool) (calls : List (Asked R)) (answers : List Said) (old new : List ℕ) (z : Cluster K.Value) : Type 0 where
    pub start : Cluster K.Value
    pub fresh : Fresh K n start
    pub first : start.takes ≡ takes
    pub history : History K.Value R
    pub exactly : calls_of history ≡ calls
    pub answered : answers_of history ≡ answers
    pub lawful : Lawful K start history
    pub ends : end start history ≡ z
    pub words : words_left start history old ≡ new

  pub record Replayed (n : ℕ) (takes : ℕ → Bool) (calls : List (Asked R)) (answers : List Said) (old new : List ℕ) (z : Cluster K.Value) : Type 0 where
    pub run : Ran n takes calls answers old new z
    pub promised : Promised K run.start n run.history

  abbrev pub GoesOn : Cluster K.Value → Asked R → Said → Cluster K.Value → Type 0
  GoesOn y c a z = (start : Cluster K.Value) (n : ℕ) → Fresh K n start → (h : History K.Value R) → Lawful K start h → end start h ≡ y →
      Lawful K start (did c a z ∷ h) × Promised K start n (did c a z ∷ h)
