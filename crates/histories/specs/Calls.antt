-- What each call answers, and what it leaves. Here room is the number of words that a call is given. Assumes nothing.
--     Call R, Answer               the calls of a history, and what they answer
--     reporting K s r st           station st after report r, or its refusal
--     sending_delta, sending_full  the words that are put and the station after it, or the refusal
--     fetching K ws s k room st    station st after message k of ws, or the fault
--     answered K y c               what call c answers in cluster y
--     stations_after K y c         the stations after it
--     waiting_after K y c          the messages that wait after it
--     Step K y c a z               call c, made in cluster y, answers a and leaves cluster z
use Rattle.std.specs.Prelude.{◌≡◌, ℕ, ◌+◌, Bool, cond, ◌&&◌, List, [], ◌∷◌, ◌++◌, length, Ok, Err, Result, ◌==◌, nat_le, nat_lt, slice_index_or, slice_set}
use Rattle.words.specs.declared.fault.Layer.TheVariants as layer
use Rattle.words.specs.Readings.{Told, plain_fault}
use Rattle.words.specs.Writes.{most}
use Rattle.crdt.specs.declared.kind.Crdt.{Ghosts}
use Rattle.counters.specs.Counts.{larger}
use Rattle.mailboxes.specs.Mailboxes.{counted, read_answer, discard_answer, discard_leaves}
use Rattle.wire.specs.Messages.{Message, full, delta, Clock, packed}
use Rattle.wire.specs.Openings.{unpacked}
use Rattle.histories.specs.Clusters.{Station, Cluster, entry, raised, found}

pub data Call (R : Type 0) : Type 0 where
  report : (s : ℕ) → R → Call R
  send_delta : (s room : ℕ) → Call R
  send_full : (s room : ℕ) → Call R
  fetch : (s k room : ℕ) → Call R
  discard : (k : ℕ) → Call R
  count : Call R
  fits : (n : ℕ) → Call R
  peek : (k room : ℕ) → Call R

-- a fetch that is refused names the station, the message and the fault below
pub data Answer : Type 0 where
  done : Answer
  number : ℕ → Answer
  room_for : Bool → Answer
  refused : ℕ → Answer
  faulted : (s k : ℕ) → Told → Answer

-- a delta that begins after what the receiver has: the from word is named
abbrev pub gap : Told
gap = record { number = 14; place = 1; layer = layer.Station }

module _ {S R : Type 0} (K : Ghosts S R) where
  -- report
  abbrev pub with_delta : ℕ → Station K.Value → Result K.Value ℕ → Result (Station K.Value) ℕ
  with_delta s st (Ok d) = Ok (record { number = st.number; clock = raised st.clock s (entry st.clock s + 1); held = K.joined st.held d; pending = K.joined st.pending d; sent = st.sent })
  with_delta s st (Err n) = Err n

  abbrev pub reporting : ℕ → R → Result (Station K.Value) ℕ → Result (Station K.Value) ℕ
  reporting s r (Ok st) = cond (nat_le 65535 (entry st.clock s)) (Err 4) (with_delta s st (K.reported st.held s r))
  reporting s r (Err n) = Err n

  -- sends: a message of at most 127 words that the mailbox takes is put, and station st is left
  abbrev pub posting : (ℕ → Bool) → Message Clock K.Value → Station K.Value → Result (List ℕ × Station K.Value) ℕ
  posting takes m st =
      cond (nat_lt most (length (packed K m))) (Err 7) (cond (takes (length (packed K m))) (Ok (packed K m, st)) (Err 8))

  abbrev pub emptied : ℕ → Station K.Value → Station K.Value
  emptied s st = record { number = st.number; clock = st.clock; held = st.held; pending = K.least; sent = entry st.clock s }

  abbrev pub sending_delta : (ℕ → Bool) → (s room : ℕ) → Result (Station K.Value) ℕ → Result (List ℕ × Station K.Value) ℕ
  sending_delta takes s room (Ok st) =
      cond (nat_lt room most) (Err 6)
      (cond (st.sent == entry st.clock s) (Err 5)
      (posting takes (delta s st.sent (entry st.clock s) st.pending) (emptied s st)))
  sending_delta takes s room (Err n) = Err n

  abbrev pub sending_full : (ℕ → Bool) → (s room : ℕ) → Result (Station K.Value) ℕ → Result (List ℕ × Station K.Value) ℕ
  sending_full takes s room (Ok st) = cond (nat_lt room most) (Err 6) (posting takes (full s st.clock st.held) st)
  sending_full takes s room (Err n) = Err n

  -- fetch
  abbrev pub hearing : ℕ → Station K.Value → Message Clock K.Value → Result (Station K.Value) Told
  hearing s st (full i c v) =
      cond (nat_lt (entry st.clock s) (entry c s)) (Err (plain_fault layer.Station 15))
      (Ok (record { number = st.number; clock = larger st.clock c; held = K.joined st.held v; pending = st.pending; sent = st.sent }))
  hearing s st (delta i f t v) =
      cond (i == s && nat_lt (entry st.clock s) t) (Err (plain_fault layer.Station 15))
      (cond (nat_lt (entry st.clock i) f) (Err gap)
      (Ok (record { number = st.number; clock = raised st.clock i t; held = K.joined st.held v; pending = st.pending; sent = st.sent })))

  abbrev pub hearing_opened : ℕ → Station K.Value → Result (Message Clock K.Value) Told → Result (Station K.Value) Told
  hearing_opened s st (Ok m) = hearing s st m
  hearing_opened s st (Err f) = Err f

  abbrev pub fetching : List (List ℕ) → (s k room : ℕ) → Result (Station K.Value) ℕ → Result (Station K.Value) Told
  fetching ws s k room (Ok st) =
      cond (nat_lt room most) (Err (plain_fault layer.Mailbox 6))
      (cond (nat_lt k (counted ws)) (hearing_opened s st (unpacked K (slice_index_or ws k []))) (Err (plain_fault layer.Mailbox 9)))
  fetching ws s k room (Err n) = Err (plain_fault layer.Station n)

-- what is answered, by what came of the call
abbrev pub done_if : {X : Type 0} → Result X ℕ → Answer
done_if (Ok x) = done
done_if (Err n) = refused n

abbrev pub number_if : Result ℕ ℕ → Answer
number_if (Ok n) = number n
number_if (Err n) = refused n

abbrev pub sent_if : {X : Type 0} → Result (List ℕ × X) ℕ → Answer
sent_if (Ok p) = number (length p.0)
sent_if (Err n) = refused n

abbrev pub fetched_if : {X : Type 0} → (s k n : ℕ) → Result X Told → Answer
fetched_if s k n (Ok x) = number n
fetched_if s k n (Err f) = faulted s k f

-- the stations with station s changed, by what came of the call
abbrev pub changed : {X E : Type 0} → List X → ℕ → Result X E → List X
changed ts s (Ok st) = slice_set ts s st
changed ts s (Err e) = ts

abbrev pub changed_too : {W X E : Type 0} → List X → ℕ → Result (W × X) E → List X
changed_too ts s (Ok p) = slice_set ts s p.1
changed_too ts s (Err e) = ts

-- the messages with one more, by what came of the call
abbrev pub appended : {X E : Type 0} → List (List ℕ) → Result (List ℕ × X) E → List (List ℕ)
appended ws (Ok p) = ws ++ (p.0 ∷ [])
appended ws (Err e) = ws

module _ {S R : Type 0} (K : Ghosts S R) (y : Cluster K.Value) where
  abbrev pub answered : Call R → Answer
  answered (report s r) = done_if (reporting K s r (found K y.stations s))
  answered (send_delta s room) = sent_if (sending_delta K y.takes s room (found K y.stations s))
  answered (send_full s room) = sent_if (sending_full K y.takes s room (found K y.stations s))
  answered (fetch s k room) = fetched_if s k (length (slice_index_or y.waiting k [])) (fetching K y.waiting s k room (found K y.stations s))
  answered (discard k) = done_if (discard_answer y.waiting k)
  answered count = number (counted y.waiting)
  answered (fits n) = room_for (y.takes n)
  answered (peek k room) = number_if (read_answer y.waiting k room)

  abbrev pub stations_after : Call R → List (Station K.Value)
  stations_after (report s r) = changed y.stations s (reporting K s r (found K y.stations s))
  stations_after (send_delta s room) = changed_too y.stations s (sending_delta K y.takes s room (found K y.stations s))
  stations_after (send_full s room) = y.stations
  stations_after (fetch s k room) = changed y.stations s (fetching K y.waiting s k room (found K y.stations s))
  stations_after (discard k) = y.stations
  stations_after count = y.stations
  stations_after (fits n) = y.stations
  stations_after (peek k room) = y.stations

  abbrev pub waiting_after : Call R → List (List ℕ)
  waiting_after (report s r) = y.waiting
  waiting_after (send_delta s room) = appended y.waiting (sending_delta K y.takes s room (found K y.stations s))
  waiting_after (send_full s room) = appended y.waiting (sending_full K y.takes s room (found K y.stations s))
  waiting_after (fetch s k room) = y.waiting
  waiting_after (discard k) = discard_leaves y.waiting k
  waiting_after count = y.waiting
  waiting_after (fits n) = y.waiting
  waiting_after (peek k room) = y.waiting

-- only what a mailbox takes after a put or a discard that is done is its own choice
pub record Step {S R : Type 0} (K : Ghosts S R) (y : Cluster K.Value) (c : Call R) (a : Answer) (z : Cluster K.Value) : Type 0 where
  pub answer : a ≡ answered K y c
  pub stations : z.stations ≡ stations_after K y c
  pub waiting : z.waiting ≡ waiting_after K y c
  pub takes : length z.waiting ≡ length y.waiting → z.takes ≡ y.takes
