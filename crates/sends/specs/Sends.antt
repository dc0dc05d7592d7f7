-- What a send answers and leaves, by what came of it. Assumes nothing.
--     admitted takes n     whether n words can be sent: 7 where they are too many, 8 where they are not taken now
--     delta_sent, full_sent K P ts m s room
--                          what comes of a send by station s of stored table ts to mailbox m, given room words: the words that are
--                          put and the station after it, or the refusal
--     sent_length r        the number of words that were sent, or the refusal
--     sent_words old r     the given words: the message at their front, and old after it; or old
use Rattle.std.specs.Prelude.{ℕ, Bool, cond, List, length, Ok, Err, Result, nat_lt}
use Rattle.words.specs.Writes.{most, put}
use Rattle.crdt.specs.declared.kind.Crdt.{Ghosts}
use Rattle.mailboxes.specs.declared.mailbox.Mailbox.{Ghosts as Boxes}
use Rattle.histories.specs.Clusters.{Station as Meant}
use Rattle.histories.specs.Calls.{sending_delta, sending_full}
use Rattle.stations.specs.declared.station.Station.{Station}
use Rattle.stations.specs.Stored.{station_at}

abbrev pub admitted : (ℕ → Bool) → ℕ → Result (Unit {0}) ℕ
admitted takes n = cond (nat_lt most n) (Err 7) (cond (takes n) (Ok tt) (Err 8))

module _ {S R M : Type 0} (K : Ghosts S R) (P : Boxes M) (ts : List (Station S)) (m : M) (s room : ℕ) where
  abbrev pub delta_sent : Result (List ℕ × Meant K.Value) ℕ
  delta_sent = sending_delta K (P.takes m) s room (station_at K ts s)

  abbrev pub full_sent : Result (List ℕ × Meant K.Value) ℕ
  full_sent = sending_full K (P.takes m) s room (station_at K ts s)

abbrev pub sent_length : {X E : Type 0} → Result (List ℕ × X) E → Result ℕ E
sent_length (Ok p) = Ok (length p.0)
sent_length (Err e) = Err e

abbrev pub sent_words : {X E : Type 0} → List ℕ → Result (List ℕ × X) E → List ℕ
sent_words old (Ok p) = put old 0 p.0
sent_words old (Err e) = old
