-- Histories of calls, the reports that were accepted in one, and what a clock covers of them. Assumes nothing.
--     History V R          the calls that were made, the newest first: each with its answer and the cluster after it
--     end start h          the cluster after history h from cluster start
--     Lawful K start h     each call of h does what it may do where it is made
--     reports K start h    the accepted reports, the newest first, each with its delta on the join of the deltas of the
--                          reports that its station's clock covered before it
--     report_count s log   how many of them are station s's
--     covered c log        the deltas of those that clock c covers
--     spanned i a b log    the deltas of those of station i after number a, up to number b
--     join_of K vs         the join of values; of none it is bottom
--     origins h            how each waiting message came: who sent it, and after which history
use Rattle.std.specs.Prelude.{◌≡◌, ℕ, suc, ◌<◌, cond, ◌&&◌, List, [], ◌∷◌, ◌++◌, length, ◌==◌, nat_le, nat_lt, slice_index_or}
use Rattle.std.specs.List.{remove}
use Rattle.words.specs.Refusals.{value_or}
use Rattle.crdt.specs.declared.kind.Crdt.{Ghosts}
use Rattle.wire.specs.Messages.{Clock}
use Rattle.histories.specs.Clusters.{Station, Cluster, entry, fresh}
use Rattle.histories.specs.Calls.{Call, report, send_delta, send_full, fetch, discard, count, fits, peek, Answer, done, number, room_for, refused, faulted, Step}

pub data Event (V R : Type 0) : Type 0 where
  did : Call R → Answer → Cluster V → Event V R

abbrev pub History : Type 0 → Type 0 → Type 0
History V R = List (Event V R)

-- an accepted report: its station, its number there, from 1, and its delta
pub record Accepted (V : Type 0) : Type 0 where
  pub by : ℕ
  pub nth : ℕ
  pub change : V

pub data Origin (V R : Type 0) : Type 0 where
  as_full : ℕ → History V R → Origin V R
  as_delta : ℕ → History V R → Origin V R

abbrev pub report_count : {V : Type 0} → ℕ → List (Accepted V) → ℕ
report_count s [] = 0
report_count s (e ∷ older) = cond (e.by == s) (suc (report_count s older)) (report_count s older)

abbrev pub covered : {V : Type 0} → Clock → List (Accepted V) → List V
covered c [] = []
covered c (e ∷ older) = cond (nat_le e.nth (entry c e.by)) (e.change ∷ covered c older) (covered c older)

abbrev pub spanned : {V : Type 0} → ℕ → ℕ → ℕ → List (Accepted V) → List V
spanned i a b [] = []
spanned i a b (e ∷ older) = cond (e.by == i && (nat_lt a e.nth && nat_le e.nth b)) (e.change ∷ spanned i a b older) (spanned i a b older)

abbrev pub end : {V R : Type 0} → Cluster V → History V R → Cluster V
end start [] = start
end start (did c a y ∷ h) = y

-- how each waiting message came
abbrev pub origins : {V R : Type 0} → History V R → List (Origin V R)
origins [] = []
origins (did (report s r) a y ∷ h) = origins h
origins (did (send_delta s room) (number n) y ∷ h) = origins h ++ (as_delta s h ∷ [])
origins (did (send_delta s room) done y ∷ h) = origins h
origins (did (send_delta s room) (room_for b) y ∷ h) = origins h
origins (did (send_delta s room) (refused n) y ∷ h) = origins h
origins (did (send_delta s room) (faulted t k f) y ∷ h) = origins h
origins (did (send_full s room) (number n) y ∷ h) = origins h ++ (as_full s h ∷ [])
origins (did (send_full s room) done y ∷ h) = origins h
origins (did (send_full s room) (room_for b) y ∷ h) = origins h
origins (did (send_full s room) (refused n) y ∷ h) = origins h
origins (did (send_full s room) (faulted t k f) y ∷ h) = origins h
origins (did (fetch s k room) a y ∷ h) = origins h
origins (did (discard k) done y ∷ h) = remove (origins h) k
origins (did (discard k) (number n) y ∷ h) = origins h
origins (did (discard k) (room_for b) y ∷ h) = origins h
origins (did (discard k) (refused n) y ∷ h) = origins h
origins (did (discard k) (faulted t j f) y ∷ h) = origins h
origins (did count a y ∷ h) = origins h
origins (did (fits n) a y ∷ h) = origins h
origins (did (peek k room) a y ∷ h) = origins h

abbrev pub origin : {V R : Type 0} → History V R → ℕ → Origin V R
origin h k = slice_index_or (origins h) k (as_delta 0 [])

module _ {S R : Type 0} (K : Ghosts S R) where
  abbrev pub join_of : List K.Value → K.Value
  join_of [] = K.least
  join_of (v ∷ vs) = K.joined v (join_of vs)

  -- station s of a cluster
  abbrev pub station : Cluster K.Value → ℕ → Station K.Value
  station y s = slice_index_or y.stations s (fresh K 0)

  module _ (start : Cluster K.Value) where
    abbrev pub Lawful : History K.Value R → Type 0
    Lawful [] = Unit {0}
    Lawful (did c a y ∷ h) = Step K (end start h) c a y × Lawful h

    abbrev pub clock_of : History K.Value R → ℕ → Clock
    clock_of h s = (station (end start h) s).clock

    abbrev pub held_by : History K.Value R → ℕ → K.Value
    held_by h s = (station (end start h) s).held

    abbrev pub reports : History K.Value R → List (Accepted K.Value)
    reports [] = []
    reports (did (report s r) done y ∷ h) =
        record { by = s; nth = suc (report_count s (reports h)); change = value_or K.least (K.reported (join_of (covered (clock_of h s) (reports h))) s r) } ∷ reports h
    reports (did (report s r) (number n) y ∷ h) = reports h
    reports (did (report s r) (room_for b) y ∷ h) = reports h
    reports (did (report s r) (refused n) y ∷ h) = reports h
    reports (did (report s r) (faulted t k f) y ∷ h) = reports h
    reports (did (send_delta s room) a y ∷ h) = reports h
    reports (did (send_full s room) a y ∷ h) = reports h
    reports (did (fetch s k room) a y ∷ h) = reports h
    reports (did (discard k) a y ∷ h) = reports h
    reports (did count a y ∷ h) = reports h
    reports (did (fits n) a y ∷ h) = reports h
    reports (did (peek k room) a y ∷ h) = reports h

  -- a fresh table of n stations, and an empty mailbox
  pub record Fresh (n : ℕ) (y : Cluster K.Value) : Type 0 where
    pub few : n < 17
    pub size : length y.stations ≡ n
    pub blank : (s : ℕ) → s < n → station y s ≡ fresh K s
    pub empty : y.waiting ≡ []
