-- What holds of every history of calls from a fresh table and an empty mailbox. Assumes nothing.
--     Promised K start n h     all of it, of history h of n stations from cluster start, at each of its moments
--     PromisedFrom K ts        it is so of every history from stations ts and an empty mailbox
-- A moment of h is an earlier part g, with later ++ g ≡ h: after any number of its calls, from none to all.
use Rattle.std.specs.Prelude.{◌≡◌, ℕ, ◌<◌, ◌≤◌, Bool, ◌≢◌, List, [], ◌∷◌, ◌++◌, length, Ok, slice_index_or}
use Rattle.std.specs.List.{AllByRecursion}
use Rattle.words.specs.Writes.{most, write_answer, write_leaves}
use Rattle.crdt.specs.declared.kind.Crdt.{Ghosts}
use Rattle.mailboxes.specs.Mailboxes.{counted}
use Rattle.wire.specs.Messages.{Message, full, delta, Clock}
use Rattle.wire.specs.Openings.{unpacked}
use Rattle.histories.specs.Clusters.{Station, Cluster, entry, found}
use Rattle.histories.specs.Calls.{fetch, number, answered}
use Rattle.histories.specs.Histories.{did, History, Accepted, as_full, origin, report_count, covered, spanned, join_of, station, end, clock_of, held_by, reports, Fresh, Lawful}

module _ {S R : Type 0} (K : Ghosts S R) (start : Cluster K.Value) where
  -- in history h, station s has fetched from station i a full message that was sent after all accepted reports made there
  pub record CaughtUp (h : History K.Value R) (s i : ℕ) : Type 0 where
    pub later : History K.Value R
    pub place : ℕ
    pub given : ℕ
    pub size : ℕ
    pub then : Cluster K.Value
    pub earlier : History K.Value R
    pub sent_after : History K.Value R
    pub fetched : h ≡ later ++ (did (fetch s place given) (number size) then ∷ earlier)
    pub sent : origin earlier place ≡ as_full i sent_after
    pub last : report_count i (reports K start h) ≡ report_count i (reports K start sent_after)

  -- from every other of the n stations
  abbrev pub Gathered : ℕ → History K.Value R → ℕ → Type 0
  Gathered n h s = (i : ℕ) → i < n → i ≢ s → CaughtUp h s i

  abbrev pub CoversAll : History K.Value R → ℕ → Type 0
  CoversAll h s = AllByRecursion (λ e. e.nth ≤ entry (clock_of K start h s) e.by) (reports K start h)

  -- a write of two values, handed the same words and place, answers and leaves the same
  abbrev pub WrittenAlike : K.Value → K.Value → Type 0
  WrittenAlike a b = (old : List ℕ) (place : ℕ) →
      (write_answer (length old) place (length (K.written a)) ≡ write_answer (length old) place (length (K.written b)))
      × (write_leaves old place (K.written a) ≡ write_leaves old place (K.written b))

  -- a message's record is the join of the deltas of the reports that its clock covers, or that its span names
  abbrev pub Truly : List (Accepted K.Value) → Message Clock K.Value → Type 0
  Truly log (full i c v) = v ≡ join_of K (covered c log)
  Truly log (delta i f t v) = v ≡ join_of K (spanned i f t log)

  -- words that unpack as such a message
  pub record Truthful (log : List (Accepted K.Value)) (w : List ℕ) : Type 0 where
    pub message : Message Clock K.Value
    pub unpacks : unpacked K w ≡ Ok message
    pub says : Truly log message

  pub record Promised (n : ℕ) (h : History K.Value R) : Type 0 where
    -- report k, which brings its station's entry to k, is that station's k-th accepted one
    pub numbered : (later g : History K.Value R) → later ++ g ≡ h → (s : ℕ) → s < n →
        entry (clock_of K start g s) s ≡ report_count s (reports K start g)
    -- a record is the join of the deltas of exactly the accepted reports that its clock covers
    pub joins : (later g : History K.Value R) → later ++ g ≡ h → (s : ℕ) → s < n →
        held_by K start g s ≡ join_of K (covered (clock_of K start g s) (reports K start g))
    -- what is pending is the join of the deltas of a station's own reports after its sent mark
    pub pending : (later g : History K.Value R) → later ++ g ≡ h → (s : ℕ) → s < n →
        (station K (end start g) s).pending ≡ join_of K (spanned s (station K (end start g) s).sent (entry (clock_of K start g s) s) (reports K start g))
    -- every waiting message unpacks, and its record is the join of the deltas of exactly the reports that it names
    pub messages : (later g : History K.Value R) → later ++ g ≡ h → (k : ℕ) → k < length (end start g).waiting →
        Truthful (reports K start g) (slice_index_or (end start g).waiting k [])
    -- at any two moments, a clock that is nowhere higher has a record at or below
    pub ordered : (later g later' g' : History K.Value R) → later ++ g ≡ h → later' ++ g' ≡ h → (s t : ℕ) → s < n → t < n →
        ((j : ℕ) → entry (clock_of K start g s) j ≤ entry (clock_of K start g' t) j) →
        K.joined (held_by K start g s) (held_by K start g' t) ≡ held_by K start g' t
    -- and equal clocks have records that are written alike
    pub alike : (later g later' g' : History K.Value R) → later ++ g ≡ h → later' ++ g' ≡ h → (s t : ℕ) → s < n → t < n →
        clock_of K start g s ≡ clock_of K start g' t → WrittenAlike (held_by K start g s) (held_by K start g' t)
    -- no fetch refuses a waiting full message for what it says: who passes refusals 1, 6 and 9 takes it
    pub accepted : (later g : History K.Value R) → later ++ g ≡ h → (s k room : ℕ) (st : Station K.Value) →
        found K (end start g).stations s ≡ Ok st → most ≤ room → k < counted (end start g).waiting →
        (i : ℕ) (sent_after : History K.Value R) → origin g k ≡ as_full i sent_after →
        answered K (end start g) (fetch s k room) ≡ number (length (slice_index_or (end start g).waiting k []))
    -- who has fetched a late enough full message from every other station covers every accepted report
    pub covering : (later g : History K.Value R) → later ++ g ≡ h → (s : ℕ) → s < n → Gathered n g s → CoversAll g s
    -- and any two such hold equal records
    pub agreeing : (later g : History K.Value R) → later ++ g ≡ h → (s t : ℕ) → s < n → t < n → Gathered n g s → Gathered n g t →
        held_by K start g s ≡ held_by K start g t

-- of every history from a fresh table and an empty mailbox
abbrev pub HistoriesPromised : {S R : Type 0} (K : Ghosts S R) → Type 0
HistoriesPromised {S} {R} K = (start : Cluster K.Value) (n : ℕ) → Fresh K n start → (h : History K.Value R) → Lawful K start h → Promised K start n h

-- of every history from these stations and an empty mailbox, whatever that takes
abbrev pub PromisedFrom : {S R : Type 0} (K : Ghosts S R) → List (Station K.Value) → Type 0
PromisedFrom {S} {R} K ts = (takes : ℕ → Bool) (h : History K.Value R) →
    Lawful K (record { stations = ts; waiting = []; takes = takes }) h → Promised K (record { stations = ts; waiting = []; takes = takes }) (length ts) h
