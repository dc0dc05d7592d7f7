-- What a fetch tells, and what it leaves of the given words. Assumes nothing.
--     fetched K P ts m s k room      what comes of a fetch by station s of stored table ts of message k of mailbox m, given room words:
--                                    the station after it, or the fault
--     fetch_told r                   an answer of a fetch: the message's length, or the fault with its station and message
--     fetch_leaves found ws k old    what the given words hold after it, by the station that was found
use Rattle.std.specs.Prelude.{ℕ, List, Ok, Err, Result}
use Rattle.words.specs.Readings.{Told, told_fault}
use Rattle.crdt.specs.declared.kind.Crdt.{Ghosts}
use Rattle.mailboxes.specs.declared.mailbox.Mailbox.{Ghosts as Boxes}
use Rattle.mailboxes.specs.Mailboxes.{read_leaves}
use Rattle.histories.specs.Clusters.{Station as Meant}
use Rattle.histories.specs.Calls.{Answer, number, faulted, fetching}
use Rattle.stations.specs.declared.station.Station.{Station}
use Rattle.stations.specs.Stored.{station_at}
use Rattle.fetches.specs.declared.fault.FetchFault.{FetchFault}

abbrev pub fetched : {S R M : Type 0} (K : Ghosts S R) (P : Boxes M) → List (Station S) → M → (s k room : ℕ) → Result (Meant K.Value) Told
fetched K P ts m s k room = fetching K (P.waiting m) s k room (station_at K ts s)

abbrev pub fetch_told : Result ℕ FetchFault → Answer
fetch_told (Ok n) = number n
fetch_told (Err f) = faulted f.station f.message (told_fault f.fault)

abbrev pub fetch_leaves : {X : Type 0} → Result X ℕ → List (List ℕ) → ℕ → List ℕ → List ℕ
fetch_leaves (Ok st) ws k old = read_leaves ws k old
fetch_leaves (Err n) ws k old = old
