-- The values that stored stations stand for. Assumes nothing.
--     station_of K st          the station that a stored one stands for: a sent mark above the own entry stands for that entry
--     stations_of K ts         the stations of a stored table
--     station_at K ts s        station s of it, where it is a table and that station bears its number; or refusal 1
--     Here ts s                table ts, of at most 16, has a station s that bears its number
--     cluster_of K P ts m      the cluster that a stored table and a mailbox stand for
use Rattle.std.specs.Prelude.{◌≡◌, ℕ, ◌<◌, ◌≤◌, min, List, map, length, slice_index_or, Result}
use Rattle.crdt.specs.declared.kind.Crdt.{Ghosts}
use Rattle.counters.specs.Counts.{clock_of}
use Rattle.mailboxes.specs.declared.mailbox.Mailbox.{Ghosts as Boxes}
use Rattle.histories.specs.Clusters.{Station as Meant, Cluster, entry, found}
use Rattle.stations.specs.declared.station.Station.{Station}

abbrev pub station_of : {S R : Type 0} (K : Ghosts S R) → Station S → Meant K.Value
station_of K st = record {
  number = st.number;
  clock = clock_of st.clock.counts;
  held = K.value st.«record»;
  pending = K.value st.pending;
  sent = min st.sent (entry (clock_of st.clock.counts) st.number);
}

abbrev pub stations_of : {S R : Type 0} (K : Ghosts S R) → List (Station S) → List (Meant K.Value)
stations_of K ts = map (station_of K) ts

abbrev pub station_at : {S R : Type 0} (K : Ghosts S R) → List (Station S) → ℕ → Result (Meant K.Value) ℕ
station_at K ts s = found K (stations_of K ts) s

abbrev pub cluster_of : {S R M : Type 0} (K : Ghosts S R) (P : Boxes M) → List (Station S) → M → Cluster K.Value
cluster_of K P ts m = record { stations = stations_of K ts; waiting = P.waiting m; takes = P.takes m }

pub record Here {S : Type 0} (ts : List (Station S)) (s : ℕ) : Type 0 where
  pub few : length ts ≤ 16
  pub within : s < length ts
  pub own : (d : Station S) → (slice_index_or ts s d).number ≡ s
