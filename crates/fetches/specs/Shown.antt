-- How the fault of a fetch is printed. Assumes nothing.
--     fetch_fault_shown f   the station, the message and the fault below
use Rattle.std.specs.Prelude.{ℕ, List, ◌++◌, codes, decimal}
use Rattle.words.specs.Shown.{fault_shown}
use Rattle.fetches.specs.declared.fault.FetchFault.{FetchFault}

abbrev pub fetch_fault_shown : FetchFault → List ℕ
fetch_fault_shown f = codes "station " ++ (decimal f.station ++ (codes ", message " ++ (decimal f.message ++ (codes ": " ++ fault_shown f.fault))))
