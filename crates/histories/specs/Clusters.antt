-- Stations and clusters as values. Assumes nothing.
--     Station V           a station: its number, clock, record, pending delta group and sent mark
--     Cluster V           a table of stations, and a mailbox by the messages that wait and by what it takes now
--     entry c j           the count of a clock for station j
--     raised c j n        the clock whose count for station j is n at least
--     fresh K i           station i before its first call
--     found K ts s        station s of a table of at most 16, where it bears its number; or refusal 1
use Rattle.std.specs.Prelude.{ℕ, zero, suc, Bool, cond, List, [], ◌∷◌, length, Ok, Err, Result, ◌==◌, nat_lt, slice_index}
use Rattle.crdt.specs.declared.kind.Crdt.{Ghosts}
use Rattle.entries.specs.Rows.{empty}
use Rattle.counters.specs.Counts.{larger, only}
use Rattle.wire.specs.Messages.{Clock}

pub record Station (V : Type 0) : Type 0 where
  pub number : ℕ
  pub clock : Clock
  pub held : V
  pub pending : V
  pub sent : ℕ

pub record Cluster (V : Type 0) : Type 0 where
  pub stations : List (Station V)
  pub waiting : List (List ℕ)
  pub takes : ℕ → Bool

abbrev pub entry : Clock → ℕ → ℕ
entry c j = slice_index c.numbers j

abbrev pub raised : Clock → ℕ → ℕ → Clock
raised c j n = larger c (only j n)

abbrev pub at_place : {X : Type 0} → List X → ℕ → Result X ℕ
at_place [] i = Err 1
at_place (x ∷ xs) zero = Ok x
at_place (x ∷ xs) (suc i) = at_place xs i

module _ {S R : Type 0} (K : Ghosts S R) where
  abbrev pub fresh : ℕ → Station K.Value
  fresh i = record { number = i; clock = empty 65535; held = K.least; pending = K.least; sent = 0 }

  abbrev pub bearing : ℕ → Result (Station K.Value) ℕ → Result (Station K.Value) ℕ
  bearing s (Ok st) = cond (st.number == s) (Ok st) (Err 1)
  bearing s (Err n) = Err n

  abbrev pub found : List (Station K.Value) → ℕ → Result (Station K.Value) ℕ
  found ts s = cond (nat_lt 16 (length ts)) (Err 1) (bearing s (at_place ts s))
