-- Whole tables of stations. Assumes nothing.
--     Others s was is     no place but s differs
--     init_answer n       what init answers for n places
--     all_fresh K i n     the fresh stations from number i on, n of them
use Rattle.std.specs.Prelude.{◌≡◌, ℕ, zero, suc, cond, List, [], ◌∷◌, Ok, Err, Result, ◌==◌, ◌≢◌, nat_lt, slice_index_or}
use Rattle.crdt.specs.declared.kind.Crdt.{Ghosts}
use Rattle.histories.specs.Clusters.{Station, fresh}

abbrev pub Others : {X : Type 0} → ℕ → List X → List X → Type 0
Others {X} s was is = (k : ℕ) (d : X) → k ≢ s → slice_index_or is k d ≡ slice_index_or was k d

abbrev pub init_answer : ℕ → Result (Unit {0}) ℕ
init_answer n = cond (n == 0) (Err 1) (cond (nat_lt 16 n) (Err 1) (Ok tt))

abbrev pub all_fresh : {S R : Type 0} (K : Ghosts S R) → ℕ → ℕ → List (Station K.Value)
all_fresh K i zero = []
all_fresh K i (suc n) = fresh K i ∷ all_fresh K (suc i) n
