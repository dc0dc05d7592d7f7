-- A table that is made fresh is the beginning of histories that keep the promise. Assumes nothing.
use Rattle.std.proofs.Common.{◌≡◌, ℕ, zero, suc, ◌+◌, ◌<◌, ◌≤◌, List, [], length, get_or, sym, refl, ap, ◌∙◌, add-zero, zero-add, arith}
use Rattle.crdt.specs.declared.kind.Crdt.{Ghosts}
use Rattle.histories.specs.Clusters.{Station, Cluster, fresh}
use Rattle.histories.specs.Histories.{Fresh}
use Rattle.histories.specs.Promises.{PromisedFrom}
use Rattle.histories.proofs.Overs.{Laws}
use Rattle.histories.proofs.Promised.{histories_promised}
use Rattle.stations.specs.Tables.{all_fresh}

module _ {S R : Type 0} (K : Ghosts S R) where
  length_fresh : (i n : ℕ) → length (all_fresh K i n) ≡ n
  length_fresh i zero = refl
  length_fresh i (suc n) = ap suc (length_fresh (suc i) n)

  fresh_at : (i n k : ℕ) (d : Station K.Value) → k < n → get_or (all_fresh K i n) k d ≡ fresh K (i + k)
  fresh_at i zero k d h = absurd (omega arith)
  fresh_at i (suc n) zero d h = ap (fresh K) (sym (add-zero i))
  fresh_at i (suc n) (suc k) d h = fresh_at (suc i) n k d (omega arith) ∙ ap (fresh K) (omega arith)

  -- with an empty mailbox it is a fresh start
  pub starts : (y : Cluster K.Value) (n : ℕ) → n ≤ 16 → y.stations ≡ all_fresh K 0 n → y.waiting ≡ [] → Fresh K n y
  starts y n few is none = record {
    few = omega arith;
    size = ap length is ∙ length_fresh 0 n;
    blank = λ s low. ap (λ xs. get_or xs s (fresh K 0)) is ∙ fresh_at 0 n s (fresh K 0) low ∙ ap (fresh K) (zero-add s);
    empty = none;
  }

  pub begins : Laws K → (ts : List (Station K.Value)) (n : ℕ) → n ≤ 16 → ts ≡ all_fresh K 0 n → PromisedFrom K ts
  begins laws ts n few is takes h lawful =
      let y : Cluster K.Value = record { stations = ts; waiting = []; takes = takes } in
      let long : length ts ≡ n = ap length is ∙ length_fresh 0 n in
      let all : ts ≡ all_fresh K 0 (length ts) = is ∙ ap (all_fresh K 0) (sym long) in
      histories_promised K laws y (length ts) (starts y (length ts) (omega arith) all refl) h lawful
