-- What a call owes, and that a history goes on by it. Assumes nothing.
use Rattle.std.proofs.Common.{◌≡◌, ℕ, List, ◌∷◌, Ok, Err, Result, OnErr, sym, ◌∙◌, ap, subst}
use Rattle.crdt.specs.declared.kind.Crdt.{Ghosts}
use Rattle.histories.specs.Clusters.{Cluster}
use Rattle.histories.specs.Calls.{Call, Answer as Said, Step}
use Rattle.histories.specs.Histories.{did, Lawful}
use Rattle.histories.proofs.Overs.{Laws}
use Rattle.histories.proofs.Promised.{histories_promised}
use Rattle.replication.specs.Runs.{words_after, GoesOn}

goes_on : {S R : Type 0} (K : Ghosts S R) → Laws K → (y z : Cluster K.Value) (c : Call R) (a : Said) → Step K y c a z → GoesOn K y c a z
goes_on K laws y z c a step start n fresh h lawful at =
    let more : Lawful K start (did c a z ∷ h) = (subst (λ x. Step K x c a z) (sym at) step, lawful) in
    (more, histories_promised K laws start n fresh (did c a z ∷ h) more)

pub in_any_case : {T E : Type 0} (r : Result T E) {A B : Type 0} → A → B → OnErr r (A × B)
in_any_case (Ok x) a b = tt
in_any_case (Err e) a b = (a, b)

-- a call c whose answer is told as a, from cluster y to z, given words old and left new
pub record Owed {S R : Type 0} (K : Ghosts S R) (y z : Cluster K.Value) (c : Call R) (a : Said) (old new : List ℕ) : Type 0 where
  pub step : Step K y c a z
  pub words : new ≡ words_after K y c old
  pub promised : GoesOn K y c a z

pub owed : {S R : Type 0} (K : Ghosts S R) → Laws K → (y z : Cluster K.Value) (c d : Call R) (a b : Said) (old new : List ℕ) → c ≡ d → a ≡ b → Step K y d b z → new ≡ words_after K y d old → Owed K y z c a old new
owed K laws y z c d a b old new e f made left =
    let step : Step K y c a z = subst (λ x. Step K y x a z) (sym e) (subst (λ x. Step K y d x z) (sym f) made) in
    record { step = step; words = left ∙ sym (ap (λ x. words_after K y x old) e); promised = goes_on K laws y z c a step }
