-- A run grows by a call. Assumes nothing.
use Rattle.std.proofs.Common.{◌≡◌, ℕ, ◌+◌, ◌<◌, Bool, List, [], ◌∷◌, ◌++◌, map, length, get_or, take, set, sym, refl, ap, ◌∙◌, subst}
use mathlib.Core.List.{map-append}
use Rattle.std.proofs.lemmas.List.{take_more, take_more_set}
use Rattle.crdt.specs.declared.kind.Crdt.{Ghosts}
use Rattle.histories.specs.Clusters.{Cluster}
use Rattle.histories.specs.Calls.{Call, Answer, Step}
use Rattle.histories.specs.Histories.{did, Fresh}
use Rattle.replication.specs.Runs.{Ran, words_after, words_left}

map_more : {X Y : Type 0} (f : X → Y) (xs : List X) (i : ℕ) (x : X) → i < length xs → x ≡ get_or xs i x → map f (take (i + 1) xs) ≡ map f (take i xs) ++ (f x ∷ [])
map_more f xs i x low is = ap (map f) (take_more xs i x low ∙ ap (λ v. take i xs ++ (v ∷ [])) (sym is)) ∙ map-append f (take i xs) (x ∷ [])

map_more_set : {X Y : Type 0} (f : X → Y) (xs : List X) (i : ℕ) (x : X) → i < length xs → map f (take (i + 1) (set xs i x)) ≡ map f (take i xs) ++ (f x ∷ [])
map_more_set f xs i x low = ap (map f) (take_more_set xs i x low) ∙ map-append f (take i xs) (x ∷ [])

module _ {S R : Type 0} (K : Ghosts S R) (n : ℕ) (takes : ℕ → Bool) (old : List ℕ) where
  pub ran_none : (y : Cluster K.Value) → Fresh K n y → y.takes ≡ takes → Ran K n takes [] [] old old y
  ran_none y fresh first = record { start = y; fresh = fresh; first = first; history = []; exactly = refl; answered = refl; lawful = tt; ends = refl; words = refl }

  pub ran_more : (calls : List (Call R)) (answers : List Answer) (now new : List ℕ) (y z : Cluster K.Value) (c : Call R) (a : Answer) →
      Ran K n takes calls answers old now y → Step K y c a z → new ≡ words_after K y c now →
      Ran K n takes (calls ++ (c ∷ [])) (answers ++ (a ∷ [])) old new z
  ran_more calls answers now new y z c a run step leaves = record {
    start = run.start;
    fresh = run.fresh;
    first = run.first;
    history = did c a z ∷ run.history;
    exactly = ap (λ l. l ++ (c ∷ [])) run.exactly;
    answered = ap (λ l. l ++ (a ∷ [])) run.answered;
    lawful = (subst (λ x. Step K x c a z) (sym run.ends) step, run.lawful);
    ends = refl;
    words = ap (λ x. words_after K x c (words_left K run.start run.history old)) run.ends ∙ ap (words_after K y c) run.words ∙ sym leaves;
  }

  -- one more of the calls xs, at i, whose answer b goes to place i of the answers bs
  pub ran_on : {X B : Type 0} (f : X → Call R) (h : B → Answer) (xs : List X) (bs : List B) (i : ℕ) (x : X) (b : B) →
      i < length xs → x ≡ get_or xs i x → i < length bs → (now new : List ℕ) (y z : Cluster K.Value) →
      Ran K n takes (map f (take i xs)) (map h (take i bs)) old now y → Step K y (f x) (h b) z → new ≡ words_after K y (f x) now →
      Ran K n takes (map f (take (i + 1) xs)) (map h (take (i + 1) (set bs i b))) old new z
  ran_on f h xs bs i x b low is room now new y z run step leaves =
      subst (λ l. Ran K n takes l (map h (take (i + 1) (set bs i b))) old new z) (sym (map_more f xs i x low is))
      (subst (λ l. Ran K n takes (map f (take i xs) ++ (f x ∷ [])) l old new z) (sym (map_more_set h bs i b room))
      (ran_more (map f (take i xs)) (map h (take i bs)) now new y z (f x) (h b) run step leaves))
