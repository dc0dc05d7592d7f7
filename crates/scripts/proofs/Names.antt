-- A word that differs from each name in its length or in its first byte names nothing.
use Rattle.std.proofs.Common.{◌≡◌, ℕ, false, List, [], ◌∷◌, length, get_or, None, refl, ap, ⊎_elim}
use Rattle.std.proofs.lemmas.Slice.Eq.{bytes_eq-Decides}
use Rattle.std.proofs.lemmas.Bool.{cases_Bool}
use Rattle.std.specs.Str.{bytes_eq}
use Rattle.scripts.specs.Keywords.{named}

abbrev pub Apart : {X : Type 0} → List (List ℕ × X) → List ℕ → Type 0
Apart [] t = Unit {0}
Apart (n ∷ ns) t = (length n.0 ≡ length t → get_or n.0 0 0 ≡ get_or t 0 0 → ⊥) × Apart ns t

differs : (a t : List ℕ) → (length a ≡ length t → get_or a 0 0 ≡ get_or t 0 0 → ⊥) → bytes_eq a t ≡ false
differs a t h =
    ⊎_elim
    (λ e. let same : a ≡ t = (bytes_eq-Decides a t).0 e in absurd (h (ap length same) (ap (λ l. get_or l 0 0) same)))
    (λ e. e)
    (cases_Bool (bytes_eq a t))

pub unnamed : {X : Type 0} (ns : List (List ℕ × X)) (t : List ℕ) → Apart ns t → None ≡ named ns t
unnamed [] t h = refl
unnamed (n ∷ ns) t h = rw (differs n.0 t h.0) (unnamed ns t h.1)
