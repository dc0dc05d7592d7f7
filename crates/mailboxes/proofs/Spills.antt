-- What the calls of an overflow come to, from those of its two parts. Assumes nothing.
use Rattle.std.proofs.Common.{◌≡◌, ℕ, suc, ◌+◌, ◌-◌, ◌<◌, ◌≤◌, min, Bool, true, false, cond, not, ◌&&◌, ◌||◌, eqb, ltb, List, [], ◌∷◌, ◌++◌, length, get_or, take, drop, Ok, Err, Result, sym, refl, ap, ◌∙◌, append_assoc, arith}
use lib.Seq.{take-append-add, drop-append-add}
use Rattle.std.specs.List.{remove}
use Rattle.std.proofs.lemmas.List.{append-nil, length-append, get_or_append_left, get_or-append_right, take-append-le, drop-append-le, nil_from_length}
use Rattle.std.proofs.lemmas.Bool.{lt-ltb, eq-eqb, ne_eqb}
use Rattle.std.proofs.lemmas.Bool.Decides.{nat_tests}
use Rattle.mailboxes.specs.Mailboxes.{counted, put_leaves, read_answer, read_leaves, discard_answer, discard_leaves, Kept}
use Rattle.mailboxes.specs.Overflows.{to_first, spills}

pub kept_at : {X Y T E : Type 0} (f : X → Y) (r : Result T E) (was is : X) → Kept r was is → Kept r (f was) (f is)
kept_at f (Ok x) was is u = tt
kept_at f (Err e) was is u = ap f u

pub counted_append : (fs ss : List (List ℕ)) → counted (fs ++ ss) ≡ min (counted fs + counted ss) 65535
counted_append fs ss = simp length-append (omega arith)

-- which part takes it
pub first_takes : (f : Bool) (ss : List (List ℕ)) → counted ss ≡ 0 → f ≡ true → to_first f ss ≡ true
first_takes f ss e t = let z : length ss ≡ 0 = omega arith in rw (t, eq-eqb (length ss) 0 z) refl

pub first_full : (f : Bool) (ss : List (List ℕ)) → f ≡ false → to_first f ss ≡ false
first_full f ss e = rw e (never (eqb (length ss) 0))
  where
    never : (t : Bool) → (t && false) ≡ false
    never true = refl
    never false = refl

pub second_waits : (f : Bool) (ss : List (List ℕ)) → (counted ss ≡ 0 → ⊥) → to_first f ss ≡ false
second_waits f ss ne = let z : length ss ≡ 0 → ⊥ = λ e. ne (omega arith) in rw (ne_eqb (length ss) 0 z) refl

pub spills_first : (f s : Bool) (ss : List (List ℕ)) → to_first f ss ≡ true → spills f s ss ≡ true
spills_first f s ss e = ap (λ t. t || s) e

pub spills_second : (f s : Bool) (ss : List (List ℕ)) → to_first f ss ≡ false → spills f s ss ≡ s
spills_second f s ss e = ap (λ t. t || s) e

-- what each part holds then
module _ (f s t : Bool) (fs ss : List (List ℕ)) (m : List ℕ) where
  pub put_first : t ≡ true → f ≡ true → (put_leaves f fs m ≡ put_leaves t fs m) × (ss ≡ put_leaves (not t && s) ss m)
  put_first e g = rw (e, g) (refl, refl)

  pub put_second : t ≡ false → (fs ≡ put_leaves t fs m) × (put_leaves s ss m ≡ put_leaves (not t && s) ss m)
  put_second e = rw e (refl, refl)

pub put_first_leaves : (f : Bool) (m : List ℕ) (fs ss : List (List ℕ)) → counted ss ≡ 0 → put_leaves f fs m ++ ss ≡ put_leaves f (fs ++ ss) m
put_first_leaves f m fs ss e = let z : ss ≡ [] = nil_from_length ss (omega arith) in rw (z, append-nil (put_leaves f fs m), append-nil fs) refl

cond_after : (t : Bool) (fs x y : List (List ℕ)) → fs ++ cond t x y ≡ cond t (fs ++ x) (fs ++ y)
cond_after true fs x y = refl
cond_after false fs x y = refl

pub put_second_leaves : (f : Bool) (m : List ℕ) (fs ss : List (List ℕ)) → fs ++ put_leaves f ss m ≡ put_leaves f (fs ++ ss) m
put_second_leaves f m fs ss = cond_after f fs (ss ++ (m ∷ [])) ss ∙ ap (λ x. cond f x (fs ++ ss)) (sym (append_assoc fs ss (m ∷ [])))

take_past : (fs ss : List (List ℕ)) (k : ℕ) → length fs ≤ k → take k (fs ++ ss) ≡ fs ++ take (k - length fs) ss
take_past fs ss k h =
    let e : k ≡ length fs + (k - length fs) = omega arith in
    ap (λ j. take j (fs ++ ss)) e ∙ take-append-add fs ss (k - length fs)

drop_past : (fs ss : List (List ℕ)) (k : ℕ) → length fs ≤ k → drop k (fs ++ ss) ≡ drop (k - length fs) ss
drop_past fs ss k h =
    let e : k ≡ length fs + (k - length fs) = omega arith in
    ap (λ j. drop j (fs ++ ss)) e ∙ drop-append-add fs ss (k - length fs)

module _ (fs ss : List (List ℕ)) (k : ℕ) where
  in_first : k < counted fs → ltb k (counted fs) ≡ ltb k (counted (fs ++ ss))
  in_first h = lt-ltb k (counted fs) h ∙ sym (lt-ltb k (counted (fs ++ ss)) (simp length-append (omega arith)))

  at_first : k < counted fs → get_or (fs ++ ss) k [] ≡ get_or fs k []
  at_first h = get_or_append_left fs ss [] k (omega arith)

  in_second : counted fs ≤ k → k < 65535 → ltb (k - counted fs) (counted ss) ≡ ltb k (counted (fs ++ ss))
  in_second h l = let n = length-append fs ss in grind (arith, nat_tests)

  at_second : counted fs ≤ k → k < 65535 → get_or (fs ++ ss) k [] ≡ get_or ss (k - counted fs) []
  at_second h l = get_or-append_right fs ss (counted fs) k [] (omega arith) h

  pub read_first : (n : ℕ) → k < counted fs → read_answer fs k n ≡ read_answer (fs ++ ss) k n
  read_first n h = rw (in_first h, at_first h) refl

  pub read_first_leaves : (old : List ℕ) → k < counted fs → read_leaves fs k old ≡ read_leaves (fs ++ ss) k old
  read_first_leaves old h = rw (in_first h, at_first h) refl

  pub read_second : (n : ℕ) → counted fs ≤ k → k < 65535 → read_answer ss (k - counted fs) n ≡ read_answer (fs ++ ss) k n
  read_second n h l = rw (in_second h l, at_second h l) refl

  pub read_second_leaves : (old : List ℕ) → counted fs ≤ k → k < 65535 → read_leaves ss (k - counted fs) old ≡ read_leaves (fs ++ ss) k old
  read_second_leaves old h l = rw (in_second h l, at_second h l) refl

  pub discard_first : k < counted fs → discard_answer fs k ≡ discard_answer (fs ++ ss) k
  discard_first h = rw (in_first h) refl

  pub discard_second : counted fs ≤ k → k < 65535 → discard_answer ss (k - counted fs) ≡ discard_answer (fs ++ ss) k
  discard_second h l = rw (in_second h l) refl

  removed_first : k < counted fs → remove fs k ++ ss ≡ remove (fs ++ ss) k
  removed_first h = rw (take-append-le k fs ss (omega arith), drop-append-le (suc k) fs ss (omega arith)) (append_assoc (take k fs) (drop (suc k) fs) ss)

  pub discard_first_leaves : k < counted fs → discard_leaves fs k ++ ss ≡ discard_leaves (fs ++ ss) k
  discard_first_leaves h = rw (lt-ltb k (counted fs) h, ← in_first h, lt-ltb k (counted fs) h) (removed_first h)

  removed_second : counted fs ≤ k → k < 65535 → fs ++ remove ss (k - counted fs) ≡ remove (fs ++ ss) k
  removed_second h l =
      let n : length fs ≡ counted fs = omega arith in
      let t : take k (fs ++ ss) ≡ fs ++ take (k - counted fs) ss = take_past fs ss k (omega arith) ∙ ap (λ j. fs ++ take (k - j) ss) n in
      let e : suc k - length fs ≡ suc (k - counted fs) = omega arith in
      let d : drop (suc k) (fs ++ ss) ≡ drop (suc (k - counted fs)) ss = drop_past fs ss (suc k) (omega arith) ∙ ap (λ j. drop j ss) e in
      rw (t, d) (sym (append_assoc fs (take (k - counted fs) ss) (drop (suc (k - counted fs)) ss)))

  pub discard_second_leaves : counted fs ≤ k → k < 65535 → fs ++ discard_leaves ss (k - counted fs) ≡ discard_leaves (fs ++ ss) k
  discard_second_leaves h l =
      rw (in_second h l) (cond_after (ltb k (counted (fs ++ ss))) fs (remove ss (k - counted fs)) ss ∙ ap (λ x. cond (ltb k (counted (fs ++ ss))) x (fs ++ ss)) (removed_second h l))
