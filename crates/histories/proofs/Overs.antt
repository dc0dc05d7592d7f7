-- What the laws of a kind give of joins of deltas. Assumes nothing.
use Rattle.std.proofs.Common.{◌≡◌, ℕ, suc, ◌≤◌, Bool, true, false, cond, ◌&&◌, ◌||◌, eqb, ltb, leb, List, [], ◌∷◌, ◌++◌, sym, refl, ap, ◌∙◌, arith}
use Rattle.std.proofs.lemmas.Bool.{cond-true, cond-false, cond_both, eq-eqb}
use Rattle.std.specs.List.{AllByRecursion}
use Rattle.words.specs.Readings.{read}
use Rattle.crdt.specs.declared.kind.Crdt.{Ghosts}
use Rattle.wire.specs.Messages.{Clock}
use Rattle.wire.specs.Openings.{OneToOne}
use Rattle.wire.proofs.Laws.{both_ways}
use Rattle.histories.specs.Clusters.{entry}
use Rattle.histories.specs.Histories.{Accepted, report_count, covered, spanned, join_of}

-- what a kind keeps, with its messages
pub record Laws {S R : Type 0} (K : Ghosts S R) : Type 0 where
  pub assoc : (a b c : K.Value) → K.joined (K.joined a b) c ≡ K.joined a (K.joined b c)
  pub comm : (a b : K.Value) → K.joined a b ≡ K.joined b a
  pub idem : (a : K.Value) → K.joined a a ≡ a
  pub neutral : (a : K.Value) → K.joined a K.least ≡ a
  pub wire : OneToOne K

-- from the laws of its trait
pub laws_of : {S R : Type 0} (K : Ghosts S R) →
    ((a b c : K.Value) → K.joined (K.joined a b) c ≡ K.joined a (K.joined b c)) →
    ((a b : K.Value) → K.joined a b ≡ K.joined b a) →
    ((a : K.Value) → K.joined a a ≡ a) →
    ((a : K.Value) → K.joined a K.least ≡ a) →
    ((v : K.Value) (ws : List ℕ) → K.reading (K.written v ++ ws) ≡ read v ws) →
    ((ws : List ℕ) (v : K.Value) (more : List ℕ) → K.reading ws ≡ read v more → ws ≡ K.written v ++ more) → Laws K
laws_of K assoc comm idem neutral reads exact = record { assoc = assoc; comm = comm; idem = idem; neutral = neutral; wire = both_ways K reads exact }

-- counts c cover report k of station i
abbrev pub covers : (ℕ → ℕ) → ℕ → ℕ → Bool
covers c i k = leb k (c i)

-- the reports of station i after number a, up to number b
abbrev pub spans : ℕ → ℕ → ℕ → ℕ → ℕ → Bool
spans i a b j k = eqb j i && (ltb a k && leb k b)

-- each report's number says how many its station has made
abbrev pub Numbered : {V : Type 0} → List (Accepted V) → Type 0
Numbered [] = Unit {0}
Numbered (e ∷ older) = (e.nth ≡ suc (report_count e.by older)) × Numbered older

-- the join of the deltas of those reports k of stations i that p picks
abbrev pub over : {S R : Type 0} (K : Ghosts S R) → List (Accepted K.Value) → (ℕ → ℕ → Bool) → K.Value
over K [] p = K.least
over K (e ∷ older) p = cond (p e.by (suc (report_count e.by older))) (K.joined e.change (over K older p)) (over K older p)

pub count_self : {V : Type 0} (e : Accepted V) (older : List (Accepted V)) → report_count e.by (e ∷ older) ≡ suc (report_count e.by older)
count_self e older = cond-true (eqb e.by e.by) _ _ (eq-eqb e.by e.by refl)

pub count_le : {V : Type 0} (j : ℕ) (e : Accepted V) (older : List (Accepted V)) → report_count j older ≤ report_count j (e ∷ older)
count_le j e older = cond_both (eqb e.by j) (suc (report_count j older)) (report_count j older) (λ n. report_count j older ≤ n) (λ x. omega arith) (λ x. omega arith)

module _ {S R : Type 0} (K : Ghosts S R) (laws : Laws K) where
  four : (d p q : K.Value) → K.joined d (K.joined p q) ≡ K.joined (K.joined d p) (K.joined d q)
  four d p q =
      let j : K.Value → K.Value → K.Value = K.joined in
      let e₁ : j d (j p q) ≡ j (j d d) (j p q) = ap (λ x. j x (j p q)) (sym (laws.idem d)) in
      let e₂ : j (j d d) (j p q) ≡ j d (j d (j p q)) = laws.assoc d d (j p q) in
      let e₃ : j d (j d (j p q)) ≡ j d (j (j d p) q) = ap (j d) (sym (laws.assoc d p q)) in
      let e₄ : j d (j (j d p) q) ≡ j d (j (j p d) q) = ap (λ x. j d (j x q)) (laws.comm d p) in
      let e₅ : j d (j (j p d) q) ≡ j d (j p (j d q)) = ap (j d) (laws.assoc p d q) in
      let e₆ : j d (j p (j d q)) ≡ j (j d p) (j d q) = sym (laws.assoc d p (j d q)) in
      e₁ ∙ e₂ ∙ e₃ ∙ e₄ ∙ e₅ ∙ e₆

  second : (d p q : K.Value) → K.joined d (K.joined p q) ≡ K.joined p (K.joined d q)
  second d p q =
      let j : K.Value → K.Value → K.Value = K.joined in
      sym (laws.assoc d p q) ∙ ap (λ x. j x q) (laws.comm d p) ∙ laws.assoc p d q

  or_step : (b c : Bool) (d p q : K.Value) →
      cond (b || c) (K.joined d (K.joined p q)) (K.joined p q) ≡ K.joined (cond b (K.joined d p) p) (cond c (K.joined d q) q)
  or_step true true d p q = four d p q
  or_step true false d p q = sym (laws.assoc d p q)
  or_step false true d p q = second d p q
  or_step false false d p q = refl

  -- two choices together
  pub over_or : (log : List (Accepted K.Value)) (p q : ℕ → ℕ → Bool) → over K log (λ i k. p i k || q i k) ≡ K.joined (over K log p) (over K log q)
  over_or [] p q = sym (laws.idem K.least)
  over_or (e ∷ older) p q =
      let k : ℕ = suc (report_count e.by older) in
      let ih = over_or older p q in
      ap (λ v. cond (p e.by k || q e.by k) (K.joined e.change v) v) ih ∙ or_step (p e.by k) (q e.by k) e.change (over K older p) (over K older q)

  -- only the reports made count
  pub over_same : (log : List (Accepted K.Value)) (p q : ℕ → ℕ → Bool) → ((j k : ℕ) → 1 ≤ k → k ≤ report_count j log → p j k ≡ q j k) → over K log p ≡ over K log q
  over_same [] p q agree = refl
  over_same (e ∷ older) p q agree =
      let k : ℕ = suc (report_count e.by older) in
      let here : p e.by k ≡ q e.by k = agree e.by k (omega arith) (omega (arith, count_self e older)) in
      let ih : over K older p ≡ over K older q = over_same older p q (λ j n low high. agree j n low (omega (arith, count_le j e older))) in
      ap (λ b. cond b (K.joined e.change (over K older p)) (over K older p)) here ∙ ap (λ v. cond (q e.by k) (K.joined e.change v) v) ih

  -- nothing chosen
  pub over_none : (log : List (Accepted K.Value)) (p : ℕ → ℕ → Bool) → ((j k : ℕ) → 1 ≤ k → k ≤ report_count j log → p j k ≡ false) → over K log p ≡ K.least
  over_none [] p never = refl
  over_none (e ∷ older) p never =
      let k : ℕ = suc (report_count e.by older) in
      let here : p e.by k ≡ false = never e.by k (omega arith) (omega (arith, count_self e older)) in
      cond-false (p e.by k) _ _ here ∙ over_none older p (λ j n low high. never j n low (omega (arith, count_le j e older)))

  pub over_skips : (e : Accepted K.Value) (older : List (Accepted K.Value)) (p : ℕ → ℕ → Bool) → p e.by (suc (report_count e.by older)) ≡ false → over K (e ∷ older) p ≡ over K older p
  over_skips e older p out = cond-false (p e.by (suc (report_count e.by older))) _ _ out

  pub over_takes : (e : Accepted K.Value) (older : List (Accepted K.Value)) (p : ℕ → ℕ → Bool) → p e.by (suc (report_count e.by older)) ≡ true → over K (e ∷ older) p ≡ K.joined e.change (over K older p)
  over_takes e older p inside = cond-true (p e.by (suc (report_count e.by older))) _ _ inside

  join_cond : (b : Bool) (d : K.Value) (vs : List K.Value) → join_of K (cond b (d ∷ vs) vs) ≡ cond b (K.joined d (join_of K vs)) (join_of K vs)
  join_cond true d vs = refl
  join_cond false d vs = refl

  -- the same join, told by numbers
  pub join_covered : (c : Clock) (log : List (Accepted K.Value)) → Numbered log → join_of K (covered c log) ≡ over K log (covers (entry c))
  join_covered c [] numbered = refl
  join_covered c (e ∷ older) numbered =
      join_cond (leb e.nth (entry c e.by)) e.change (covered c older)
      ∙ ap (λ k. cond (leb k (entry c e.by)) (K.joined e.change (join_of K (covered c older))) (join_of K (covered c older))) numbered.0
      ∙ ap (λ v. cond (leb (suc (report_count e.by older)) (entry c e.by)) (K.joined e.change v) v) (join_covered c older numbered.1)

  -- and of a span
  pub join_spanned : (i a b : ℕ) (log : List (Accepted K.Value)) → Numbered log → join_of K (spanned i a b log) ≡ over K log (spans i a b)
  join_spanned i a b [] numbered = refl
  join_spanned i a b (e ∷ older) numbered =
      join_cond (spans i a b e.by e.nth) e.change (spanned i a b older)
      ∙ ap (λ k. cond (spans i a b e.by k) (K.joined e.change (join_of K (spanned i a b older))) (join_of K (spanned i a b older))) numbered.0
      ∙ ap (λ v. cond (spans i a b e.by (suc (report_count e.by older))) (K.joined e.change v) v) (join_spanned i a b older numbered.1)

pub numbered_le : {V : Type 0} (P : ℕ → ℕ) (log : List (Accepted V)) → Numbered log → ((i : ℕ) → report_count i log ≤ P i) → AllByRecursion (λ e. e.nth ≤ P e.by) log
numbered_le P [] numbered high = tt
numbered_le P (e ∷ older) numbered high =
    (omega (arith, numbered.0, count_self e older, high e.by), numbered_le P older numbered.1 (λ i. omega (arith, high i, count_le i e older)))
