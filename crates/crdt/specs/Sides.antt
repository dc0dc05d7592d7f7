-- A pair keeps the laws of its sides: its join is theirs side by side, and its words are read side by side. Over the joins, the words and the
-- readings of its sides. Assumes nothing.
use Rattle.std.specs.Prelude.{◌≡◌, ℕ, true, false, List, ◌++◌, is_err, Ok, Err, Result, refl}
use Rattle.std.proofs.Common.{append_assoc, sym, ap, ◌∙◌, arith}
use Rattle.std.proofs.lemmas.Bool.{false≢true}
use Rattle.words.specs.declared.fault.Fault.{Fault}
use Rattle.words.specs.declared.reader.Reader.{Reader}
use Rattle.words.specs.Readings.{Reading, read, wrong, read_or, rest, told, left, before, fault_at, load_answer}
use Rattle.words.proofs.Walks.{refused_least}
use Rattle.words.proofs.Resumes.{left_before, before_before}
use Rattle.crdt.specs.Pairs.{each, beside, then_right}

pair_same : {V W : Type 0} {a c : V} {b d : W} → a ≡ c → b ≡ d → ◌≡◌ {A = V × W} (a, b) (c, d)
pair_same e f = λ i. (e i, f i)

-- what is joined side by side keeps the laws of its sides
module _ {V W : Type 0} (f : V → V → V) (g : W → W → W) where
  pub pair_assoc : ((a b c : V) → f (f a b) c ≡ f a (f b c)) → ((a b c : W) → g (g a b) c ≡ g a (g b c)) → (p q r : V × W) → each f g (each f g p q) r ≡ each f g p (each f g q r)
  pair_assoc left right p q r = pair_same (left p.0 q.0 r.0) (right p.1 q.1 r.1)

  pub pair_comm : ((a b : V) → f a b ≡ f b a) → ((a b : W) → g a b ≡ g b a) → (p q : V × W) → each f g p q ≡ each f g q p
  pair_comm left right p q = pair_same (left p.0 q.0) (right p.1 q.1)

  pub pair_idem : ((a : V) → f a a ≡ a) → ((a : W) → g a a ≡ a) → (p : V × W) → each f g p p ≡ p
  pair_idem left right p = pair_same (left p.0) (right p.1)

  pub pair_neutral : {v : V} {w : W} → ((a : V) → f a v ≡ a) → ((a : W) → g a w ≡ a) → (p : V × W) → each f g p (v, w) ≡ p
  pair_neutral left right p = pair_same (left p.0) (right p.1)

-- a load that is answered has read a value
pub answered : {X : Type 0} (start : Reader) (x : Reading X) (p : ℕ) → Ok p ≡ load_answer start x → (v : X) × (x ≡ read v (rest x))
answered start (read v ws) p e = (v, refl)
answered start (wrong n ws) p e = let z : ◌≡◌ {A = ℕ} 0 1 = cc in absurd (omega arith)

refused_beside : {V W : Type 0} (mid : Reader) (v : V) (x : Reading W) (d : V × W) (r : Result ℕ Fault) → told r ≡ load_answer mid x → is_err r ≡ true → read_or d (beside v x) ≡ d
refused_beside mid v (wrong n ws) d r e f = refl
refused_beside mid v (read w ws) d (Ok p) e f = absurd (false≢true f)
refused_beside mid v (read w ws) d (Err g) e f = let z : ◌≡◌ {A = ℕ} 0 1 = cc in absurd (omega arith)

answered_beside : {V W : Type 0} (mid : Reader) (v : V) (x : Reading W) (d : V × W) (r : Result ℕ Fault) → told r ≡ load_answer mid x → is_err r ≡ false → read_or d (beside v x) ≡ (v, read_or d.1 x)
answered_beside mid v (read w ws) d r e f = refl
answered_beside mid v (wrong n ws) d (Err g) e f = absurd (false≢true (sym f))
answered_beside mid v (wrong n ws) d (Ok p) e f = let z : ◌≡◌ {A = ℕ} 0 1 = cc in absurd (omega arith)

module _ {V W : Type 0} (wl : V → List ℕ) (wr : W → List ℕ) (rl : List ℕ → Reading V) (rr : List ℕ → Reading W) where
  pub pair_reads : ((v : V) (ws : List ℕ) → rl (wl v ++ ws) ≡ read v ws) → ((w : W) (ws : List ℕ) → rr (wr w ++ ws) ≡ read w ws) → (p : V × W) (ws : List ℕ) → then_right rr (rl ((wl p.0 ++ wr p.1) ++ ws)) ≡ read p ws
  pair_reads l r p ws =
      ap (λ xs. then_right rr (rl xs)) (append_assoc (wl p.0) (wr p.1) ws)
      ∙ ap (then_right rr) (l p.0 (wr p.1 ++ ws))
      ∙ ap (beside p.0) (r p.1 ws)

  beside_exact : (v : V) (ws : List ℕ) (p : V × W) (more : List ℕ) (x : Reading W) → ((w : W) → x ≡ read w more → ws ≡ wr w ++ more) → beside v x ≡ read p more → (v ≡ p.0) × (ws ≡ wr p.1 ++ more)
  beside_exact v ws p more (read w xs) exact e =
      let q : xs ≡ more = cc in
      let both : ◌≡◌ {A = V × W} (v, w) p = cc in
      (ap (λ (a : V × W). a.0) both, exact w (ap (read w) q) ∙ ap (λ (a : V × W). wr a.1 ++ more) both)
  beside_exact v ws p more (wrong n xs) exact e = let z : ◌≡◌ {A = ℕ} 0 1 = cc in absurd (omega arith)

  then_exact : (ws : List ℕ) (p : V × W) (more : List ℕ) (x : Reading V) → ((v : V) (xs : List ℕ) → x ≡ read v xs → ws ≡ wl v ++ xs) → ((xs : List ℕ) (w : W) → rr xs ≡ read w more → xs ≡ wr w ++ more) → then_right rr x ≡ read p more → ws ≡ (wl p.0 ++ wr p.1) ++ more
  then_exact ws p more (read v xs) l r e =
      let b = beside_exact v xs p more (rr xs) (r xs) e in
      l v xs refl
      ∙ ap (λ a. wl a ++ xs) b.0
      ∙ ap (λ ys. wl p.0 ++ ys) b.1
      ∙ sym (append_assoc (wl p.0) (wr p.1) more)
  then_exact ws p more (wrong n xs) l r e = let z : ◌≡◌ {A = ℕ} 0 1 = cc in absurd (omega arith)

  pub pair_exact : ((ws : List ℕ) (v : V) (more : List ℕ) → rl ws ≡ read v more → ws ≡ wl v ++ more) → ((ws : List ℕ) (w : W) (more : List ℕ) → rr ws ≡ read w more → ws ≡ wr w ++ more) → (ws : List ℕ) (p : V × W) (more : List ℕ) → then_right rr (rl ws) ≡ read p more → ws ≡ (wl p.0 ++ wr p.1) ++ more
  pair_exact l r ws p more e = then_exact ws p more (rl ws) (λ v xs f. l ws v xs f) (λ xs w f. r xs w more f) e

  -- a load whose left side is read as v, and after it the reader has come to mid
  module _ (exact : (ws : List ℕ) (v : V) (more : List ℕ) → rl ws ≡ read v more → ws ≡ wl v ++ more) (start mid : Reader) (v : V) (is : rl (left start) ≡ read v (rest (rl (left start)))) (stands : mid ≡ before start (rest (rl (left start)))) where
    words : left start ≡ wl v ++ rest (rl (left start))
    words = exact (left start) v (rest (rl (left start))) is

    mid_left : left mid ≡ rest (rl (left start))
    mid_left = ap left stands ∙ left_before start (wl v) (rest (rl (left start))) words

    whole : then_right rr (rl (left start)) ≡ beside v (rr (left mid))
    whole = ap (then_right rr) is ∙ ap (λ ws. beside v (rr ws)) (sym mid_left)

    from_mid : (ws : List ℕ) → before mid ws ≡ before start ws
    from_mid ws = ap (λ r. before r ws) stands ∙ before_before start (wl v) (rest (rl (left start))) words ws

    answer_beside : (x : Reading W) → load_answer mid x ≡ load_answer start (beside v x)
    answer_beside (read w ws) = ap (λ (r : Reader). Ok r.place) (from_mid ws)
    answer_beside (wrong n ws) = ap (λ r. Err (fault_at r n)) (from_mid ws)

    rest_beside : (x : Reading W) → rest x ≡ rest (beside v x)
    rest_beside (read w ws) = refl
    rest_beside (wrong n ws) = refl

    pub pair_answer : load_answer mid (rr (left mid)) ≡ load_answer start (then_right rr (rl (left start)))
    pair_answer = answer_beside (rr (left mid)) ∙ sym (ap (load_answer start) whole)

    pub pair_reader : before mid (rest (rr (left mid))) ≡ before start (rest (then_right rr (rl (left start))))
    pair_reader = from_mid (rest (rr (left mid))) ∙ ap (before start) (rest_beside (rr (left mid)) ∙ ap rest (sym whole))

    module _ (d : V) (f : W) (r : Result ℕ Fault) (is-told : told r ≡ load_answer mid (rr (left mid))) {a : V} {b : W} (right : b ≡ read_or f (rr (left mid))) where
      -- a right that is refused leaves no value of the pair
      pub after_refused : is_err r ≡ true → a ≡ d → ◌≡◌ {A = V × W} (a, b) (read_or (d, f) (then_right rr (rl (left start))))
      after_refused e same =
          pair_same same (right ∙ refused_least mid (rr (left mid)) f r is-told e) ∙ sym (ap (read_or (d, f)) whole ∙ refused_beside mid v (rr (left mid)) (d, f) r is-told e)

      -- one that is answered leaves both sides
      pub after_answered : is_err r ≡ false → a ≡ read_or d (rl (left start)) → ◌≡◌ {A = V × W} (a, b) (read_or (d, f) (then_right rr (rl (left start))))
      after_answered e same =
          pair_same (same ∙ ap (read_or d) is) right ∙ sym (ap (read_or (d, f)) whole ∙ answered_beside mid v (rr (left mid)) (d, f) r is-told e)
