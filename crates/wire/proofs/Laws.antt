-- Messages and their words are one to one, from the laws of the clock and of the record. Assumes nothing.
use Rattle.std.proofs.Common.{◌≡◌, ℕ, suc, ◌%◌, ◌^◌, ◌≤◌, List, [], ◌∷◌, ◌++◌, length, drop, Ok, Err, Result, sym, refl, ap, ◌∙◌, subst, inl, inr, ⊎_elim, append-nil, arith, length-append}
use Rattle.std.proofs.lemmas.Bool.{cond-true, cond-false, eq-eqb, ne_eqb}
use Rattle.words.specs.Readings.{Reading, read, wrong}
use Rattle.words.specs.Words.{kind, index, word_of}
use Rattle.crdt.specs.declared.kind.Crdt.{Ghosts}
use Rattle.entries.specs.Fits.{clock_fits}
use Rattle.entries.proofs.Scans.{row_reads, row_exact}
use Rattle.wire.specs.Messages.{Message, full, delta, head_word, headed, packed_by, SendableBy, Clock, clock_written}
use Rattle.wire.specs.Openings.{head_found, span_reading, mapped, full_from, delta_from, after_head, head_read, opening_by, with_record, completed, loaded_by, unpacked_by, clock_reading, opening, without_record, record_of, OneToOne}
use Rattle.wire.proofs.Heads.{kind_head, index_head, head_is, span_reads, span_exact, found_head, Headed, head_was}

pub mapped_was : {X Y : Type 0} (f : X → Y) (r : Reading X) (y : Y) (more : List ℕ) → mapped f r ≡ read y more → (x : X) × (r ≡ read x more) × (f x ≡ y)
mapped_was f (read x ws) y more e = (x, (let p : ws ≡ more = cc in ap (read x) p), (let q : f x ≡ y = cc in q))
mapped_was f (wrong n ws) y more e = let z : ◌≡◌ {A = ℕ} 0 1 = cc in absurd (omega arith)

-- what was loaded with nothing left over
completed_was : {C V : Type 0} (ws : List ℕ) (m : Message C (Unit {0})) (r : Reading V) (x : Message C V) → completed ws m r ≡ Ok x → (v : V) × (r ≡ read v []) × (with_record m v ≡ x)
completed_was ws m (read v []) x e = (v, refl, (let q : with_record m v ≡ x = cc in q))
completed_was ws m (read v (w ∷ more)) x e = let z : ◌≡◌ {A = ℕ} 0 1 = cc in absurd (omega arith)
completed_was ws m (wrong n more) x e = let z : ◌≡◌ {A = ℕ} 0 1 = cc in absurd (omega arith)

pub loaded_was : {C V : Type 0} (rv : List ℕ → Reading V) (ws : List ℕ) (o : Reading (Message C (Unit {0}))) (x : Message C V) → loaded_by rv ws o ≡ Ok x → (m : Message C (Unit {0})) × (more : List ℕ) × (v : V) × (o ≡ read m more) × (rv more ≡ read v []) × (with_record m v ≡ x)
loaded_was rv ws (read m more) x e = let p = completed_was ws m (rv more) x e in (m, more, p.0, refl, p.1, p.2)
loaded_was rv ws (wrong n more) x e = let z : ◌≡◌ {A = ℕ} 0 1 = cc in absurd (omega arith)

module _ {C V : Type 0} (wc : C → List ℕ) (rc : List ℕ → Reading C) (wv : V → List ℕ) (rv : List ℕ → Reading V) where
  module _ (c-reads : (c : C) (ws : List ℕ) → rc (wc c ++ ws) ≡ read c ws) (c-long : (c : C) → 1 ≤ length (wc c)) (v-reads : (v : V) (ws : List ℕ) → rv (wv v ++ ws) ≡ read v ws) where
    -- words behind a head of their own
    behind_head : (k s : ℕ) (ws : List ℕ) → (head_found (headed k s ws) ≡ Ok (head_word k s (suc (length ws)))) → opening_by rc (headed k s ws) ≡ after_head rc (head_word k s (suc (length ws))) ws
    behind_head k s ws e = ap (head_read rc (headed k s ws)) e

    opens_full : (s : ℕ) (c : C) (v : V) → SendableBy wc wv (full s c v) → opening_by rc (packed_by wc wv (full s c v)) ≡ read (full s c tt) (wv v)
    opens_full s c v ok =
        let ws = wc c ++ wv v in
        let n = suc (length ws) in
        let few = ok.few in
        let station = ok.station in
        let long = c-long c in
        let all = length-append (wc c) (wv v) in
        let h = head_word 1 s n in
        behind_head 1 s ws (found_head 1 s ws (inl refl) refl station (omega arith) (omega arith))
        ∙ cond-true _ _ _ (eq-eqb (kind h) 1 (kind_head 1 s n station (omega arith)))
        ∙ ap (λ i. mapped (full_from i) (rc ws)) (index_head 1 s n station (omega arith))
        ∙ ap (mapped (full_from s)) (c-reads c (wv v))

    opens_delta : (s f t : ℕ) (v : V) → SendableBy wc wv (delta s f t v) → opening_by rc (packed_by wc wv (delta s f t v)) ≡ read (delta s f t tt) (wv v)
    opens_delta s f t v ok =
        let ws = word_of 3 f ∷ (word_of 4 t ∷ wv v) in
        let n = suc (length ws) in
        let few = ok.few in
        let station = ok.station in
        let h = head_word 2 s n in
        let is = kind_head 2 s n station (omega arith) in
        behind_head 2 s ws (found_head 2 s ws (inr refl) refl station (omega arith) (omega arith))
        ∙ cond-false _ _ _ (ne_eqb (kind h) 1 (λ (e : kind h ≡ 1). omega arith))
        ∙ ap (λ i. mapped (delta_from i) (span_reading ws)) (index_head 2 s n station (omega arith))
        ∙ ap (mapped (delta_from s)) (span_reads f t (wv v) ok.rises.0 ok.rises.1)

    pub opens : (m : Message C V) → SendableBy wc wv m → opening_by rc (packed_by wc wv m) ≡ read (without_record m) (wv (record_of m))
    opens (full s c v) ok = opens_full s c v ok
    opens (delta s f t v) ok = opens_delta s f t v ok

    whole : (v : V) → rv (wv v) ≡ read v []
    whole v = ap rv (sym (append-nil (wv v))) ∙ v-reads v []

    again : (m : Message C V) → with_record (without_record m) (record_of m) ≡ m
    again (full s c v) = refl
    again (delta s f t v) = refl

    pub back : (m : Message C V) → SendableBy wc wv m → unpacked_by rc rv (packed_by wc wv m) ≡ Ok m
    back m ok =
        ap (loaded_by rv (packed_by wc wv m)) (opens m ok) ∙ ap (completed (packed_by wc wv m) (without_record m)) (whole (record_of m)) ∙ ap Ok (again m)

  module _ (c-exact : (ws : List ℕ) (c : C) (more : List ℕ) → rc ws ≡ read c more → ws ≡ wc c ++ more) where
    -- what was opened is the words of the message, with any record that has the words that are left
    abbrev pub Opened : List ℕ → Message C (Unit {0}) → List ℕ → Type 0
    Opened ws m more = (v : V) → more ≡ wv v → (ws ≡ packed_by wc wv (with_record m v)) × SendableBy wc wv (with_record m v)

    module _ (ws : List ℕ) (w : ℕ) (h : Headed ws w) where
      packs : (k : ℕ) (body : List ℕ) → kind w ≡ k → w ≡ head_word k (index w) (w % 2 ^ 8) → drop 1 ws ≡ body → ws ≡ headed k (index w) body
      packs k body is word behind =
          let size = h.size in
          let front = ap length h.words in
          let tail = ap length behind in
          let n : w % 2 ^ 8 ≡ suc (length body) = omega arith in
          h.words ∙ ap (λ x. x ∷ drop 1 ws) (word ∙ ap (head_word k (index w)) n) ∙ ap (λ xs. head_word k (index w) (suc (length body)) ∷ xs) behind

      full_was : (m : Message C (Unit {0})) (more : List ℕ) → kind w ≡ 1 → mapped (full_from (index w)) (rc (drop 1 ws)) ≡ read m more → Opened ws m more
      full_was m more is e v rest =
          let p = mapped_was (full_from (index w)) (rc (drop 1 ws)) m more e in
          let c = p.0 in
          let body : drop 1 ws ≡ wc c ++ wv v = c-exact (drop 1 ws) c more p.1 ∙ ap (λ xs. wc c ++ xs) rest in
          let words : ws ≡ packed_by wc wv (full (index w) c v) = packs 1 (wc c ++ wv v) is (head_is w 1 refl is h.form) body in
          let few = h.few in
          let all = ap length words in
          subst (λ x. (ws ≡ packed_by wc wv (with_record x v)) × SendableBy wc wv (with_record x v)) p.2 (words, record { few = omega arith; station = omega arith; rises = tt })

      delta_was : (m : Message C (Unit {0})) (more : List ℕ) → kind w ≡ 2 → mapped (delta_from (index w)) (span_reading (drop 1 ws)) ≡ read m more → Opened ws m more
      delta_was m more is e v rest =
          let p = mapped_was (delta_from (index w)) (span_reading (drop 1 ws)) m more e in
          let f = p.0.0 in
          let t = p.0.1 in
          let s = span_exact (drop 1 ws) p.0 more p.1 in
          let body : drop 1 ws ≡ word_of 3 f ∷ (word_of 4 t ∷ wv v) = s.words ∙ ap (λ xs. word_of 3 f ∷ (word_of 4 t ∷ xs)) rest in
          let words : ws ≡ packed_by wc wv (delta (index w) f t v) = packs 2 (word_of 3 f ∷ (word_of 4 t ∷ wv v)) is (head_is w 2 refl is h.form) body in
          let few = h.few in
          let all = ap length words in
          subst (λ x. (ws ≡ packed_by wc wv (with_record x v)) × SendableBy wc wv (with_record x v)) p.2 (words, record { few = omega arith; station = omega arith; rises = (s.rises, s.low) })

      after_was : (m : Message C (Unit {0})) (more : List ℕ) → after_head rc w (drop 1 ws) ≡ read m more → Opened ws m more
      after_was m more e =
          ⊎_elim
          (λ (one : kind w ≡ 1). full_was m more one (sym (cond-true _ _ _ (eq-eqb (kind w) 1 one)) ∙ e))
          (λ (two : kind w ≡ 2). delta_was m more two (sym (cond-false _ _ _ (ne_eqb (kind w) 1 (λ (one : kind w ≡ 1). omega arith))) ∙ e))
          h.kinds

    head_read_was : (ws : List ℕ) (x : Result ℕ ℕ) (m : Message C (Unit {0})) (more : List ℕ) → head_found ws ≡ x → head_read rc ws x ≡ read m more → Opened ws m more
    head_read_was ws (Ok w) m more is e = after_was ws w (head_was ws w is) m more e
    head_read_was ws (Err n) m more is e = let z : ◌≡◌ {A = ℕ} 0 1 = cc in absurd (omega arith)

    pub opened : (ws : List ℕ) (m : Message C (Unit {0})) (more : List ℕ) → opening_by rc ws ≡ read m more → Opened ws m more
    opened ws m more e = head_read_was ws (head_found ws) m more refl e

    module _ (v-exact : (ws : List ℕ) (v : V) (more : List ℕ) → rv ws ≡ read v more → ws ≡ wv v ++ more) where
      pub only : (ws : List ℕ) (m : Message C V) → unpacked_by rc rv ws ≡ Ok m → (ws ≡ packed_by wc wv m) × SendableBy wc wv m
      only ws m e =
          let p = loaded_was rv ws (opening_by rc ws) m e in
          let m0 = p.0 in
          let more = p.1 in
          let v = p.2 in
          let rest : more ≡ wv v = v-exact more v [] p.4 ∙ append-nil (wv v) in
          subst (λ x. (ws ≡ packed_by wc wv x) × SendableBy wc wv x) p.5 (opened ws m0 more p.3 v rest)

-- the laws of a message's clock
pub clock_long : (c : Clock) → 1 ≤ length (clock_written c)
clock_long c = simp length-append (omega arith)

pub clock_reads : (c : Clock) (ws : List ℕ) → clock_reading (clock_written c ++ ws) ≡ read c ws
clock_reads = row_reads 5 65535 clock_fits

pub clock_exact : (ws : List ℕ) (c : Clock) (more : List ℕ) → clock_reading ws ≡ read c more → ws ≡ clock_written c ++ more
clock_exact = row_exact 5 65535 clock_fits

-- the parts of the words of an opened message
pub parts : (ws : List ℕ) (m : Message Clock (Unit {0})) (more : List ℕ) → opening ws ≡ read m more → (ws ≡ packed_by clock_written (λ xs. xs) (with_record m more)) × SendableBy clock_written (λ xs. xs) (with_record m more)
parts ws m more e = opened clock_written clock_reading (λ xs. xs) (λ xs. read xs []) clock_exact ws m more e more refl

-- messages whose record is of any kind that has the two laws
pub both_ways : {S R : Type 0} (K : Ghosts S R) → ((v : K.Value) (ws : List ℕ) → K.reading (K.written v ++ ws) ≡ read v ws) → ((ws : List ℕ) (v : K.Value) (more : List ℕ) → K.reading ws ≡ read v more → ws ≡ K.written v ++ more) → OneToOne K
both_ways K reads exact = record {
  opens = opens clock_written clock_reading K.written K.reading clock_reads clock_long reads;
  back = back clock_written clock_reading K.written K.reading clock_reads clock_long reads;
  only = only clock_written clock_reading K.written K.reading clock_exact exact;
}
