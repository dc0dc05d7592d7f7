-- The ways of opening and unpacking a message. Assumes nothing.
use Rattle.std.proofs.Common.{◌≡◌, ℕ, suc, ◌+◌, ◌-◌, ◌%◌, ◌^◌, ◌<◌, ◌≤◌, true, false, eqb, List, [], ◌∷◌, ◌++◌, length, take, drop, Ok, Err, Result, sym, refl, ap, ◌∙◌, arith, length-append, length-drop, take_at, drop_at}
use Rattle.std.proofs.lemmas.List.{take_rest}
use Rattle.std.proofs.lemmas.Bool.{cond-true, cond-false, lt-ltb, le-ltb}
use Rattle.words.specs.declared.fault.Layer.TheVariants as layer
use Rattle.words.specs.declared.reader.Reader.{Reader}
use Rattle.words.specs.Readings.{found, found_at, Reading, read, wrong, read_or, rest, Told, left, stepped, before, fault_at, load_answer}
use Rattle.words.specs.Words.{kind, index, word_of}
use Rattle.entries.specs.Rows.{empty}
use Rattle.wire.specs.Messages.{Message, full, delta, Clock, clock_written, packed_by, head_word}
use Rattle.wire.specs.Openings.{head_found, to_read, from_read, span_reading, mapped, full_from, delta_from, after_head, head_read, opening, fault_in, left_over, with_record, completed, loaded_by, unpacked_by, clock_reading, record_of}
use Rattle.wire.specs.Answers.{reading_answer, bare, header_answer, clock_in, clock_opened, open_answer}
use Rattle.wire.proofs.Heads.{was_found, head_was}
use Rattle.wire.proofs.Laws.{parts}
use Rattle.wire.proofs.Steps.{At, at_start, at_step, at_before, at_moved}

-- what a step found, from what it answers
pub found_ok : (r : Reader) (x : Result ℕ ℕ) (w : ℕ) → Ok w ≡ found_at r x → x ≡ Ok w
found_ok r (Ok v) w e = let p : v ≡ w = cc in ap Ok p
found_ok r (Err n) w e = let z : ◌≡◌ {A = ℕ} 0 1 = cc in absurd (omega arith)

pub found_err : (r : Reader) (x : Result ℕ ℕ) (t : Told) → Err t ≡ found_at r x → (n : ℕ) × (x ≡ Err n) × (t ≡ fault_at r n)
found_err r (Ok v) t e = let z : ◌≡◌ {A = ℕ} 0 1 = cc in absurd (omega arith)
found_err r (Err n) t e = (n, refl, (let p : t ≡ fault_at r n = cc in p))

-- a span is being read: the from word was found, and the reader stands at the to word
module _ (start s : Reader) (f : ℕ) (from : found 3 (left start) ≡ Ok f) (on : s ≡ stepped start) where
  pub at_to : At start s (drop 1 (left start))
  at_to = at_moved start (stepped start) s _ on (at_step start start (left start) (at_start start) f (drop 1 (left start)) (was_found 3 (left start) f from).0)

  by_to : (x : Result ℕ ℕ) → found 4 (left s) ≡ x → span_reading (left start) ≡ to_read (f % 2 ^ 16) (drop 1 (left start)) x
  by_to x e = ap (from_read (left start)) from ∙ ap (to_read (f % 2 ^ 16) (drop 1 (left start))) (ap (found 4) (sym at_to.sees) ∙ e)

  pub to_wrong : (n : ℕ) → found 4 (left s) ≡ Err n → span_reading (left start) ≡ wrong n (drop 1 (left start))
  to_wrong n e = by_to (Err n) e

  module _ (t : ℕ) (to : found 4 (left s) ≡ Ok t) where
    pub to_low : (f % 2 ^ 16 < t % 2 ^ 16 → ⊥) → span_reading (left start) ≡ wrong 11 (drop 1 (left start))
    to_low low = by_to (Ok t) to ∙ cond-false _ _ _ (le-ltb (f % 2 ^ 16) (t % 2 ^ 16) (omega arith))

    pub to_high : f % 2 ^ 16 < t % 2 ^ 16 → span_reading (left start) ≡ read (f % 2 ^ 16, t % 2 ^ 16) (drop 1 (drop 1 (left start)))
    to_high high = by_to (Ok t) to ∙ cond-true _ _ _ (lt-ltb (f % 2 ^ 16) (t % 2 ^ 16) high)

    pub at_past : (past : Reader) → past ≡ stepped s → At start past (drop 1 (drop 1 (left start)))
    at_past past e = at_moved start (stepped s) past _ e (at_step start s (drop 1 (left start)) at_to t (drop 1 (drop 1 (left start))) (sym at_to.sees ∙ (was_found 4 (left s) t to).0 ∙ ap (λ xs. t ∷ drop 1 xs) at_to.sees))

-- the head was found, and the reader stands behind it
module _ (start s : Reader) (w : ℕ) (head : head_found (left start) ≡ Ok w) (on : s ≡ stepped start) where
  pub at_body : At start s (drop 1 (left start))
  at_body = at_moved start (stepped start) s _ on (at_step start start (left start) (at_start start) w (drop 1 (left start)) (head_was (left start) w head).words)

  by_head : opening (left start) ≡ after_head clock_reading w (left s)
  by_head = ap (head_read clock_reading (left start)) head ∙ ap (after_head clock_reading w) (sym at_body.sees)

  pub as_full : eqb (kind w) 1 ≡ true → opening (left start) ≡ mapped (full_from (index w)) (clock_reading (left s))
  as_full is = by_head ∙ cond-true _ _ _ is

  pub as_delta : eqb (kind w) 1 ≡ false → opening (left start) ≡ mapped (delta_from (index w)) (span_reading (left s))
  as_delta is = by_head ∙ cond-false _ _ _ is

pub rest_mapped : {X Y : Type 0} (f : X → Y) (x : Reading X) → rest (mapped f x) ≡ rest x
rest_mapped f (read v ws) = refl
rest_mapped f (wrong n ws) = refl

-- what the reader behind the head answers is what start would
module _ (start s : Reader) (ws : List ℕ) (at : At start s ws) where
  pub full_broken : (i : ℕ) (t : Told) (x : Reading Clock) → Err t ≡ load_answer s x → Err t ≡ header_answer start (mapped (full_from i) x)
  full_broken i t (read c more) e = let z : ◌≡◌ {A = ℕ} 0 1 = cc in absurd (omega arith)
  full_broken i t (wrong n more) e = let p : t ≡ fault_at (before s more) n = cc in ap Err (p ∙ ap (λ r. fault_at r n) (at_before start s ws at more))

  pub full_done : (i p : ℕ) (x : Reading Clock) → Ok p ≡ load_answer s x → Ok (full i tt tt) ≡ header_answer start (mapped (full_from i) x)
  full_done i p (read c more) e = refl
  full_done i p (wrong n more) e = let z : ◌≡◌ {A = ℕ} 0 1 = cc in absurd (omega arith)

  pub delta_broken : (i : ℕ) (t : Told) (x : Reading (ℕ × ℕ)) → Err t ≡ reading_answer s x → Err t ≡ header_answer {C = Clock} start (mapped (delta_from i) x)
  delta_broken i t (read c more) e = let z : ◌≡◌ {A = ℕ} 0 1 = cc in absurd (omega arith)
  delta_broken i t (wrong n more) e = let p : t ≡ fault_at (before s more) n = cc in ap Err (p ∙ ap (λ r. fault_at r n) (at_before start s ws at more))

  pub delta_done : (i : ℕ) (p : ℕ × ℕ) (x : Reading (ℕ × ℕ)) → Ok p ≡ reading_answer s x → Ok (delta i p.0 p.1 tt) ≡ header_answer {C = Clock} start (mapped (delta_from i) x)
  delta_done i p (read q more) e = let same : p ≡ q = cc in ap (λ (y : ℕ × ℕ). Ok (delta i y.0 y.1 tt)) same
  delta_done i p (wrong n more) e = let z : ◌≡◌ {A = ℕ} 0 1 = cc in absurd (omega arith)

pub full_clock : (i : ℕ) (x : Reading Clock) → read_or (empty 65535) x ≡ clock_opened (mapped (full_from i) x)
full_clock i (read c more) = refl
full_clock i (wrong n more) = refl

pub delta_clock : (i : ℕ) (x : Reading (ℕ × ℕ)) → empty 65535 ≡ clock_opened (mapped (delta_from i) x)
delta_clock i (read p more) = refl
delta_clock i (wrong n more) = refl

-- what was opened, from what the reader of the header answers
pub header_ok : (r : Reader) (x : Reading (Message Clock (Unit {0}))) (b : Message (Unit {0}) (Unit {0})) → Ok b ≡ header_answer r x → (m : Message Clock (Unit {0})) × (more : List ℕ) × (x ≡ read m more) × (b ≡ bare m)
header_ok r (read m more) b e = (m, more, refl, (let p : b ≡ bare m = cc in p))
header_ok r (wrong n more) b e = let z : ◌≡◌ {A = ℕ} 0 1 = cc in absurd (omega arith)

pub header_err : (r : Reader) (x : Reading (Message Clock (Unit {0}))) (t : Told) → Err t ≡ header_answer r x → (n : ℕ) × (more : List ℕ) × (x ≡ wrong n more) × (t ≡ fault_at (before r more) n)
header_err r (read m more) t e = let z : ◌≡◌ {A = ℕ} 0 1 = cc in absurd (omega arith)
header_err r (wrong n more) t e = (n, more, refl, (let p : t ≡ fault_at (before r more) n = cc in p))

pub load_ok : {V : Type 0} (r : Reader) (x : Reading V) (p : ℕ) → Ok p ≡ load_answer r x → (v : V) × (more : List ℕ) × (x ≡ read v more) × (p ≡ (before r more).place)
load_ok r (read v more) p e = (v, more, refl, (let q : p ≡ (before r more).place = cc in q))
load_ok r (wrong n more) p e = let z : ◌≡◌ {A = ℕ} 0 1 = cc in absurd (omega arith)

pub load_err : {V : Type 0} (r : Reader) (x : Reading V) (t : Told) → Err t ≡ load_answer r x → (n : ℕ) × (more : List ℕ) × (x ≡ wrong n more) × (t ≡ fault_at (before r more) n)
load_err r (read v more) t e = let z : ◌≡◌ {A = ℕ} 0 1 = cc in absurd (omega arith)
load_err r (wrong n more) t e = (n, more, refl, (let p : t ≡ fault_at (before r more) n = cc in p))

-- the words of an opened message before those of its record
front_of : Message Clock (Unit {0}) → ℕ → List ℕ
front_of (full s c u) n = head_word 1 s n ∷ clock_written c
front_of (delta s f t u) n = head_word 2 s n ∷ (word_of 3 f ∷ (word_of 4 t ∷ []))

module _ (ws : List ℕ) where
  front_is : (m : Message Clock (Unit {0})) (more : List ℕ) → opening ws ≡ read m more → (n : ℕ) × (ws ≡ front_of m n ++ more)
  unfolding front_of
  front_is (full s c u) more o = (suc (length (clock_written c ++ more)), (parts ws (full s c u) more o).0)
  front_is (delta s f t u) more o = (suc (suc (suc (length more))), (parts ws (delta s f t u) more o).0)

  some : (m : Message Clock (Unit {0})) (n : ℕ) → 1 ≤ length (front_of m n)
  unfolding front_of
  some (full s c u) n = omega arith
  some (delta s f t u) n = omega arith

  module _ (m : Message Clock (Unit {0})) (more : List ℕ) (o : opening ws ≡ read m more) where
    pub more_fewer : suc (length more) ≤ length ws
    more_fewer =
        let p = front_is m more o in
        let a = ap length p.1 in
        let b = length-append (front_of m p.0) more in
        let d = some m p.0 in
        omega arith

    module _ (end : ℕ) (is : end ≡ length ws - length more) where
      pub record_is : drop end ws ≡ more
      record_is =
          let p = front_is m more o in
          let a = ap length p.1 in
          let b = length-append (front_of m p.0) more in
          ap (drop end) p.1 ∙ drop_at (front_of m p.0) more end (omega arith)

      pub end_low : 1 ≤ end
      end_low = let h = more_fewer in omega arith

  pub clock_is : (s : ℕ) (c : Clock) (more : List ℕ) → opening ws ≡ read (full s c tt) more → (end : ℕ) → end ≡ length ws - length more → take (end - 1) (drop 1 ws) ≡ clock_written c
  clock_is s c more o end is =
      let p = (parts ws (full s c tt) more o).0 in
      let a = ap length p in
      let b = length-append (clock_written c) more in
      ap (λ xs. take (end - 1) (drop 1 xs)) p ∙ take_at (clock_written c) more (end - 1) (omega arith)

  -- the ways of a record
  module _ {V : Type 0} (rv : List ℕ → Reading V) (m : Message Clock (Unit {0})) (more : List ℕ) (o : opening ws ≡ read m more) where
    by_record : (x : Reading V) → rv more ≡ x → unpacked_by clock_reading rv ws ≡ completed ws m x
    by_record x e = ap (loaded_by rv ws) o ∙ ap (completed ws m) e

    pub record_wrong : (n : ℕ) (k : List ℕ) → rv more ≡ wrong n k → unpacked_by clock_reading rv ws ≡ Err (fault_in layer.Record ws n k)
    record_wrong n k e = by_record (wrong n k) e

    pub record_left : (v : V) (k : List ℕ) → rv more ≡ read v k → (length ws - length k ≡ length ws → ⊥) → unpacked_by clock_reading rv ws ≡ Err left_over
    record_left v [] e past = absurd (past (omega arith))
    record_left v (x ∷ k) e past = by_record (read v (x ∷ k)) e

    pub record_read : (v : V) (k : List ℕ) → rv more ≡ read v k → length ws - length k ≡ length ws → unpacked_by clock_reading rv ws ≡ Ok (with_record m v)
    record_read v [] e all = by_record (read v []) e
    record_read v (x ∷ k) e all = let h = more_fewer m more o in absurd (omega arith)

  pub not_opened : {V : Type 0} (rv : List ℕ → Reading V) (n : ℕ) (more : List ℕ) → opening ws ≡ wrong n more → unpacked_by clock_reading rv ws ≡ Err (fault_in layer.Message ws n more)
  not_opened rv n more o = ap (loaded_by rv ws) o

-- which message was opened, from its header
pub bare_full : (m : Message Clock (Unit {0})) (s : ℕ) → full s tt tt ≡ bare m → (c : Clock) × (m ≡ full s c tt)
bare_full (full r c u) s e = let p : r ≡ s = cc in (c, ap (λ x. full x c tt) p)
bare_full (delta r f t u) s e = let z : ◌≡◌ {A = ℕ} 0 1 = cc in absurd (omega arith)

pub bare_delta : (m : Message Clock (Unit {0})) (s f t : ℕ) → delta s f t tt ≡ bare m → m ≡ delta s f t tt
bare_delta (full r c u) s f t e = let z : ◌≡◌ {A = ℕ} 0 1 = cc in absurd (omega arith)
bare_delta (delta r g v u) s f t e =
    let a : r ≡ s = cc in
    let b : g ≡ f = cc in
    let d : v ≡ t = cc in
    ap (λ x. delta x g v tt) a ∙ ap (λ x. delta s x v tt) b ∙ ap (λ x. delta s f x tt) d

-- the parts of the words are those of the message
module _ (ws : List ℕ) (m : Message Clock (Unit {0})) (more : List ℕ) (o : opening ws ≡ read m more) (end : ℕ) (is : end ≡ length ws - length more) where
  record_part : take (length ws - end) (drop end ws) ≡ more
  record_part = take_rest ws end ∙ record_is ws m more o end is

  pub opened_full : (s : ℕ) → full s tt tt ≡ bare m → Ok (full s (take (end - 1) (drop 1 ws)) (take (length ws - end) (drop end ws))) ≡ open_answer ws (opening ws)
  opened_full s b =
      let p = bare_full m s b in
      let c = p.0 in
      let f = o ∙ ap (λ x. read x more) p.1 in
      ap (λ xs. Ok (full s xs (take (length ws - end) (drop end ws)))) (clock_is ws s c more f end is)
      ∙ ap (λ xs. Ok (full s (clock_written c) xs)) record_part
      ∙ sym (ap (open_answer ws) f)

  pub opened_delta : (s f t : ℕ) → delta s f t tt ≡ bare m → Ok (delta s f t (take (length ws - end) (drop end ws))) ≡ open_answer ws (opening ws)
  opened_delta s f t b =
      let e = o ∙ ap (λ x. read x more) (bare_delta m s f t b) in
      ap (λ xs. Ok (delta s f t xs)) record_part ∙ sym (ap (open_answer ws) e)

-- the parts of an opened message are all of its words
opened_by : (ws : List ℕ) (x : Reading (Message Clock (Unit {0}))) (p : Message (List ℕ) (List ℕ)) → opening ws ≡ x → Ok p ≡ open_answer ws x → ws ≡ packed_by (λ xs. xs) (λ xs. xs) p
opened_by ws (read (full s c u) more) p o e = let q : p ≡ full s (clock_written c) more = cc in (parts ws (full s c u) more o).0 ∙ ap (packed_by (λ xs. xs) (λ xs. xs)) (sym q)
opened_by ws (read (delta s f t u) more) p o e = let q : p ≡ delta s f t more = cc in (parts ws (delta s f t u) more o).0 ∙ ap (packed_by (λ xs. xs) (λ xs. xs)) (sym q)
opened_by ws (wrong n more) p o e = let z : ◌≡◌ {A = ℕ} 0 1 = cc in absurd (omega arith)

pub opened_words : (ws : List ℕ) (p : Message (List ℕ) (List ℕ)) → Ok p ≡ open_answer ws (opening ws) → ws ≡ packed_by (λ xs. xs) (λ xs. xs) p
opened_words ws p e = opened_by ws (opening ws) p refl e

-- the same reader, for the record's words
abbrev pub for_record : Reader → Reader
for_record r = record { words = r.words; place = r.place; layer = layer.Record }

-- a reader that has read a header, from the front of the words of a message, stands at the record
pub record AtRecord (start r : Reader) (b : Message (Unit {0}) (Unit {0})) : Type 0 where
  pub message : Message Clock (Unit {0})
  pub more : List ℕ
  pub opens : opening start.words.now ≡ read message more
  pub header : b ≡ bare message
  pub here : At (for_record start) (for_record r) more
  pub place_after : (k : List ℕ) → (before (for_record r) k).place ≡ length start.words.now - length k

pub stands_at_record : (start r : Reader) → start.place ≡ 0 → (b : Message (Unit {0}) (Unit {0})) → Ok b ≡ header_answer start (opening start.words.now) → r ≡ before start (rest (opening start.words.now)) → AtRecord start r b
stands_at_record start r front b e stands =
    let q = header_ok start (opening start.words.now) b e in
    let m = q.0 in
    let more = q.1 in
    let ws = start.words.now in
    let d = length-drop start.place ws in
    let fewer = more_fewer ws m more q.2 in
    let on : for_record r ≡ before (for_record start) more = ap for_record (stands ∙ ap (λ x. before start (rest x)) q.2) in
    let n : start.place + length (left start) - length more ≡ length ws - length more = omega arith in
    let here : At (for_record start) (for_record r) more = record { stands = on; sees = ap left on ∙ record_is ws m more q.2 _ n; room = omega arith } in
    record {
      message = m;
      more = more;
      opens = q.2;
      header = q.3;
      here = here;
      place_after = λ k. (let p : (before (for_record r) k).place ≡ start.place + length (left start) - length k = ap (λ (s : Reader). s.place) (at_before (for_record start) (for_record r) more here k) in omega arith);
    }

pub clock_with : {V : Type 0} (m : Message Clock (Unit {0})) (v : V) → clock_in m ≡ clock_in (with_record m v)
clock_with (full s c u) v = refl
clock_with (delta s f t u) v = refl

pub record_with : {C V : Type 0} (m : Message C (Unit {0})) (v : V) → v ≡ record_of (with_record m v)
record_with (full s c u) v = refl
record_with (delta s f t u) v = refl

pub bare_with : {C V : Type 0} (m : Message C (Unit {0})) (v : V) → bare m ≡ bare (with_record m v)
bare_with (full s c u) v = refl
bare_with (delta s f t u) v = refl
