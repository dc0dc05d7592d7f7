-- One step of a reader. Assumes nothing.
use Rattle.std.proofs.Common.{◌≡◌, ℕ, ◌+◌, ◌-◌, ◌<◌, ◌≤◌, min, true, List, ◌∷◌, length, get_or, drop, is_err, Ok, Err, Result, sym, refl, ap, ◌∙◌, arith, length-drop}
use Rattle.std.proofs.lemmas.List.{drop_more}
use Rattle.std.proofs.lemmas.Bool.{false≢true}
use Rattle.words.specs.declared.fault.Fault.{Fault}
use Rattle.words.specs.declared.reader.Reader.{Reader}
use Rattle.words.specs.Readings.{Reading, read, wrong, read_or, rest, Told, told, left, stepped, before, fault_at, load_answer}

-- readers of the same words are the same where their places are
pub same_place : (r : Reader) (m n : ℕ) → m ≡ n → ◌≡◌ {A = Reader} (record { words = r.words; place = m; layer = r.layer }) (record { words = r.words; place = n; layer = r.layer })
same_place r m n e = λ i. record { words = r.words; place = e i; layer = r.layer }

module _ (r : Reader) where
  step_one : r.place < length r.words.now → r.place + 1 ≡ r.place + min 1 (length (left r))
  step_one h = let k = length-drop r.place r.words.now in omega arith

  pub step_taken : r.place < length r.words.now → ◌≡◌ {A = Reader} (record { words = r.words; place = r.place + 1; layer = r.layer }) (stepped r)
  step_taken h = same_place r _ _ (step_one h)

  pub step_left : length r.words.now ≤ r.place → r ≡ stepped r
  step_left h = same_place r _ _ (let k = length-drop r.place r.words.now in omega arith)

  pub left_more : r.place < length r.words.now → left r ≡ get_or r.words.now r.place 0 ∷ left (stepped r)
  left_more h = drop_more r.words.now r.place 0 h ∙ ap (λ n. get_or r.words.now r.place 0 ∷ drop n r.words.now) (step_one h)

-- a reader that has gone on by so many words
abbrev pub on : Reader → ℕ → Reader
on r n = record { words = r.words; place = r.place + n; layer = r.layer }

pub on_stepped : (start r : Reader) (n : ℕ) → r ≡ on start n → (w : ℕ) (ws : List ℕ) → left r ≡ w ∷ ws → stepped r ≡ on start (n + 1)
on_stepped start r n e w ws word =
    let a = ap length word in
    let p : r.place ≡ start.place + n = ap (λ (x : Reader). x.place) e in
    let m : r.place + min 1 (length (left r)) ≡ start.place + (n + 1) = omega arith in
    λ i. record { words = (e i).words; place = m i; layer = (e i).layer }

-- it stands before what it has left
pub on_before : (start r : Reader) (n : ℕ) → r ≡ on start n → n ≤ length (left start) → r ≡ before start (left r)
on_before start r n e room =
    let p : r.place ≡ start.place + n = ap (λ (x : Reader). x.place) e in
    let q : length r.words.now ≡ length start.words.now = ap (λ (x : Reader). length x.words.now) e in
    let a = length-drop start.place start.words.now in
    let b = length-drop r.place r.words.now in
    let m : r.place ≡ start.place + length (left start) - length (left r) = omega arith in
    λ i. record { words = (e i).words; place = m i; layer = (e i).layer }

-- what a load by start promises, where it has come to r
module _ {X : Type 0} (start r : Reader) (x : Reading X) (stands : r ≡ before start (left r)) where
  pub at_rest : rest x ≡ left r → r ≡ before start (rest x)
  at_rest e = stands ∙ sym (ap (before start) e)

  pub answer_wrong : (n : ℕ) (f : Told) → f ≡ fault_at r n → x ≡ wrong n (left r) → Err f ≡ load_answer start x
  answer_wrong n f is e = ap Err (is ∙ ap (λ s. fault_at s n) stands) ∙ sym (ap (load_answer start) e)

  pub answer_read : (v : X) → x ≡ read v (left r) → Ok r.place ≡ load_answer start x
  answer_read v e = ap (λ (s : Reader). Ok s.place) stands ∙ sym (ap (load_answer start) e)

-- a load that is refused has read no value
pub refused_least : {X : Type 0} (start : Reader) (x : Reading X) (d : X) (r : Result ℕ Fault) → told r ≡ load_answer start x → is_err r ≡ true → read_or d x ≡ d
refused_least start (wrong n ws) d r e f = refl
refused_least start (read v ws) d (Ok p) e f = absurd (false≢true f)
refused_least start (read v ws) d (Err g) e f = let z : ◌≡◌ {A = ℕ} 0 1 = cc in absurd (omega arith)
