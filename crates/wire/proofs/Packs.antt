-- Words behind others, written one after the other, and what packing leaves. Assumes nothing.
use Rattle.std.proofs.Common.{◌≡◌, ℕ, suc, ◌+◌, ◌-◌, ◌<◌, ◌≤◌, min, List, ◌∷◌, ◌++◌, length, take, drop, set, IfOk, Ok, Err, Result, sym, ap, ◌∙◌, ⊎_elim, arith, length-append, length-set, take_at}
use Rattle.std.proofs.lemmas.Bool.{lt-ltb, le-ltb, cond-true, cond-false, cases_lt}
use Rattle.words.specs.declared.refusal.Refusal.{Refusal}
use Rattle.words.specs.Refusals.{numbered}
use Rattle.words.specs.Writes.{write_answer, write_leaves}
use Rattle.words.proofs.Writes.{answer_done, answer_long, answer_short, answer_fits, leaves_long, leaves_short, leaves_fits, leaves_both, put_step}
use Rattle.crdt.specs.declared.kind.Crdt.{Ghosts}
use Rattle.wire.specs.Messages.{Message, sender_of, Rises, head_word, Clock, packed}
use Rattle.wire.specs.Openings.{unpacked, OneToOne}
use Rattle.wire.specs.Packs.{head_made, pack_answer, pack_leaves}

-- a word, and a write behind it
leaves_step : (old : List ℕ) (place h : ℕ) (ws : List ℕ) → suc (length ws) ≤ 127 → suc (length ws) ≤ length old - place → write_leaves (set old place h) (place + 1) ws ≡ write_leaves old place (h ∷ ws)
leaves_step old place h ws few room =
    let same = length-set old place h in
    leaves_fits (set old place h) (place + 1) ws (omega arith) (omega arith) ∙ sym (put_step old place h ws (omega arith)) ∙ sym (leaves_fits old place (h ∷ ws) few room)

-- a head, and two writes behind it
pub leaves_headed : (old : List ℕ) (h : ℕ) (a b : List ℕ) → suc (length a + length b) ≤ 127 → suc (length a + length b) ≤ length old → write_leaves (write_leaves (set old 0 h) 1 a) (1 + length a) b ≡ write_leaves old 0 (h ∷ (a ++ b))
leaves_headed old h a b few room =
    let same = length-set old 0 h in
    let all = length-append a b in
    leaves_both (set old 0 h) 1 a b (omega arith) (omega arith) ∙ leaves_step old 0 h (a ++ b) (omega arith) (omega arith)

-- three words, and a write behind them
pub leaves_three : (old : List ℕ) (h f t : ℕ) (b : List ℕ) → 3 + length b ≤ 127 → 3 + length b ≤ length old → write_leaves (set (set (set old 0 h) 1 f) 2 t) 3 b ≡ write_leaves old 0 (h ∷ (f ∷ (t ∷ b)))
leaves_three old h f t b few room =
    let one = length-set old 0 h in
    let two = length-set (set old 0 h) 1 f in
    leaves_step (set (set old 0 h) 1 f) 2 t b (omega arith) (omega arith)
    ∙ leaves_step (set old 0 h) 1 f (t ∷ b) (omega arith) (omega arith)
    ∙ leaves_step old 0 h (f ∷ (t ∷ b)) (omega arith) (omega arith)

-- one answer is one place
pub answered : (m n : ℕ) → ◌≡◌ {A = Result ℕ ℕ} (Ok m) (Ok n) → m ≡ n
answered m n e = cc

-- the ways of a head
module _ (k s n room : ℕ) where
  pub made_station : 15 < s → head_made k s n room ≡ Err 1
  made_station h = cond-true _ _ _ (lt-ltb 15 s h)

  pub made_long : s ≤ 15 → 127 < n → head_made k s n room ≡ Err 7
  made_long h l = cond-false _ _ _ (le-ltb 15 s h) ∙ cond-true _ _ _ (lt-ltb 127 n l)

  pub made_short : s ≤ 15 → n ≤ 127 → room < n → head_made k s n room ≡ Err 6
  made_short h l r = cond-false _ _ _ (le-ltb 15 s h) ∙ cond-false _ _ _ (le-ltb 127 n l) ∙ cond-true _ _ _ (lt-ltb room n r)

  pub made_done : s ≤ 15 → n ≤ 127 → n ≤ room → head_made k s n room ≡ Ok (head_word k s n)
  made_done h l r = cond-false _ _ _ (le-ltb 15 s h) ∙ cond-false _ _ _ (le-ltb 127 n l) ∙ cond-false _ _ _ (le-ltb room n r)

module _ {S R : Type 0} (K : Ghosts S R) (m : Message Clock K.Value) where
  -- the ways of packing
  module _ (old : List ℕ) where
    pub pack_station : 15 < sender_of m → (pack_answer K m (length old) ≡ Err 1) × (pack_leaves K m old ≡ old)
    pack_station far = let t = lt-ltb 15 (sender_of m) far in (cond-true _ _ _ t, cond-true _ _ _ t)

    pub pack_on : sender_of m ≤ 15 → (pack_answer K m (length old) ≡ write_answer (length old) 0 (length (packed K m))) × (pack_leaves K m old ≡ write_leaves old 0 (packed K m))
    pack_on near = let f = le-ltb 15 (sender_of m) near in (cond-false _ _ _ f, cond-false _ _ _ f)

    pub pack_long : sender_of m ≤ 15 → 127 < length (packed K m) → (pack_answer K m (length old) ≡ Err 7) × (pack_leaves K m old ≡ old)
    pack_long near long = let p = pack_on near in (p.0 ∙ answer_long _ 0 _ long, p.1 ∙ leaves_long old 0 (packed K m) long)

    pub pack_short : sender_of m ≤ 15 → length (packed K m) ≤ 127 → length old < length (packed K m) → (pack_answer K m (length old) ≡ Err 6) × (pack_leaves K m old ≡ old)
    pack_short near few short =
        let p = pack_on near in
        let less : length old - 0 < length (packed K m) = omega arith in
        (p.0 ∙ answer_short _ 0 _ few less, p.1 ∙ leaves_short old 0 (packed K m) few less)

    -- packing is refused as its head is, and then leaves the words as they were
    pub pack_refused : (k n e : ℕ) → min n 128 ≡ min (length (packed K m)) 128 → Err e ≡ head_made k (sender_of m) n (length old) → (Err e ≡ pack_answer K m (length old)) × (old ≡ pack_leaves K m old)
    pack_refused k n e is h = ⊎_elim
        (λ (far : 15 < sender_of m). let p = pack_station far in (h ∙ made_station k (sender_of m) n (length old) far ∙ sym p.0, sym p.1))
        (λ (near : sender_of m ≤ 15). ⊎_elim
        (λ (long : 127 < n). let p = pack_long near (omega arith) in (h ∙ made_long k (sender_of m) n (length old) near long ∙ sym p.0, sym p.1))
        (λ (few : n ≤ 127). ⊎_elim
        (λ (short : length old < n). let p = pack_short near (omega arith) (omega arith) in (h ∙ made_short k (sender_of m) n (length old) near few short ∙ sym p.0, sym p.1))
        (λ (fits : n ≤ length old). let f = h ∙ made_done k (sender_of m) n (length old) near few fits in let z : ◌≡◌ {A = ℕ} 0 1 = cc in absurd (omega arith))
        (cases_lt (length old) n))
        (cases_lt 127 n))
        (cases_lt 15 (sender_of m))

    -- where a head is made, the message fits
    pub pack_fits : (k n w : ℕ) → min n 128 ≡ min (length (packed K m)) 128 → Ok w ≡ head_made k (sender_of m) n (length old) → (sender_of m ≤ 15) × (n ≡ length (packed K m)) × (n ≤ 127) × (n ≤ length old) × (w ≡ head_word k (sender_of m) n)
    pack_fits k n w is h = ⊎_elim
        (λ (far : 15 < sender_of m). let f = h ∙ made_station k (sender_of m) n (length old) far in let z : ◌≡◌ {A = ℕ} 0 1 = cc in absurd (omega arith))
        (λ (near : sender_of m ≤ 15). ⊎_elim
        (λ (long : 127 < n). let f = h ∙ made_long k (sender_of m) n (length old) near long in let z : ◌≡◌ {A = ℕ} 0 1 = cc in absurd (omega arith))
        (λ (few : n ≤ 127). ⊎_elim
        (λ (short : length old < n). let f = h ∙ made_short k (sender_of m) n (length old) near few short in let z : ◌≡◌ {A = ℕ} 0 1 = cc in absurd (omega arith))
        (λ (fits : n ≤ length old). let f = h ∙ made_done k (sender_of m) n (length old) near few fits in let q : w ≡ head_word k (sender_of m) n = cc in (near, omega arith, few, fits, q))
        (cases_lt (length old) n))
        (cases_lt 127 n))
        (cases_lt 15 (sender_of m))

  -- what is packed unpacks as the message
  pub pack_back : OneToOne K → (r : Result ℕ Refusal) (old new : List ℕ) → Rises m → numbered r ≡ pack_answer K m (length old) → new ≡ pack_leaves K m old → IfOk r (λ n. unpacked K (take n new) ≡ Ok m)
  pack_back laws (Ok n) old new rises answer words = ⊎_elim
      (λ (far : 15 < sender_of m). let f = answer ∙ (pack_station old far).0 in let z : ◌≡◌ {A = ℕ} 0 1 = cc in absurd (omega arith))
      (λ (near : sender_of m ≤ 15).
      let p = packed K m in
      let on = pack_on old near in
      let told = answer ∙ on.0 in
      let fit = answer_done (length old) 0 (length p) n told in
      let same : Ok n ≡ Ok (0 + length p) = told ∙ answer_fits (length old) 0 (length p) fit.0 fit.1 in
      let n-is : n ≡ 0 + length p = cc in
      let new_is : new ≡ p ++ drop (0 + length p) old = words ∙ on.1 ∙ leaves_fits old 0 p fit.0 fit.1 in
      let front : take n new ≡ p = ap (take n) new_is ∙ take_at p (drop (0 + length p) old) n (omega arith) in
      ap (unpacked K) front ∙ laws.back m (record { few = fit.0; station = omega arith; rises = rises }))
      (cases_lt 15 (sender_of m))
  pack_back laws (Err e) old new rises answer words = tt
