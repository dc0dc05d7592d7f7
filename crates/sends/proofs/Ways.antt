-- The ways of a send. Assumes nothing.
use Rattle.std.proofs.Common.{◌≡◌, ℕ, ◌+◌, ◌-◌, ◌<◌, ◌≤◌, min, Bool, true, false, List, [], ◌∷◌, ◌++◌, length, take, drop, Ok, Err, Result, sym, refl, ap, ◌∙◌, subst, ⊎_elim, arith, take_at}
use Rattle.std.proofs.lemmas.Bool.{lt-ltb, le-ltb, le-leb, and_from, cond-true, cond-false, cases_lt, cases_Bool}
use Rattle.words.specs.declared.refusal.Refusal.{Refusal}
use Rattle.words.specs.Refusals.{number_of, numbered}
use Rattle.words.specs.Writes.{put}
use Rattle.words.proofs.Writes.{answer_fits, leaves_fits}
use Rattle.crdt.specs.declared.kind.Crdt.{Ghosts}
use Rattle.mailboxes.specs.Mailboxes.{Kept, put_answer, put_leaves}
use Rattle.wire.specs.Messages.{Message, Clock, packed, sender_of}
use Rattle.wire.specs.Packs.{pack_answer, pack_leaves}
use Rattle.wire.proofs.Packs.{pack_on}
use Rattle.histories.specs.Clusters.{Station}
use Rattle.histories.specs.Calls.{posting, appended}
use Rattle.sends.specs.Sends.{admitted, sent_length, sent_words}

-- what holds of a send, by what came of it
pub record Sent {M X : Type 0} (waiting : M → List (List ℕ)) (what : Result (List ℕ × X) ℕ) (r : Result ℕ Refusal) (p q : M) (ws us : List ℕ) : Type 0 where
  pub answer : numbered r ≡ sent_length what
  pub mailbox : waiting q ≡ appended (waiting p) what
  pub refused : Kept r p q
  pub words : us ≡ sent_words ws what

module _ {M X : Type 0} (waiting : M → List (List ℕ)) (what : Result (List ℕ × X) ℕ) where
  -- one that is refused
  pub turned : (r : Result ℕ Refusal) (e : Refusal) (p : M) (ws : List ℕ) → r ≡ Err e → what ≡ Err (number_of e) → Sent waiting what r p p ws ws
  turned r e p ws is w = record {
    answer = ap numbered is ∙ sym (ap sent_length w);
    mailbox = sym (ap (appended (waiting p)) w);
    refused = subst (λ (x : Result ℕ Refusal). Kept x p p) (sym is) refl;
    words = sym (ap (sent_words ws) w);
  }

  -- one that is made
  pub made : (n : ℕ) (m : List ℕ) (x : X) (p q : M) (ws us : List ℕ) → what ≡ Ok (m, x) → n ≡ length m → waiting q ≡ waiting p ++ (m ∷ []) → us ≡ put ws 0 m → Sent waiting what (Ok n) p q ws us
  made n m x p q ws us w is more front = record {
    answer = ap Ok is ∙ sym (ap sent_length w);
    mailbox = more ∙ sym (ap (appended (waiting p)) w);
    refused = tt;
    words = front ∙ sym (ap (sent_words ws) w);
  }

-- what is admitted
pub admitted_takes : (takes : ℕ → Bool) (n : ℕ) (u : Unit {0}) → Ok u ≡ admitted takes n → (n ≤ 127) × (takes n ≡ true)
admitted_takes takes n u h = ⊎_elim
    (λ (l : 127 < n). let f = h ∙ cond-true _ _ _ (lt-ltb 127 n l) in let z : ◌≡◌ {A = ℕ} 0 1 = cc in absurd (omega arith))
    (λ (l : n ≤ 127). ⊎_elim
    (λ (t : takes n ≡ true). (l, t))
    (λ (t : takes n ≡ false). let f = h ∙ cond-false _ _ _ (le-ltb 127 n l) ∙ cond-false _ _ _ t in let z : ◌≡◌ {A = ℕ} 0 1 = cc in absurd (omega arith))
    (cases_Bool (takes n)))
    (cases_lt 127 n)

-- a message by its size, as it is told
module _ {S R : Type 0} (K : Ghosts S R) (m : Message Clock K.Value) (takes : ℕ → Bool) (st : Station K.Value) (n : ℕ) (same : min n 128 ≡ min (length (packed K m)) 128) where
  pub posting_refused : (e : ℕ) → Err e ≡ admitted takes n → posting K takes m st ≡ Err e
  posting_refused e h = ⊎_elim
      (λ (l : 127 < n). cond-true _ _ _ (lt-ltb 127 (length (packed K m)) (omega arith)) ∙ err (h ∙ cond-true _ _ _ (lt-ltb 127 n l)))
      (λ (l : n ≤ 127).
      let size : n ≡ length (packed K m) = omega arith in
      let short = cond-false _ _ _ (le-ltb 127 n l) in
      ⊎_elim
      (λ (t : takes n ≡ true). let f = h ∙ short ∙ cond-true _ _ _ t in let z : ◌≡◌ {A = ℕ} 0 1 = cc in absurd (omega arith))
      (λ (t : takes n ≡ false). cond-false _ _ _ (le-ltb 127 (length (packed K m)) (omega arith)) ∙ cond-false _ _ _ (ap takes (sym size) ∙ t) ∙ err (h ∙ short ∙ cond-false _ _ _ t))
      (cases_Bool (takes n)))
      (cases_lt 127 n)
    where
      err : {k : ℕ} → ◌≡◌ {A = Result (Unit {0}) ℕ} (Err e) (Err k) → ◌≡◌ {A = Result (List ℕ × Station K.Value) ℕ} (Err k) (Err e)
      err {k} p = let q : k ≡ e = cc in ap Err q

  pub posting_done : (u : Unit {0}) → Ok u ≡ admitted takes n → (posting K takes m st ≡ Ok (packed K m, st)) × (n ≡ length (packed K m)) × (length (packed K m) ≤ 127) × (takes (length (packed K m)) ≡ true)
  posting_done u h =
      let a = admitted_takes takes n u h in
      let l = a.0 in
      let size : n ≡ length (packed K m) = omega arith in
      let few : length (packed K m) ≤ 127 = omega arith in
      let t : takes (length (packed K m)) ≡ true = ap takes (sym size) ∙ a.1 in
      (cond-false _ _ _ (le-ltb 127 (length (packed K m)) few) ∙ cond-true _ _ _ t, size, few, t)

-- a message that fits is packed and put
module _ {S R : Type 0} (K : Ghosts S R) (m : Message Clock K.Value) (old : List ℕ) (near : sender_of m ≤ 15) (few : length (packed K m) ≤ 127) (room : 127 ≤ length old) where
  pub packed_answer : pack_answer K m (length old) ≡ Ok (length (packed K m))
  packed_answer = (pack_on K m old near).0 ∙ answer_fits (length old) 0 (length (packed K m)) few (omega arith) ∙ ap Ok (omega arith)

  pub packed_leaves : pack_leaves K m old ≡ put old 0 (packed K m)
  packed_leaves = (pack_on K m old near).1 ∙ leaves_fits old 0 (packed K m) few (omega arith)

  module _ (us : List ℕ) (n : ℕ) (left : us ≡ pack_leaves K m old) (is : n ≡ length (packed K m)) where
    pub front : take (n - 0) us ≡ packed K m
    front = ap (take (n - 0)) (left ∙ packed_leaves) ∙ take_at (packed K m) (drop (0 + length (packed K m)) old) (n - 0) (omega arith)

    module _ (takes : ℕ → Bool) (t : takes (length (packed K m)) ≡ true) where
      pub put_done : put_answer (takes (length (take (n - 0) us))) (length (take (n - 0) us)) ≡ Ok tt
      put_done =
          ap (λ (w : List ℕ). put_answer (takes (length w)) (length w)) front ∙
          cond-true _ _ _ (and_from _ _ (le-leb 1 (length (packed K m)) (omega arith)) (le-leb (length (packed K m)) 127 few)) ∙ cond-true _ _ _ t

      pub put_waits : (ws : List (List ℕ)) → put_leaves (takes (length (take (n - 0) us))) ws (take (n - 0) us) ≡ ws ++ (packed K m ∷ [])
      put_waits ws = ap (λ (w : List ℕ). put_leaves (takes (length w)) ws w) front ∙ cond-true _ _ _ t

-- one answer is no refusal
pub no_err : {X : Type 0} (r : Result X Refusal) (e : Refusal) (a : Result X ℕ) (x : X) → r ≡ Err e → numbered r ≡ a → a ≡ Ok x → ⊥
no_err r e a x is h k = let f = sym (ap numbered is) ∙ h ∙ k in let z : ◌≡◌ {A = ℕ} 0 1 = cc in omega arith
