-- Why a replay begins, or not. Assumes nothing.
use Rattle.std.proofs.Common.{◌≡◌, ℕ, ◌≤◌, Bool, true, false, cond, eqb, ltb, List, [], ◌∷◌, length, Ok, Err, Result, is_ok, OnOk, sym, refl, ap, ◌∙◌, arith}
use Rattle.std.proofs.lemmas.Bool.{ltb-false, cond-false, le-ltb}
use Rattle.words.specs.declared.refusal.Refusal.{Refusal}
use Rattle.words.specs.Refusals.{numbered}
use Rattle.mailboxes.specs.Mailboxes.{counted}
use Rattle.stations.specs.Tables.{init_answer}
use Rattle.replication.specs.Runs.{replay_answer, table_ready}

-- a mailbox that counts none has none waiting
pub none_wait : (ws : List (List ℕ)) (n : ℕ) → n ≡ counted ws → n ≡ 0 → ws ≡ []
none_wait [] n is e = refl
none_wait (w ∷ ws) n is e = absurd (omega arith)

module _ (calls answers places : ℕ) (ws : List (List ℕ)) where
  pub by_table : calls ≤ answers → ws ≡ [] → replay_answer calls answers (length ws) places ≡ table_ready (init_answer places)
  by_table h none =
      let low : length ws ≤ 0 = omega (arith, ap length none) in
      cond-false _ _ _ (le-ltb answers calls h) ∙ cond-false _ _ _ (le-ltb 0 (length ws) low)

-- a table that init makes fresh has at most 16 places
few_by : (n : ℕ) (a b : Bool) → ltb 16 n ≡ b → (u : Unit {0}) → ◌≡◌ {A = Result (Unit {0}) ℕ} (Ok u) (cond a (Err 1) (cond b (Err 1) (Ok tt))) → n ≤ 16
few_by n true b is u e = let z : ◌≡◌ {A = ℕ} 0 1 = cc in absurd (omega arith)
few_by n false true is u e = let z : ◌≡◌ {A = ℕ} 0 1 = cc in absurd (omega arith)
few_by n false false is u e = ltb-false 16 n is

pub few : (n : ℕ) (u : Unit {0}) → Ok u ≡ init_answer n → n ≤ 16
few n u e = few_by n (eqb n 0) (ltb 16 n) refl u e

-- what init answered, where it is done
pub was_made : (r : Result (Unit {0}) Refusal) (x : Result (Unit {0}) ℕ) → is_ok r ≡ true → numbered r ≡ x → x ≡ Ok tt
was_made (Ok u) x h e = sym e
was_made (Err f) x h e = let z : ◌≡◌ {A = ℕ} 0 1 = cc in absurd (omega arith)

pub on_ok : {T E : Type 0} (r : Result T E) (P : Type 0) → is_ok r ≡ true → OnOk r P → P
on_ok (Ok t) P h p = p
on_ok (Err e) P h p = let z : ◌≡◌ {A = ℕ} 0 1 = cc in absurd (omega arith)
