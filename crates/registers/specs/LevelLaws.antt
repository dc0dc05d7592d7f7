-- The laws of levels under the higher, and of their words: what is written of a level is read as it, and what is read as it is what is
-- written of it. Assumes nothing.
use Rattle.std.specs.Prelude.{◌≡◌, ℕ, ◌/◌, ◌%◌, ◌^◌, Bool, true, false, List, [], ◌∷◌, ◌++◌, ◌==◌, nat_eq, refl}
use Rattle.std.proofs.Common.{ap, sym, ◌∙◌, arith, ltb→lt}
use Rattle.std.proofs.lemmas.Bool.{eq-eqb, eqb-true, cond-true, cond-false}
use Rattle.words.specs.Readings.{Reading, read, wrong}
use Rattle.words.specs.Words.{kind, zero_run, formed, word_of}
use Rattle.registers.specs.Values.{Level, same_level, level_of, higher, level_written, level_reading}

pub higher_assoc : (a b c : Level) → higher (higher a b) c ≡ higher a (higher b c)
higher_assoc a b c = same_level _ _ (omega arith)

pub higher_comm : (a b : Level) → higher a b ≡ higher b a
higher_comm a b = same_level _ _ (omega arith)

pub higher_idem : (a : Level) → higher a a ≡ a
higher_idem a = same_level _ _ (omega arith)

pub higher_neutral : (a : Level) → higher a (level_of 0) ≡ a
higher_neutral a = same_level _ _ (omega arith)

-- a register's word has no bit that must be zero
always_formed : (w : ℕ) → kind w ≡ 8 → formed w ≡ true
always_formed w is =
    let none : w / 2 ^ 0 % 2 ^ 0 ≡ 0 = omega arith in
    ap (λ k. nat_eq (w / 2 ^ (zero_run k).0 % 2 ^ (zero_run k).1) 0) is ∙ eq-eqb (w / 2 ^ 0 % 2 ^ 0) 0 none

read_one : (w : ℕ) (ws : List ℕ) → kind w ≡ 8 → level_reading (w ∷ ws) ≡ read (level_of w) ws
read_one w ws is = cond-true _ _ _ (eq-eqb (kind w) 8 is) ∙ cond-true _ _ _ (always_formed w is)

pub level_reads : (v : Level) (ws : List ℕ) → level_reading (level_written v ++ ws) ≡ read v ws
level_reads v ws =
    let h = ltb→lt v.level (2 ^ 28) v.low in
    let w = word_of 8 v.level in
    let is : kind w ≡ 8 = omega arith in
    let same : level_of w ≡ v = same_level _ _ (omega arith) in
    read_one w ws is ∙ ap (λ x. read x ws) same

-- what is read from words is their first word again
by_kind : (w : ℕ) (ws : List ℕ) (v : Level) (more : List ℕ) (b : Bool) → (kind w == 8) ≡ b → level_reading (w ∷ ws) ≡ read v more → w ∷ ws ≡ level_written v ++ more
by_kind w ws v more true e h =
    let is = eqb-true (kind w) 8 e in
    let p : read (level_of w) ws ≡ read v more = sym (read_one w ws is) ∙ h in
    let q : level_of w ≡ v = cc in
    let s : ws ≡ more = cc in
    let n : w % 2 ^ 28 ≡ v.level = ap (λ (x : Level). x.level) q in
    let word : w ≡ word_of 8 v.level = omega arith in
    ap (λ x. x ∷ ws) word ∙ ap (λ xs. word_of 8 v.level ∷ xs) s
by_kind w ws v more false e h =
    let p : ◌≡◌ {A = Reading Level} (wrong 10 (w ∷ ws)) (read v more) = sym (cond-false _ _ _ e) ∙ h in
    let z : ◌≡◌ {A = ℕ} 0 1 = cc in
    absurd (omega arith)

pub level_exact : (ws : List ℕ) (v : Level) (more : List ℕ) → level_reading ws ≡ read v more → ws ≡ level_written v ++ more
level_exact [] v more h =
    let z : ◌≡◌ {A = ℕ} 0 1 = cc in
    absurd (omega arith)
level_exact (w ∷ ws) v more h = by_kind w ws v more (kind w == 8) refl h
