-- The form of a word whose kind is known. Assumes nothing.
use Rattle.std.proofs.Common.{◌≡◌, ℕ, ◌/◌, ◌%◌, ◌^◌, true, eqb, sym, ap, ◌∙◌}
use Rattle.std.proofs.lemmas.Bool.{eq-eqb, eqb-true}
use Rattle.words.specs.Words.{kind, zero_run, formed}

-- the form of a word, by its kind
formed_at : (w k : ℕ) → kind w ≡ k → formed w ≡ eqb (w / 2 ^ (zero_run k).0 % 2 ^ (zero_run k).1) 0
formed_at w k e = ap (λ j. eqb (w / 2 ^ (zero_run j).0 % 2 ^ (zero_run j).1) 0) e

pub well_formed : (w k : ℕ) → kind w ≡ k → w / 2 ^ (zero_run k).0 % 2 ^ (zero_run k).1 ≡ 0 → formed w ≡ true
well_formed w k e z = formed_at w k e ∙ eq-eqb (w / 2 ^ (zero_run k).0 % 2 ^ (zero_run k).1) 0 z

pub zero_bits : (w k : ℕ) → kind w ≡ k → formed w ≡ true → w / 2 ^ (zero_run k).0 % 2 ^ (zero_run k).1 ≡ 0
zero_bits w k e f = eqb-true (w / 2 ^ (zero_run k).0 % 2 ^ (zero_run k).1) 0 (sym (formed_at w k e) ∙ f)
