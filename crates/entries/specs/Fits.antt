-- What the words of an entry need of their kind and of the largest number: the one place where these are looked at. Lemmas, for the kinds of src/kind.rt. Assumes nothing.
use Rattle.std.proofs.Common.{◌≡◌, ℕ, ◌+◌, ◌/◌, ◌%◌, ◌^◌, ◌<◌, ◌≤◌, true, ap, ◌∙◌, arith, lit<}
use Rattle.std.proofs.lemmas.Nat.{shr-shr}
use Rattle.words.specs.Words.{kind, index, formed}
use Rattle.words.proofs.Forms.{well_formed, zero_bits}
use Rattle.entries.specs.Entries.{entry_word, end_word}

pub record Fits (k top : ℕ) : Type 0 where
  pub no_end : k ≡ 9 → ⊥
  pub small : top < 2 ^ 24
  pub is_number : (s n : ℕ) → s < 16 → n ≤ top → entry_word k s n % (top + 1) ≡ n
  pub is_formed : (s n : ℕ) → s < 16 → n ≤ top → formed (entry_word k s n) ≡ true
  pub splits : (w : ℕ) → kind w ≡ k → formed w ≡ true → w ≡ entry_word k (index w) (w % (top + 1))

pub kind_entry : (k s n : ℕ) → kind (entry_word k s n) ≡ k
kind_entry k s n = omega arith

pub index_entry : (k s n : ℕ) → s < 16 → n < 2 ^ 24 → index (entry_word k s n) ≡ s
index_entry k s n h l = omega arith

-- the end word of fewer than 32 entries
pub kind_end : (n : ℕ) → kind (end_word n) ≡ 9
kind_end n = omega arith

pub formed_end : (n : ℕ) → n < 32 → formed (end_word n) ≡ true
formed_end n h = well_formed (end_word n) 9 (kind_end n) (let z : end_word n / 2 ^ 5 % 2 ^ 23 ≡ 0 = omega arith in z)

pub number_end : (n : ℕ) → n < 32 → end_word n % 32 ≡ n
number_end n h = omega arith

pub splits_end : (w : ℕ) → kind w ≡ 9 → formed w ≡ true → w ≡ end_word (w % 32)
splits_end w e f = let z : w / 2 ^ 5 % 2 ^ 23 ≡ 0 = zero_bits w 9 e f in omega arith

-- a word by its fields, where the last has 16 or 24 bits
split_long : (k w : ℕ) → kind w ≡ k → w ≡ entry_word k (index w) (w % 2 ^ 24)
split_long k w e = let a : w / 2 ^ 24 / 2 ^ 4 ≡ w / 2 ^ 28 = shr-shr w 24 4 in omega arith

split_short : (k w : ℕ) → kind w ≡ k → w / 2 ^ 16 % 2 ^ 8 ≡ 0 → w ≡ entry_word k (index w) (w % 2 ^ 16)
split_short k w e z =
    let a : w / 2 ^ 16 / 2 ^ 8 ≡ w / 2 ^ 24 = shr-shr w 16 8 in
    let b : w % 2 ^ 24 ≡ w % 2 ^ 16 = omega arith in
    split_long k w e ∙ ap (entry_word k (index w)) b

pub clock_fits : Fits 5 65535
clock_fits = record {
  no_end = λ e. omega arith;
  small = lit< tt;
  is_number = λ s n h l. omega arith;
  is_formed = λ s n h l. well_formed (entry_word 5 s n) 5 (kind_entry 5 s n) (let z : entry_word 5 s n / 2 ^ 16 % 2 ^ 8 ≡ 0 = omega arith in z);
  splits = λ w e f. split_short 5 w e (zero_bits w 5 e f);
}

pub counter_fits : Fits 6 16777215
counter_fits = record {
  no_end = λ e. omega arith;
  small = lit< tt;
  is_number = λ s n h l. omega arith;
  is_formed = λ s n h l. well_formed (entry_word 6 s n) 6 (kind_entry 6 s n) (let z : entry_word 6 s n / 2 ^ 0 % 2 ^ 0 ≡ 0 = omega arith in z);
  splits = λ w e f. split_long 6 w e;
}

pub set_fits : Fits 7 65535
set_fits = record {
  no_end = λ e. omega arith;
  small = lit< tt;
  is_number = λ s n h l. omega arith;
  is_formed = λ s n h l. well_formed (entry_word 7 s n) 7 (kind_entry 7 s n) (let z : entry_word 7 s n / 2 ^ 16 % 2 ^ 8 ≡ 0 = omega arith in z);
  splits = λ w e f. split_short 7 w e (zero_bits w 7 e f);
}
