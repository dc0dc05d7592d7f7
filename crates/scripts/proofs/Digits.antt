-- One digit after another.
use Rattle.std.proofs.Common.{◌≡◌, ℕ, ◌+◌, ◌*◌, ◌<◌, ◌≤◌, true, ltb, List, length, get_or, drop, Some, sym, ◌∙◌, arith}
use Rattle.std.proofs.lemmas.List.{at_drop_more}
use Rattle.std.proofs.lemmas.Bool.{lt-ltb, le-leb}
use Rattle.scripts.specs.Numbers.{digit_in, and_then, digits_on, number_of}

module _ (base n : ℕ) (t : List ℕ) (i : ℕ) (h : i < length t) where
  stepped : digits_on base n (drop i t) ≡ and_then (digit_in base (get_or t i 0)) (λ d. digits_on base (n * base + d) (drop (i + 1) t))
  stepped = at_drop_more (digits_on base n) t i 0 h

  pub digit_more : (v : ℕ) → Some v ≡ digit_in base (get_or t i 0) → digits_on base n (drop i t) ≡ digits_on base (n * base + v) (drop (i + 1) t)
  digit_more v e = stepped ∙ rw (sym e)

module _ (base longest top : ℕ) (t : List ℕ) where
  pub number_some : (n : ℕ) → digits_on base 0 t ≡ Some n → n ≤ top → 1 ≤ length t → length t ≤ longest → Some n ≡ number_of base longest top t
  number_some n e low some short =
      let under : ltb n (top + 1) ≡ true = lt-ltb n (top + 1) (omega arith) in
      rw (le-leb 1 (length t) some, le-leb (length t) longest short, e, under)
