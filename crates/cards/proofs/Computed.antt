-- The worked examples hold: antt computes them. Assumes nothing.
use Rattle.std.proofs.Common.{◌≡◌, ℕ, ◌+◌, ◌-◌, cond, ltb, List, [], ◌∷◌, length, drop, Ok, Err, refl, ap, ◌∙◌}
use Rattle.words.specs.declared.reader.Reader.{Reader}
use Rattle.words.specs.Readings.{wrong, load_answer, left}
use Rattle.entries.specs.Sixteen.{tabulated}
use Rattle.entries.specs.Rows.{same_row}
use Rattle.entries.specs.Entries.{row_reading}
use Rattle.layouts.proofs.Worked.{worked_pages}
use Rattle.registers.specs.Bits.{packed}
use Rattle.registers.specs.Members.{alone}
use Rattle.cards.specs.Examples.{WorkedExamples}

-- words at place 0
at_start : (ws : List ℕ) (r : Reader) → r.place ≡ 0 → r.words.now ≡ ws → left r ≡ ws
at_start ws r p e = ap (λ n. drop n r.words.now) p ∙ e

descending_at : (r : Reader) → r.place ≡ 0 → r.words.now ≡ 0x61000003 ∷ 0x60000004 ∷ [] → load_answer r (row_reading 6 16777215 (left r)) ≡ Err (record { number = 11; place = 1; layer = r.layer })
descending_at r p e =
    let ws = at_start (0x61000003 ∷ 0x60000004 ∷ []) r p e in
    let place : r.place + length (left r) - length {A = ℕ} (0x60000004 ∷ []) ≡ 1 = ap (λ n. n + length (left r) - 1) p ∙ ap (λ xs. 0 + length xs - 1) ws in
    let is : row_reading 6 16777215 (left r) ≡ wrong 11 (0x60000004 ∷ []) = ap (row_reading 6 16777215) ws in
    ap (load_answer r) is ∙ ap (λ n. Err (record { number = 11; place = n; layer = r.layer })) place

pub worked : WorkedExamples
unfolding tabulated packed
worked = record {
  first_delta = ap Ok (same_row _ _ refl);
  second_delta = ap Ok (same_row _ _ refl);
  total = refl;
  last_amount = ap Ok (same_row _ _ refl);
  past_limit = refl;
  no_amount = refl;
  large_amount = refl;
  no_station = λ n. refl;
  descending = descending_at;
  net = refl;
  last_member = λ r e. ap (λ n. cond (ltb 255 n) (Err 2) (Ok (alone n))) e;
  last_member_word = refl;
  past_members = λ r e. ap (λ n. cond (ltb 255 n) (Err 2) (Ok (alone n))) e;
  sideways = refl;
  behind = refl;
  first_message = refl;
  page_heads = worked_pages;
}
