-- Worked examples, in the definitions that the contracts of the record kinds cite. Assumes nothing.
--     WorkedExamples     all of them
use Rattle.std.specs.Prelude.{◌≡◌, ℕ, [], ◌∷◌, negsuc, Some, None, Ok, Err, sum}
use Rattle.std.specs.declared.cmp.Ordering.TheVariants.{Less}
use Rattle.words.specs.declared.reader.Reader.{Reader}
use Rattle.words.specs.Readings.{load_answer, left}
use Rattle.entries.specs.Rows.{empty}
use Rattle.entries.specs.Entries.{row_written, row_reading}
use Rattle.counters.specs.Counts.{clock_of, larger, only, count_reported}
use Rattle.counters.specs.Orders.{compared}
use Rattle.registers.specs.declared.gset.Member.{Member}
use Rattle.registers.specs.Members.{none, alone, set_reported}
use Rattle.registers.specs.Values.{level_of}
use Rattle.layouts.specs.Worked.{WorkedPages}
use Rattle.wire.specs.Messages.{delta, Clock, clock_written, packed_by}
use Rattle.cards.specs.Cards.{Counter, net_of, card_written}

-- no counts, and 5 and 7 of station 0 joined in
abbrev pub five : Counter
five = larger (empty 16777215) (only 0 5)

abbrev pub five_and_two : Counter
five_and_two = larger five (only 0 7)

pub record WorkedExamples : Type 0 where
  -- amounts 5 and 2 at station 0 give deltas with 5 and 7 there, total 7
  pub first_delta : count_reported (empty 16777215) 0 5 ≡ Ok (only 0 5)
  pub second_delta : count_reported five 0 2 ≡ Ok (only 0 7)
  pub total : sum five_and_two.numbers ≡ 7
  -- a count of 16,777,214 takes 1; then 1 more is refusal 3
  pub last_amount : count_reported {top = 16777215} (only 0 16777214) 0 1 ≡ Ok (only 0 16777215)
  pub past_limit : count_reported {top = 16777215} (only 0 16777215) 0 1 ≡ Err 3
  -- an amount of 0 and one of 65,536 are refusal 2; station 16 is refusal 1, whatever the amount
  pub no_amount : count_reported five 0 0 ≡ Err 2
  pub large_amount : count_reported five 0 65536 ≡ Err 2
  pub no_station : (n : ℕ) → count_reported five 16 n ≡ Err 1
  -- counter words 0x61000003, 0x60000004 are refusal 11 at word 1
  pub descending : (r : Reader) → r.place ≡ 0 → r.words.now ≡ 0x61000003 ∷ 0x60000004 ∷ [] → load_answer r (row_reading 6 16777215 (left r)) ≡ Err (record { number = 11; place = 1; layer = r.layer })
  -- taken 3, returned 5: net -2
  pub net : net_of ((empty 16777215, (only 0 3, only 0 5)), (none, level_of 0)) ≡ negsuc 1
  -- member 255 is written 0x7F008000; 256 is refusal 2
  pub last_member : (r : Member) → r.0 ≡ 255 → set_reported none 0 r ≡ Ok (alone 255)
  pub last_member_word : row_written 7 (alone 255) ≡ 0x7F008000 ∷ 0x90000001 ∷ []
  pub past_members : (r : Member) → r.0 ≡ 256 → set_reported none 0 r ≡ Err 2
  -- clock {0:2, 1:1} is sideways to {0:1, 1:2}, and {0:1} is behind the latter
  pub sideways : compared (clock_of (2 ∷ 1 ∷ [])) (clock_of (1 ∷ 2 ∷ [])) ≡ None
  pub behind : compared (clock_of (1 ∷ [])) (clock_of (1 ∷ 2 ∷ [])) ≡ Some Less
  -- with erased 5 and 2 at station 0, its first delta message
  pub first_message : packed_by {C = Clock} clock_written card_written (delta 0 0 2 ((five_and_two, (empty 16777215, empty 16777215)), (none, level_of 0))) ≡ 0x20000009 ∷ 0x30000000 ∷ 0x40000002 ∷ 0x60000007 ∷ 0x90000001 ∷ 0x90000000 ∷ 0x90000000 ∷ 0x90000000 ∷ 0x80000000 ∷ []
  -- the page head of 9 words is the bytes 09 00 00 F0; F0 00 00 09 reads as kind 0 and is refused as 10
  pub page_heads : WorkedPages
