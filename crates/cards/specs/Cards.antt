-- The values of a card record and of a loan record, and what is read off them. Assumes nothing.
--     Card, card_of c         the values of card records, and the one that a stored record stands for
--     erased_total v          blocks erased
--     net_of v                spare blocks taken less those returned
--     retired_count v         block groups retired; is_retired v g, whether group g is
--     firmware_of v           the highest firmware revision seen
--     card_written v          its words
--     Loan, loan_of l         the values of loan records, and the one that a stored record stands for
--     loans_total v           loans made; is_marked v m, whether card m is marked; marked_count v, how many are
use Rattle.std.specs.Prelude.{ℕ, Bool, List, ℤ, pos, ◌-ℤ◌, sum}
use Rattle.crdt.specs.declared.pair.Pair.{Pair}
use Rattle.crdt.specs.Pairs.{side_written}
use Rattle.counters.specs.declared.counts.Counts.{Counts}
use Rattle.counters.specs.Counts.{counter_of}
use Rattle.entries.specs.Entries.{row_written}
use Rattle.entries.specs.Rows.{Row}
use Rattle.entries.specs.declared.kind.Counter.{Counter as CounterKind}
use Rattle.registers.specs.declared.gset.GSet.{GSet}
use Rattle.registers.specs.declared.max_register.MaxRegister.{MaxRegister}
use Rattle.registers.specs.Members.{Members, members_of, has, count}
use Rattle.registers.specs.Values.{Level, level_of, level_written}

abbrev pub Counter : Type 0
Counter = Row 16777215

-- a stored counter
abbrev pub GCounter : Type 0
GCounter = Counts CounterKind

abbrev pub Card : Type 0
Card = (Counter × (Counter × Counter)) × (Members × Level)

abbrev pub card_of : Pair (Pair GCounter (Pair GCounter GCounter)) (Pair GSet MaxRegister) → Card
card_of c = ((counter_of c.left.left.counts, (counter_of c.left.right.left.counts, counter_of c.left.right.right.counts)), (members_of c.right.left.bits, level_of c.right.right.stored))

abbrev pub erased_total : Card → ℕ
erased_total v = sum v.0.0.numbers

abbrev pub net_of : Card → ℤ
net_of v = pos (sum v.0.1.0.numbers) -ℤ pos (sum v.0.1.1.numbers)

abbrev pub retired_count : Card → ℕ
retired_count v = count v.1.0

abbrev pub is_retired : Card → ℕ → Bool
is_retired v g = has v.1.0 g

abbrev pub firmware_of : Card → ℕ
firmware_of v = v.1.1.level

abbrev pub card_written : Card → List ℕ
card_written = side_written (side_written (row_written 6) (side_written (row_written 6) (row_written 6))) (side_written (row_written 7) level_written)

abbrev pub Loan : Type 0
Loan = Counter × Members

abbrev pub loan_of : Pair GCounter GSet → Loan
loan_of l = (counter_of l.left.counts, members_of l.right.bits)

abbrev pub loans_total : Loan → ℕ
loans_total v = sum v.0.numbers

abbrev pub is_marked : Loan → ℕ → Bool
is_marked v m = has v.1 m

abbrev pub marked_count : Loan → ℕ
marked_count v = count v.1
