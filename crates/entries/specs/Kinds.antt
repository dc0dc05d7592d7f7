-- The rows that there are, where the kind is chosen when the program runs. Assumes nothing.
--     top_of e           the largest number of an entry
--     word_kind e        the kind of an entry's word
--     entry_number e     its number
use Rattle.std.specs.Prelude.{ℕ}
use Rattle.words.specs.declared.word.WordKind.{WordKind}
use Rattle.words.specs.declared.word.WordKind.TheVariants.{ClockEntry, CounterEntry, SetEntry}
use Rattle.words.specs.Words.{kind_number}
use Rattle.entries.specs.declared.chosen.RowKind.{RowKind}
use Rattle.entries.specs.declared.chosen.RowKind.TheVariants.{Clock, Counter, Set}

abbrev pub top_of : RowKind → ℕ
top_of Clock = 65535
top_of Counter = 16777215
top_of Set = 65535

abbrev pub word_kind : RowKind → WordKind
word_kind Clock = ClockEntry
word_kind Counter = CounterEntry
word_kind Set = SetEntry

abbrev pub entry_number : RowKind → ℕ
entry_number e = kind_number (word_kind e)
