-- What the steps of opening a message answer. Assumes nothing.
--     word_told r          an answer that is a word, with the number in the place of the refusal
--     reading_answer r x   what a reader that read x answers
--     bare m               a message without its clock and its record
--     header_answer r x    what a reader that opened a message as x answers
--     clock_opened x       the clock of an opened message, empty where it has none
--     in_words m more      an opened message, by the words of its clock and of its record
--     open_answer ws x     what opening the words ws as x answers
--     joined_words m       the words of a message, from the words of its clock and of its record
--     unpack_answer x      what unpacking a message as x answers
--     clock_unpacked x     the clock of an unpacked message, empty where it has none
--     record_unpacked d x  the record of an unpacked message, or d
use Rattle.std.specs.Prelude.{ℕ, List, Ok, Err, Result}
use Rattle.words.specs.declared.fault.Layer.TheVariants as layer
use Rattle.words.specs.declared.reader.Reader.{Reader}
use Rattle.words.specs.declared.refusal.Refusal.{Refusal}
use Rattle.words.specs.declared.word.Word.{Word}
use Rattle.words.specs.Readings.{Reading, read, wrong, Told, before, fault_at}
use Rattle.words.specs.Refusals.{number_of}
use Rattle.entries.specs.Rows.{empty}
use Rattle.wire.specs.Messages.{Message, full, delta, Clock, clock_written, packed_by}
use Rattle.wire.specs.Openings.{fault_in, record_of}

abbrev pub word_told : Result Word Refusal → Result ℕ ℕ
word_told (Ok w) = Ok w.0
word_told (Err e) = Err (number_of e)

abbrev pub reading_answer : {X : Type 0} → Reader → Reading X → Result X Told
reading_answer r (read x ws) = Ok x
reading_answer r (wrong n ws) = Err (fault_at (before r ws) n)

abbrev pub bare : {C V : Type 0} → Message C V → Message (Unit {0}) (Unit {0})
bare (full s c v) = full s tt tt
bare (delta s f t v) = delta s f t tt

abbrev pub header_answer : {C V : Type 0} → Reader → Reading (Message C V) → Result (Message (Unit {0}) (Unit {0})) Told
header_answer r (read m ws) = Ok (bare m)
header_answer r (wrong n ws) = Err (fault_at (before r ws) n)

abbrev pub clock_in : {V : Type 0} → Message Clock V → Clock
clock_in (full s c v) = c
clock_in (delta s f t v) = empty 65535

abbrev pub clock_opened : {V : Type 0} → Reading (Message Clock V) → Clock
clock_opened (read m ws) = clock_in m
clock_opened (wrong n ws) = empty 65535

abbrev pub in_words : Message Clock (Unit {0}) → List ℕ → Message (List ℕ) (List ℕ)
in_words (full s c u) more = full s (clock_written c) more
in_words (delta s f t u) more = delta s f t more

abbrev pub open_answer : List ℕ → Reading (Message Clock (Unit {0})) → Result (Message (List ℕ) (List ℕ)) Told
open_answer ws (read m more) = Ok (in_words m more)
open_answer ws (wrong n more) = Err (fault_in layer.Message ws n more)

abbrev pub joined_words : Message (List ℕ) (List ℕ) → List ℕ
joined_words m = packed_by (λ ws. ws) (λ ws. ws) m

abbrev pub unpack_answer : {C V : Type 0} → Result (Message C V) Told → Result (Message (Unit {0}) (Unit {0})) Told
unpack_answer (Ok m) = Ok (bare m)
unpack_answer (Err f) = Err f

abbrev pub clock_unpacked : {V : Type 0} → Result (Message Clock V) Told → Clock
clock_unpacked (Ok m) = clock_in m
clock_unpacked (Err f) = empty 65535

abbrev pub record_unpacked : {C V : Type 0} → V → Result (Message C V) Told → V
record_unpacked d (Ok m) = record_of m
record_unpacked d (Err f) = d
