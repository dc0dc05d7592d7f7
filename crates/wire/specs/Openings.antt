-- What words open as, and what they say. Assumes nothing.
--     head_found ws               the head at the front of all the words of a message, or the number of its refusal
--     span_reading ws             the ends of a span at the front of words
--     opening ws                  a message without its record, and the words that are left for the record
--     fault_in layer ws n more    fault n in the words ws, found by a layer where the words more were left
--     unpacked K ws               the message that words say, none left over; or the fault
--     OneToOne K                  what is packed unpacks as itself, and what unpacks is packed
-- The forms that end in _by or By are over the words of a clock and of a record.
use Rattle.std.specs.Prelude.{◌≡◌, ℕ, suc, ◌-◌, ◌%◌, ◌^◌, Bool, cond, ◌&&◌, ◌||◌, List, [], ◌∷◌, length, drop, Ok, Err, Result, ◌==◌, nat_le, nat_lt}
use Rattle.words.specs.declared.fault.Layer.{Layer}
use Rattle.words.specs.declared.fault.Layer.TheVariants as layer
use Rattle.words.specs.Readings.{found, Reading, read, wrong, Told}
use Rattle.words.specs.Words.{kind, index, formed}
use Rattle.words.specs.Writes.{most}
use Rattle.crdt.specs.declared.kind.Crdt.{Ghosts}
use Rattle.entries.specs.Entries.{row_reading}
use Rattle.wire.specs.Messages.{Message, full, delta, Clock, packed, Sendable}

-- the length that a head gives, of so many words
abbrev pub length_right : ℕ → ℕ → Bool
length_right n all = n == all && (nat_le 2 n && nat_le n most)

abbrev pub head_found : List ℕ → Result ℕ ℕ
head_found [] = Err 12
head_found (w ∷ ws) =
    cond (kind w == 1 || kind w == 2)
    (cond (formed w)
    (cond (length_right (w % 2 ^ 8) (suc (length ws))) (Ok w) (Err 13))
    (Err 11))
    (Err 10)

-- a to word at the front of words, after a from word of count f; it is wrong in form where it is not above that
abbrev pub to_read : ℕ → List ℕ → Result ℕ ℕ → Reading (ℕ × ℕ)
to_read f ws (Ok t) = cond (nat_lt f (t % 2 ^ 16)) (read (f, t % 2 ^ 16) (drop 1 ws)) (wrong 11 ws)
to_read f ws (Err n) = wrong n ws

abbrev pub from_read : List ℕ → Result ℕ ℕ → Reading (ℕ × ℕ)
from_read ws (Ok f) = to_read (f % 2 ^ 16) (drop 1 ws) (found 4 (drop 1 ws))
from_read ws (Err n) = wrong n ws

abbrev pub span_reading : List ℕ → Reading (ℕ × ℕ)
span_reading ws = from_read ws (found 3 ws)

-- a reading, and what is made of its value
abbrev pub mapped : {X Y : Type 0} → (X → Y) → Reading X → Reading Y
mapped f (read x ws) = read (f x) ws
mapped f (wrong n ws) = wrong n ws

-- a message from a sender, its record not read yet: by its clock, or by the ends of its span
abbrev pub full_from : {C : Type 0} → ℕ → C → Message C (Unit {0})
full_from s c = full s c tt

abbrev pub delta_from : {C : Type 0} → ℕ → ℕ × ℕ → Message C (Unit {0})
delta_from s p = delta s p.0 p.1 tt

-- what follows the head w
abbrev pub after_head : {C : Type 0} → (List ℕ → Reading C) → ℕ → List ℕ → Reading (Message C (Unit {0}))
after_head rc w ws = cond (kind w == 1) (mapped (full_from (index w)) (rc ws)) (mapped (delta_from (index w)) (span_reading ws))

abbrev pub head_read : {C : Type 0} → (List ℕ → Reading C) → List ℕ → Result ℕ ℕ → Reading (Message C (Unit {0}))
head_read rc ws (Ok w) = after_head rc w (drop 1 ws)
head_read rc ws (Err n) = wrong n ws

abbrev pub opening_by : {C : Type 0} → (List ℕ → Reading C) → List ℕ → Reading (Message C (Unit {0}))
opening_by rc ws = head_read rc ws (head_found ws)

abbrev pub fault_in : Layer → List ℕ → ℕ → List ℕ → Told
fault_in by ws n more = record { number = n; place = cond (n == 12) 0 (length ws - length more); layer = by }

abbrev pub left_over : Told
left_over = record { number = 13; place = 0; layer = layer.Message }

abbrev pub with_record : {C V : Type 0} → Message C (Unit {0}) → V → Message C V
with_record (full s c u) v = full s c v
with_record (delta s f t u) v = delta s f t v

-- an opened message, and what its record's words are read as
abbrev pub completed : {C V : Type 0} → List ℕ → Message C (Unit {0}) → Reading V → Result (Message C V) Told
completed ws m (read v []) = Ok (with_record m v)
completed ws m (read v (w ∷ more)) = Err left_over
completed ws m (wrong n more) = Err (fault_in layer.Record ws n more)

abbrev pub loaded_by : {C V : Type 0} → (List ℕ → Reading V) → List ℕ → Reading (Message C (Unit {0})) → Result (Message C V) Told
loaded_by rv ws (read m more) = completed ws m (rv more)
loaded_by rv ws (wrong n more) = Err (fault_in layer.Message ws n more)

abbrev pub unpacked_by : {C V : Type 0} → (List ℕ → Reading C) → (List ℕ → Reading V) → List ℕ → Result (Message C V) Told
unpacked_by rc rv ws = loaded_by rv ws (opening_by rc ws)

abbrev pub clock_reading : List ℕ → Reading Clock
clock_reading ws = row_reading 5 65535 ws

abbrev pub opening : List ℕ → Reading (Message Clock (Unit {0}))
opening ws = opening_by clock_reading ws

abbrev pub unpacked : {S R : Type 0} (K : Ghosts S R) → List ℕ → Result (Message Clock K.Value) Told
unpacked K ws = unpacked_by clock_reading K.reading ws

-- a message without its record, and its record
abbrev pub without_record : {C V : Type 0} → Message C V → Message C (Unit {0})
without_record (full s c v) = full s c tt
without_record (delta s f t v) = delta s f t tt

abbrev pub record_of : {C V : Type 0} → Message C V → V
record_of (full s c v) = v
record_of (delta s f t v) = v

pub record OneToOne {S R : Type 0} (K : Ghosts S R) : Type 0 where
  pub opens : (m : Message Clock K.Value) → Sendable K m → opening (packed K m) ≡ read (without_record m) (K.written (record_of m))
  pub back : (m : Message Clock K.Value) → Sendable K m → unpacked K (packed K m) ≡ Ok m
  pub only : (ws : List ℕ) (m : Message Clock K.Value) → unpacked K ws ≡ Ok m → (ws ≡ packed K m) × Sendable K m
