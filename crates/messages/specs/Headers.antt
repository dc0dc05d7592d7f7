-- What the types of this crate say, as values. Assumes nothing.
--     header_told r      an answer that is a header, as a message without clock and record
--     message_of h c v   the message of a header, a clock and a record
--     open_told r        an answer that is an opened message, by the words of its parts
--     Sound o            the sender of an opened message is a station, and its span rises
use Rattle.std.specs.Prelude.{ℕ, ◌<◌, ◌≤◌, List, Ok, Err, Result}
use Rattle.words.specs.declared.fault.Fault.{Fault}
use Rattle.words.specs.Readings.{Told, told_fault}
use Rattle.wire.specs.Messages.{Message, full, delta}
use Rattle.messages.specs.declared.header.Header.{Header}
use Rattle.messages.specs.declared.header.Header.TheVariants as header
use Rattle.messages.specs.declared.opened.Opened.{Opened}
use Rattle.messages.specs.declared.opened.Opened.TheVariants as opened

abbrev pub header_parts : Header → Message (Unit {0}) (Unit {0})
header_parts (header.Full s) = full s tt tt
header_parts (header.Delta s p) = delta s p.from p.to tt

abbrev pub header_told : Result Header Fault → Result (Message (Unit {0}) (Unit {0})) Told
header_told (Ok h) = Ok (header_parts h)
header_told (Err f) = Err (told_fault f)

abbrev pub message_of : {C V : Type 0} → Header → C → V → Message C V
message_of (header.Full s) c v = full s c v
message_of (header.Delta s p) c v = delta s p.from p.to v

abbrev pub parts : Opened → Message (List ℕ) (List ℕ)
parts (opened.Full s c r) = full s c.now r.now
parts (opened.Delta s p r) = delta s p.from p.to r.now

abbrev pub open_told : Result Opened Fault → Result (Message (List ℕ) (List ℕ)) Told
open_told (Ok o) = Ok (parts o)
open_told (Err f) = Err (told_fault f)

abbrev pub Sound : Opened → Type 0
Sound (opened.Full s c r) = s < 16
Sound (opened.Delta s p r) = (s < 16) × (p.from < p.to) × (p.to ≤ 65535)
