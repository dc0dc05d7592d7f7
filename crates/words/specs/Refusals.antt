-- The number of each refusal. Assumes nothing.
--     number_of e      the number of a refusal
--     numbered r       an answer, with the number in the place of the refusal
--     bare r           an answer, with its value left out
--     value_or d r     the value of an answer, or d where it is refused
use Rattle.std.specs.Prelude.{ℕ, Ok, Err, Result}
use Rattle.words.specs.declared.refusal.Refusal.{Refusal}
use Rattle.words.specs.declared.refusal.Refusal.TheVariants.{Station, Range, Limit, Spent, Nothing, Room, Long, Full, Absent, Kind, Form, Ended, Length, Gap, Ahead, Memory}

abbrev pub number_of : Refusal → ℕ
number_of Station = 1
number_of Range = 2
number_of Limit = 3
number_of Spent = 4
number_of Nothing = 5
number_of Room = 6
number_of Long = 7
number_of Full = 8
number_of Absent = 9
number_of Kind = 10
number_of Form = 11
number_of Ended = 12
number_of Length = 13
number_of Gap = 14
number_of Ahead = 15
number_of Memory = 16

abbrev pub numbered : {X : Type 0} → Result X Refusal → Result X ℕ
numbered (Ok x) = Ok x
numbered (Err e) = Err (number_of e)

abbrev pub bare : {X E : Type 0} → Result X E → Result (Unit {0}) E
bare (Ok x) = Ok tt
bare (Err e) = Err e

abbrev pub value_or : {X E : Type 0} → X → Result X E → X
value_or d (Ok x) = x
value_or d (Err e) = d
