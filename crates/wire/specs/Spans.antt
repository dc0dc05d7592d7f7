-- Spans that are read. Assumes nothing.
--     span_told r     an answer that is a span, by its ends
use Rattle.std.specs.Prelude.{ℕ, Ok, Err, Result}
use Rattle.words.specs.declared.fault.Fault.{Fault}
use Rattle.words.specs.Readings.{Told, told_fault}
use Rattle.wire.specs.declared.span.Span.{Span}

abbrev pub span_told : Result Span Fault → Result (ℕ × ℕ) Told
span_told (Ok s) = Ok (s.from, s.to)
span_told (Err f) = Err (told_fault f)
