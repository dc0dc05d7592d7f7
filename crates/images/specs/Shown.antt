-- How causes are printed. Assumes nothing.
--     cause_shown c   why a page is refused, in a few words
use Rattle.std.specs.Prelude.{ℕ, List, codes}
use Rattle.images.specs.declared.diagnosis.Cause.{Cause}
use Rattle.images.specs.declared.diagnosis.Cause.TheVariants as cause

abbrev pub cause_shown : Cause → List ℕ
cause_shown cause.Kind = codes "the head is of another kind"
cause_shown cause.ZeroBits = codes "the head has a bit that must be zero"
cause_shown cause.Length = codes "the length is not 1 to 127"
cause_shown cause.AfterEmpty = codes "the page is not empty, but comes after an empty one"
cause_shown cause.AfterWords = codes "a byte after the words is not zero"
cause_shown cause.EmptyPage = codes "the head is zero, but this byte is not"
