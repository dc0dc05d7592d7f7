-- What is wrong with a page that its check refuses. Assumes nothing.
--     zeros bs               how many zero bytes come first
--     past_zeros n bs        the place after the zero bytes that begin at byte n
--     right_head w           a word is the page head of a message
--     foreign_head page      the first four bytes of a page are one, when they are read in the other order
--     cause_of after w       why a page with the head w is refused, where after is whether the page before it is empty
--     wrong_byte cause page  which byte of the page is wrong
use Rattle.std.specs.Prelude.{ℕ, ◌+◌, ◌*◌, ◌%◌, ◌^◌, Bool, cond, ◌&&◌, List, take, drop, ◌==◌, slice_index}
use Rattle.std.specs.List.{prefix_len}
use Rattle.words.specs.Words.{kind, formed}
use Rattle.mailboxes.specs.Mailboxes.{sized}
use Rattle.layouts.specs.Pages.{page_length}
use Rattle.images.specs.declared.diagnosis.Cause.{Cause}
use Rattle.images.specs.declared.diagnosis.Cause.TheVariants.{Kind, ZeroBits, Length, AfterEmpty, AfterWords, EmptyPage}

abbrev pub zeros : List ℕ → ℕ
zeros = prefix_len (λ b. b == 0)

abbrev pub past_zeros : ℕ → List ℕ → ℕ
past_zeros n bs = n + zeros (drop n bs)

abbrev pub right_head : ℕ → Bool
right_head w = kind w == 15 && (formed w && sized (w % 256))

abbrev pub foreign_head : List ℕ → Bool
foreign_head page = right_head (slice_index page 3 + slice_index page 2 * 2 ^ 8 + slice_index page 1 * 2 ^ 16 + slice_index page 0 * 2 ^ 24)

abbrev pub cause_of : Bool → ℕ → Cause
cause_of after w =
    cond (w == 0) EmptyPage
    (cond (kind w == 15) (cond (formed w) (cond (sized (w % 256)) (cond after AfterEmpty AfterWords) Length) ZeroBits) Kind)

-- the bits that must be zero are in bytes 1, 2 and 3 of the head
abbrev pub wrong_byte : Cause → List ℕ → ℕ
wrong_byte Kind page = 3
wrong_byte ZeroBits page = past_zeros 1 (take 3 page)
wrong_byte Length page = 0
wrong_byte AfterEmpty page = 0
wrong_byte AfterWords page = past_zeros (4 + 4 * page_length page) page
wrong_byte EmptyPage page = past_zeros 0 page
