-- What a diagnosis says of the bytes of an image. Assumes nothing.
--     Accepted bs             bytes that are whole pages are accepted by their check
--     Within bs at n          byte n lies in the page that begins at byte `at`, and that page in the image
--     FirstSet bs from n      byte n is the first from byte `from` on that is not zero
--     Says cause bs at n      what a cause says of byte n, where the wrong page begins at byte `at`
--     ForeignAt bs at         the page head of a message stands at byte `at`, written in the other byte order
--     Foreign bs at n b       where b holds, it does, and the image is refused with n = 10; where it does, b holds
--     foreign_image           the diagnosis of an image that a station of the other byte order wrote
--     TurnedFound bs r        where bytes are an accepted image with a message, turned round, r is that diagnosis
use Rattle.std.specs.Prelude.{◌≡◌, ℕ, ◌+◌, ◌*◌, ◌/◌, ◌%◌, ◌<◌, ◌≤◌, Bool, true, List, length, take, drop, Some, Ok, Option, ◌≢◌, slice_index}
use Rattle.words.specs.Writes.{most}
use Rattle.layouts.specs.Rows.{head}
use Rattle.layouts.specs.Pages.{be_bytes}
use Rattle.layouts.specs.Mounts.{wrong, paged, mount_check}
use Rattle.images.specs.declared.diagnosis.Cause.{Cause}
use Rattle.images.specs.declared.diagnosis.Cause.TheVariants.{Kind, ZeroBits, Length, AfterEmpty, AfterWords, EmptyPage}
use Rattle.images.specs.Turns.{turned}
use Rattle.images.specs.Diagnoses.{Diagnosed}

abbrev pub Accepted : List ℕ → Type 0
Accepted bs = paged (length bs) ≡ true → (held : ℕ) × (mount_check bs ≡ Ok held)

abbrev pub Within : List ℕ → ℕ → ℕ → Type 0
Within bs at n = (at ≤ n) × (n < at + 512) × (at + 512 ≤ length bs)

abbrev pub FirstSet : List ℕ → ℕ → ℕ → Type 0
FirstSet bs from n = (from ≤ n) × (slice_index bs n ≢ 0) × ((k : ℕ) → from ≤ k → k < n → slice_index bs k ≡ 0)

-- of the head's last byte, the four low bits must be zero
abbrev pub Says : Cause → List ℕ → ℕ → ℕ → Type 0
Says Kind bs at n = (n ≡ at + 3) × (slice_index bs (at + 3) / 16 ≢ 15)
Says ZeroBits bs at n =
    (at < n) × (n ≤ at + 3)
    × (n < at + 3 → slice_index bs n ≢ 0)
    × (n ≡ at + 3 → slice_index bs n % 16 ≢ 0)
    × ((k : ℕ) → at < k → k < n → slice_index bs k ≡ 0)
Says Length bs at n = (n ≡ at) × (1 ≤ slice_index bs at → slice_index bs at ≤ most → ⊥)
Says AfterEmpty bs at n = (n ≡ at) × (slice_index bs at ≢ 0) × (512 ≤ at) × ((k : ℕ) → at ≤ k + 512 → k < at → slice_index bs k ≡ 0)
Says AfterWords bs at n = FirstSet bs (at + (4 + 4 * slice_index bs at)) n
Says EmptyPage bs at n = FirstSet bs at n

abbrev pub ForeignAt : List ℕ → ℕ → Type 0
ForeignAt bs at = (n : ℕ) × (1 ≤ n) × (n ≤ most) × (take 4 (drop at bs) ≡ be_bytes (head n))

abbrev pub Foreign : List ℕ → ℕ → ℕ → Bool → Type 0
Foreign bs at n b = (b ≡ true → ForeignAt bs at × (n ≡ 10)) × (ForeignAt bs at → b ≡ true)

abbrev pub foreign_image : Diagnosed
foreign_image = record { fault = wrong 10 0; byte = 3; cause = Kind; foreign = true }

abbrev pub TurnedFound : List ℕ → Option Diagnosed → Type 0
TurnedFound bs r = (own : List ℕ) (held : ℕ) → bs ≡ turned own → mount_check own ≡ Ok held → 1 ≤ held → r ≡ Some foreign_image
