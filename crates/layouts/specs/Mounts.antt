-- Which bytes are pages of messages, and what the check of bytes answers. Assumes nothing.
--     all_zero bs            every byte is zero
--     well page              a page head's zero bits are zero, its length is that of a message, and what follows the words is zero
--     full page              a page of a message
--     page_check place seen page  what a page at a place is, where seen is whether a zero page head came before it:
--                                  a page of a message, an empty page, or refused as 10 or 11
--     mount_pages n place held seen bs  what n pages from a place on are, where held messages came before them
--     paged n                n bytes are 1 to 128 whole pages
--     mount_check bs         what the check of bytes answers: how many messages wait in them, or what is wrong
--     ForeignPages           a page that begins with a page head of any message in the other byte order is refused as 10, wherever it stands
--     ForeignRefused bs r    where bytes begin so, r is 10 at byte 0
--     mounted_pages r n      how many pages may be used of n bytes, where their check answered r
--     wiped bs               what a wipe leaves of bytes
--     pages_sound n held bs  n pages: held of messages, and then zero bytes
--     whole pages n          pages are none, or those that n bytes are
use Rattle.std.specs.Prelude.{◌≡◌, ℕ, zero, suc, ◌+◌, ◌*◌, ◌/◌, ◌%◌, ◌≤◌, Bool, true, false, cond, not, ◌&&◌, ◌||◌, List, length, take, drop, replicate, Ok, Err, Result, ◌==◌, nat_le}
use Rattle.std.specs.List.{list_all}
use Rattle.words.specs.declared.fault.Layer.TheVariants.{Mailbox}
use Rattle.words.specs.Words.{kind, formed}
use Rattle.words.specs.Readings.{Told}
use Rattle.mailboxes.specs.Mailboxes.{sized}
use Rattle.words.specs.Writes.{most}
use Rattle.layouts.specs.Rows.{head}
use Rattle.layouts.specs.Pages.{be_bytes, word_at, page_length}

abbrev pub all_zero : List ℕ → Bool
all_zero = list_all (λ b. b == 0)

abbrev pub well : List ℕ → Bool
well page = formed (word_at page 0) && (sized (page_length page) && all_zero (drop (4 + 4 * page_length page) page))

abbrev pub full : List ℕ → Bool
full page = kind (word_at page 0) == 15 && well page

abbrev pub wrong : ℕ → ℕ → Told
wrong n at = record { number = n; place = at; layer = Mailbox }

abbrev pub page_check : ℕ → Bool → List ℕ → Result Bool Told
page_check at seen page =
    cond (word_at page 0 == 0)
    (cond (all_zero page) (Ok false) (Err (wrong 11 at)))
    (cond (kind (word_at page 0) == 15) (cond (not seen && well page) (Ok true) (Err (wrong 11 at))) (Err (wrong 10 at)))

-- after a page: what comes of the rest where it is one of a message, and where it is empty
abbrev pub mount_next : Result Bool Told → Result ℕ Told → Result ℕ Told → Result ℕ Told
mount_next (Ok b) message empty = cond b message empty
mount_next (Err f) message empty = Err f

abbrev pub mount_pages : ℕ → ℕ → ℕ → Bool → List ℕ → Result ℕ Told
mount_pages zero at held seen bs = Ok held
mount_pages (suc n) at held seen bs =
    mount_next (page_check at seen (take 512 bs)) (mount_pages n (at + 512) (held + 1) seen (drop 512 bs)) (mount_pages n (at + 512) held true (drop 512 bs))

abbrev pub paged : ℕ → Bool
paged n = not (n == 0) && (nat_le n 65536 && n % 512 == 0)

abbrev pub mount_check : List ℕ → Result ℕ Told
mount_check bs = cond (paged (length bs)) (mount_pages (length bs / 512) 0 0 false bs) (Err (wrong 16 0))

abbrev pub ForeignPages : Type 0
ForeignPages = (at : ℕ) (seen : Bool) (page : List ℕ) (n : ℕ) → 1 ≤ n → n ≤ most → take 4 page ≡ be_bytes (head n) → page_check at seen page ≡ Err (wrong 10 at)

abbrev pub ForeignRefused : List ℕ → Result ℕ Told → Type 0
ForeignRefused bs r = ForeignPages × ((n : ℕ) → 1 ≤ n → n ≤ most → paged (length bs) ≡ true → take 4 bs ≡ be_bytes (head n) → r ≡ Err (wrong 10 0))

abbrev pub mounted_pages : Result ℕ Told → ℕ → ℕ
mounted_pages (Ok held) n = n / 512
mounted_pages (Err f) n = 0

abbrev pub wiped : List ℕ → List ℕ
wiped bs = cond (paged (length bs)) (replicate (length bs) 0) bs

abbrev pub wiped_pages : ℕ → ℕ
wiped_pages n = cond (paged n) (n / 512) 0

abbrev pub pages_sound : ℕ → ℕ → List ℕ → Bool
pages_sound zero zero bs = true
pages_sound zero (suc held) bs = false
pages_sound (suc n) zero bs = all_zero (take 512 bs) && pages_sound n zero (drop 512 bs)
pages_sound (suc n) (suc held) bs = full (take 512 bs) && pages_sound n held (drop 512 bs)

abbrev pub whole : ℕ → ℕ → Bool
whole pages n = pages == 0 || (512 * pages == n && nat_le pages 128)
