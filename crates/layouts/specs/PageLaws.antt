-- Why what is read from sound pages are messages. Assumes nothing.
use Rattle.std.specs.Prelude.{◌≡◌, ℕ, zero, suc, ◌+◌, ◌*◌, ◌≤◌, true, ◌&&◌, List, length, take, drop, ◌==◌, nat_lt, refl}
use Rattle.std.proofs.Common.{ap, arith}
use Rattle.std.specs.List.{AllByRecursion}
use Rattle.std.proofs.lemmas.Bool.{and_parts, false≢true}
use Rattle.words.specs.Words.{kind, formed}
use Rattle.words.specs.Writes.{most}
use Rattle.mailboxes.specs.Mailboxes.{Message, sized}
use Rattle.layouts.specs.Rows.{sized_true}
use Rattle.layouts.specs.Pages.{word_at, words_of, page_length, page_message, pages_of, page_takes}
use Rattle.layouts.specs.Mounts.{all_zero, well, full, pages_sound}

pub length_words_of : (n : ℕ) (bs : List ℕ) → length (words_of n bs) ≡ n
length_words_of zero bs = refl
length_words_of (suc n) bs = ap suc (length_words_of n (drop 4 bs))

pub full_length : (page : List ℕ) → full page ≡ true → (1 ≤ page_length page) × (page_length page ≤ most)
full_length page e =
    let p = and_parts (kind (word_at page 0) == 15) (well page) e in
    let q = and_parts (formed (word_at page 0)) (sized (page_length page) && all_zero (drop (4 + 4 * page_length page) page)) p.1 in
    sized_true (page_length page) (and_parts (sized (page_length page)) (all_zero (drop (4 + 4 * page_length page) page)) q.1).0

pub full_message : (page : List ℕ) → full page ≡ true → Message (page_message page)
full_message page e =
    let l = length_words_of (page_length page) (drop 4 page) in
    let p = full_length page e in
    (omega arith, omega arith)

pub sound_messages : (n held : ℕ) (bs : List ℕ) → pages_sound n held bs ≡ true → AllByRecursion Message (pages_of held bs)
sound_messages n zero bs e = tt
sound_messages zero (suc held) bs e = absurd (false≢true e)
sound_messages (suc n) (suc held) bs e =
    let p = and_parts (full (take 512 bs)) (pages_sound n held (drop 512 bs)) e in
    (full_message (take 512 bs) p.0, sound_messages n held (drop 512 bs) p.1)

pub page_sizes : (pages : ℕ) (ms : List (List ℕ)) (n : ℕ) → page_takes pages ms n ≡ true → (1 ≤ n) × (n ≤ most)
page_sizes pages ms n e = sized_true n (and_parts (sized n) (nat_lt (length ms) pages) e).0
