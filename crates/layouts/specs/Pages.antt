-- How messages lie in pages of 512 bytes. Assumes nothing.
--     le_bytes w             the bytes of a word, the lowest first
--     be_bytes w             the bytes of a word, the highest first
--     bytes_of ws            the bytes of words
--     word_at bs p           the word whose lowest byte is byte p
--     words_of n bs          the first n words of bytes
--     page_of m              the page of a message: its page head, its words and zero bytes
--     page_length page       the length that its page head tells
--     page_message page      the message of a page
--     pages_of n bs          the messages of the first n pages
--     page_takes pages ms n  whether a page store of so many pages, in which ms wait, takes a message of n words: a page is left
--     page_put fits ms m bs  its bytes after a put of m
--     page_discard ms k bs   its bytes after a discard of message k
use Rattle.std.specs.Prelude.{ℕ, zero, suc, ◌+◌, ◌-◌, ◌*◌, ◌/◌, ◌%◌, ◌^◌, Bool, cond, ◌&&◌, List, [], ◌∷◌, ◌++◌, length, take, drop, replicate, nat_lt, slice_index}
use Rattle.words.specs.Writes.{put}
use Rattle.mailboxes.specs.Mailboxes.{sized, counted}
use Rattle.layouts.specs.Rows.{head}

abbrev pub le_bytes : ℕ → List ℕ
le_bytes w = (w % 256) ∷ (w / 2 ^ 8 % 256) ∷ (w / 2 ^ 16 % 256) ∷ (w / 2 ^ 24 % 256) ∷ []

abbrev pub be_bytes : ℕ → List ℕ
be_bytes w = (w / 2 ^ 24 % 256) ∷ (w / 2 ^ 16 % 256) ∷ (w / 2 ^ 8 % 256) ∷ (w % 256) ∷ []

abbrev pub bytes_of : List ℕ → List ℕ
bytes_of [] = []
bytes_of (w ∷ ws) = le_bytes w ++ bytes_of ws

abbrev pub word_at : List ℕ → ℕ → ℕ
word_at bs p = slice_index bs p + slice_index bs (p + 1) * 2 ^ 8 + slice_index bs (p + 2) * 2 ^ 16 + slice_index bs (p + 3) * 2 ^ 24

abbrev pub words_of : ℕ → List ℕ → List ℕ
words_of zero bs = []
words_of (suc n) bs = word_at bs 0 ∷ words_of n (drop 4 bs)

abbrev pub page_of : List ℕ → List ℕ
page_of m = le_bytes (head (length m)) ++ (bytes_of m ++ replicate (508 - 4 * length m) 0)

abbrev pub page_length : List ℕ → ℕ
page_length page = word_at page 0 % 256

abbrev pub page_message : List ℕ → List ℕ
page_message page = words_of (page_length page) (drop 4 page)

abbrev pub pages_of : ℕ → List ℕ → List (List ℕ)
pages_of zero bs = []
pages_of (suc n) bs = page_message (take 512 bs) ∷ pages_of n (drop 512 bs)

abbrev pub page_takes : ℕ → List (List ℕ) → ℕ → Bool
page_takes pages ms n = sized n && nat_lt (length ms) pages

abbrev pub page_put : Bool → List (List ℕ) → List ℕ → List ℕ → List ℕ
page_put fits ms m bs = cond fits (put bs (512 * length ms) (page_of m)) bs

-- the pages after page k, where it stood, and then the last used page zero; no other byte changes
abbrev pub page_closed : ℕ → ℕ → List ℕ → List ℕ
page_closed k held bs = put (put bs (512 * k) (take (512 * (held - (k + 1))) (drop (512 * (k + 1)) bs))) (512 * (held - 1)) (replicate 512 0)

abbrev pub page_discard : List (List ℕ) → ℕ → List ℕ → List ℕ
page_discard ms k bs = cond (nat_lt k (counted ms)) (page_closed k (length ms) bs) bs
