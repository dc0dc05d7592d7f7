-- The words of a row, and the row of words. Here k is the number of the entry words' kind. Assumes nothing.
--     entry_word k s n             the word of number n at entry s
--     end_word n                   the word after n entries
--     entries k s ns               the words of those of ns that are not 0, the first of ns being entry s
--     row_written k v              the words of a row
--     examined k top low seen w    what word w is after seen entries, all below number low: an entry with its number, the end, or a refusal
--     row_reading k top ws         the row at the front of words
use Rattle.std.specs.Prelude.{◌≡◌, ℕ, ◌+◌, ◌-◌, ◌*◌, ◌%◌, ◌^◌, cond, ◌&&◌, List, [], ◌∷◌, ◌++◌, length, replicate, Some, None, Option, Ok, Err, Result, ◌==◌, nat_le, nat_lt}
use Rattle.words.specs.Readings.{Reading, read, wrong}
use Rattle.words.specs.Words.{kind, index, formed, word_of}
use Rattle.entries.specs.Rows.{Row, row_of}

abbrev pub entry_word : ℕ → ℕ → ℕ → ℕ
entry_word k s n = word_of k (s * 2 ^ 24 + n)

abbrev pub end_word : ℕ → ℕ
end_word n = word_of 9 n

abbrev pub entries : ℕ → ℕ → List ℕ → List ℕ
entries k s [] = []
entries k s (n ∷ ns) = cond (n == 0) (entries k (s + 1) ns) (entry_word k s n ∷ entries k (s + 1) ns)

-- the words of what is left of a row from entry s on, where seen entries were before
abbrev pub entries_and_end : ℕ → ℕ → ℕ → List ℕ → List ℕ
entries_and_end k s seen ns = entries k s ns ++ (end_word (seen + length (entries k s ns)) ∷ [])

abbrev pub row_written : (k : ℕ) {top : ℕ} → Row top → List ℕ
row_written k v = entries_and_end k 0 0 v.numbers

-- wrong in form: a nonzero zero bit, an entry number not above the last, a zero entry, a false end number
abbrev pub examined : (k top low seen w : ℕ) → Result (Option (ℕ × ℕ)) ℕ
examined k top low seen w =
    cond (kind w == 9)
    (cond (formed w && w % 32 == seen) (Ok None) (Err 11))
    (cond (kind w == k)
    (cond (formed w && (nat_le low (index w) && nat_lt 0 (w % (top + 1)))) (Ok (Some (index w, w % (top + 1)))) (Err 11))
    (Err 10))

-- numbers before those that are read
abbrev pub later : List ℕ → Reading (List ℕ) → Reading (List ℕ)
later front (read ns ws) = read (front ++ ns) ws
later front (wrong n ws) = wrong n ws

-- the numbers from entry low on, where w is the first word, and ws, read as more, are those after it
abbrev pub onward : Result (Option (ℕ × ℕ)) ℕ → (low w : ℕ) → List ℕ → Reading (List ℕ) → Reading (List ℕ)
onward (Ok (Some e)) low w ws more = later (replicate (e.0 - low) 0 ++ (e.1 ∷ [])) more
onward (Ok None) low w ws more = read (replicate (16 - low) 0) ws
onward (Err n) low w ws more = wrong n (w ∷ ws)

abbrev pub scan : (k top low seen : ℕ) → List ℕ → Reading (List ℕ)
scan k top low seen [] = wrong 12 []
scan k top low seen (w ∷ ws) = onward (examined k top low seen w) low w ws (scan k top (index w + 1) (seen + 1) ws)

abbrev pub as_row : (top : ℕ) → Reading (List ℕ) → Reading (Row top)
as_row top (read ns ws) = read (row_of top ns) ws
as_row top (wrong n ws) = wrong n ws

abbrev pub row_reading : (k top : ℕ) → List ℕ → Reading (Row top)
row_reading k top ws = as_row top (scan k top 0 0 ws)

-- what is read, if a value is, is this one
abbrev pub read_is : {X : Type 0} → Reading X → X → Type 0
read_is (read v ws) x = x ≡ v
read_is (wrong n ws) x = Unit {0}
