-- The fields of a word. Assumes nothing.
--     kind_number k    the number of a kind
--     kind w           bits 28 to 31
--     index w          bits 24 to 27
--     zero_run k       the first bit that must be zero in a word of kind k, and how many must
--     formed w         whether they are
--     word_of k n      the word of kind k with the low 28 bits of n
use Rattle.std.specs.Prelude.{ℕ, ◌+◌, ◌*◌, ◌/◌, ◌%◌, ◌^◌, Bool, List, [], ◌∷◌, ◌==◌, slice_index_or}
use Rattle.words.specs.declared.word.WordKind.{WordKind}
use Rattle.words.specs.declared.word.WordKind.TheVariants.{FullHead, DeltaHead, From, To, ClockEntry, CounterEntry, SetEntry, Register, End, PageHead}

abbrev pub kind_number : WordKind → ℕ
kind_number FullHead = 1
kind_number DeltaHead = 2
kind_number From = 3
kind_number To = 4
kind_number ClockEntry = 5
kind_number CounterEntry = 6
kind_number SetEntry = 7
kind_number Register = 8
kind_number End = 9
kind_number PageHead = 15

abbrev pub kind : ℕ → ℕ
kind w = w / 2 ^ 28

abbrev pub index : ℕ → ℕ
index w = w / 2 ^ 24 % 16

-- kinds 1 and 2: bits 8 to 23; 3 and 4: 16 to 27; 5 and 7: 16 to 23; 9: 5 to 27; 15: 8 to 27
abbrev pub zero_runs : List (ℕ × ℕ)
zero_runs =
    (0, 0) ∷ (8, 16) ∷ (8, 16) ∷ (16, 12) ∷ (16, 12) ∷ (16, 8) ∷ (0, 0) ∷ (16, 8)
    ∷ (0, 0) ∷ (5, 23) ∷ (0, 0) ∷ (0, 0) ∷ (0, 0) ∷ (0, 0) ∷ (0, 0) ∷ (8, 20) ∷ []

abbrev pub zero_run : ℕ → ℕ × ℕ
zero_run k = slice_index_or zero_runs k (0, 0)

abbrev pub formed : ℕ → Bool
formed w = w / 2 ^ (zero_run (kind w)).0 % 2 ^ (zero_run (kind w)).1 == 0

abbrev pub word_of : ℕ → ℕ → ℕ
word_of k n = k * 2 ^ 28 + n % 2 ^ 28
