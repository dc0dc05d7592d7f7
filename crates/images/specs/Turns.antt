-- Bytes in the other byte order. Assumes nothing.
--     turned bs       the four bytes of every word turned round; the bytes after the last whole word as they are
--     foreign_of ws   the bytes of words, as a station of the other byte order writes them
use Rattle.std.specs.Prelude.{ℕ, List, [], ◌∷◌, ◌++◌}
use Rattle.layouts.specs.Pages.{be_bytes}

abbrev pub turned : List ℕ → List ℕ
turned [] = []
turned (a ∷ []) = a ∷ []
turned (a ∷ b ∷ []) = a ∷ b ∷ []
turned (a ∷ b ∷ c ∷ []) = a ∷ b ∷ c ∷ []
turned (a ∷ b ∷ c ∷ d ∷ bs) = d ∷ c ∷ b ∷ a ∷ turned bs

abbrev pub foreign_of : List ℕ → List ℕ
foreign_of [] = []
foreign_of (w ∷ ws) = be_bytes w ++ foreign_of ws
