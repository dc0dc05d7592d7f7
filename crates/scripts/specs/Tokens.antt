-- The words of a line. Assumes nothing.
--     blank c           whether a byte is a space, a tab or a carriage return
--     letter c          whether it belongs to a word: no blank, and not the sign of a comment
--     uncommented line  the bytes before the first #
--     pieces bs         what stands before, between and after the blanks; some of it may be empty
--     tokens line       the words of a line: the pieces of what is no comment, without the empty ones
--     left t            the words of what is left of a line
use Rattle.std.specs.Prelude.{ℕ, Bool, cond, not, ◌||◌, List, [], ◌∷◌, ◌==◌}
use Rattle.scripts.specs.declared.tokens.Tokens.{Tokens}

abbrev pub blank : ℕ → Bool
blank c = c == 32 || (c == 9 || c == 13)

abbrev pub letter : ℕ → Bool
letter c = not (blank c || c == 35)

abbrev pub uncommented : List ℕ → List ℕ
uncommented [] = []
uncommented (c ∷ cs) = cond (c == 35) [] (c ∷ uncommented cs)

-- a byte in front of the first piece
abbrev pub onto : ℕ → List (List ℕ) → List (List ℕ)
onto c [] = (c ∷ []) ∷ []
onto c (p ∷ ps) = (c ∷ p) ∷ ps

abbrev pub pieces : List ℕ → List (List ℕ)
pieces [] = [] ∷ []
pieces (c ∷ cs) = cond (blank c) ([] ∷ pieces cs) (onto c (pieces cs))

abbrev pub not_empty : List (List ℕ) → List (List ℕ)
not_empty [] = []
not_empty ([] ∷ ps) = not_empty ps
not_empty ((c ∷ cs) ∷ ps) = (c ∷ cs) ∷ not_empty ps

unfoldable pub tokens : List ℕ → List (List ℕ)
tokens line = not_empty (pieces (uncommented line))

abbrev pub left : Tokens → List (List ℕ)
left t = tokens t.line.now
