-- What is read from the words of a line. Assumes nothing.
--     Reading X           from words a value and the words after it, or what should have stood there
--     one f e             the first word as f has it; e where it means nothing, or where there is none
--     p then k            what p reads, and then what k makes of it
--     gives x             x, from no word
--     refuses e           nothing: e should have stood there
--     Reads p ts r ts'    r is the answer of a call that reads p from ts, and leaves ts'
use Rattle.std.specs.Prelude.{◌≡◌, ℕ, List, [], ◌∷◌, Some, None, Ok, Err, Option, Result}
use Rattle.scripts.specs.declared.expected.Expected.{Expected}

abbrev pub Reading : Type 0 → Type 0
Reading X = List (List ℕ) → Result (X × List (List ℕ)) Expected

abbrev pub taken : {X : Type 0} → Option X → Expected → Reading X
taken None e ts = Err e
taken (Some x) e ts = Ok (x, ts)

abbrev pub one : {X : Type 0} → (List ℕ → Option X) → Expected → Reading X
one f e [] = Err e
one f e (t ∷ ts) = taken (f t) e ts

abbrev pub onward : {X Y : Type 0} → Result (X × List (List ℕ)) Expected → (X → Reading Y) → Result (Y × List (List ℕ)) Expected
onward (Ok p) k = k p.0 p.1
onward (Err e) k = Err e

infixr 4 ◌then◌
abbrev pub ◌then◌ : {X Y : Type 0} → Reading X → (X → Reading Y) → Reading Y
◌then◌ p k ts = onward (p ts) k

abbrev pub gives : {X : Type 0} → X → Reading X
gives x ts = Ok (x, ts)

abbrev pub refuses : {X : Type 0} → Expected → Reading X
refuses e ts = Err e

abbrev pub Reads : {X : Type 0} → Reading X → List (List ℕ) → Result X Expected → List (List ℕ) → Type 0
Reads p ts (Ok x) ts' = p ts ≡ Ok (x, ts')
Reads p ts (Err e) ts' = p ts ≡ Err e
