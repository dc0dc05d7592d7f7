-- The values of a pair, from those of its sides. Assumes nothing.
--     each f g a b                    f on the left sides, g on the right ones
--     on_left w x                     an outcome x on the left, beside w on the right
--     on_right v x                    an outcome x on the right, beside v on the left
--     side_reported v w f g a s r     a report on one side of a at station s: f on the left, g on the right; the other side is v or w
--     side_written f g a              the words of the left side, then those of the right
--     then_right right x              a left that is read as x, and then a right from the words that are left
use Rattle.std.specs.Prelude.{ℕ, List, ◌++◌, Ok, Err, Result}
use Rattle.words.specs.Readings.{Reading, read, wrong}
use Rattle.either.specs.declared.Either.{Either}
use Rattle.either.specs.declared.Either.TheVariants.{Left, Right}

abbrev pub each : {V W : Type 0} → (V → V → V) → (W → W → W) → V × W → V × W → V × W
each f g a b = (f a.0 b.0, g a.1 b.1)

abbrev pub on_left : {V W : Type 0} → W → Result V ℕ → Result (V × W) ℕ
on_left w (Ok v) = Ok (v, w)
on_left w (Err n) = Err n

abbrev pub on_right : {V W : Type 0} → V → Result W ℕ → Result (V × W) ℕ
on_right v (Ok w) = Ok (v, w)
on_right v (Err n) = Err n

abbrev pub side_reported : {V W R S : Type 0} → V → W → (V → ℕ → R → Result V ℕ) → (W → ℕ → S → Result W ℕ) → V × W → ℕ → Either R S → Result (V × W) ℕ
side_reported v w f g a s (Left r) = on_left w (f a.0 s r)
side_reported v w f g a s (Right r) = on_right v (g a.1 s r)

abbrev pub side_written : {V W : Type 0} → (V → List ℕ) → (W → List ℕ) → V × W → List ℕ
side_written f g a = f a.0 ++ g a.1

-- a right that is read, beside the left v
abbrev pub beside : {V W : Type 0} → V → Reading W → Reading (V × W)
beside v (read w ws) = read (v, w) ws
beside v (wrong n ws) = wrong n ws

abbrev pub then_right : {V W : Type 0} → (List ℕ → Reading W) → Reading V → Reading (V × W)
then_right right (read v ws) = beside v (right ws)
then_right right (wrong n ws) = wrong n ws
