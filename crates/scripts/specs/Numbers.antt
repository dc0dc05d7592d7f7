-- What digits write. Assumes nothing.
--     digit_of c                     the value of a digit, in either case of its letter
--     digit_in base c                the same, if it is a digit of the base
--     digits_on base n cs            the number that the digits cs write after those of n, if they are digits of the base
--     number_of base longest top t   the number that t writes, if it has 1 to longest digits and is at most top
--     decimal_of top t               a decimal number of 1 to 20 digits, if it is at most top
--     hexadecimal_of t               a word of 1 to 8 hexadecimal digits
use Rattle.std.specs.Prelude.{ℕ, ◌+◌, ◌-◌, ◌*◌, cond, ◌&&◌, List, [], ◌∷◌, length, Some, None, Option, nat_le, nat_lt}
use Rattle.std.specs.Int.{is_in_range}

abbrev pub digit_of : ℕ → Option ℕ
digit_of c =
    cond (is_in_range 48 57 c) (Some (c - 48))
    (cond (is_in_range 65 70 c) (Some (c - 55))
    (cond (is_in_range 97 102 c) (Some (c - 87)) None))

abbrev pub below : ℕ → Option ℕ → Option ℕ
below limit None = None
below limit (Some n) = cond (nat_lt n limit) (Some n) None

abbrev pub digit_in : ℕ → ℕ → Option ℕ
digit_in base c = below base (digit_of c)

-- what is made of a value, if there is one
abbrev pub and_then : {X Y : Type 0} → Option X → (X → Option Y) → Option Y
and_then None k = None
and_then (Some x) k = k x

abbrev pub digits_on : (base n : ℕ) → List ℕ → Option ℕ
digits_on base n [] = Some n
digits_on base n (c ∷ cs) = and_then (digit_in base c) (λ d. digits_on base (n * base + d) cs)

abbrev pub number_of : (base longest top : ℕ) → List ℕ → Option ℕ
number_of base longest top t =
    cond (nat_le 1 (length t) && nat_le (length t) longest) (below (top + 1) (digits_on base 0 t)) None

abbrev pub decimal_of : ℕ → List ℕ → Option ℕ
decimal_of top t = number_of 10 20 top t

abbrev pub hexadecimal_of : List ℕ → Option ℕ
hexadecimal_of t = number_of 16 8 4294967295 t
