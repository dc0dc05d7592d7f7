-- What is written into words. Assumes nothing.
--     most                      the most words of a message, and so of a record
--     capped n                  a number of words as a size is told: 128 stands for more than 127
--     put old place ws          old, with ws at a place in it
--     write_answer room place n what a write of n words at a place in room words answers: the place after them, or 7 or 6
--     write_leaves old place ws what it leaves
use Rattle.std.specs.Prelude.{ℕ, ◌+◌, ◌-◌, min, cond, List, ◌++◌, length, take, drop, Ok, Err, Result, nat_lt}

abbrev pub most : ℕ
most = 127

abbrev pub capped : ℕ → ℕ
capped n = min n 128

abbrev pub put : List ℕ → ℕ → List ℕ → List ℕ
put old place ws = take place old ++ (ws ++ drop (place + length ws) old)

abbrev pub write_answer : ℕ → ℕ → ℕ → Result ℕ ℕ
write_answer room place n = cond (nat_lt most n) (Err 7) (cond (nat_lt (room - place) n) (Err 6) (Ok (place + n)))

abbrev pub write_leaves : List ℕ → ℕ → List ℕ → List ℕ
write_leaves old place ws =
    cond (nat_lt most (length ws)) old (cond (nat_lt (length old - place) (length ws)) old (put old place ws))
