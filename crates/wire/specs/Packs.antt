-- What packing answers, and what it leaves. Assumes nothing.
--     head_made k s n room      the head, of kind k, of a message of n words from station s, for room given words; or why there is none
--     pack_answer K m room      what packing message m into room given words answers: its number of words, or 1, 7 or 6
--     pack_leaves K m old       what it leaves of the given words
use Rattle.std.specs.Prelude.{ℕ, cond, List, length, Ok, Err, Result, nat_lt}
use Rattle.words.specs.Writes.{most, write_answer, write_leaves}
use Rattle.crdt.specs.declared.kind.Crdt.{Ghosts}
use Rattle.wire.specs.Messages.{Message, sender_of, head_word, Clock, packed}

abbrev pub head_made : (k s n room : ℕ) → Result ℕ ℕ
head_made k s n room =
    cond (nat_lt 15 s) (Err 1) (cond (nat_lt most n) (Err 7) (cond (nat_lt room n) (Err 6) (Ok (head_word k s n))))

abbrev pub pack_answer : {S R : Type 0} (K : Ghosts S R) → Message Clock K.Value → ℕ → Result ℕ ℕ
pack_answer K m room = cond (nat_lt 15 (sender_of m)) (Err 1) (write_answer room 0 (length (packed K m)))

abbrev pub pack_leaves : {S R : Type 0} (K : Ghosts S R) → Message Clock K.Value → List ℕ → List ℕ
pack_leaves K m old = cond (nat_lt 15 (sender_of m)) old (write_leaves old 0 (packed K m))
