-- What a word store holds. Assumes nothing.
--     memory_of t    its words
--     waiting_of t   the messages in them
--     takes_of t n   whether it takes a message of n words: with its page head it fits behind those that wait, in at most 4,096 words
--     check_answer n what the check of n words answers: done, or 16
use Rattle.std.specs.Prelude.{ℕ, Bool, cond, List, length, take, Ok, Err, Result, nat_lt}
use Rattle.words.specs.declared.fault.Layer.TheVariants.{Mailbox}
use Rattle.words.specs.Readings.{Told}
use Rattle.mailboxes.specs.Mailboxes.{Lawful}
use Rattle.layouts.specs.Rows.{parsed, row_takes, sound_parsed, row_sizes}
use Rattle.word_mailbox.specs.declared.WordMailbox.{WordMailbox}

abbrev pub memory_of : WordMailbox → List ℕ
memory_of t = t.words.now

abbrev pub waiting_of : WordMailbox → List (List ℕ)
waiting_of t = parsed t.held (take t.used (memory_of t))

abbrev pub takes_of : WordMailbox → ℕ → Bool
takes_of t n = row_takes (length (memory_of t)) (waiting_of t) n

abbrev pub check_answer : ℕ → Result (Unit {0}) Told
check_answer n = cond (nat_lt 4096 n) (Err (record { number = 16; place = 0; layer = Mailbox })) (Ok tt)

pub kept : Lawful waiting_of takes_of
kept = record {
  messages = λ t. (sound_parsed t.held (take t.used (memory_of t)) t.messages).2;
  sizes = λ t n. row_sizes (length (memory_of t)) (waiting_of t) n;
}
