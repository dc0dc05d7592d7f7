-- What is read from words. Assumes nothing.
--     left r              the words from a reader's place on
--     before r ws         the reader, moved on until only ws are left
--     stepped r           the reader, moved past one word if one is left
--     told_fault f        a fault, with the number in the place of the refusal
--     plain_fault by n    refusal n of no word
--     fault_at r n        refusal n of the word at a reader's place; 12 has no word, and so place 0
--     found k ws          the word of kind k at the front of words, or the number of its refusal
--     found_at r x        what a reader that found x at its place answers
--     word_read r         an answer that is a word, where a fault is told
--     Reading X           a value and the words after it; or a refusal's number and the words from the wrong one on
--     load_answer r x     what a load by reader r answers: the place after the value, or the fault
use Rattle.std.specs.Prelude.{ℕ, ◌+◌, ◌-◌, min, cond, List, [], ◌∷◌, length, drop, Ok, Err, Result, ◌==◌}
use Rattle.words.specs.declared.fault.Fault.{Fault}
use Rattle.words.specs.declared.fault.Layer.{Layer}
use Rattle.words.specs.declared.reader.Reader.{Reader}
use Rattle.words.specs.declared.word.Word.{Word}
use Rattle.words.specs.Refusals.{number_of}
use Rattle.words.specs.Words.{kind, formed}

abbrev pub left : Reader → List ℕ
left r = drop r.place r.words.now

abbrev pub before : Reader → List ℕ → Reader
before r ws = record { words = r.words; place = r.place + length (left r) - length ws; layer = r.layer }

abbrev pub stepped : Reader → Reader
stepped r = record { words = r.words; place = r.place + min 1 (length (left r)); layer = r.layer }

pub record Told : Type 0 where
  pub number : ℕ
  pub place : ℕ
  pub layer : Layer

abbrev pub told_fault : Fault → Told
told_fault f = record { number = number_of f.refusal; place = f.place; layer = f.layer }

abbrev pub plain_fault : Layer → ℕ → Told
plain_fault by n = record { number = n; place = 0; layer = by }

abbrev pub fault_at : Reader → ℕ → Told
fault_at r n = record { number = n; place = cond (n == 12) 0 r.place; layer = r.layer }

abbrev pub found : ℕ → List ℕ → Result ℕ ℕ
found k [] = Err 12
found k (w ∷ ws) = cond (kind w == k) (cond (formed w) (Ok w) (Err 11)) (Err 10)

abbrev pub found_at : {X : Type 0} → Reader → Result X ℕ → Result X Told
found_at r (Ok x) = Ok x
found_at r (Err n) = Err (fault_at r n)

abbrev pub word_read : Result Word Fault → Result ℕ Told
word_read (Ok w) = Ok w.0
word_read (Err f) = Err (told_fault f)

pub data Reading (X : Type 0) : Type 0 where
  read : X → List ℕ → Reading X
  wrong : ℕ → List ℕ → Reading X

abbrev pub read_or : {X : Type 0} → X → Reading X → X
read_or d (read x ws) = x
read_or d (wrong n ws) = d

-- the words that a reading leaves
abbrev pub rest : {X : Type 0} → Reading X → List ℕ
rest (read x ws) = ws
rest (wrong n ws) = ws

-- an answer, with the number in the place of the refusal
abbrev pub told : {X : Type 0} → Result X Fault → Result X Told
told (Ok x) = Ok x
told (Err f) = Err (told_fault f)

abbrev pub load_answer : {X : Type 0} → Reader → Reading X → Result ℕ Told
load_answer r (read x ws) = Ok (before r ws).place
load_answer r (wrong n ws) = Err (fault_at (before r ws) n)
