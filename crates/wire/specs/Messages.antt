-- Messages as values, and their words. Assumes nothing.
--     Message C V        a full message of a clock and a record, or a delta of a span and a record
--     head_word k s n    the head, of kind k, of a message of n words from station s
--     Clock              the value of a clock, and clock_written its words
--     packed K m         the words of a message whose record is of kind K
--     Sendable K m       which messages there are: from a station, over a span that rises, of at most 127 words
-- The forms that end in _by or By are over the words of a clock and of a record.
use Rattle.std.specs.Prelude.{ℕ, suc, ◌+◌, ◌*◌, ◌^◌, ◌<◌, ◌≤◌, List, ◌∷◌, ◌++◌, length}
use Rattle.words.specs.Words.{word_of}
use Rattle.words.specs.Writes.{most}
use Rattle.crdt.specs.declared.kind.Crdt.{Ghosts}
use Rattle.entries.specs.Rows.{Row}
use Rattle.entries.specs.Entries.{row_written}

pub data Message (C V : Type 0) : Type 0 where
  full : (sender : ℕ) → C → V → Message C V
  delta : (sender from to : ℕ) → V → Message C V

abbrev pub sender_of : {C V : Type 0} → Message C V → ℕ
sender_of (full s c v) = s
sender_of (delta s f t v) = s

abbrev pub head_kind : {C V : Type 0} → Message C V → ℕ
head_kind (full s c v) = 1
head_kind (delta s f t v) = 2

abbrev pub head_word : (k sender n : ℕ) → ℕ
head_word k sender n = word_of k (sender * 2 ^ 24 + n)

-- words behind the head that counts them and itself
abbrev pub headed : (k sender : ℕ) → List ℕ → List ℕ
headed k sender ws = head_word k sender (suc (length ws)) ∷ ws

abbrev pub body_by : {C V : Type 0} → (C → List ℕ) → (V → List ℕ) → Message C V → List ℕ
body_by wc wv (full s c v) = wc c ++ wv v
body_by wc wv (delta s f t v) = word_of 3 f ∷ (word_of 4 t ∷ wv v)

abbrev pub packed_by : {C V : Type 0} → (C → List ℕ) → (V → List ℕ) → Message C V → List ℕ
packed_by wc wv m = headed (head_kind m) (sender_of m) (body_by wc wv m)

-- a span rises, and its ends are counts
abbrev pub Rises : {C V : Type 0} → Message C V → Type 0
Rises (full s c v) = Unit {0}
Rises (delta s f t v) = (f < t) × (t ≤ 65535)

pub record SendableBy {C V : Type 0} (wc : C → List ℕ) (wv : V → List ℕ) (m : Message C V) : Type 0 where
  pub few : length (packed_by wc wv m) ≤ most
  pub station : sender_of m < 16
  pub rises : Rises m

abbrev pub Clock : Type 0
Clock = Row 65535

abbrev pub clock_written : Clock → List ℕ
clock_written c = row_written 5 c

abbrev pub packed : {S R : Type 0} (K : Ghosts S R) → Message Clock K.Value → List ℕ
packed K m = packed_by clock_written K.written m

abbrev pub Sendable : {S R : Type 0} (K : Ghosts S R) → Message Clock K.Value → Type 0
Sendable K m = SendableBy clock_written K.written m
