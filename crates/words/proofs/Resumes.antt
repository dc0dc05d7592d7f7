-- A reader that has gone past the words of a value. Assumes nothing.
use Rattle.std.proofs.Common.{◌≡◌, ℕ, ◌+◌, ◌-◌, List, ◌++◌, length, drop, sym, ap, ◌∙◌, arith, length-append, drop-drop, drop_at}
use Rattle.words.specs.declared.reader.Reader.{Reader}
use Rattle.words.specs.Readings.{left, before}
use Rattle.words.proofs.Walks.{same_place}

module _ (start : Reader) (ws more : List ℕ) (words : left start ≡ ws ++ more) where
  long : length (left start) ≡ length ws + length more
  long = ap length words ∙ length-append ws more

  -- it has left what stands after them
  pub left_before : left (before start more) ≡ more
  left_before =
      let n : start.place + length (left start) - length more ≡ start.place + length ws = (let l = long in omega arith) in
      ap (λ k. drop k start.words.now) n
      ∙ sym (drop-drop (length ws) start.place start.words.now)
      ∙ ap (drop (length ws)) words
      ∙ (let e : length ws ≡ length ws = omega arith in drop_at ws more (length ws) e)

  -- and goes on from there as from the start
  pub before_before : (rest : List ℕ) → before (before start more) rest ≡ before start rest
  before_before rest =
      same_place start _ _
      (let l = long in
      let m = ap length left_before in
      let n : ((start.place + length (left start)) - length more + length (left (before start more))) - length rest ≡ (start.place + length (left start)) - length rest = omega arith in
      n)
