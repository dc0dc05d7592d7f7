use Rattle.std.proofs.Common.{◌≡◌, ◌≤◌, ◌++◌, length, take, drop}
use Rattle.scripts.specs.Grammar.{put_of, words_put}
use Rattle.scripts.specs.Tokens.{left}
use Rattle.scripts.proofs.Puts.{put_on}
use Rattle.scripts.proofs.understand.put.Given as goal

abbrev pub invariant-loop-token : goal.invariant-loop-token
invariant-loop-token l =
    (l.len ≤ 255)
    × (put_on l.len (left l.tokens) ≡ put_of (left l.initial.tokens))
    × (take l.len l.words ++ words_put (left l.tokens) (drop l.len l.words) ≡ words_put (left l.initial.tokens) l.initial.words)
    × (length l.words ≡ 255)
