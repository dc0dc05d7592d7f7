use Rattle.std.proofs.Common.{◌≡◌, ◌^◌, ◌<◌, drop}
use Rattle.scripts.specs.Numbers.{digits_on}
use Rattle.scripts.proofs.numbers.number.Given as goal

abbrev pub invariant-loop-byte : goal.invariant-loop-byte
invariant-loop-byte l =
    (l.n < 16 ^ l.byte-index) × (digits_on l.base l.n (drop l.byte-index l.token) ≡ digits_on l.base 0 l.token)
