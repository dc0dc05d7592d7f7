use Rattle.std.proofs.Common.{sym, ◌∙◌, arith, Fits-le}
use Rattle.scripts.proofs.Growth.{grown_lt, grown_fits}
use Rattle.scripts.proofs.Digits.{digit_more}
use Rattle.scripts.proofs.numbers.number.Goals as goal

pub overflow_mul-n : goal.overflow_mul-n
overflow_mul-n c =
    let low = rw c.in_ok-value.was at c.digit.ensures.bound in
    rw c.from.ensures (Fits-le (omega arith) (grown_fits c.loop-byte.n c.args.base c.loop-byte.byte-index c.in_ok-value.value (omega arith) c.loop-byte.invariant.0 low (omega arith)))

pub overflow_add-n : goal.overflow_add-n
overflow_add-n c =
    let low = rw c.in_ok-value.was at c.digit.ensures.bound in
    rw (c.from.ensures, c.from-in-loop-byte.ensures)
    (grown_fits c.loop-byte.n c.args.base c.loop-byte.byte-index c.in_ok-value.value (omega arith) c.loop-byte.invariant.0 low (omega arith))

pub loop-byte-preserved : goal.loop-byte-preserved
loop-byte-preserved c =
    let low = rw c.in_ok-value.was at c.digit.ensures.bound in
    let value = sym c.in_ok-value.was ∙ c.digit.ensures.value in
    rw (c.from.ensures, c.from-in-loop-byte.ensures) (
      grown_lt c.loop-byte.n c.args.base c.loop-byte.byte-index c.in_ok-value.value (omega arith) c.loop-byte.invariant.0 low,
      sym (digit_more c.args.base c.loop-byte.n c.args.token.now c.loop-byte.byte-index (omega arith) c.in_ok-value.value value) ∙ c.loop-byte.invariant.1,
    )
