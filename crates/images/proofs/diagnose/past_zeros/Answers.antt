use Rattle.std.proofs.Common.{sym, ◌∙◌}
use Rattle.images.proofs.Zeros.{past_more, past_set, past_end}
use Rattle.images.proofs.diagnose.past_zeros.Goals as goal

pub loop-place-preserved : goal.loop-place-preserved
loop-place-preserved c = c.loop-place.invariant ∙ past_more c.args.bytes.now c.loop-place.place c.loop-place-test.true c.if-bytes-place-eq0.true

pub returns-else-bytes-place-eq0 : goal.returns-else-bytes-place-eq0
returns-else-bytes-place-eq0 c = sym (c.loop-place.invariant ∙ past_set c.args.bytes.now c.loop-place.place c.loop-place-test.true c.if-bytes-place-eq0.false)

pub returns-after-loop-place : goal.returns-after-loop-place
returns-after-loop-place c = sym (c.loop-place.invariant ∙ past_end c.args.bytes.now c.loop-place.place c.loop-place-test.false)
