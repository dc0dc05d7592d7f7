use Rattle.images.proofs.Explained.{after_empty_is}
use Rattle.images.proofs.diagnose.is_after_empty.Goals as goal

pub returns-then-place-ge-PAGE : goal.returns-then-place-ge-PAGE
returns-then-place-ge-PAGE c = after_empty_is c.args.bytes.now c.args.place c.is_zero.result c.if-place-ge-PAGE.true c.is_zero.ensures
