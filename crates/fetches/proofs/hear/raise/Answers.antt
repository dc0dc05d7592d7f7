use Rattle.std.proofs.Common.{arith}
use Rattle.fetches.proofs.Raises.{raised_set, raised_kept}
use Rattle.fetches.proofs.hear.raise.Goals as goal
use Rattle.fetches.proofs.hear.raise.Goals.{else-station-lt-STATIONS-via-then-station-lt-STATIONS+else-count-span, else-station-lt-STATIONS-via-else-station-lt-STATIONS}

pub returns-then-count-span : goal.returns-then-count-span
returns-then-count-span c = raised_set c.args.clock.now.counts c.args.station c.args.span.to c.args.span.rises.1 c.if-station-lt-STATIONS.true (omega arith) (let is = c.count.ensures in omega arith)

pub returns-else-station-lt-STATIONS : goal.returns-else-station-lt-STATIONS
returns-else-station-lt-STATIONS c = elim c.else-station-lt-STATIONS.branch [
  | else-station-lt-STATIONS-via-then-station-lt-STATIONS+else-count-span w ↦ raised_kept c.args.clock.now.counts c.args.station c.args.span.to c.args.span.rises.1 (λ low. let is = w.count.ensures in let high = w.if-count-span.false in omega arith)
  | else-station-lt-STATIONS-via-else-station-lt-STATIONS w ↦ raised_kept c.args.clock.now.counts c.args.station c.args.span.to c.args.span.rises.1 (λ low. let past = w.if-station-lt-STATIONS.false in absurd (omega arith))
]
