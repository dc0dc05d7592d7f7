use Rattle.std.proofs.Common.{◌&&◌, ltb, leb, ap, ◌∙◌}
use Rattle.counters.specs.Counts.{clock_of}
use Rattle.histories.specs.Clusters.{entry}
use Rattle.histories.proofs.Clocks.{entry_low}
use Rattle.stations.proofs.Spans.{span_some, span_value}
use Rattle.stations.proofs.station.Station.unsent.Goals as goal

pub returns : goal.returns
returns g c =
    let st = c.args.self.now in
    let own = entry (clock_of st.clock.counts) st.number in
    record {
      some = c.new.ensures.some ∙ ap (λ n. ltb st.sent n && leb n 65535) c.count.ensures ∙ span_some st.sent own (entry_low (clock_of st.clock.counts) st.number);
      value = rw (← c.count.ensures) (span_value c.new.result st.sent c.count.result c.new.ensures.value);
    }
