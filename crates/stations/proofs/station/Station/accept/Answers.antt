use Rattle.std.proofs.Common.{sym, ap, ◌∙◌, arith}
use Rattle.words.specs.Refusals.{bare, value_or}
use Rattle.stations.specs.Stored.{station_of}
use Rattle.stations.proofs.Reports.{delta_done, reporting_done, reporting_leaves}
use Rattle.stations.proofs.station.Station.accept.Goals as goal

pub returns : goal.returns
returns g c =
    let K = g.C.Crdt in
    let st = c.args.self.now in
    let v = K.value c.delta.new.into in
    let made = delta_done _ v K.least c.in_ok-delta.ensures.answer c.delta.ensures.into in
    let is = reporting_done K st c.args.report v (omega arith) made ∙ reporting_leaves K st c.args.report v c.count-own.result c.join.new.self c.join-2.new.self c.min-self.result (omega arith) c.requires c.count-own.ensures (omega arith) c.join.ensures c.join-2.ensures (omega arith) in
    record {
      answer = sym (ap bare is);
      after = sym (ap (value_or (station_of K st)) is);
      refused = tt;
    }
