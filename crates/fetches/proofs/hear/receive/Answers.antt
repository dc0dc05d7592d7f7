use Rattle.std.proofs.Common.{Err, sym, ap, ◌∙◌}
use Rattle.std.proofs.lemmas.Result.{err_from_is_err_and}
use Rattle.words.specs.Readings.{told}
use Rattle.words.specs.Refusals.{bare, value_or}
use Rattle.counters.specs.Counts.{clock_of}
use Rattle.wire.specs.Openings.{unpacked}
use Rattle.histories.specs.Calls.{hearing_opened}
use Rattle.stations.specs.Stored.{station_of}
use Rattle.fetches.proofs.Hears.{unpack_err, unpack_ok}
use Rattle.fetches.proofs.Lifts.{kept_same}
use Rattle.fetches.proofs.hear.receive.Goals as goal

pub returns-in_err-header : goal.returns-in_err-header
returns-in_err-header g c =
    let K = g.C.Crdt in
    let st = c.args.station.now in
    let p = err_from_is_err_and c.from_residual.result c.from_residual.ensures.1 in
    let u = unpack_err (unpacked K c.args.words.now) _ c.in_err-header.ensures.answer in
    record {
      answer = ap told (p.1 ∙ ap Err p.2) ∙ sym (ap (λ x. bare (hearing_opened K st.number (station_of K st) x)) u);
      after = sym (ap (λ x. value_or (station_of K st) (hearing_opened K st.number (station_of K st) x)) u);
      refused = kept_same c.from_residual.result st;
    }

pub returns : goal.returns
returns g c =
    let K = g.C.Crdt in
    let st = c.args.station.now in
    let u = unpack_ok c.in_ok-header.header (unpacked K c.args.words.now) (clock_of c.unpack.new.clock.counts) (K.value c.unpack.new.record) K.least c.in_ok-header.ensures.answer c.unpack.ensures.clock c.unpack.ensures.value in
    record {
      after = c.hear.ensures.after ∙ sym (ap (λ x. value_or (station_of K st) (hearing_opened K st.number (station_of K st) x)) u);
      answer = c.hear.ensures.answer ∙ sym (ap (λ x. bare (hearing_opened K st.number (station_of K st) x)) u);
      refused = c.hear.ensures.refused;
    }
