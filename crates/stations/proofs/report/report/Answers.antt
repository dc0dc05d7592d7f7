use Rattle.std.proofs.Common.{◌≡◌, map, get_or, Ok, sym, ap, ◌∙◌}
use Rattle.words.specs.Refusals.{bare}
use Rattle.histories.specs.Clusters.{found}
use Rattle.histories.specs.Calls.{reporting, changed}
use Rattle.stations.specs.Stored.{station_of}
use Rattle.stations.proofs.Tables.{found_here}
use Rattle.stations.proofs.Changes.{changed_one, others_one, kept_one}
use Rattle.stations.proofs.report.report.Goals as goal

pub returns : goal.returns
returns g c =
    let K = g.C.Crdt in
    let ts = c.args.stations.now in
    let s = c.args.s in
    let e = c.index-stations-s.result in
    let here = c.in_ok-find.ensures.here in
    let st = get_or ts s e in
    let there = found_here K ts s e here.few here.within (here.own e) in
    let same : reporting K st.number c.args.report (Ok (station_of K st)) ≡ reporting K s c.args.report (found K (map (station_of K) ts) s) = ap (λ n. reporting K n c.args.report (Ok (station_of K st))) (here.own e) ∙ ap (reporting K s c.args.report) (sym there) in
    record {
      answer = c.accept.ensures.answer ∙ ap bare same;
      stations = changed_one (station_of K) ts s e c.accept.new.self _ c.accept.ensures.after ∙ ap (changed (map (station_of K) ts) s) same;
      others = others_one ts s c.accept.new.self;
      refused = kept_one c.accept.result ts s e c.accept.new.self c.accept.ensures.refused;
    }
