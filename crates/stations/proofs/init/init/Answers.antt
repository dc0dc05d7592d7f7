use Rattle.std.proofs.Common.{length, sym, ap, ◌∙◌, arith}
use Rattle.std.proofs.lemmas.Bool.{le-ltb, cond-false}
use Rattle.histories.specs.Clusters.{fresh}
use Rattle.stations.specs.Tables.{all_fresh}
use Rattle.stations.proofs.Changes.{fresh_more, fresh_all}
use Rattle.stations.proofs.Begins.{begins}
use Rattle.histories.proofs.Overs.{laws_of}
use Rattle.stations.proofs.init.init.Goals as goal

pub loop-i-preserved : goal.loop-i-preserved
loop-i-preserved g c =
    fresh_more g.C.Crdt c.loop-i.stations c.loop-i.i c.new.result (omega arith) c.loop-i.invariant c.new.ensures

pub returns : goal.returns
returns g c =
    let n = length c.args.stations.now in
    let k = g.met.C.Crdt in
    let all = fresh_all g.C.Crdt c.loop-i.stations 0 (λ k d h. c.loop-i.invariant k d (omega arith) ∙ ap (fresh g.C.Crdt) (omega arith)) ∙ ap (all_fresh g.C.Crdt 0) c.loop-i.auto.stations in
    record {
      answer = sym (cond-false _ _ _ (sym c.if-is_empty.ensures) ∙ cond-false _ _ _ (le-ltb 16 n c.if-stations-gt-STATIONS.false));
      fresh = all;
      promised = begins g.C.Crdt (laws_of g.C.Crdt k.assoc k.comm k.idem k.neutral k.reads k.exact) _ n c.if-stations-gt-STATIONS.false all;
      refused = tt;
    }
