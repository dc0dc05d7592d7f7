use Rattle.std.proofs.Common.{sym, ap, ◌∙◌, ⊎_elim, arith}
use Rattle.std.proofs.lemmas.List.{get_or_default}
use Rattle.words.specs.Refusals.{bare}
use Rattle.stations.proofs.Tables.{found_many, found_past, found_other, found_here}
use Rattle.stations.proofs.table.find.Goals as goal

pub returns-then-stations-gt-STATIONS : goal.returns-then-stations-gt-STATIONS
returns-then-stations-gt-STATIONS g c = record {
  answer = sym (ap bare (⊎_elim (λ many. found_many g.C.Crdt c.args.stations.now c.args.s many) (λ h. found_past g.C.Crdt c.args.stations.now c.args.s h.0 (omega (arith, h.1))) c.then-stations-gt-STATIONS.either));
  here = tt;
}

pub returns-then-stations-s : goal.returns-then-stations-s
returns-then-stations-s g c = record {
  answer = sym (ap bare (found_other g.C.Crdt c.args.stations.now c.args.s c.index-stations-s.result c.if-stations-gt-STATIONS.false c.if-s-stations.false c.if-stations-s.true));
  here = tt;
}

pub returns : goal.returns
returns g c =
    let ts = c.args.stations.now in
    let s = c.args.s in
    let within = c.if-s-stations.false in
    let own = c.if-stations-s.false in
    record {
      answer = sym (ap bare (found_here g.C.Crdt ts s c.index-stations-s.result c.if-stations-gt-STATIONS.false within own));
      here = record { few = c.if-stations-gt-STATIONS.false; within = within; own = λ d. ap (λ x. x.number) (get_or_default ts s d c.index-stations-s.result within) ∙ own };
    }
