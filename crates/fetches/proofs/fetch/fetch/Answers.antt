use Rattle.std.proofs.Common.{rules, ◌≡◌, [], length, get_or, Err, sym, ap, ◌∙◌, slice_set}
use Rattle.std.proofs.lemmas.List.{set-get_or}
use Rattle.std.proofs.lemmas.Result.{err_from_is_err_and}
use Rattle.words.specs.declared.fault.Layer.TheVariants as layer
use Rattle.words.specs.Readings.{told, told_fault, plain_fault}
use Rattle.words.specs.Refusals.{numbered, number_of, bare, value_or}
use Rattle.histories.specs.Calls.{fetching, fetched_if}
use Rattle.stations.specs.Stored.{station_of, station_at}
use Rattle.stations.proofs.Changes.{changed_one}
use Rattle.fetches.proofs.Lifts.{bare_err, was_read, fetch_read, told_by, told_ok, told_err, was_ok, was_err, on_ok, kept_err, kept_as}
use Rattle.fetches.proofs.fetch.fetch.Goals as goal

pub returns-in_err-map_err-clause-answer : goal.returns-in_err-map_err-clause-answer
returns-in_err-map_err-clause-answer g c =
    let K = g.C.Crdt in
    let ws = g.M.Mailbox.waiting c.args.mailbox.now in
    let s = c.args.s in
    let k = c.args.k in
    let old = c.args.words.now in
    let p = err_from_is_err_and c.from_residual.result c.from_residual.ensures.1 in
    let q = was_err c.find.result c.in_err-map_err.field-0.0 _ c.in_err-map_err.ensures.cases in
    let none = bare_err (station_at K c.args.stations.now s) (number_of q.0) (sym (ap numbered q.1) ∙ c.find.ensures.answer) in
    let x = c.in_err-map_err.field-0.0 in
    let post = q.2 in
    let at : x.station ≡ s = search rules in
    let of : x.message ≡ k = search rules in
    let why : told_fault x.fault ≡ plain_fault layer.Station (number_of q.0) = search rules in
    told_by _ x (p.1 ∙ ap Err p.2) at of why ∙ sym (ap (λ y. fetched_if s k (length (get_or ws k [])) (fetching K ws s k (length old) y)) none)

pub returns-in_err-map_err-2-clause-answer : goal.returns-in_err-map_err-2-clause-answer
returns-in_err-map_err-2-clause-answer g c =
    let K = g.C.Crdt in
    let ws = g.M.Mailbox.waiting c.args.mailbox.now in
    let s = c.args.s in
    let k = c.args.k in
    let old = c.args.words.now in
    let all = c.args.stations.now in
    let d = c.index-stations-s.result in
    let n = c.in_ok-n.n in
    let here = on_ok c.find.result c.in_ok-map_err.ensures.variant c.find.ensures.here in
    let done = sym (ap numbered (was_ok _ c.read.result n _ c.in_ok-n.ensures.cases (λ e h. h))) ∙ c.read.ensures.answer in
    let o = fetch_read K ws s k old all d n c.read.new.words here done c.read.ensures.words in
    let p = err_from_is_err_and c.from_residual-in_err-map_err-2.result c.from_residual-in_err-map_err-2.ensures.1 in
    let x = c.in_err-map_err-2.field-0.0 in
    let q = was_err c.receive.result x _ c.in_err-map_err-2.ensures.cases in
    let post = q.2 in
    let at : x.station ≡ s = search rules in
    let of : x.message ≡ k = search rules in
    let why : x.fault ≡ q.0 = search rules in
    told_by _ x (p.1 ∙ ap Err p.2) at of (ap told_fault why) ∙ told_err _ q.0 s k (length (get_or ws k [])) (sym (ap told q.1) ∙ c.receive.ensures.answer ∙ sym (ap bare o))

pub returns-in_err-map_err-2-clause-stations : goal.returns-in_err-map_err-2-clause-stations
returns-in_err-map_err-2-clause-stations g c =
    let K = g.C.Crdt in
    let ws = g.M.Mailbox.waiting c.args.mailbox.now in
    let s = c.args.s in
    let k = c.args.k in
    let old = c.args.words.now in
    let all = c.args.stations.now in
    let d = c.index-stations-s.result in
    let n = c.in_ok-n.n in
    let here = on_ok c.find.result c.in_ok-map_err.ensures.variant c.find.ensures.here in
    let done = sym (ap numbered (was_ok _ c.read.result n _ c.in_ok-n.ensures.cases (λ e h. h))) ∙ c.read.ensures.answer in
    let o = fetch_read K ws s k old all d n c.read.new.words here done c.read.ensures.words in
    changed_one (station_of K) all s d c.receive.new.station _ (c.receive.ensures.after ∙ sym (ap (value_or (station_of K (get_or all s d))) o))

pub returns-in_err-map_err-2-clause-refused : goal.returns-in_err-map_err-2-clause-refused
returns-in_err-map_err-2-clause-refused g c =
    let all = c.args.stations.now in
    let d = c.index-stations-s.result in
    let same = kept_err c.receive.result (get_or all c.args.s d) c.receive.new.station c.in_err-map_err-2.ensures.variant c.receive.ensures.refused in
    kept_as c.from_residual-in_err-map_err-2.result all _ (ap (slice_set all c.args.s) same ∙ set-get_or all c.args.s d)

pub returns-clause-answer : goal.returns-clause-answer
returns-clause-answer g c =
    let K = g.C.Crdt in
    let ws = g.M.Mailbox.waiting c.args.mailbox.now in
    let s = c.args.s in
    let k = c.args.k in
    let old = c.args.words.now in
    let all = c.args.stations.now in
    let d = c.index-stations-s.result in
    let n = c.in_ok-n.n in
    let here = on_ok c.find.result c.in_ok-map_err.ensures.variant c.find.ensures.here in
    let done = sym (ap numbered (was_ok _ c.read.result n _ c.in_ok-n.ensures.cases (λ e h. h))) ∙ c.read.ensures.answer in
    let o = fetch_read K ws s k old all d n c.read.new.words here done c.read.ensures.words in
    told_ok _ tt s k n (length (get_or ws k [])) (sym (ap told (was_ok _ c.receive.result tt _ c.in_ok-map_err-2.ensures.cases (λ e h. h))) ∙ c.receive.ensures.answer ∙ sym (ap bare o)) (was_read K ws s k old (station_of K d) n done).long

pub returns-clause-stations : goal.returns-clause-stations
returns-clause-stations g c =
    let K = g.C.Crdt in
    let ws = g.M.Mailbox.waiting c.args.mailbox.now in
    let s = c.args.s in
    let k = c.args.k in
    let old = c.args.words.now in
    let all = c.args.stations.now in
    let d = c.index-stations-s.result in
    let n = c.in_ok-n.n in
    let here = on_ok c.find.result c.in_ok-map_err.ensures.variant c.find.ensures.here in
    let done = sym (ap numbered (was_ok _ c.read.result n _ c.in_ok-n.ensures.cases (λ e h. h))) ∙ c.read.ensures.answer in
    let o = fetch_read K ws s k old all d n c.read.new.words here done c.read.ensures.words in
    changed_one (station_of K) all s d c.receive.new.station _ (c.receive.ensures.after ∙ sym (ap (value_or (station_of K (get_or all s d))) o))
