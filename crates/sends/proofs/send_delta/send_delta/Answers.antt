use Rattle.std.proofs.Common.{map, length, Err, sym, refl, ap, ◌∙◌}
use Rattle.std.proofs.lemmas.List.{set-get_or}
use Rattle.std.proofs.lemmas.Option.{MatchOption-at_some}
use Rattle.std.proofs.lemmas.Result.{err_from_is_err_and}
use Rattle.words.specs.declared.refusal.Refusal.TheVariants as why
use Rattle.wire.specs.Messages.{packed}
use Rattle.wire.proofs.Packs.{answered}
use Rattle.histories.specs.Clusters.{found}
use Rattle.histories.specs.Calls.{sending_delta, emptied}
use Rattle.stations.specs.Stored.{station_of}
use Rattle.sends.proofs.Fulls.{refused_found}
use Rattle.sends.proofs.Deltas.{table_kept, table_changed, stored, low, delta_of, delta_size, no_span, delta_nothing, delta_what, settled}
use Rattle.sends.proofs.Ways.{turned, made, posting_refused, posting_done, packed_answer, packed_leaves, put_done, put_waits, no_err}
use Rattle.sends.proofs.send_delta.send_delta.Goals as goal

pub returns-in_err-find : goal.returns-in_err-find
returns-in_err-find g c =
    let K = g.C.Crdt in
    let takes = g.M.Mailbox.takes c.args.mailbox.now in
    let ts = c.args.stations.now in
    let s = c.args.s in
    let ws = c.args.words.now in
    let p = err_from_is_err_and c.from_residual.result c.from_residual.ensures.1 in
    let no_one = refused_found (found K (map (station_of K) ts) s) _ c.in_err-find.ensures.answer in
    let what = ap (sending_delta K takes s (length ws)) no_one in
    let is = p.1 ∙ ap Err p.2 in
    let t = turned g.M.Mailbox.waiting _ c.from_residual.result _ c.args.mailbox.now ws is what in
    let u = table_kept (station_of K) s _ ts c.from_residual.result ts _ _ is what refl in
    record { answer = t.answer; stations = u.stations; others = u.others; mailbox = t.mailbox; refused = (u.refused, t.refused); words = t.words }

pub returns-in_err-span : goal.returns-in_err-span
returns-in_err-span g c =
    let K = g.C.Crdt in
    let takes = g.M.Mailbox.takes c.args.mailbox.now in
    let ts = c.args.stations.now in
    let s = c.args.s in
    let ws = c.args.words.now in
    let e = c.index-stations-s.result in
    let here = c.in_ok-find.ensures.here in
    let enough = c.if-words-lt-LONGEST.false in
    let p = err_from_is_err_and c.from_residual-in_err-span.result c.from_residual-in_err-span.ensures.1 in
    let nothing = no_span c.unsent.result _ c.in_err-span.ensures.value in
    let what = delta_nothing K ts s e here takes (length ws) enough (sym c.unsent.ensures.some ∙ nothing.0) in
    let is = p.1 ∙ ap Err (p.2 ∙ nothing.1) in
    let t = turned g.M.Mailbox.waiting _ c.from_residual-in_err-span.result why.Nothing c.args.mailbox.now ws is what in
    let u = table_kept (station_of K) s _ ts c.from_residual-in_err-span.result _ _ why.Nothing is what (set-get_or ts s e) in
    record { answer = t.answer; stations = u.stations; others = u.others; mailbox = t.mailbox; refused = (u.refused, t.refused); words = t.words }

pub returns-in_err-admit : goal.returns-in_err-admit
returns-in_err-admit g c =
    let K = g.C.Crdt in
    let takes = g.M.Mailbox.takes c.args.mailbox.now in
    let ts = c.args.stations.now in
    let s = c.args.s in
    let ws = c.args.words.now in
    let e = c.index-stations-s.result in
    let here = c.in_ok-find.ensures.here in
    let enough = c.if-words-lt-LONGEST.false in
    let from = c.in_ok-span.span.from in
    let to = c.in_ok-span.span.to in
    let ends = MatchOption-at_some _ _ c.in_ok-span.span c.in_ok-span.ensures.ok_part c.unsent.ensures.value in
    let m = delta_of K ts s e here takes (length ws) from to in
    let after = emptied K s (station_of K (stored K ts s e here takes (length ws))) in
    let size = delta_size K ts s e here takes (length ws) from to c.size-size.result c.size-size.ensures in
    let sends = delta_what K ts s e here takes (length ws) enough from to ends.0 ends.1 c.in_ok-span.span.rises.0 in
    let p = err_from_is_err_and c.from_residual-in_err-admit.result c.from_residual-in_err-admit.ensures.1 in
    let what = sends ∙ posting_refused K m takes after _ size _ c.in_err-admit.ensures in
    let is = p.1 ∙ ap Err p.2 in
    let t = turned g.M.Mailbox.waiting _ c.from_residual-in_err-admit.result _ c.args.mailbox.now ws is what in
    let u = table_kept (station_of K) s _ ts c.from_residual-in_err-admit.result _ _ _ is what (set-get_or ts s e) in
    record { answer = t.answer; stations = u.stations; others = u.others; mailbox = t.mailbox; refused = (u.refused, t.refused); words = t.words }

pub returns-in_err-n : goal.returns-in_err-n
returns-in_err-n g c =
    let K = g.C.Crdt in
    let takes = g.M.Mailbox.takes c.args.mailbox.now in
    let ts = c.args.stations.now in
    let s = c.args.s in
    let ws = c.args.words.now in
    let e = c.index-stations-s.result in
    let here = c.in_ok-find.ensures.here in
    let enough = c.if-words-lt-LONGEST.false in
    let from = c.in_ok-span.span.from in
    let to = c.in_ok-span.span.to in
    let ends = MatchOption-at_some _ _ c.in_ok-span.span c.in_ok-span.ensures.ok_part c.unsent.ensures.value in
    let m = delta_of K ts s e here takes (length ws) from to in
    let after = emptied K s (station_of K (stored K ts s e here takes (length ws))) in
    let size = delta_size K ts s e here takes (length ws) from to c.size-size.result c.size-size.ensures in
    let sends = delta_what K ts s e here takes (length ws) enough from to ends.0 ends.1 c.in_ok-span.span.rises.0 in
    let fit = posting_done K m takes after _ size _ c.in_ok-admit.ensures in
    let near = low K ts s e here takes (length ws) in
    absurd (no_err _ _ _ _ c.in_err-n.was c.pack_delta.ensures.answer (packed_answer K m ws near fit.2 enough))

pub returns-in_err-put : goal.returns-in_err-put
returns-in_err-put g c =
    let K = g.C.Crdt in
    let takes = g.M.Mailbox.takes c.args.mailbox.now in
    let ts = c.args.stations.now in
    let s = c.args.s in
    let ws = c.args.words.now in
    let e = c.index-stations-s.result in
    let here = c.in_ok-find.ensures.here in
    let enough = c.if-words-lt-LONGEST.false in
    let from = c.in_ok-span.span.from in
    let to = c.in_ok-span.span.to in
    let ends = MatchOption-at_some _ _ c.in_ok-span.span c.in_ok-span.ensures.ok_part c.unsent.ensures.value in
    let m = delta_of K ts s e here takes (length ws) from to in
    let after = emptied K s (station_of K (stored K ts s e here takes (length ws))) in
    let size = delta_size K ts s e here takes (length ws) from to c.size-size.result c.size-size.ensures in
    let sends = delta_what K ts s e here takes (length ws) enough from to ends.0 ends.1 c.in_ok-span.span.rises.0 in
    let fit = posting_done K m takes after _ size _ c.in_ok-admit.ensures in
    let near = low K ts s e here takes (length ws) in
    let us = c.pack_delta.new.words in
    let left = c.pack_delta.ensures.words in
    let n = c.in_ok-n.n in
    let n-is = answered n (length (packed K m)) (c.in_ok-n.ensures.answer ∙ packed_answer K m ws near fit.2 enough) in
    absurd (no_err _ _ _ _ c.in_err-put.was c.put.ensures.answer (put_done K m ws near fit.2 enough us n left n-is takes fit.3))

pub returns : goal.returns
returns g c =
    let K = g.C.Crdt in
    let takes = g.M.Mailbox.takes c.args.mailbox.now in
    let ts = c.args.stations.now in
    let s = c.args.s in
    let ws = c.args.words.now in
    let e = c.index-stations-s.result in
    let here = c.in_ok-find.ensures.here in
    let enough = c.if-words-lt-LONGEST.false in
    let from = c.in_ok-span.span.from in
    let to = c.in_ok-span.span.to in
    let ends = MatchOption-at_some _ _ c.in_ok-span.span c.in_ok-span.ensures.ok_part c.unsent.ensures.value in
    let m = delta_of K ts s e here takes (length ws) from to in
    let after = emptied K s (station_of K (stored K ts s e here takes (length ws))) in
    let size = delta_size K ts s e here takes (length ws) from to c.size-size.result c.size-size.ensures in
    let sends = delta_what K ts s e here takes (length ws) enough from to ends.0 ends.1 c.in_ok-span.span.rises.0 in
    let fit = posting_done K m takes after _ size _ c.in_ok-admit.ensures in
    let near = low K ts s e here takes (length ws) in
    let us = c.pack_delta.new.words in
    let left = c.pack_delta.ensures.words in
    let n = c.in_ok-n.n in
    let n-is = answered n (length (packed K m)) (c.in_ok-n.ensures.answer ∙ packed_answer K m ws near fit.2 enough) in
    let more = c.put.ensures.after ∙ put_waits K m ws near fit.2 enough us n left n-is takes fit.3 (g.M.Mailbox.waiting c.args.mailbox.now) in
    let what = sends ∙ fit.0 in
    let t = made g.M.Mailbox.waiting _ n (packed K m) after c.args.mailbox.now c.put.new.self ws us what n-is more (left ∙ packed_leaves K m ws near fit.2 enough) in
    let u = table_changed (station_of K) s _ ts n (packed K m) after c.settle.new.self what (settled K ts s e here takes (length ws) c.settle.new.self c.settle.ensures) in
    record { answer = t.answer; stations = u.stations; others = u.others; mailbox = t.mailbox; refused = (tt, tt); words = t.words }
