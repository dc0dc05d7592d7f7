use Rattle.std.proofs.Common.{map, length, Err, ap, ◌∙◌}
use Rattle.std.proofs.lemmas.Result.{err_from_is_err_and}
use Rattle.wire.specs.Messages.{packed}
use Rattle.wire.proofs.Packs.{answered}
use Rattle.histories.specs.Clusters.{found}
use Rattle.histories.specs.Calls.{sending_full}
use Rattle.stations.specs.Stored.{station_of}
use Rattle.sends.proofs.Fulls.{refused_found, near, full_of, full_size, full_what}
use Rattle.sends.proofs.Ways.{turned, made, posting_refused, posting_done, packed_answer, packed_leaves, put_done, put_waits, no_err}
use Rattle.sends.proofs.send_full.send_full.Goals as goal

pub returns-in_err-find : goal.returns-in_err-find
returns-in_err-find g c =
    let K = g.C.Crdt in
    let takes = g.M.Mailbox.takes c.args.mailbox.now in
    let ws = c.args.words.now in
    let p = err_from_is_err_and c.from_residual.result c.from_residual.ensures.1 in
    let no_one = refused_found (found K (map (station_of K) c.args.stations.now) c.args.s) _ c.in_err-find.ensures.answer in
    let t = turned g.M.Mailbox.waiting _ c.from_residual.result _ c.args.mailbox.now ws (p.1 ∙ ap Err p.2) (ap (sending_full K takes c.args.s (length ws)) no_one) in
    record { answer = t.answer; mailbox = t.mailbox; refused = t.refused; words = t.words }

pub returns-in_err-admit : goal.returns-in_err-admit
returns-in_err-admit g c =
    let K = g.C.Crdt in
    let takes = g.M.Mailbox.takes c.args.mailbox.now in
    let ts = c.args.stations.now in
    let s = c.args.s in
    let ws = c.args.words.now in
    let e = c.index-stations-s.result in
    let is = c.index-stations-s.is in
    let here = c.in_ok-find.ensures.here in
    let m = full_of K ts s e here is in
    let size = full_size K ts s e here is c.size.result c.size-2.result c.size.ensures c.size-2.ensures in
    let p = err_from_is_err_and c.from_residual-in_err-admit.result c.from_residual-in_err-admit.ensures.1 in
    let what = full_what K ts s e here is takes (length ws) c.if-words-lt-LONGEST.false ∙ posting_refused K m takes (station_of K e) _ size _ c.in_err-admit.ensures in
    let t = turned g.M.Mailbox.waiting _ c.from_residual-in_err-admit.result _ c.args.mailbox.now ws (p.1 ∙ ap Err p.2) what in
    record { answer = t.answer; mailbox = t.mailbox; refused = t.refused; words = t.words }

pub returns-in_err-n : goal.returns-in_err-n
returns-in_err-n g c =
    let K = g.C.Crdt in
    let takes = g.M.Mailbox.takes c.args.mailbox.now in
    let ts = c.args.stations.now in
    let s = c.args.s in
    let ws = c.args.words.now in
    let e = c.index-stations-s.result in
    let is = c.index-stations-s.is in
    let here = c.in_ok-find.ensures.here in
    let m = full_of K ts s e here is in
    let size = full_size K ts s e here is c.size.result c.size-2.result c.size.ensures c.size-2.ensures in
    let fit = posting_done K m takes (station_of K e) _ size _ c.in_ok-admit.ensures in
    absurd (no_err _ _ _ _ c.in_err-n.was c.pack_full.ensures.answer (packed_answer K m ws (near K ts s e here is) fit.2 c.if-words-lt-LONGEST.false))

pub returns-in_err-put : goal.returns-in_err-put
returns-in_err-put g c =
    let K = g.C.Crdt in
    let takes = g.M.Mailbox.takes c.args.mailbox.now in
    let ts = c.args.stations.now in
    let s = c.args.s in
    let ws = c.args.words.now in
    let e = c.index-stations-s.result in
    let is = c.index-stations-s.is in
    let here = c.in_ok-find.ensures.here in
    let m = full_of K ts s e here is in
    let size = full_size K ts s e here is c.size.result c.size-2.result c.size.ensures c.size-2.ensures in
    let fit = posting_done K m takes (station_of K e) _ size _ c.in_ok-admit.ensures in
    let enough = c.if-words-lt-LONGEST.false in
    let low = near K ts s e here is in
    let n-is = answered c.in_ok-n.n (length (packed K m)) (c.in_ok-n.ensures.answer ∙ packed_answer K m ws low fit.2 enough) in
    absurd (no_err _ _ _ _ c.in_err-put.was c.put.ensures.answer (put_done K m ws low fit.2 enough c.pack_full.new.words c.in_ok-n.n c.pack_full.ensures.words n-is takes fit.3))

pub returns : goal.returns
returns g c =
    let K = g.C.Crdt in
    let takes = g.M.Mailbox.takes c.args.mailbox.now in
    let ts = c.args.stations.now in
    let s = c.args.s in
    let ws = c.args.words.now in
    let e = c.index-stations-s.result in
    let is = c.index-stations-s.is in
    let here = c.in_ok-find.ensures.here in
    let m = full_of K ts s e here is in
    let size = full_size K ts s e here is c.size.result c.size-2.result c.size.ensures c.size-2.ensures in
    let fit = posting_done K m takes (station_of K e) _ size _ c.in_ok-admit.ensures in
    let enough = c.if-words-lt-LONGEST.false in
    let low = near K ts s e here is in
    let us = c.pack_full.new.words in
    let left = c.pack_full.ensures.words in
    let n = c.in_ok-n.n in
    let n-is = answered n (length (packed K m)) (c.in_ok-n.ensures.answer ∙ packed_answer K m ws low fit.2 enough) in
    let more = c.put.ensures.after ∙ put_waits K m ws low fit.2 enough us n left n-is takes fit.3 (g.M.Mailbox.waiting c.args.mailbox.now) in
    let what = full_what K ts s e here is takes (length ws) enough ∙ fit.0 in
    let t = made g.M.Mailbox.waiting _ n (packed K m) (station_of K e) c.args.mailbox.now c.put.new.self ws us what n-is more (left ∙ packed_leaves K m ws low fit.2 enough) in
    record { answer = t.answer; mailbox = t.mailbox; refused = t.refused; words = t.words }
