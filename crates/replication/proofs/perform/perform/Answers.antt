use Rattle.std.proofs.Common.{ℕ, length, Ok, Err, sym, refl, ap, ◌∙◌, subst}
use Rattle.std.proofs.lemmas.Result.{err_from_is_err_and}
use Rattle.histories.specs.Calls.{Step, count, number}
use Rattle.histories.proofs.Overs.{laws_of}
use Rattle.stations.specs.Stored.{cluster_of}
use Rattle.replication.specs.Runs.{asked, told}
use Rattle.replication.proofs.Refuses.{in_any_case, owed}
use Rattle.replication.proofs.Steps.{step_report, step_send_delta, step_send_full, step_fetch}
use Rattle.replication.proofs.perform.perform.Goals as goal

pub returns-in_err-report-in-Report : goal.returns-in_err-report-in-Report
returns-in_err-report-in-Report g c =
    let K = g.C.Crdt in
    let P = g.M.Mailbox in
    let k = g.met.C.Crdt in
    let ts = c.args.stations.now in
    let m = c.args.mailbox.now in
    let old = c.args.words.now in
    let e = c.in_err-report-in-Report.ensures in
    let p = err_from_is_err_and c.from_residual.result c.from_residual.ensures.1 in
    let o = owed K (laws_of K k.assoc k.comm k.idem k.neutral k.reads k.exact) _ _ _ _ _ _ old _ (ap (asked (length old)) c.in-Report.is) (ap told (p.1 ∙ ap Err p.2)) (step_report K P ts c.report.new.stations m _ _ (Err c.in_err-report-in-Report.field-0.0) e.answer c.report.ensures.stations) refl in
    record { step = o.step; words = o.words; refused = in_any_case _ e.refused refl; promised = o.promised }

pub returns-in_ok-report-in-Report : goal.returns-in_ok-report-in-Report
returns-in_ok-report-in-Report g c =
    let K = g.C.Crdt in
    let P = g.M.Mailbox in
    let k = g.met.C.Crdt in
    let ts = c.args.stations.now in
    let m = c.args.mailbox.now in
    let old = c.args.words.now in
    let e = c.in_ok-report-in-Report.ensures in
    let o = owed K (laws_of K k.assoc k.comm k.idem k.neutral k.reads k.exact) _ _ _ _ _ _ old _ (ap (asked (length old)) c.in-Report.is) refl (step_report K P ts c.report.new.stations m _ _ (Ok c.in_ok-report-in-Report.field-0) e.answer c.report.ensures.stations) refl in
    record { step = o.step; words = o.words; refused = tt; promised = o.promised }

pub returns-in_err-sent-in-SendDelta : goal.returns-in_err-sent-in-SendDelta
returns-in_err-sent-in-SendDelta g c =
    let K = g.C.Crdt in
    let P = g.M.Mailbox in
    let k = g.met.C.Crdt in
    let ts = c.args.stations.now in
    let m = c.args.mailbox.now in
    let old = c.args.words.now in
    let e = c.in_err-sent-in-SendDelta.ensures in
    let p = err_from_is_err_and c.from_residual-in_err-sent-in-SendDelta.result c.from_residual-in_err-sent-in-SendDelta.ensures.1 in
    let o = owed K (laws_of K k.assoc k.comm k.idem k.neutral k.reads k.exact) _ _ _ _ _ _ old _ (ap (asked (length old)) c.in-SendDelta.is) (ap told (p.1 ∙ ap Err p.2)) (step_send_delta K P ts c.send_delta.new.stations m c.send_delta.new.mailbox _ (length old) (Err c.in_err-sent-in-SendDelta.field-0.0) e.answer c.send_delta.ensures.stations c.send_delta.ensures.mailbox e.refused.1) c.send_delta.ensures.words in
    record { step = o.step; words = o.words; refused = in_any_case _ e.refused.0 e.refused.1; promised = o.promised }

pub returns-in_ok-sent-in-SendDelta : goal.returns-in_ok-sent-in-SendDelta
returns-in_ok-sent-in-SendDelta g c =
    let K = g.C.Crdt in
    let P = g.M.Mailbox in
    let k = g.met.C.Crdt in
    let ts = c.args.stations.now in
    let m = c.args.mailbox.now in
    let old = c.args.words.now in
    let e = c.in_ok-sent-in-SendDelta.ensures in
    let o = owed K (laws_of K k.assoc k.comm k.idem k.neutral k.reads k.exact) _ _ _ _ _ _ old _ (ap (asked (length old)) c.in-SendDelta.is) refl (step_send_delta K P ts c.send_delta.new.stations m c.send_delta.new.mailbox _ (length old) (Ok c.in_ok-sent-in-SendDelta.sent) e.answer c.send_delta.ensures.stations c.send_delta.ensures.mailbox e.refused.1) c.send_delta.ensures.words in
    record { step = o.step; words = o.words; refused = tt; promised = o.promised }

pub returns-in_err-sent-in-SendFull : goal.returns-in_err-sent-in-SendFull
returns-in_err-sent-in-SendFull g c =
    let K = g.C.Crdt in
    let P = g.M.Mailbox in
    let k = g.met.C.Crdt in
    let ts = c.args.stations.now in
    let m = c.args.mailbox.now in
    let old = c.args.words.now in
    let e = c.in_err-sent-in-SendFull.ensures in
    let p = err_from_is_err_and c.from_residual-in_err-sent-in-SendFull.result c.from_residual-in_err-sent-in-SendFull.ensures.1 in
    let o = owed K (laws_of K k.assoc k.comm k.idem k.neutral k.reads k.exact) _ _ _ _ _ _ old _ (ap (asked (length old)) c.in-SendFull.is) (ap told (p.1 ∙ ap Err p.2)) (step_send_full K P ts m c.send_full.new.mailbox _ (length old) (Err c.in_err-sent-in-SendFull.field-0.0) e.answer c.send_full.ensures.mailbox e.refused) c.send_full.ensures.words in
    record { step = o.step; words = o.words; refused = in_any_case _ refl e.refused; promised = o.promised }

pub returns-in_ok-sent-in-SendFull : goal.returns-in_ok-sent-in-SendFull
returns-in_ok-sent-in-SendFull g c =
    let K = g.C.Crdt in
    let P = g.M.Mailbox in
    let k = g.met.C.Crdt in
    let ts = c.args.stations.now in
    let m = c.args.mailbox.now in
    let old = c.args.words.now in
    let e = c.in_ok-sent-in-SendFull.ensures in
    let o = owed K (laws_of K k.assoc k.comm k.idem k.neutral k.reads k.exact) _ _ _ _ _ _ old _ (ap (asked (length old)) c.in-SendFull.is) refl (step_send_full K P ts m c.send_full.new.mailbox _ (length old) (Ok c.in_ok-sent-in-SendFull.sent) e.answer c.send_full.ensures.mailbox e.refused) c.send_full.ensures.words in
    record { step = o.step; words = o.words; refused = tt; promised = o.promised }

pub returns-in_err-fetched-in-Fetch : goal.returns-in_err-fetched-in-Fetch
returns-in_err-fetched-in-Fetch g c =
    let K = g.C.Crdt in
    let P = g.M.Mailbox in
    let k = g.met.C.Crdt in
    let ts = c.args.stations.now in
    let m = c.args.mailbox.now in
    let old = c.args.words.now in
    let e = c.in_err-fetched-in-Fetch.ensures in
    let p = err_from_is_err_and c.from_residual-in_err-fetched-in-Fetch.result c.from_residual-in_err-fetched-in-Fetch.ensures.1 in
    let o = owed K (laws_of K k.assoc k.comm k.idem k.neutral k.reads k.exact) _ _ _ _ _ _ old _ (ap (asked (length old)) c.in-Fetch.is) (ap told (p.1 ∙ ap Err p.2)) (step_fetch K P ts c.fetch.new.stations m _ _ (length old) _ e.answer c.fetch.ensures.stations) c.fetch.ensures.words in
    record { step = o.step; words = o.words; refused = in_any_case _ e.refused refl; promised = o.promised }

pub returns-in_ok-fetched-in-Fetch : goal.returns-in_ok-fetched-in-Fetch
returns-in_ok-fetched-in-Fetch g c =
    let K = g.C.Crdt in
    let P = g.M.Mailbox in
    let k = g.met.C.Crdt in
    let ts = c.args.stations.now in
    let m = c.args.mailbox.now in
    let old = c.args.words.now in
    let e = c.in_ok-fetched-in-Fetch.ensures in
    let o = owed K (laws_of K k.assoc k.comm k.idem k.neutral k.reads k.exact) _ _ _ _ _ _ old _ (ap (asked (length old)) c.in-Fetch.is) refl (step_fetch K P ts c.fetch.new.stations m _ _ (length old) _ e.answer c.fetch.ensures.stations) c.fetch.ensures.words in
    record { step = o.step; words = o.words; refused = tt; promised = o.promised }

pub returns-in_err-discard-in-Discard : goal.returns-in_err-discard-in-Discard
returns-in_err-discard-in-Discard g c =
    let K = g.C.Crdt in
    let P = g.M.Mailbox in
    let k = g.met.C.Crdt in
    let ts = c.args.stations.now in
    let m = c.args.mailbox.now in
    let old = c.args.words.now in
    let e = c.in_err-discard-in-Discard.ensures in
    let p = err_from_is_err_and c.from_residual-in_err-discard-in-Discard.result c.from_residual-in_err-discard-in-Discard.ensures.1 in
    let o = owed K (laws_of K k.assoc k.comm k.idem k.neutral k.reads k.exact) _ _ _ _ _ _ old _ (ap (asked (length old)) c.in-Discard.is) (ap told (p.1 ∙ ap Err p.2)) (e.step) refl in
    record { step = o.step; words = o.words; refused = in_any_case _ refl e.refused; promised = o.promised }

pub returns-in_ok-discard-in-Discard : goal.returns-in_ok-discard-in-Discard
returns-in_ok-discard-in-Discard g c =
    let K = g.C.Crdt in
    let P = g.M.Mailbox in
    let k = g.met.C.Crdt in
    let ts = c.args.stations.now in
    let m = c.args.mailbox.now in
    let old = c.args.words.now in
    let e = c.in_ok-discard-in-Discard.ensures in
    let o = owed K (laws_of K k.assoc k.comm k.idem k.neutral k.reads k.exact) _ _ _ _ _ _ old _ (ap (asked (length old)) c.in-Discard.is) refl (e.step) refl in
    record { step = o.step; words = o.words; refused = tt; promised = o.promised }

pub returns-in_err-read-in-Read : goal.returns-in_err-read-in-Read
returns-in_err-read-in-Read g c =
    let K = g.C.Crdt in
    let P = g.M.Mailbox in
    let k = g.met.C.Crdt in
    let ts = c.args.stations.now in
    let m = c.args.mailbox.now in
    let old = c.args.words.now in
    let e = c.in_err-read-in-Read.ensures in
    let p = err_from_is_err_and c.from_residual-in_err-read-in-Read.result c.from_residual-in_err-read-in-Read.ensures.1 in
    let o = owed K (laws_of K k.assoc k.comm k.idem k.neutral k.reads k.exact) _ _ _ _ _ _ old _ (ap (asked (length old)) c.in-Read.is) (ap told (p.1 ∙ ap Err p.2)) (e.step) c.read.ensures.words in
    record { step = o.step; words = o.words; refused = in_any_case _ refl refl; promised = o.promised }

pub returns-in_ok-read-in-Read : goal.returns-in_ok-read-in-Read
returns-in_ok-read-in-Read g c =
    let K = g.C.Crdt in
    let P = g.M.Mailbox in
    let k = g.met.C.Crdt in
    let ts = c.args.stations.now in
    let m = c.args.mailbox.now in
    let old = c.args.words.now in
    let e = c.in_ok-read-in-Read.ensures in
    let o = owed K (laws_of K k.assoc k.comm k.idem k.neutral k.reads k.exact) _ _ _ _ _ _ old _ (ap (asked (length old)) c.in-Read.is) refl (e.step) c.read.ensures.words in
    record { step = o.step; words = o.words; refused = tt; promised = o.promised }

pub returns-in-Count : goal.returns-in-Count
returns-in-Count g c =
    let K = g.C.Crdt in
    let k = g.met.C.Crdt in
    let old = c.args.words.now in
    let y = cluster_of K g.M.Mailbox c.args.stations.now c.args.mailbox.now in
    let step : Step K y count (number c.from.result) y = subst (λ n. Step K y count (number n) y) (sym c.from.ensures) c.count.ensures.step in
    let o = owed K (laws_of K k.assoc k.comm k.idem k.neutral k.reads k.exact) _ _ _ _ _ _ old _ (ap (asked (length old)) c.in-Count.is) refl step refl in
    record { step = o.step; words = o.words; refused = tt; promised = o.promised }

pub returns-in-Fits : goal.returns-in-Fits
returns-in-Fits g c =
    let K = g.C.Crdt in
    let k = g.met.C.Crdt in
    let old = c.args.words.now in
    let o = owed K (laws_of K k.assoc k.comm k.idem k.neutral k.reads k.exact) _ _ _ _ _ _ old _ (ap (asked (length old)) c.in-Fits.is) refl c.fits.ensures.step refl in
    record { step = o.step; words = o.words; refused = tt; promised = o.promised }
