use Rattle.std.proofs.Common.{◌≡◌, ◌%◌, ◌^◌, ◌<◌, ltb, leb, IfSome, Ok, Err, sym, ap, ◌∙◌, subst, arith}
use Rattle.std.specs.Option.{ok_or}
use Rattle.std.proofs.lemmas.Result.{err_from_is_err_and}
use Rattle.std.proofs.lemmas.Bool.{lt-ltb, le-leb, and_from, true≢false}
use Rattle.words.specs.Readings.{found, rest, left, before}
use Rattle.wire.specs.Answers.{reading_answer}
use Rattle.wire.proofs.Steps.{at_fault}
use Rattle.wire.proofs.Ways.{found_ok, found_err, at_to, to_wrong, to_low, to_high, at_past}
use Rattle.wire.specs.Spans.{span_told}
use Rattle.wire.proofs.reading.read_span.Goals as goal

pub returns-in_err-to : goal.returns-in_err-to
returns-in_err-to c =
    let start = c.args.reader.now in
    let s = c.step.new.self in
    let p = err_from_is_err_and c.from_residual-in_err-to.result c.from_residual-in_err-to.ensures.1 in
    let from = found_ok start (found 3 (left start)) _ c.in_ok-from.ensures in
    let q = found_err s (found 4 (left s)) _ c.in_err-to.ensures in
    let at = at_to start s _ from c.step.ensures in
    let e = to_wrong start s _ from c.step.ensures q.0 q.1 in
    record {
      answer = ap span_told (p.1 ∙ ap Err p.2) ∙ ap Err (q.2 ∙ at_fault start s _ at q.0) ∙ sym (ap (reading_answer start) e);
      reader = at.stands ∙ sym (ap (λ x. before start (rest x)) e);
    }

pub returns-in_err-span : goal.returns-in_err-span
returns-in_err-span c =
    let start = c.args.reader.now in
    let s = c.step.new.self in
    let from = found_ok start (found 3 (left start)) _ c.in_ok-from.ensures in
    let to = found_ok s (found 4 (left s)) _ c.in_ok-to.ensures in
    let at = at_to start s _ from c.step.ensures in
    let f = c.in_ok-from.from.0 % 2 ^ 16 in
    let t = c.in_ok-to.to.0 % 2 ^ 16 in
    let e = to_low start s _ from c.step.ensures _ to (λ (h : f < t). true≢false (sym (and_from (ltb f t) (leb t 65535) (lt-ltb f t h) (le-leb t 65535 (omega arith))) ∙ sym c.new.ensures.some ∙ sym c.in_err-span.ensures.variant)) in
    let p = err_from_is_err_and c.from_residual-in_err-span.result c.from_residual-in_err-span.ensures.1 in
    let fault : Err c.in_err-span.field-0.0 ≡ Err c.fault.result = c.in_err-span.ensures.value ∙ ap (λ o. ok_or o c.fault.result) c.in_err-span.ensures.ok_part in
    record {
      answer = ap span_told (p.1 ∙ ap Err p.2 ∙ fault) ∙ ap Err (c.fault.ensures ∙ at_fault start s _ at 11) ∙ sym (ap (reading_answer start) e);
      reader = at.stands ∙ sym (ap (λ x. before start (rest x)) e);
    }

pub returns : goal.returns
returns c =
    let start = c.args.reader.now in
    let s = c.step.new.self in
    let from = found_ok start (found 3 (left start)) _ c.in_ok-from.ensures in
    let to = found_ok s (found 4 (left s)) _ c.in_ok-to.ensures in
    let span = c.in_ok-span.span in
    let f = c.in_ok-from.from.0 % 2 ^ 16 in
    let t = c.in_ok-to.to.0 % 2 ^ 16 in
    let ends = subst (λ o. IfSome o (λ s. (s.from ≡ f) × (s.to ≡ t))) c.in_ok-span.ensures.ok_part c.new.ensures.value in
    let high : f < t = omega (arith, span.rises.0, ends.0, ends.1) in
    let e = to_high start s _ from c.step.ensures _ to high in
    let at = at_past start s _ from c.step.ensures _ to c.step-2.new.self c.step-2.ensures in
    record {
      answer = ap (λ n. Ok (n, span.to)) ends.0 ∙ ap (λ n. Ok (f, n)) ends.1 ∙ sym (ap (reading_answer start) e);
      reader = at.stands ∙ sym (ap (λ x. before start (rest x)) e);
    }
