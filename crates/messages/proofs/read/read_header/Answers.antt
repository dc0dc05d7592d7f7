use Rattle.std.proofs.Common.{Ok, Err, sym, ap, ◌∙◌}
use Rattle.std.proofs.lemmas.Result.{err_from_is_err_and}
use Rattle.words.specs.Readings.{rest, left, before}
use Rattle.words.specs.Words.{index}
use Rattle.wire.specs.Messages.{full, delta}
use Rattle.wire.specs.Openings.{head_found, span_reading, full_from, delta_from, clock_reading}
use Rattle.wire.specs.Answers.{header_answer, clock_opened}
use Rattle.wire.proofs.Steps.{at_before}
use Rattle.wire.proofs.Ways.{found_ok, at_body, as_full, as_delta, rest_mapped, full_broken, full_done, delta_broken, delta_done, full_clock, delta_clock}
use Rattle.messages.specs.Headers.{header_told}
use Rattle.messages.proofs.read.read_header.Goals as goal

pub returns-in_err-load : goal.returns-in_err-load
returns-in_err-load c =
    let start = c.args.reader.now in
    let s = c.step.new.self in
    let w = c.in_ok-word.word.0 in
    let x = clock_reading (left s) in
    let head = found_ok start (head_found (left start)) w c.in_ok-word.ensures in
    let at = at_body start s w head c.step.ensures in
    let e = as_full start s w head c.step.ensures (sym c.if-is.ensures) in
    let p = err_from_is_err_and c.from_residual-in_err-load.result c.from_residual-in_err-load.ensures.1 in
    record {
      answer = ap header_told (p.1 ∙ ap Err p.2) ∙ full_broken start s _ at (index w) _ x c.in_err-load.ensures.answer ∙ sym (ap (header_answer start) e);
      clock = c.load.ensures.after ∙ full_clock (index w) x ∙ sym (ap clock_opened e);
      reader = c.load.ensures.reader ∙ at_before start s _ at (rest x) ∙ sym (ap (before start) (ap rest e ∙ rest_mapped (full_from (index w)) x));
    }

pub returns-then-is : goal.returns-then-is
returns-then-is c =
    let start = c.args.reader.now in
    let s = c.step.new.self in
    let w = c.in_ok-word.word.0 in
    let x = clock_reading (left s) in
    let head = found_ok start (head_found (left start)) w c.in_ok-word.ensures in
    let at = at_body start s w head c.step.ensures in
    let e = as_full start s w head c.step.ensures (sym c.if-is.ensures) in
    record {
      answer = ap (λ i. Ok (full i tt tt)) c.index-sender.ensures.value ∙ full_done start s _ at (index w) _ x c.in_ok-load.ensures.answer ∙ sym (ap (header_answer start) e);
      clock = c.load.ensures.after ∙ full_clock (index w) x ∙ sym (ap clock_opened e);
      reader = c.load.ensures.reader ∙ at_before start s _ at (rest x) ∙ sym (ap (before start) (ap rest e ∙ rest_mapped (full_from (index w)) x));
    }

pub returns-in_err-span : goal.returns-in_err-span
returns-in_err-span c =
    let start = c.args.reader.now in
    let s = c.step.new.self in
    let w = c.in_ok-word.word.0 in
    let x = span_reading (left s) in
    let head = found_ok start (head_found (left start)) w c.in_ok-word.ensures in
    let at = at_body start s w head c.step.ensures in
    let e = as_delta start s w head c.step.ensures (sym c.if-is.ensures) in
    let p = err_from_is_err_and c.from_residual-in_err-span.result c.from_residual-in_err-span.ensures.1 in
    record {
      answer = ap header_told (p.1 ∙ ap Err p.2) ∙ delta_broken start s _ at (index w) _ x c.in_err-span.ensures.answer ∙ sym (ap (header_answer start) e);
      clock = c.bottom.ensures ∙ delta_clock (index w) x ∙ sym (ap clock_opened e);
      reader = c.read_span.ensures.reader ∙ at_before start s _ at (rest x) ∙ sym (ap (before start) (ap rest e ∙ rest_mapped (delta_from (index w)) x));
    }

pub returns : goal.returns
returns c =
    let start = c.args.reader.now in
    let s = c.step.new.self in
    let w = c.in_ok-word.word.0 in
    let x = span_reading (left s) in
    let head = found_ok start (head_found (left start)) w c.in_ok-word.ensures in
    let at = at_body start s w head c.step.ensures in
    let e = as_delta start s w head c.step.ensures (sym c.if-is.ensures) in
    let span = c.in_ok-span.span in
    record {
      answer = ap (λ i. Ok (delta i span.from span.to tt)) c.index-sender.ensures.value ∙ delta_done start s _ at (index w) (span.from, span.to) x c.in_ok-span.ensures.answer ∙ sym (ap (header_answer start) e);
      clock = c.bottom.ensures ∙ delta_clock (index w) x ∙ sym (ap clock_opened e);
      reader = c.read_span.ensures.reader ∙ at_before start s _ at (rest x) ∙ sym (ap (before start) (ap rest e ∙ rest_mapped (delta_from (index w)) x));
    }
