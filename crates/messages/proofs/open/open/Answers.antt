use Rattle.std.proofs.Common.{◌≡◌, ◌+◌, ◌-◌, ◌≤◌, length, Err, sym, refl, ap, ◌∙◌, arith, rules}
use Rattle.std.proofs.lemmas.Result.{err_from_is_err_and}
use Rattle.words.specs.declared.fault.Layer.TheVariants as layer
use Rattle.words.specs.declared.reader.Reader.{Reader}
use Rattle.words.specs.Readings.{rest, before}
use Rattle.wire.specs.Openings.{opening}
use Rattle.wire.specs.Answers.{open_answer}
use Rattle.wire.proofs.Steps.{fault_front}
use Rattle.wire.proofs.Ways.{header_ok, header_err, end_low, opened_full, opened_delta, opened_words}
use Rattle.messages.specs.Headers.{header_parts, open_told}
use Rattle.messages.proofs.open.open.Goals as goal

pub returns-in_err-header-clause-answer : goal.returns-in_err-header-clause-answer
returns-in_err-header-clause-answer c =
    let ws = c.args.words.now in
    let start : Reader = record { words = c.args.words; place = 0; layer = layer.Message } in
    let p = err_from_is_err_and c.from_residual.result c.from_residual.ensures.1 in
    let q = header_err start (opening ws) _ c.in_err-header.ensures.answer in
    ap open_told (p.1 ∙ ap Err p.2) ∙ ap Err (q.3 ∙ fault_front start q.0 q.1 refl) ∙ sym (ap (open_answer ws) q.2)

pub slice_bounds-result-count : goal.slice_bounds-result-count
slice_bounds-result-count c =
    let ws = c.args.words.now in
    let start : Reader = record { words = c.args.words; place = 0; layer = layer.Message } in
    let q = header_ok start (opening ws) _ c.in_ok-header.ensures.answer in
    let at : c.read_header.new.reader.place ≡ 0 + length ws - length q.1 = ap (λ (r : Reader). r.place) (c.read_header.ensures.reader ∙ ap (λ x. before start (rest x)) q.2) in
    let low : 1 ≤ c.read_header.new.reader.place = end_low ws q.0 q.1 q.2 c.read_header.new.reader.place (omega arith) in
    omega (arith, low)

pub slice_bounds-result-start : goal.slice_bounds-result-start
slice_bounds-result-start c =
    let ws = c.args.words.now in
    let start : Reader = record { words = c.args.words; place = 0; layer = layer.Message } in
    let q = header_ok start (opening ws) _ c.in_ok-header.ensures.answer in
    let at : c.read_header.new.reader.place ≡ 0 + length ws - length q.1 = ap (λ (r : Reader). r.place) (c.read_header.ensures.reader ∙ ap (λ x. before start (rest x)) q.2) in
    let low : 1 ≤ c.read_header.new.reader.place = end_low ws q.0 q.1 q.2 c.read_header.new.reader.place (omega arith) in
    search rules

pub returns-in-Full-clause-answer : goal.returns-in-Full-clause-answer
returns-in-Full-clause-answer c =
    let ws = c.args.words.now in
    let start : Reader = record { words = c.args.words; place = 0; layer = layer.Message } in
    let q = header_ok start (opening ws) _ c.in_ok-header.ensures.answer in
    let b = ap header_parts (sym c.in-Full.is) ∙ q.3 in
    let end = c.read_header.new.reader.place in
    let at : end ≡ 0 + length ws - length q.1 = ap (λ (r : Reader). r.place) (c.read_header.ensures.reader ∙ ap (λ x. before start (rest x)) q.2) in
    opened_full ws q.0 q.1 q.2 end (omega arith) c.in-Full.sender b

pub returns-in-Full-clause-whole : goal.returns-in-Full-clause-whole
returns-in-Full-clause-whole c = opened_words c.args.words.now _ (returns-in-Full-clause-answer c)

pub returns-in-Delta-clause-answer : goal.returns-in-Delta-clause-answer
returns-in-Delta-clause-answer c =
    let ws = c.args.words.now in
    let start : Reader = record { words = c.args.words; place = 0; layer = layer.Message } in
    let q = header_ok start (opening ws) _ c.in_ok-header.ensures.answer in
    let b = ap header_parts (sym c.in-Delta.is) ∙ q.3 in
    let span = c.in-Delta.span in
    let end = c.read_header.new.reader.place in
    let at : end ≡ 0 + length ws - length q.1 = ap (λ (r : Reader). r.place) (c.read_header.ensures.reader ∙ ap (λ x. before start (rest x)) q.2) in
    opened_delta ws q.0 q.1 q.2 end (omega arith) c.in-Delta.sender span.from span.to b

pub returns-in-Delta-clause-whole : goal.returns-in-Delta-clause-whole
returns-in-Delta-clause-whole c = opened_words c.args.words.now _ (returns-in-Delta-clause-answer c)
