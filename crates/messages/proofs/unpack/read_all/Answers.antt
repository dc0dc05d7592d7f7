use Rattle.std.proofs.Common.{◌≡◌, ◌-◌, length, Ok, Err, sym, refl, ap, ◌∙◌, arith}
use Rattle.std.proofs.lemmas.Result.{err_from_is_err_and}
use Rattle.words.specs.declared.fault.Layer.TheVariants as layer
use Rattle.words.specs.declared.reader.Reader.{Reader}
use Rattle.words.specs.Readings.{read_or, left, fault_at}
use Rattle.wire.specs.Openings.{opening}
use Rattle.wire.specs.Answers.{unpack_answer, clock_opened, clock_unpacked, record_unpacked}
use Rattle.wire.proofs.Steps.{at_before, fault_front}
use Rattle.wire.proofs.Ways.{header_err, load_ok, load_err, not_opened, record_wrong, record_left, record_read, for_record, stands_at_record, clock_with, record_with, bare_with}
use Rattle.messages.specs.Headers.{header_told}
use Rattle.messages.proofs.unpack.read_all.Goals as goal

pub returns-in_err-header-clause-answer : goal.returns-in_err-header-clause-answer
returns-in_err-header-clause-answer g c =
    let k = g.C.Crdt in
    let ws = c.args.words.now in
    let start : Reader = record { words = c.args.words; place = 0; layer = layer.Message } in
    let p = err_from_is_err_and c.from_residual.result c.from_residual.ensures.1 in
    let q = header_err start (opening ws) _ c.in_err-header.ensures.answer in
    ap header_told (p.1 ∙ ap Err p.2) ∙ ap Err (q.3 ∙ fault_front start q.0 q.1 refl) ∙ sym (ap unpack_answer (not_opened ws k.reading q.0 q.1 q.2))

pub returns-in_err-end-clause-answer : goal.returns-in_err-end-clause-answer
returns-in_err-end-clause-answer g c =
    let k = g.C.Crdt in
    let ws = c.args.words.now in
    let start : Reader = record { words = c.args.words; place = 0; layer = layer.Message } in
    let s = for_record c.read_header.new.reader in
    let h = stands_at_record start c.read_header.new.reader refl _ c.in_ok-header.ensures.answer c.read_header.ensures.reader in
    let p = err_from_is_err_and c.from_residual-in_err-end.result c.from_residual-in_err-end.ensures.1 in
    let l = load_err s (k.reading (left s)) _ c.in_err-end.ensures.answer in
    let u = record_wrong ws k.reading h.message h.more h.opens l.0 l.1 (ap k.reading (sym h.here.sees) ∙ l.2) in
    ap header_told (p.1 ∙ ap Err p.2) ∙ ap Err (l.3 ∙ ap (λ r. fault_at r l.0) (at_before (for_record start) s h.more h.here l.1) ∙ fault_front (for_record start) l.0 l.1 refl) ∙ sym (ap unpack_answer u)

pub returns-then-end-words-clause-answer : goal.returns-then-end-words-clause-answer
returns-then-end-words-clause-answer g c =
    let k = g.C.Crdt in
    let ws = c.args.words.now in
    let start : Reader = record { words = c.args.words; place = 0; layer = layer.Message } in
    let s = for_record c.read_header.new.reader in
    let h = stands_at_record start c.read_header.new.reader refl _ c.in_ok-header.ensures.answer c.read_header.ensures.reader in
    let l = load_ok s (k.reading (left s)) _ c.in_ok-end.ensures.answer in
    let u = record_left ws k.reading h.message h.more h.opens l.0 l.1 (ap k.reading (sym h.here.sees) ∙ l.2) (λ (e : length ws - length l.1 ≡ length ws). let p : c.in_ok-end.end ≡ length ws = l.3 ∙ h.place_after l.1 ∙ e in omega (arith, c.if-end-words.true, p)) in
    ap Err c.plain.ensures ∙ sym (ap unpack_answer u)

pub returns : goal.returns
returns g c =
    let k = g.C.Crdt in
    let ws = c.args.words.now in
    let start : Reader = record { words = c.args.words; place = 0; layer = layer.Message } in
    let s = for_record c.read_header.new.reader in
    let h = stands_at_record start c.read_header.new.reader refl _ c.in_ok-header.ensures.answer c.read_header.ensures.reader in
    let m = h.message in
    let l = load_ok s (k.reading (left s)) _ c.in_ok-end.ensures.answer in
    let v = l.0 in
    let u = record_read ws k.reading m h.more h.opens v l.1 (ap k.reading (sym h.here.sees) ∙ l.2) (let p : c.in_ok-end.end ≡ length ws - length l.1 = l.3 ∙ h.place_after l.1 in omega (arith, c.if-end-words.false, p)) in
    record {
      answer = ap Ok (h.header ∙ bare_with m v) ∙ sym (ap unpack_answer u);
      clock = c.read_header.ensures.clock ∙ ap clock_opened h.opens ∙ clock_with m v ∙ sym (ap clock_unpacked u);
      value = c.load.ensures.after ∙ ap (read_or k.least) l.2 ∙ record_with m v ∙ sym (ap (record_unpacked k.least) u);
    }
