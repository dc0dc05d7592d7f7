use Rattle.std.proofs.Common.{◌≡◌, suc, ◌+◌, ◌≤◌, min, ◌∷◌, length, set, Ok, sym, ap, ◌∙◌, arith, length-set}
use Rattle.words.specs.Words.{word_of}
use Rattle.words.specs.Writes.{write_leaves}
use Rattle.words.proofs.Writes.{answer_fits}
use Rattle.wire.specs.Messages.{delta, head_word}
use Rattle.wire.proofs.Laws.{both_ways}
use Rattle.wire.proofs.Packs.{leaves_three, pack_on, pack_fits, pack_back}
use Rattle.messages.proofs.pack.pack_delta.Goals as goal

pub returns : goal.returns
returns g c =
    let k = g.C.Crdt in
    let v = k.value c.args.record.now in
    let b = k.written v in
    let old = c.args.words.now in
    let span = c.args.span in
    let m = delta c.args.sender span.from span.to v in
    let n = 3 + c.size-size.result in
    let h = c.in_ok-words.field-0.0 in
    let f = c.new.result.0 in
    let t = c.new-2.result.0 in
    let same : min n 128 ≡ min (suc (suc (suc (length b)))) 128 = omega (arith, c.size-size.ensures) in
    let fit = pack_fits k m old 2 n h same c.in_ok-words.ensures in
    let size : n ≡ suc (suc (suc (length b))) = fit.1 in
    let few : 3 + length b ≤ 127 = omega (arith, fit.2, size) in
    let room : 3 + length b ≤ length old = omega (arith, fit.3, size) in
    let head : h ≡ head_word 2 c.args.sender (suc (suc (suc (length b)))) = fit.4 ∙ ap (head_word 2 c.args.sender) size in
    let long : length (set (set (set old 0 h) 1 f) 2 t) ≡ length old = length-set (set (set old 0 h) 1 f) 2 t ∙ length-set (set old 0 h) 1 f ∙ length-set old 0 h in
    let on = pack_on k m old fit.0 in
    let answer = c.write.ensures.answer ∙ answer_fits _ 3 (length b) (omega arith) (omega arith) ∙ ap Ok (omega arith) ∙ sym (on.0 ∙ answer_fits (length old) 0 (suc (suc (suc (length b)))) (omega arith) (omega arith)) in
    let words = c.write.ensures.words ∙ leaves_three old h f t b few room ∙ ap (λ x. write_leaves old 0 (x ∷ (f ∷ (t ∷ b)))) head ∙ ap (λ x. write_leaves old 0 (head_word 2 c.args.sender (suc (suc (suc (length b)))) ∷ (x ∷ (t ∷ b)))) c.new.ensures ∙ ap (λ x. write_leaves old 0 (head_word 2 c.args.sender (suc (suc (suc (length b)))) ∷ (word_of 3 span.from ∷ (x ∷ b)))) c.new-2.ensures ∙ sym on.1 in
    record {
      answer = answer;
      words = words;
      back = pack_back k m (both_ways k g.met.C.Crdt.reads g.met.C.Crdt.exact) c.write.result old c.write.new.words span.rises answer words;
    }
