use Rattle.std.proofs.Common.{◌≡◌, suc, ◌+◌, ◌≤◌, min, ◌∷◌, ◌++◌, length, set, Ok, Err, sym, ap, ◌∙◌, arith, length-append, length-set}
use Rattle.std.proofs.lemmas.Result.{err_from_is_err_and, MatchResult-from_err}
use Rattle.words.specs.Refusals.{numbered}
use Rattle.words.specs.Writes.{write_leaves}
use Rattle.words.proofs.Writes.{answer_fits, length_leaves}
use Rattle.counters.specs.Counts.{clock_of}
use Rattle.wire.specs.Messages.{full, head_word, clock_written}
use Rattle.wire.proofs.Laws.{both_ways}
use Rattle.wire.proofs.Packs.{answered, leaves_headed, pack_on, pack_refused, pack_fits, pack_back}
use Rattle.messages.proofs.pack.pack_full.Goals as goal

pub returns : goal.returns
returns g c =
    let k = g.C.Crdt in
    let v = k.value c.args.record.now in
    let time = clock_of c.args.clock.now.counts in
    let a = clock_written time in
    let b = k.written v in
    let old = c.args.words.now in
    let m = full c.args.sender time v in
    let n = 1 + c.size.result + c.size-2.result in
    let h = c.in_ok-words.field-0.0 in
    let next = c.in_ok-next.next in
    let mid = c.write.new.words in
    let all = length-append a b in
    let same : min n 128 ≡ min (suc (length (a ++ b))) 128 = omega (arith, c.size.ensures, c.size-2.ensures) in
    let fit = pack_fits k m old 1 n h same c.in_ok-words.ensures in
    let size : n ≡ suc (length (a ++ b)) = fit.1 in
    let few : suc (length a + length b) ≤ 127 = omega (arith, fit.2, size) in
    let room : suc (length a + length b) ≤ length old = omega (arith, fit.3, size) in
    let head : h ≡ head_word 1 c.args.sender (suc (length (a ++ b))) = fit.4 ∙ ap (head_word 1 c.args.sender) size in
    let kept = length-set old 0 h in
    let next-is : next ≡ 1 + length a = answered next (1 + length a) (c.in_ok-next.ensures.answer ∙ answer_fits (length (set old 0 h)) 1 (length a) (omega arith) (omega arith)) in
    let mid-is : mid ≡ write_leaves (set old 0 h) 1 a = c.write.ensures.words in
    let long : length mid ≡ length old = ap length mid-is ∙ length_leaves (set old 0 h) 1 a (omega arith) (omega arith) ∙ kept in
    let on = pack_on k m old fit.0 in
    let answer = c.write-2.ensures.answer ∙ answer_fits _ _ (length b) (omega arith) (omega arith) ∙ ap Ok (omega arith) ∙ sym (on.0 ∙ answer_fits (length old) 0 (suc (length (a ++ b))) (omega arith) (omega arith)) in
    let words = c.write-2.ensures.words ∙ ap (λ ws. write_leaves ws next b) mid-is ∙ ap (λ j. write_leaves (write_leaves (set old 0 h) 1 a) j b) next-is ∙ leaves_headed old h a b few room ∙ ap (λ x. write_leaves old 0 (x ∷ (a ++ b))) head ∙ sym on.1 in
    record {
      answer = answer;
      words = words;
      back = pack_back k m (both_ways k g.met.C.Crdt.reads g.met.C.Crdt.exact) c.write-2.result old c.write-2.new.words tt answer words;
    }

pub returns-in_err-words : goal.returns-in_err-words
returns-in_err-words g c =
    let k = g.C.Crdt in
    let v = k.value c.args.record.now in
    let time = clock_of c.args.clock.now.counts in
    let a = clock_written time in
    let b = k.written v in
    let n = 1 + c.size.result + c.size-2.result in
    let all = length-append a b in
    let same : min n 128 ≡ min (suc (length (a ++ b))) 128 = omega (arith, c.size.ensures, c.size-2.ensures) in
    let p = err_from_is_err_and c.from_residual.result c.from_residual.ensures.1 in
    let q = pack_refused k (full c.args.sender time v) c.args.words.now 1 n _ same c.in_err-words.ensures in
    record {
      answer = ap numbered (p.1 ∙ ap Err p.2) ∙ q.0;
      words = q.1;
      back = MatchResult-from_err _ _ _ c.from_residual.ensures.0 (λ _. tt);
    }
