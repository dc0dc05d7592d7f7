use Rattle.std.proofs.Common.{◌≡◌, ◌%◌, ◌^◌, set, sym, ap, ◌∙◌, arith}
use Rattle.words.specs.Words.{word_of}
use Rattle.words.proofs.Writes.{answer_fits, leaves_one}
use Rattle.registers.proofs.max_register.MaxRegisterCrdt.write.Goals as goal

pub returns : goal.returns
returns c =
    let stored = c.args.self.now.stored in
    let word : c.new.result.0 ≡ word_of 8 (stored % 2 ^ 28) = c.new.ensures ∙ (let e : word_of 8 stored ≡ word_of 8 (stored % 2 ^ 28) = omega arith in e) in
    record {
      answer = sym (answer_fits _ _ 1 (omega arith) (omega arith));
      words = ap (set c.args.words.now c.args.place) word ∙ leaves_one _ _ _ c.if-place-words.false;
    }
