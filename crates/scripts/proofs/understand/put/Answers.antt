use Rattle.std.proofs.Common.{Ok, sym, refl, ap, ◌∙◌, arith, length-set}
use Rattle.scripts.specs.declared.command.Command.TheVariants as command
use Rattle.scripts.specs.Tokens.{left}
use Rattle.scripts.proofs.Puts.{put_on, put_start, put_end, given, refused, put_more, put_full, words_more, words_end, words_wrong, words_full}
use Rattle.scripts.proofs.understand.put.Goals as goal

pub loop-token-init : goal.loop-token-init
loop-token-init c = (omega arith, put_start (left c.args.tokens.now), refl, c.told-words)

-- the words left are this one and those after it
pub loop-token-preserved : goal.loop-token-preserved
loop-token-preserved c =
    let s = c.in-Some.ensures.steps in
    let w = sym c.hexadecimal.ensures ∙ given c.hexadecimal.result _ _ (sym c.ok_or.ensures.value ∙ c.in_ok-word.was) in (
      omega arith,
      sym (put_more c.loop-token.len c.in-Some.token.now (left c.next.new.self) c.in_ok-word.word w) ∙ ap (put_on c.loop-token.len) (sym s) ∙ c.loop-token.invariant.1,
      words_more c.loop-token.len c.in-Some.token.now (left c.next.new.self) c.in_ok-word.word c.loop-token.words (omega arith) w ∙ (rw s at c.loop-token.invariant.2),
      simp length-set c.loop-token.invariant.3,
    )

pub returns-in_err-word-clause-words : goal.returns-in_err-word-clause-words
returns-in_err-word-clause-words c =
    let w = sym c.hexadecimal.ensures ∙ refused c.hexadecimal.result _ _ (sym c.ok_or.ensures.value ∙ c.in_err-word.was) in
    sym (words_wrong c.loop-token.len c.in-Some.token.now (left c.next.new.self) c.loop-token.words w) ∙ (rw c.in-Some.ensures.steps at c.loop-token.invariant.2)

pub returns-then-len-eq255 : goal.returns-then-len-eq255
returns-then-len-eq255 c =
    let s = c.in-Some.ensures.steps in
    record {
      answer = sym c.loop-token.invariant.1 ∙ ap (put_on c.loop-token.len) s ∙ put_full c.loop-token.len c.in-Some.token.now (left c.next.new.self) (omega arith);
      words = sym (words_full c.loop-token.len c.in-Some.token.now (left c.next.new.self) c.loop-token.words (omega arith)) ∙ (rw s at c.loop-token.invariant.2);
    }

pub returns : goal.returns
returns c =
    let s = c.in_default.ensures.steps in
    record {
      answer = sym c.loop-token.invariant.1 ∙ ap (put_on c.loop-token.len) s.0 ∙ put_end c.loop-token.len (omega arith) ∙ ap (λ l. Ok (command.Put c.loop-token.len, l)) (sym s.1);
      words = sym (words_end c.loop-token.len c.loop-token.words) ∙ (rw s.0 at c.loop-token.invariant.2);
    }
