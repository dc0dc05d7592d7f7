use Rattle.std.proofs.lemmas.Bool.{ltb-true, ltb-false}
use Rattle.scripts.specs.Tokens.{left}
use Rattle.scripts.proofs.Cuts.{next_none, next_word, yields, progresses}
use Rattle.scripts.proofs.tokens.TokensIterator.next.Goals as goal

pub returns-clause-steps : goal.returns-clause-steps
returns-clause-steps c =
    rw c.then_some.ensures
    (yields _ _ _ _
    (λ e. next_word c.args.self.now.line.now c.blanks-start.result c.letters-len.result c.blanks-start.ensures.front c.blanks-start.ensures.bound c.letters-len.ensures.bound c.letters-len.ensures.ends (ltb-true _ _ e) c.letters-len.ensures.front)
    (λ e. next_none c.args.self.now.line.now c.blanks-start.result c.letters-len.result c.blanks-start.ensures.front c.blanks-start.ensures.bound c.letters-len.ensures.bound c.letters-len.ensures.ends (ltb-false _ _ e) c.blanks-start.ensures.ends))

pub returns-clause-goes : goal.returns-clause-goes
returns-clause-goes c = progresses _ left _ _ _ tt (returns-clause-steps c)
