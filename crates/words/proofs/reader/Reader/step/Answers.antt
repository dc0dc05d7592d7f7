use Rattle.words.proofs.Walks.{step_taken, step_left}
use Rattle.words.proofs.reader.Reader.step.Goals as goal

pub returns-then-self : goal.returns-then-self
returns-then-self c = step_taken c.args.self.now c.if-self.true

pub returns-else-self : goal.returns-else-self
returns-else-self c = step_left c.args.self.now c.if-self.false
