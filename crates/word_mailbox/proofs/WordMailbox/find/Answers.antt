use Rattle.std.proofs.Common.{arith}
use Rattle.word_mailbox.proofs.Holds.{At, at}
use Rattle.word_mailbox.proofs.WordMailbox.find.Goals as goal
use Rattle.word_mailbox.proofs.WordMailbox.find.Goals.{After-place-start}

-- what stands where the page head of message k is found
there : (c : goal.After-place-start) → At c.args.self.now c.args.k c.place-start.result
there c = at c.args.self.now c.args.k (omega arith) c.place-start.result c.place-start.ensures

pub offset_bounds-self-start : goal.offset_bounds-self-start
offset_bounds-self-start c = let s = there c in omega arith

pub bounds-self-start : goal.bounds-self-start
bounds-self-start c = let s = there c in omega arith

pub overflow_add-result : goal.overflow_add-result
overflow_add-result c = let s = there c in omega arith

pub overflow_add-result-2 : goal.overflow_add-result-2
overflow_add-result-2 c = let s = at c.args.self.now c.args.k (omega arith) c.place-start.result c.place-start.ensures in omega arith

pub returns : goal.returns
returns c =
    let s = at c.args.self.now c.args.k (omega arith) c.place-start.result c.place-start.ensures in
    record { start = c.place-start.ensures; end = omega (arith, s.next, s.size); size = omega (arith, s.size); within = omega (arith, s.within, s.size) }
