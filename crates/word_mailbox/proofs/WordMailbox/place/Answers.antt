use Rattle.std.proofs.Common.{arith}
use Rattle.word_mailbox.proofs.Holds.{at}
use Rattle.word_mailbox.proofs.WordMailbox.place.Goals as goal

pub offset_bounds-self-place : goal.offset_bounds-self-place
offset_bounds-self-place c =
    let t = c.args.self.now in
    let s = at t c.loop-i._i (omega arith) c.loop-i.place c.loop-i.invariant in
    omega (arith, s.within, t.small)

pub bounds-self-place : goal.bounds-self-place
bounds-self-place c =
    let t = c.args.self.now in
    let s = at t c.loop-i._i (omega arith) c.loop-i.place c.loop-i.invariant in
    omega (arith, s.within, t.room)

pub overflow_add-place-in-loop-i : goal.overflow_add-place-in-loop-i
overflow_add-place-in-loop-i c =
    let t = c.args.self.now in
    let s = at t c.loop-i._i (omega arith) c.loop-i.place c.loop-i.invariant in
    omega (arith, s.within, s.size, t.small)

pub loop-i-preserved : goal.loop-i-preserved
loop-i-preserved c =
    let t = c.args.self.now in
    let s = at t c.loop-i._i (omega arith) c.loop-i.place c.loop-i.invariant in
    omega (arith, s.size, s.next)
