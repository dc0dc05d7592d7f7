use Rattle.std.proofs.Common.{length, sym, arith}
use Rattle.std.proofs.lemmas.List.{length-set}
use Rattle.layouts.proofs.Calls.{put_there}
use Rattle.word_mailbox.specs.Stores.{waiting_of, takes_of}
use Rattle.word_mailbox.proofs.Holds.{held_few, takes_room, put_waiting, put_sound, put_room, put_memory}
use Rattle.word_mailbox.proofs.calls.WordMailboxMailbox.put.Goals as goal

pub returns-clause-memory : goal.returns-clause-memory
returns-clause-memory c =
    put_memory c.args.self.now c.args.message.now _ _ _ (sym c.if-not-fits.ensures) c.new-head.ensures (omega arith) cc

pub returns-clause-after : goal.returns-clause-after
returns-clause-after c =
    let t = c.args.self.now in
    let m = c.args.message.now in
    let f = sym c.if-not-fits.ensures in
    (put_there (takes_of t (length m)) m (waiting_of t) _ (sym c.if-not-is_sized.ensures) f (put_waiting t m _ _ _ f c.new-head.ensures (omega arith) cc)).1

pub bounds-self-used : goal.bounds-self-used
bounds-self-used c = let r = takes_room c.args.self.now (length c.args.message.now) (sym c.if-not-fits.ensures) in omega (arith, r.1)

pub slice_bounds-rest-end : goal.slice_bounds-rest-end
slice_bounds-rest-end c =
    let r = takes_room c.args.self.now (length c.args.message.now) (sym c.if-not-fits.ensures) in
    simp length-set (omega (arith, r.1))

pub overflow_add-self-3 : goal.overflow_add-self-3
overflow_add-self-3 c = omega (arith, held_few c.args.self.now)

pub invariant_of-self-2 : goal.invariant_of-self-2
invariant_of-self-2 c =
    let t = c.args.self.now in
    let m = c.args.message.now in
    let f = sym c.if-not-fits.ensures in record {
      room = put_room t m _ _ _ f c.new-head.ensures (omega arith) cc;
      small = let r = takes_room t (length m) f in omega (arith, r);
      messages = put_sound t m _ _ _ f c.new-head.ensures (omega arith) cc;
    }
