use Rattle.std.proofs.Common.{refl, arith}
use Rattle.layouts.proofs.Calls.{discard_past, discard_there}
use Rattle.page_mailbox.specs.Stores.{waiting_of}
use Rattle.page_mailbox.proofs.Holds.{room, held_few, held_is, close_sound, close_extent, close_waiting, close_memory, discard_none}
use Rattle.page_mailbox.proofs.calls.PageMailboxMailbox.discard.Goals as goal

pub returns : goal.returns
returns c =
    let t = c.args.self.now in
    let k = c.args.k in
    let r = discard_there (waiting_of t) k _ (omega (arith, held_is t, c.if-k-self.false)) (close_waiting t k _ c.if-k-self.false c.close.ensures) in
    record { answer = r.0; after = r.1; refused = tt; pages = refl; memory = close_memory t k _ c.if-k-self.false c.close.ensures; lender = refl }

pub returns-then-k-self : goal.returns-then-k-self
returns-then-k-self c =
    let t = c.args.self.now in
    let r = discard_past (waiting_of t) c.args.k (omega (arith, held_is t, c.if-k-self.true)) in
    record { answer = r.0; after = r.1; refused = refl; pages = refl; memory = discard_none t c.args.k c.if-k-self.true; lender = refl }

pub close-requires-clause-room : goal.close-requires-clause-room
close-requires-clause-room c = let t = c.args.self.now in omega (arith, room t, held_few t)

-- with no pages in use the bytes are free
pub invariant_of-self : goal.invariant_of-self
invariant_of-self c = record { messages = refl; extent = refl }

pub invariant_of-self-2 : goal.invariant_of-self-2
invariant_of-self-2 c =
    let t = c.args.self.now in
    record { messages = close_sound t c.args.k _ c.if-k-self.false c.close.ensures; extent = close_extent t c.args.k _ c.if-k-self.false c.close.ensures }
