use Rattle.std.proofs.Common.{refl, arith}
use Rattle.layouts.proofs.Calls.{discard_past, discard_there}
use Rattle.layouts.proofs.Rows.{discard_none}
use Rattle.word_mailbox.specs.Stores.{memory_of, waiting_of}
use Rattle.word_mailbox.proofs.Holds.{held_is, close_waiting, close_sound, close_memory}
use Rattle.word_mailbox.proofs.calls.WordMailboxMailbox.discard.Goals as goal

pub returns : goal.returns
returns c =
    let t = c.args.self.now in
    let k = c.args.k in
    let f = c.find-found in
    let w = c.copy_within.ensures.after in
    let r = discard_there (waiting_of t) k _ (omega (arith, held_is t, c.if-k-self.false)) (close_waiting t k c.if-k-self.false f.result.start f.result.end _ f.ensures.start refl f.ensures.size _ w) in
    record {
      answer = r.0;
      after = r.1;
      refused = tt;
      memory = close_memory t k c.if-k-self.false f.result.start f.result.end _ f.ensures.start refl f.ensures.size _ w;
      lender = refl;
    }

pub returns-then-k-self : goal.returns-then-k-self
returns-then-k-self c =
    let t = c.args.self.now in
    let r = discard_past (waiting_of t) c.args.k (omega (arith, held_is t, c.if-k-self.true)) in
    record { answer = r.0; after = r.1; refused = refl; memory = discard_none c.args.k (waiting_of t) (memory_of t) (omega (arith, held_is t, c.if-k-self.true)); lender = refl }

pub invariant_of-self-clause-messages : goal.invariant_of-self-clause-messages
invariant_of-self-clause-messages c =
    let f = c.find-found in
    close_sound c.args.self.now c.args.k c.if-k-self.false f.result.start f.result.end _ f.ensures.start refl f.ensures.size _ c.copy_within.ensures.after
