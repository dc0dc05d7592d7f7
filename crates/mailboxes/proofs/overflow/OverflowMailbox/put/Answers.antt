use Rattle.std.proofs.Common.{◌≡◌, true, false, length, sym, refl, ap, ◌∙◌, arith}
use Rattle.std.proofs.lemmas.Bool.{both_ways}
use Rattle.mailboxes.specs.Mailboxes.{counted, put_answer}
use Rattle.mailboxes.specs.Overflows.{to_first, spills}
use Rattle.mailboxes.proofs.Spills.{kept_at, first_takes, first_full, second_waits, spills_first, spills_second, put_first, put_second, put_first_leaves, put_second_leaves}
use Rattle.mailboxes.proofs.overflow.OverflowMailbox.put.Goals as goal
use Rattle.mailboxes.proofs.overflow.OverflowMailbox.put.Goals.{else-count-eq0-via-then-count-eq0+else-fits, else-count-eq0-via-else-count-eq0}

pub returns-then-fits : goal.returns-then-fits
returns-then-fits g c =
    let m = c.args.message.now in
    let a = c.args.self.now.first in
    let b = c.args.self.now.second in
    let f = g.A.Mailbox.takes a (length m) in
    let s = g.B.Mailbox.takes b (length m) in
    let fs = g.A.Mailbox.waiting a in
    let ss = g.B.Mailbox.waiting b in
    let empty : counted ss ≡ 0 = omega (arith, c.count.ensures, c.if-count-eq0.true) in
    let ft : f ≡ true = sym c.if-fits.ensures in
    let here : to_first f ss ≡ true = first_takes f ss empty ft in
    let e : spills f s ss ≡ f = spills_first f s ss here ∙ sym ft in
    let parts = put_first f s (to_first f ss) fs ss m here ft in
    record {
      answer = c.put.ensures.answer ∙ ap (λ x. put_answer x (length m)) (sym e);
      after = rw (e, c.put.ensures.after) (put_first_leaves f m fs ss empty);
      refused = kept_at (λ x. record { first = x; second = b }) c.put.result a c.put.new.self c.put.ensures.refused;
      first = c.put.ensures.after ∙ parts.0;
      second = parts.1;
      others = (λ _. refl, λ other. absurd (both_ways (to_first f ss) other here));
    }

pub returns-else-count-eq0 : goal.returns-else-count-eq0
returns-else-count-eq0 g c =
    let m = c.args.message.now in
    let a = c.args.self.now.first in
    let b = c.args.self.now.second in
    let f = g.A.Mailbox.takes a (length m) in
    let s = g.B.Mailbox.takes b (length m) in
    let fs = g.A.Mailbox.waiting a in
    let ss = g.B.Mailbox.waiting b in
    let there : to_first f ss ≡ false = elim c.else-count-eq0.branch [
      | else-count-eq0-via-then-count-eq0+else-fits w ↦ first_full f ss (sym w.if-fits.ensures)
      | else-count-eq0-via-else-count-eq0 w ↦ second_waits f ss (λ z. omega (arith, c.count.ensures, w.if-count-eq0.false, z))
    ] in
    let e : spills f s ss ≡ s = spills_second f s ss there in
    let parts = put_second f s (to_first f ss) fs ss m there in
    record {
      answer = c.put-else-count-eq0.ensures.answer ∙ ap (λ x. put_answer x (length m)) (sym e);
      after = rw (e, c.put-else-count-eq0.ensures.after) (put_second_leaves s m fs ss);
      refused = kept_at (λ x. record { first = a; second = x }) c.put-else-count-eq0.result b c.put-else-count-eq0.new.self c.put-else-count-eq0.ensures.refused;
      first = parts.0;
      second = c.put-else-count-eq0.ensures.after ∙ parts.1;
      others = (λ here. absurd (both_ways (to_first f ss) there here), λ _. refl);
    }
