use Rattle.std.proofs.Common.{◌-◌, ◌<◌, ◌≤◌, refl, ap, ◌∙◌, arith}
use Rattle.mailboxes.specs.Mailboxes.{counted, discard_answer}
use Rattle.mailboxes.proofs.Spills.{kept_at, discard_first, discard_second, discard_first_leaves, discard_second_leaves}
use Rattle.mailboxes.proofs.overflow.OverflowMailbox.discard.Goals as goal

pub returns-then-k-here : goal.returns-then-k-here
returns-then-k-here g c =
    let a = g.A.Mailbox.waiting c.args.self.now.first in
    let b = g.B.Mailbox.waiting c.args.self.now.second in
    let k = c.args.k in
    let h : k < counted a = omega (arith, c.count.ensures, c.if-k-here.true) in
    record {
      answer = c.discard.ensures.answer ∙ discard_first a b k h;
      after = rw c.discard.ensures.after (discard_first_leaves a b k h);
      refused = kept_at (λ x. record { first = x; second = c.args.self.now.second }) c.discard.result c.args.self.now.first c.discard.new.self c.discard.ensures.refused;
      others = (λ _. refl, λ past. absurd (omega arith));
    }

pub returns-then-k-lt65535 : goal.returns-then-k-lt65535
returns-then-k-lt65535 g c =
    let a = g.A.Mailbox.waiting c.args.self.now.first in
    let b = g.B.Mailbox.waiting c.args.self.now.second in
    let k = c.args.k in
    let n = c.from-here.ensures ∙ c.count.ensures in
    let h : counted a ≤ k = omega (arith, n, c.if-k-here.false) in
    let l = c.if-k-lt65535.true in
    record {
      answer = c.discard-then-k-lt65535.ensures.answer ∙ ap (λ x. discard_answer b (k - x)) n ∙ discard_second a b k h l;
      after = rw (c.discard-then-k-lt65535.ensures.after, n) (discard_second_leaves a b k h l);
      refused = kept_at (λ x. record { first = c.args.self.now.first; second = x }) c.discard-then-k-lt65535.result c.args.self.now.second c.discard-then-k-lt65535.new.self c.discard-then-k-lt65535.ensures.refused;
      others = (λ below. absurd (omega arith), λ _. refl);
    }
