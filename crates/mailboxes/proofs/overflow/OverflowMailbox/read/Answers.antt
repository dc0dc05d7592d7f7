use Rattle.std.proofs.Common.{◌-◌, ◌<◌, ◌≤◌, length, ap, ◌∙◌, arith}
use Rattle.mailboxes.specs.Mailboxes.{counted, read_answer, read_leaves}
use Rattle.mailboxes.proofs.Spills.{read_first, read_first_leaves, read_second, read_second_leaves}
use Rattle.mailboxes.proofs.overflow.OverflowMailbox.read.Goals as goal

pub returns-then-k-here : goal.returns-then-k-here
returns-then-k-here g c =
    let a = g.A.Mailbox.waiting c.args.self.now.first in
    let b = g.B.Mailbox.waiting c.args.self.now.second in
    let k = c.args.k in
    let old = c.args.words.now in
    let h : k < counted a = omega (arith, c.count.ensures, c.if-k-here.true) in
    record {
      answer = c.read.ensures.answer ∙ read_first a b k (length old) h;
      words = c.read.ensures.words ∙ read_first_leaves a b k old h;
    }

pub returns-then-k-lt65535 : goal.returns-then-k-lt65535
returns-then-k-lt65535 g c =
    let a = g.A.Mailbox.waiting c.args.self.now.first in
    let b = g.B.Mailbox.waiting c.args.self.now.second in
    let k = c.args.k in
    let old = c.args.words.now in
    let n = c.from-here.ensures ∙ c.count.ensures in
    let h : counted a ≤ k = omega (arith, n, c.if-k-here.false) in
    let l = c.if-k-lt65535.true in
    record {
      answer = c.read-then-k-lt65535.ensures.answer ∙ ap (λ x. read_answer b (k - x) (length old)) n ∙ read_second a b k (length old) h l;
      words = c.read-then-k-lt65535.ensures.words ∙ ap (λ x. read_leaves b (k - x) old) n ∙ read_second_leaves a b k old h l;
    }
