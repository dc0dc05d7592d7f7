use Rattle.std.proofs.Common.{◌≡◌, ◌+◌, ◌-◌, ◌<◌, ◌≤◌, ◌++◌, length, Ok, sym, ap, ◌∙◌, arith, length-append}
use Rattle.words.specs.Writes.{write_leaves}
use Rattle.words.proofs.Writes.{answer_long, answer_short, answer_fits, leaves_long, leaves_short, leaves_both, length_leaves}
use Rattle.crdt.proofs.pair.PairCrdt.write.Goals as goal

pub returns-then-all-gt-LONGEST : goal.returns-then-all-gt-LONGEST
returns-then-all-gt-LONGEST g c =
    let a = g.L.Crdt.written (g.L.Crdt.value c.args.self.now.left) in
    let b = g.R.Crdt.written (g.R.Crdt.value c.args.self.now.right) in
    let all = length-append a b in
    let long : 127 < length (a ++ b) = omega arith in
    record { answer = sym (answer_long _ _ _ long); words = sym (leaves_long _ _ _ long) }

pub returns-then-saturating_sub-all : goal.returns-then-saturating_sub-all
returns-then-saturating_sub-all g c =
    let a = g.L.Crdt.written (g.L.Crdt.value c.args.self.now.left) in
    let b = g.R.Crdt.written (g.R.Crdt.value c.args.self.now.right) in
    let all = length-append a b in
    let few : length (a ++ b) ≤ 127 = omega arith in
    let short : length c.args.words.now - c.args.place < length (a ++ b) = omega arith in
    record { answer = sym (answer_short _ _ _ few short); words = sym (leaves_short _ _ _ few short) }

pub returns : goal.returns
returns g c =
    let a = g.L.Crdt.written (g.L.Crdt.value c.args.self.now.left) in
    let b = g.R.Crdt.written (g.R.Crdt.value c.args.self.now.right) in
    let old = c.args.words.now in
    let at = c.args.place in
    let mid = c.write.new.words in
    let all = length-append a b in
    let few : length a + length b ≤ 127 = omega arith in
    let room : length a + length b ≤ length old - at = omega arith in
    let next : c.in_ok-next.next ≡ at + length a = (let e = c.in_ok-next.ensures.answer ∙ answer_fits (length old) at (length a) (omega arith) (omega arith) in cc) in
    let mid-is : mid ≡ write_leaves old at a = c.write.ensures.words in
    let long : length mid ≡ length old = ap length mid-is ∙ length_leaves old at a (omega arith) (omega arith) in
    record {
      answer = c.write-2.ensures.answer ∙ answer_fits _ _ (length b) (omega arith) (omega arith) ∙ ap Ok (omega arith) ∙ sym (answer_fits (length old) at (length (a ++ b)) (omega arith) (omega arith));
      words = c.write-2.ensures.words ∙ ap (λ ws. write_leaves ws c.in_ok-next.next b) mid-is ∙ ap (λ n. write_leaves (write_leaves old at a) n b) next ∙ leaves_both old at a b few room;
    }
