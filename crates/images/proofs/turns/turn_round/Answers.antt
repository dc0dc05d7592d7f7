use Rattle.std.proofs.Common.{◌+◌, ◌-◌, ◌*◌, sym, ap, ◌∙◌, arith}
use Rattle.images.specs.Turns.{turned}
use Rattle.images.proofs.Turning.{turned_twice, turned_words, turned_more, turned_end}
use Rattle.images.proofs.turns.turn_round.Goals as goal

pub loop-i-preserved : goal.loop-i-preserved
loop-i-preserved c =
    let i = c.loop-i.i in
    c.loop-i.invariant ∙ turned_more c.loop-i.bytes c.reverse.new.self i (4 * i + 4 - 4 * i) (omega arith) (omega arith) c.reverse.ensures.after

pub returns : goal.returns
returns c =
    let e = c.loop-i.invariant ∙ turned_end c.loop-i.bytes c.loop-i.i (omega arith) in
    record { after = sym e; words = λ ws is. sym e ∙ ap turned is ∙ turned_words ws; twice = ap turned (sym e) ∙ turned_twice c.args.bytes.now }
