use Rattle.std.proofs.Common.{◌≡◌, ℕ, ◌+◌, List, set, sym, ap, ◌∙◌, subst, arith}
use Rattle.counters.proofs.Joins.{Joining, joining_kept, joining_set, joining_all}
use Rattle.counters.proofs.counts.CountsCrdt.join.Goals as goal
use Rattle.counters.proofs.counts.CountsCrdt.join.Goals.{then-mine-count, else-mine-count}

pub loop-i-preserved : goal.loop-i-preserved
loop-i-preserved g c =
    let top = g.K.EntryKind.TOP in
    let old = c.args.self.now.counts in
    let theirs = c.args.other.now.counts in
    let cur = c.loop-i.self.counts in
    let i = c.loop-i.i in
    let a = c.low-mine.ensures.value in
    let b = c.low-count.ensures.value in
    let Next : List ℕ → Type 0 = λ m. Joining top old theirs m (i + 1) in
    elim c.if-mine-count.branch [
      | then-mine-count w ↦ subst Next (sym (ap (λ s. s.counts) w.self-is ∙ ap (set cur i) b)) (joining_set top old theirs cur i c.loop-i.invariant (omega arith) (omega (arith, w.if-mine-count.true)))
      | else-mine-count w ↦ subst Next (sym (ap (λ s. s.counts) w.self-is)) (joining_kept top old theirs cur i c.loop-i.invariant (omega (arith, w.if-mine-count.false)))
    ]

pub returns : goal.returns
returns g c =
    let at : c.loop-i.i ≡ 16 = omega arith in
    let Upto : ℕ → Type 0 = Joining g.K.EntryKind.TOP c.args.self.now.counts c.args.other.now.counts c.loop-i.self.counts in
    joining_all _ _ _ _ (subst Upto at c.loop-i.invariant)
