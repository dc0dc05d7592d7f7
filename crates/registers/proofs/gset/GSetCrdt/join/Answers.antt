use Rattle.std.proofs.Common.{ap, ◌∙◌, rules}
use Rattle.registers.specs.Members.{members_of, has}
use Rattle.registers.specs.Sets.{joining_start, joining_step, joining_all, has_union}
use Rattle.registers.proofs.gset.GSetCrdt.join.Goals as goal

pub loop-i-init : goal.loop-i-init
loop-i-init c = joining_start _ _ (search rules)

pub loop-i-preserved : goal.loop-i-preserved
loop-i-preserved c = joining_step _ _ _ _ c.loop-i.invariant c.loop-i-test.true

pub returns : goal.returns
returns c =
    let is = joining_all _ _ _ _ c.loop-i.invariant c.loop-i-test.false in
    record { value = is; members = (λ m. ap (λ v. has v m) is ∙ has_union (members_of c.args.self.now.bits) (members_of c.args.other.now.bits) m) }
