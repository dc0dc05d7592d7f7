use Rattle.std.proofs.Common.{◌%◌, sym, ap, ◌∙◌, arith}
use Rattle.registers.specs.Bits.{bit}
use Rattle.registers.specs.Members.{members_of}
use Rattle.registers.specs.Sets.{has_above, has_stored, subsets}
use Rattle.registers.proofs.gset.GSet.contains.Goals as goal

pub returns-then-member-gt255 : goal.returns-then-member-gt255
returns-then-member-gt255 c = record { value = sym (has_above (members_of c.args.self.now.bits) c.args.member (omega arith)); subsets = subsets }

pub returns : goal.returns
returns c = record { value = ap (λ x. bit x (c.args.member % 16)) c.low-entry.ensures.value ∙ sym (has_stored c.args.self.now.bits c.args.member (omega arith)); subsets = subsets }
