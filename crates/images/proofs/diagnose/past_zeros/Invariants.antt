use Rattle.std.proofs.Common.{◌≡◌, ◌-◌, length}
use Rattle.images.specs.Causes.{past_zeros}
use Rattle.images.proofs.diagnose.past_zeros.Given as goal

abbrev pub invariant-loop-place : goal.invariant-loop-place
invariant-loop-place l = past_zeros l.from l.bytes ≡ past_zeros l.place l.bytes

abbrev pub decreases-loop-place : goal.decreases-loop-place
decreases-loop-place l = length l.bytes - l.place
