use Rattle.std.proofs.Common.{◌≡◌, ◌+◌, ◌-◌, ◌*◌, length, drop}
use lib.Seq.{paste}
use Rattle.page_mailbox.proofs.bytes.close.Given as goal

abbrev pub invariant-loop-i : goal.invariant-loop-i
invariant-loop-i l = (l.bytes ≡ paste l.initial.bytes (512 * l.k) (drop (512 * (l.k + 1)) l.initial.bytes) (512 * (l.i - l.k))) × (length l.bytes ≡ length l.initial.bytes) × (length l.spare ≡ 512)
