use Rattle.std.proofs.Common.{◌≡◌, ◌-◌, ◌*◌, ◌/◌, ◌≤◌, false, ltb, length, drop}
use Rattle.layouts.specs.Mounts.{mount_pages}
use Rattle.page_mailbox.proofs.PageMailbox.check.Given as goal

abbrev pub invariant-loop-i : goal.invariant-loop-i
invariant-loop-i l = (mount_pages (length l.bytes / 512) 0 0 false l.bytes ≡ mount_pages (length l.bytes / 512 - l.i) (512 * l.i) l.held (ltb l.held l.i) (drop (512 * l.i) l.bytes)) × (l.held ≤ l.i)
