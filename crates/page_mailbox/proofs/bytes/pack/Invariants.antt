use Rattle.std.proofs.Common.{◌≡◌, ◌-◌, ◌*◌, ◌++◌, length, take, replicate}
use Rattle.layouts.specs.Rows.{head as page_head}
use Rattle.layouts.specs.Pages.{le_bytes, bytes_of}
use Rattle.page_mailbox.proofs.bytes.pack.Given as goal

abbrev pub invariant-loop-i : goal.invariant-loop-i
invariant-loop-i l = (l.page ≡ le_bytes (page_head (length l.message)) ++ (bytes_of (take l.i l.message) ++ replicate (508 - 4 * l.i) 0)) × (length l.page ≡ 512)
