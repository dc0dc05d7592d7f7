use Rattle.std.proofs.Common.{◌≡◌}
use lib.Seq.{paste}
use Rattle.layouts.specs.Pages.{page_message}
use Rattle.page_mailbox.proofs.bytes.unpack.Given as goal

abbrev pub invariant-loop-i : goal.invariant-loop-i
invariant-loop-i l = l.words ≡ paste l.initial.words 0 (page_message l.page) l.i
