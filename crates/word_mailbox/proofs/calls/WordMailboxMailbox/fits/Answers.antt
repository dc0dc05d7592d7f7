use Rattle.std.proofs.Common.{◌≡◌, ◌≤◌, true, length, sym, arith}
use Rattle.mailboxes.specs.Mailboxes.{sized}
use Rattle.word_mailbox.proofs.Holds.{takes_is}
use Rattle.word_mailbox.proofs.calls.WordMailboxMailbox.fits.Goals as goal
use Rattle.word_mailbox.proofs.calls.WordMailboxMailbox.fits.Goals.{then-is_sized, else-is_sized}

pub returns-then-all-le-MOST : goal.returns-then-all-le-MOST
returns-then-all-le-MOST c =
    let s : sized c.args.n ≡ true = elim c.if-is_sized.branch [ then-is_sized w ↦ sym w.if-is_sized.ensures | else-is_sized w ↦ cc ] in
    let l : length c.args.self.now.words.now ≤ 4096 = elim c.if-is_sized.branch [ then-is_sized w ↦ omega arith | else-is_sized w ↦ absurd cc ] in
    takes_is c.args.self.now c.args.n s l
