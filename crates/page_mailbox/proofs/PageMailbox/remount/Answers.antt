use Rattle.std.proofs.Common.{length, Ok, sym, ap, ◌∙◌}
use Rattle.words.specs.Refusals.{value_or}
use Rattle.layouts.specs.Pages.{pages_of}
use Rattle.layouts.specs.Mounts.{mounted_pages}
use Rattle.layouts.proofs.Mounts.{accepts}
use Rattle.layouts.proofs.PageLists.{length_pages}
use Rattle.page_mailbox.specs.Stores.{memory_of}
use Rattle.page_mailbox.proofs.PageMailbox.remount.Goals as goal

pub returns : goal.returns
returns c =
    let t = c.args.self in
    let bs = memory_of t in
    let m = c.mount.ensures in
    record {
      memory = m.memory;
      pages = λ ne. let a = accepts t.pages t.held bs ne t.extent t.messages in m.pages ∙ ap (λ r. mounted_pages r (length bs)) a.0 ∙ a.1;
      waiting = λ ne. let a = accepts t.pages t.held bs ne t.extent t.messages in m.waiting ∙ ap (λ r. pages_of (value_or 0 r) bs) a.0;
      mounted_pages = m.pages;
      mounted_waiting = m.waiting;
      accepted = λ ne. (accepts t.pages t.held bs ne t.extent t.messages).0 ∙ ap Ok (sym (length_pages t.held bs));
      lender = m.lender;
    }
