use Rattle.std.proofs.Common.{◌/◌, length, sym, ap, ◌∙◌, rules}
use Rattle.layouts.specs.Mounts.{pages_sound, whole}
use Rattle.layouts.proofs.Mounts.{sound_zeros, whole_from}
use Rattle.page_mailbox.proofs.PageMailbox.wipe.Goals as goal

pub returns-clause-pages : goal.returns-clause-pages
returns-clause-pages c = search rules

pub invariant_of-result-2 : goal.invariant_of-result-2
invariant_of-result-2 c =
    let n = length c.args.bytes.now in
    let g = sym c.if-not-is_paged.ensures in
    record { messages = ap (pages_sound (n / 512) 0) (c.fill.ensures.after (λ y e. e)) ∙ sound_zeros (n / 512) n; extent = ap (whole (n / 512)) c.fill.ensures.len ∙ whole_from n g }
