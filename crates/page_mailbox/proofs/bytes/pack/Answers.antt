use Rattle.std.proofs.Common.{◌+◌, ◌-◌, ◌*◌, length, refl, ap, ◌∙◌, arith}
use Rattle.layouts.specs.Rows.{head}
use Rattle.layouts.specs.Pages.{le_bytes}
use Rattle.layouts.proofs.PageBytes.{pack_more, length_packed}
use Rattle.page_mailbox.proofs.bytes.pack.Goals as goal

pub loop-i-preserved : goal.loop-i-preserved
loop-i-preserved c =
    let m = c.args.message.now in
    let i = c.loop-i.i in
    let h = le_bytes (head (length m)) in
    let w = c.copy_from_slice-in-loop-i.ensures.after ∙ c.to_le_bytes-in-loop-i.ensures in
    let e = pack_more h m c.loop-i.page c.copy_from_slice-in-loop-i.new.self i (4 + 4 * i) (8 + 4 * i - (4 + 4 * i)) refl c.loop-i-test.true c.requires refl (omega arith) c.loop-i.invariant.0 w in
    (e, ap length e ∙ length_packed h m (i + 1) refl (omega arith) c.requires)
