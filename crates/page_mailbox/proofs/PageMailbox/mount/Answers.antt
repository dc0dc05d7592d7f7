use Rattle.std.proofs.Common.{◌≡◌, ℕ, true, List, length, Result, Ok, Err, refl, ap, ◌∙◌, rules}
use Rattle.words.specs.Refusals.{value_or}
use Rattle.words.specs.Readings.{Told}
use Rattle.layouts.specs.Mounts.{pages_sound, whole, mount_check, mounted_pages}
use Rattle.layouts.proofs.Mounts.{accepted, whole_from}
use Rattle.page_mailbox.proofs.PageMailbox.mount.Goals as goal

mounted : (bs : List ℕ) (r : Result ℕ Told) → mount_check bs ≡ r → (pages_sound (mounted_pages r (length bs)) (value_or 0 r) bs ≡ true) × (whole (mounted_pages r (length bs)) (length bs) ≡ true)
mounted bs (Ok n) e = let a = accepted bs n e in (a.1, whole_from (length bs) a.0)
mounted bs (Err f) e = (refl, refl)

pub returns-clause-pages : goal.returns-clause-pages
returns-clause-pages c = search rules

pub invariant_of-result : goal.invariant_of-result
invariant_of-result c =
    let bs = c.args.bytes.now in
    let p : c.map_or-pages.result.0 ≡ mounted_pages (mount_check bs) (length bs) = search rules in
    let h : c.map_or-pages.result.1 ≡ value_or 0 (mount_check bs) = search rules in
    let m = mounted bs (mount_check bs) refl in
    record { messages = ap (λ n. pages_sound n c.map_or-pages.result.1 bs) p ∙ ap (λ n. pages_sound (mounted_pages (mount_check bs) (length bs)) n bs) h ∙ m.0; extent = ap (λ n. whole n (length bs)) p ∙ m.1 }
