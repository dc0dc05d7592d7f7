use Rattle.std.proofs.Common.{◌≡◌, ℕ, ◌+◌, ◌-◌, ◌*◌, ◌^◌, ◌<◌, length, get_or, sym, refl, ◌∙◌, arith}
use borrow.Rule.Slice.PartMut.{put_mid}
use Rattle.words.specs.Writes.{put}
use Rattle.layouts.specs.Pages.{page_of}
use Rattle.layouts.proofs.Calls.{put_there}
use Rattle.layouts.proofs.Rows.{mid_put}
use Rattle.layouts.proofs.PageBytes.{length_page_of}
use Rattle.page_mailbox.specs.Stores.{memory_of, waiting_of, takes_of}
use Rattle.page_mailbox.proofs.Holds.{room, takes_room, takes_short, put_sound, put_extent, put_waiting, put_memory}
use Rattle.page_mailbox.proofs.calls.PageMailboxMailbox.put.Goals as goal
use Rattle.page_mailbox.proofs.calls.PageMailboxMailbox.put.Goals.{After-copy_from_slice}

-- the bytes that are written
written : (c : goal.After-copy_from_slice) → put_mid (512 * c.args.self.now.held) (512 * c.args.self.now.held + 512 - 512 * c.args.self.now.held) (memory_of c.args.self.now) c.copy_from_slice.new.self ≡ put (memory_of c.args.self.now) (512 * c.args.self.now.held) (page_of c.args.message.now)
written c =
    let m = c.args.message.now in
    let long = length_page_of m (takes_short c.args.self.now (length m) (sym c.if-not-fits.ensures)).1 in
    mid_put (memory_of c.args.self.now) (page_of m) c.copy_from_slice.new.self (512 * c.args.self.now.held) _ (c.copy_from_slice.ensures.after ∙ c.pack-page.ensures) (omega (arith, long))

pub returns : goal.returns
returns c =
    let t = c.args.self.now in
    let m = c.args.message.now in
    let f = sym c.if-not-fits.ensures in
    let is = written (goal.at.returns c).After-copy_from_slice in
    let words : (i : ℕ) → get_or m i 0 < 2 ^ 32 = λ i. omega (arith, c.type_inv.message i) in
    let q = put_there (takes_of t (length m)) m (waiting_of t) _ (sym c.if-not-is_sized.ensures) f (put_waiting t m _ f is words) in
    record { answer = q.0; after = q.1; refused = tt; pages = refl; memory = put_memory t m _ f is; lender = refl }

pub overflow_mul-place : goal.overflow_mul-place
overflow_mul-place c = let t = c.args.self.now in omega (arith, room t, takes_room t (length c.args.message.now) (sym c.if-not-fits.ensures))

pub overflow_add-place : goal.overflow_add-place
overflow_add-place c = let t = c.args.self.now in omega (arith, room t, takes_room t (length c.args.message.now) (sym c.if-not-fits.ensures))

pub slice_bounds-copy_from_slice-end : goal.slice_bounds-copy_from_slice-end
slice_bounds-copy_from_slice-end c = let t = c.args.self.now in omega (arith, room t, takes_room t (length c.args.message.now) (sym c.if-not-fits.ensures))

-- with no pages in use the bytes are free
pub invariant_of-self : goal.invariant_of-self
invariant_of-self c = record { messages = refl; extent = refl }

pub invariant_of-self-2 : goal.invariant_of-self-2
invariant_of-self-2 c =
    let t = c.args.self.now in
    let m = c.args.message.now in
    let f = sym c.if-not-fits.ensures in
    let is = written (goal.at.invariant_of-self-2 c).After-copy_from_slice in
    record { messages = put_sound t m _ f is; extent = put_extent t m _ f is }
