use Rattle.std.proofs.Common.{◌≡◌, ℕ, ◌*◌, ◌/◌, ◌<◌, List, [], length, get_or, take, drop, sym, ap, ◌∙◌, arith}
use Rattle.words.specs.Writes.{put}
use Rattle.layouts.specs.Pages.{page_message}
use Rattle.layouts.specs.Mounts.{full}
use Rattle.layouts.proofs.Calls.{read_past, read_there}
use Rattle.layouts.proofs.PageBytes.{chunk_at}
use Rattle.layouts.proofs.PageLists.{page_at}
use Rattle.page_mailbox.specs.Stores.{memory_of, waiting_of}
use Rattle.page_mailbox.proofs.Holds.{room, held_few, held_is, full_at}
use Rattle.page_mailbox.proofs.calls.PageMailboxMailbox.read.Goals as goal
use Rattle.page_mailbox.proofs.calls.PageMailboxMailbox.read.Goals.{After-as_chunks}

below : (c : goal.After-as_chunks) → c.args.k < length (memory_of c.args.self.now) / 512
below c = let t = c.args.self.now in omega (arith, room t, held_few t)

-- page k of the bytes
page : (c : goal.After-as_chunks) (d : List ℕ) → get_or c.as_chunks.result.0.now c.args.k d ≡ take 512 (drop (512 * c.args.k) (memory_of c.args.self.now))
page c d = let bs = memory_of c.args.self.now in ap (λ x. get_or x c.args.k d) c.as_chunks.ensures.front ∙ chunk_at 512 (length bs / 512) c.args.k bs d (below c)

pub returns : goal.returns
returns c =
    let t = c.args.self.now in
    let k = c.args.k in
    let ms = waiting_of t in
    let old = c.args.words.now in
    let at = page (goal.at.returns c).After-as_chunks in
    let m : (d : List ℕ) → page_message (get_or c.as_chunks.result.0.now k d) ≡ get_or ms k [] = λ d. ap page_message (at d) ∙ sym (page_at t.held k (memory_of t) (omega arith)) in
    let r = read_there ms k old c.if-words-lt-LONGEST.false _ _ (omega (arith, held_is t, c.if-k-self.false)) (c.unpack.ensures.size ∙ ap length (m _)) (c.unpack.ensures.words ∙ ap (put old 0) (m _)) in
    record { answer = r.0; words = r.1 }

pub returns-then-k-self : goal.returns-then-k-self
returns-then-k-self c =
    let t = c.args.self.now in
    let r = read_past (waiting_of t) c.args.k c.args.words.now c.if-words-lt-LONGEST.false (omega (arith, held_is t, c.if-k-self.true)) in
    record { answer = r.0; words = r.1 }

pub offset_bounds-pages-k : goal.offset_bounds-pages-k
offset_bounds-pages-k c = let t = c.args.self.now in omega (arith, room t, held_few t)

pub bounds-pages-k : goal.bounds-pages-k
bounds-pages-k c = omega (arith, below (goal.at.bounds-pages-k c).After-as_chunks, c.as_chunks.ensures.front_len)

pub unpack-requires-clause-full : goal.unpack-requires-clause-full
unpack-requires-clause-full c = ap full (page (goal.at.unpack-requires-clause-full c).After-as_chunks _) ∙ full_at c.args.self.now c.args.k (omega arith)
