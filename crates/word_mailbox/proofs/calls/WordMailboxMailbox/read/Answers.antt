use Rattle.std.proofs.Common.{◌≡◌, ◌+◌, ◌-◌, ◌<◌, ◌≤◌, [], length, get_or, take, drop, sym, ap, ◌∙◌, arith}
use Rattle.std.proofs.lemmas.List.{length-take-le}
use Rattle.mailboxes.specs.Mailboxes.{counted}
use Rattle.layouts.proofs.Calls.{read_past, read_there, copied}
use Rattle.word_mailbox.specs.Stores.{memory_of, waiting_of}
use Rattle.word_mailbox.proofs.Holds.{held_is, at, message_at}
use Rattle.word_mailbox.proofs.calls.WordMailboxMailbox.read.Goals as goal
use Rattle.word_mailbox.proofs.calls.WordMailboxMailbox.read.Goals.{After-find-found}

-- the words that are copied
message : (c : goal.After-find-found) → take (c.find-found.result.end - (c.find-found.result.start + 1)) (drop (c.find-found.result.start + 1) (memory_of c.args.self.now)) ≡ get_or (waiting_of c.args.self.now) c.args.k []
message c =
    let f = c.find-found in
    message_at c.args.self.now c.args.k f.result.start f.result.end (omega arith) f.ensures.start f.ensures.size

fits : (c : goal.After-find-found) → 127 ≤ length c.args.words.now → length (take (c.find-found.result.end - (c.find-found.result.start + 1)) (drop (c.find-found.result.start + 1) (memory_of c.args.self.now))) ≤ length c.args.words.now
fits c room =
    let f = c.find-found in
    omega (arith, room, (at c.args.self.now c.args.k (omega arith) f.result.start f.ensures.start).short, ap length (message c))

pub returns : goal.returns
returns c =
    let t = c.args.self.now in
    let ms = waiting_of t in
    let h : c.args.k < counted ms = omega (arith, held_is t, c.if-k-self.false) in
    let m = message (goal.at.returns c).After-find-found in
    let r = read_there ms c.args.k c.args.words.now c.if-words-lt-LONGEST.false _ _ h (ap length m) (copied _ (get_or ms c.args.k []) c.args.words.now _ (c.copy_from_slice.ensures.after ∙ m) (ap length m)) in
    record { answer = r.0; words = r.1 }

pub returns-then-k-self : goal.returns-then-k-self
returns-then-k-self c =
    let ms = waiting_of c.args.self.now in
    let h : counted ms ≤ c.args.k = omega (arith, held_is c.args.self.now, c.if-k-self.true) in
    let r = read_past ms c.args.k c.args.words.now c.if-words-lt-LONGEST.false h in
    record { answer = r.0; words = r.1 }

pub slice_bounds-copy_from_slice-end : goal.slice_bounds-copy_from_slice-end
slice_bounds-copy_from_slice-end c = fits (goal.at.slice_bounds-copy_from_slice-end c).After-find-found c.if-words-lt-LONGEST.false

pub slice_bounds-copy_from_slice-end-2 : goal.slice_bounds-copy_from_slice-end-2
slice_bounds-copy_from_slice-end-2 c = sym (length-take-le _ c.args.words.now (fits (goal.at.slice_bounds-copy_from_slice-end-2 c).After-find-found c.if-words-lt-LONGEST.false))

pub copy_from_slice-requires : goal.copy_from_slice-requires
copy_from_slice-requires c = length-take-le _ c.args.words.now (fits (goal.at.copy_from_slice-requires c).After-find-found c.if-words-lt-LONGEST.false)
