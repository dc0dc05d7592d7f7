-- What a page store holds. Assumes nothing.
--     memory_of t    its bytes
--     waiting_of t   the messages in them
--     takes_of t n   whether it takes a message of n words: a page is left
use Rattle.std.specs.Prelude.{ℕ, Bool, List}
use Rattle.mailboxes.specs.Mailboxes.{Lawful}
use Rattle.layouts.specs.Pages.{pages_of, page_takes}
use Rattle.layouts.specs.PageLaws.{sound_messages, page_sizes}
use Rattle.page_mailbox.specs.declared.PageMailbox.{PageMailbox}

abbrev pub memory_of : PageMailbox → List ℕ
memory_of t = t.bytes.now

abbrev pub waiting_of : PageMailbox → List (List ℕ)
waiting_of t = pages_of t.held (memory_of t)

abbrev pub takes_of : PageMailbox → ℕ → Bool
takes_of t n = page_takes t.pages (waiting_of t) n

pub kept : Lawful waiting_of takes_of
kept = record {
  messages = λ t. sound_messages t.pages t.held (memory_of t) t.messages;
  sizes = λ t n. page_sizes t.pages (waiting_of t) n;
}
