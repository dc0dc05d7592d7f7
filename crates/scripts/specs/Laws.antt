-- What holds of commands that are printed and understood again. Assumes nothing.
--     InRange c         the numbers of a command are those that a line can hold
--     Ranged r          an answer's command, if it has one, is in range
--     PrintedBack       what is printed of such a command is understood as it; but for a put, which is printed without its words
use Rattle.std.specs.Prelude.{◌≡◌, ℕ, ◌^◌, ◌<◌, ◌≤◌, Some, None, Ok, Err, Option, Result, ◌≢◌}
use Rattle.scripts.specs.declared.command.Command.{Command}
use Rattle.scripts.specs.declared.command.Command.TheVariants as command
use Rattle.scripts.specs.declared.expected.Expected.{Expected}
use Rattle.scripts.specs.declared.store.MailboxShape.{MailboxShape}
use Rattle.scripts.specs.declared.store.MailboxShape.TheVariants as mailbox
use Rattle.scripts.specs.declared.store.Store.{Store}
use Rattle.scripts.specs.declared.store.Store.TheVariants as store
use Rattle.scripts.specs.Grammar.{understood}
use Rattle.scripts.specs.Shown.{shown}
use Rattle.scripts.specs.Tokens.{tokens}

abbrev pub Size : Store → Type 0
Size (store.Words n) = n ≤ 1000000
Size (store.Pages n) = n ≤ 1000000
Size store.Image = Unit {0}

abbrev pub Sizes : MailboxShape → Type 0
Sizes (mailbox.One a) = Size a
Sizes (mailbox.Overflow a b) = Size a × Size b

abbrev pub InRange : Command → Type 0
InRange (command.Record k) = Unit {0}
InRange (command.Stations n) = n ≤ 100
InRange (command.Mailbox m) = Sizes m
InRange (command.Report s w n) = (s < 2 ^ 64) × (n < 2 ^ 32)
InRange (command.SendDelta s) = s < 2 ^ 64
InRange (command.SendFull s) = s < 2 ^ 64
InRange (command.Put n) = n ≤ 255
InRange (command.Fetch s m) = (s < 2 ^ 64) × (m < 2 ^ 64)
InRange (command.Discard m) = m < 2 ^ 64
InRange command.Count = Unit {0}
InRange (command.Fits n) = n < 2 ^ 64
InRange (command.Read m) = m < 2 ^ 64
InRange (command.Show s) = s < 2 ^ 64
InRange (command.Compare s t) = (s < 2 ^ 64) × (t < 2 ^ 64)
InRange command.Image = Unit {0}

abbrev pub Ranged : Result (Option Command) Expected → Type 0
Ranged (Ok None) = Unit {0}
Ranged (Ok (Some c)) = InRange c
Ranged (Err e) = Unit {0}

abbrev pub PrintedBack : Type 0
PrintedBack = (c : Command) → InRange c → ((n : ℕ) → c ≢ command.Put n) → understood (tokens (shown c)) ≡ Ok (Some c)
