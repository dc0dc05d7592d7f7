-- The one form in which a command is printed. Assumes nothing.
--     kind_shown, store_shown, mailbox_shown, what_shown  the parts of a command
--     shown c                a command; of a put the verb alone, since its words stand elsewhere
--     expected_shown e       what is said of a line that is not understood
use Rattle.std.specs.Prelude.{ℕ, List, ◌++◌, codes, decimal}
use Rattle.scripts.specs.declared.command.Command.{Command}
use Rattle.scripts.specs.declared.command.Command.TheVariants as command
use Rattle.scripts.specs.declared.expected.Expected.{Expected}
use Rattle.scripts.specs.declared.expected.Expected.TheVariants as expected
use Rattle.scripts.specs.declared.record_kind.RecordKind.{RecordKind}
use Rattle.scripts.specs.declared.record_kind.RecordKind.TheVariants as record_kind
use Rattle.scripts.specs.declared.store.MailboxShape.{MailboxShape}
use Rattle.scripts.specs.declared.store.MailboxShape.TheVariants as mailbox
use Rattle.scripts.specs.declared.store.Store.{Store}
use Rattle.scripts.specs.declared.store.Store.TheVariants as store
use Rattle.scripts.specs.declared.what.What.{What}
use Rattle.scripts.specs.declared.what.What.TheVariants as what

abbrev pub kind_shown : RecordKind → List ℕ
kind_shown record_kind.Card = codes "card"
kind_shown record_kind.Loan = codes "loan"

abbrev pub store_shown : Store → List ℕ
store_shown (store.Words n) = codes "words " ++ decimal n
store_shown (store.Pages n) = codes "pages " ++ decimal n
store_shown store.Image = codes "image"

abbrev pub mailbox_shown : MailboxShape → List ℕ
mailbox_shown (mailbox.One a) = store_shown a
mailbox_shown (mailbox.Overflow a b) = codes "overflow " ++ (store_shown a ++ (codes " " ++ store_shown b))

abbrev pub what_shown : What → List ℕ
what_shown what.Erased = codes "erased"
what_shown what.Taken = codes "taken"
what_shown what.Returned = codes "returned"
what_shown what.Retired = codes "retired"
what_shown what.Firmware = codes "firmware"
what_shown what.Lent = codes "lent"
what_shown what.Marked = codes "marked"

abbrev pub shown : Command → List ℕ
shown (command.Record k) = codes "record " ++ kind_shown k
shown (command.Stations n) = codes "stations " ++ decimal n
shown (command.Mailbox m) = codes "mailbox " ++ mailbox_shown m
shown (command.Report s w n) = codes "report " ++ (decimal s ++ (codes " " ++ (what_shown w ++ (codes " " ++ decimal n))))
shown (command.SendDelta s) = codes "send delta " ++ decimal s
shown (command.SendFull s) = codes "send full " ++ decimal s
shown (command.Put n) = codes "put"
shown (command.Fetch s m) = codes "fetch " ++ (decimal s ++ (codes " " ++ decimal m))
shown (command.Discard m) = codes "discard " ++ decimal m
shown command.Count = codes "count"
shown (command.Fits n) = codes "fits " ++ decimal n
shown (command.Read m) = codes "read " ++ decimal m
shown (command.Show s) = codes "show " ++ decimal s
shown (command.Compare s t) = codes "compare " ++ (decimal s ++ (codes " " ++ decimal t))
shown command.Image = codes "image"

abbrev pub expected_shown : Expected → List ℕ
expected_shown expected.Command = codes "a command"
expected_shown expected.RecordKind = codes "card or loan"
expected_shown expected.Stations = codes "a number of stations, 0 to 100"
expected_shown expected.Mailbox = codes "words, pages, image or overflow"
expected_shown expected.Store = codes "words, pages or image"
expected_shown expected.Size = codes "a size, 0 to 1000000"
expected_shown expected.Send = codes "delta or full"
expected_shown expected.Station = codes "a station number"
expected_shown expected.Message = codes "a message number"
expected_shown expected.What = codes "something to report"
expected_shown expected.Value = codes "a number, 0 to 4294967295"
expected_shown expected.Length = codes "a number of words"
expected_shown expected.Words = codes "words of 1 to 8 hexadecimal digits, at most 255"
expected_shown expected.End = codes "the end of the line"
