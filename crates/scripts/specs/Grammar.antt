-- What the words of a line ask for. Assumes nothing.
--     asked v              what a verb and the words after it ask for
--     put_of               the words of a put, of which at most 255 are taken
--     words_put ts old     old, with the words that ts write in front, up to the first that writes none
--     leaves v ts old      what a verb and the words ts after it leave of the given words
--     understood ts        what the words of a line ask for: nothing, a command, or what should have stood there
--     words_after ts old   what they leave of the given words
use Rattle.std.specs.Prelude.{ℕ, Bool, true, cond, ◌&&◌, List, [], ◌∷◌, length, is_some, Some, None, Ok, Err, Option, Result, nat_le}
use Rattle.scripts.specs.declared.command.Command.{Command}
use Rattle.scripts.specs.declared.command.Command.TheVariants as command
use Rattle.scripts.specs.declared.expected.Expected.{Expected}
use Rattle.scripts.specs.declared.expected.Expected.TheVariants as expected
use Rattle.scripts.specs.declared.keywords.Kind.{Kind}
use Rattle.scripts.specs.declared.keywords.Kind.TheVariants as kind
use Rattle.scripts.specs.declared.keywords.Shape.{Shape}
use Rattle.scripts.specs.declared.keywords.Shape.TheVariants as shape
use Rattle.scripts.specs.declared.keywords.Verb.{Verb}
use Rattle.scripts.specs.declared.keywords.Verb.TheVariants as verb
use Rattle.scripts.specs.declared.store.MailboxShape.TheVariants as mailbox
use Rattle.scripts.specs.declared.store.Store.{Store}
use Rattle.scripts.specs.declared.store.Store.TheVariants as store
use Rattle.scripts.specs.Keywords.{named, verbs}
use Rattle.scripts.specs.Numbers.{hexadecimal_of}
use Rattle.scripts.specs.Readings.{Reading, ◌then◌, gives, refuses}
use Rattle.scripts.specs.Parts.{command_word, record_word, mailbox_word, store_word, send_word, report_word, stations_number, size_number, station_number, message_number, length_number, value_number}

-- a store after its first word
abbrev pub store_by : Shape → Reading Store
store_by shape.Words = size_number then λ n. gives (store.Words n)
store_by shape.Pages = size_number then λ n. gives (store.Pages n)
store_by shape.Image = gives store.Image
store_by shape.Overflow = refuses expected.Store

abbrev pub part_of : Reading Store
part_of = store_word then store_by

abbrev pub one_store : Shape → Reading Command
one_store s = store_by s then λ a. gives (command.Mailbox (mailbox.One a))

abbrev pub two_stores : Reading Command
two_stores = part_of then λ a. part_of then λ b. gives (command.Mailbox (mailbox.Overflow a b))

abbrev pub mailbox_by : Shape → Reading Command
mailbox_by shape.Words = one_store shape.Words
mailbox_by shape.Pages = one_store shape.Pages
mailbox_by shape.Image = one_store shape.Image
mailbox_by shape.Overflow = two_stores

abbrev pub mailbox_of : Reading Command
mailbox_of = mailbox_word then mailbox_by

abbrev pub report_of : Reading Command
report_of = station_number then λ s. report_word then λ w. value_number then λ n. gives (command.Report s w n)

abbrev pub sent : Kind → ℕ → Command
sent kind.Delta s = command.SendDelta s
sent kind.Full s = command.SendFull s

abbrev pub send_of : Reading Command
send_of = send_word then λ k. station_number then λ s. gives (sent k s)

abbrev pub fetch_of : Reading Command
fetch_of = station_number then λ s. message_number then λ m. gives (command.Fetch s m)

abbrev pub compare_of : Reading Command
compare_of = station_number then λ s. station_number then λ t. gives (command.Compare s t)

abbrev pub all_words : List (List ℕ) → Bool
all_words [] = true
all_words (t ∷ ts) = is_some (hexadecimal_of t) && all_words ts

abbrev pub put_of : Reading Command
put_of ts = cond (all_words ts && nat_le (length ts) 255) (Ok (command.Put (length ts), [])) (Err expected.Words)

abbrev pub asked : Verb → Reading Command
asked verb.Record = record_word then λ k. gives (command.Record k)
asked verb.Stations = stations_number then λ n. gives (command.Stations n)
asked verb.Mailbox = mailbox_of
asked verb.Report = report_of
asked verb.Send = send_of
asked verb.Put = put_of
asked verb.Fetch = fetch_of
asked verb.Discard = message_number then λ m. gives (command.Discard m)
asked verb.Count = gives command.Count
asked verb.Fits = length_number then λ n. gives (command.Fits n)
asked verb.Read = message_number then λ m. gives (command.Read m)
asked verb.Show = station_number then λ s. gives (command.Show s)
asked verb.Compare = compare_of
asked verb.Image = gives command.Image

-- nothing may come after a command
abbrev pub at_end : Command → List (List ℕ) → Result (Option Command) Expected
at_end c [] = Ok (Some c)
at_end c (t ∷ ts) = Err expected.End

abbrev pub whole : Result (Command × List (List ℕ)) Expected → Result (Option Command) Expected
whole (Ok p) = at_end p.0 p.1
whole (Err e) = Err e

abbrev pub understood : List (List ℕ) → Result (Option Command) Expected
understood [] = Ok None
understood (t ∷ ts) = whole ((command_word then asked) (t ∷ ts))

abbrev pub in_front : Option ℕ → List ℕ → ℕ → List ℕ → List ℕ
in_front None more o os = o ∷ os
in_front (Some w) more o os = w ∷ more

abbrev pub words_put : List (List ℕ) → List ℕ → List ℕ
words_put [] os = os
words_put (t ∷ ts) [] = []
words_put (t ∷ ts) (o ∷ os) = in_front (hexadecimal_of t) (words_put ts os) o os

abbrev pub leaves : Verb → List (List ℕ) → List ℕ → List ℕ
leaves verb.Record ts old = old
leaves verb.Stations ts old = old
leaves verb.Mailbox ts old = old
leaves verb.Report ts old = old
leaves verb.Send ts old = old
leaves verb.Put ts old = words_put ts old
leaves verb.Fetch ts old = old
leaves verb.Discard ts old = old
leaves verb.Count ts old = old
leaves verb.Fits ts old = old
leaves verb.Read ts old = old
leaves verb.Show ts old = old
leaves verb.Compare ts old = old
leaves verb.Image ts old = old

abbrev pub left_by : Option Verb → List (List ℕ) → List ℕ → List ℕ
left_by None ts old = old
left_by (Some v) ts old = leaves v ts old

abbrev pub words_after : List (List ℕ) → List ℕ → List ℕ
words_after [] old = old
words_after (t ∷ ts) old = left_by (named verbs t) ts old
