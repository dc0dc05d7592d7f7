-- What single words of a line mean. Assumes nothing.
--     keyword_or names e     the word that names has, as it has it; e where it has none
--     number_or top e        a decimal number that is at most top; e where there is none
--     command_word, record_word, mailbox_word, store_word, send_word, report_word     the words of the grammar
--     stations_number, size_number, station_number, message_number, length_number, value_number     numbers, by what they count
use Rattle.std.specs.Prelude.{ℕ, List}
use Rattle.scripts.specs.declared.expected.Expected.{Expected}
use Rattle.scripts.specs.declared.expected.Expected.TheVariants as expected
use Rattle.scripts.specs.declared.keywords.Kind.{Kind}
use Rattle.scripts.specs.declared.keywords.Shape.{Shape}
use Rattle.scripts.specs.declared.keywords.Verb.{Verb}
use Rattle.scripts.specs.declared.record_kind.RecordKind.{RecordKind}
use Rattle.scripts.specs.declared.what.What.{What}
use Rattle.scripts.specs.Keywords.{named, verbs, record_kinds, shapes, kinds, whats}
use Rattle.scripts.specs.Numbers.{decimal_of}
use Rattle.scripts.specs.Readings.{Reading, one}

abbrev pub keyword_or : {X : Type 0} → List (List ℕ × X) → Expected → Reading X
keyword_or names e = one (named names) e

abbrev pub number_or : ℕ → Expected → Reading ℕ
number_or top e = one (decimal_of top) e

abbrev pub command_word : Reading Verb
command_word = keyword_or verbs expected.Command

abbrev pub record_word : Reading RecordKind
record_word = keyword_or record_kinds expected.RecordKind

abbrev pub mailbox_word : Reading Shape
mailbox_word = keyword_or shapes expected.Mailbox

abbrev pub store_word : Reading Shape
store_word = keyword_or shapes expected.Store

abbrev pub send_word : Reading Kind
send_word = keyword_or kinds expected.Send

abbrev pub report_word : Reading What
report_word = keyword_or whats expected.What

abbrev pub stations_number : Reading ℕ
stations_number = number_or 100 expected.Stations

abbrev pub size_number : Reading ℕ
size_number = number_or 1000000 expected.Size

abbrev pub station_number : Reading ℕ
station_number = number_or 18446744073709551615 expected.Station

abbrev pub message_number : Reading ℕ
message_number = number_or 18446744073709551615 expected.Message

abbrev pub length_number : Reading ℕ
length_number = number_or 18446744073709551615 expected.Length

abbrev pub value_number : Reading ℕ
value_number = number_or 4294967295 expected.Value
