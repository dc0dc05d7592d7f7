-- The numbers of a command that is understood are in range.
use Rattle.std.proofs.Common.{◌≡◌, ℕ, ◌+◌, ◌<◌, ◌&&◌, ltb, leb, List, [], ◌∷◌, length, Some, None, Ok, Err, Option, Result, arith}
use Rattle.std.proofs.lemmas.Bool.{ltb-true, leb-true, and_parts, cond_both}
use Rattle.scripts.specs.declared.command.Command.{Command}
use Rattle.scripts.specs.declared.command.Command.TheVariants as command
use Rattle.scripts.specs.declared.expected.Expected.{Expected}
use Rattle.scripts.specs.declared.expected.Expected.TheVariants as expected
use Rattle.scripts.specs.declared.keywords.Kind.{Kind}
use Rattle.scripts.specs.declared.keywords.Kind.TheVariants as kind
use Rattle.scripts.specs.declared.keywords.Shape.{Shape}
use Rattle.scripts.specs.declared.keywords.Shape.TheVariants as shape
use Rattle.scripts.specs.declared.keywords.Verb.{Verb}
use Rattle.scripts.specs.declared.keywords.Verb.TheVariants as verb
use Rattle.scripts.specs.declared.store.MailboxShape.TheVariants as mailbox
use Rattle.scripts.specs.declared.store.Store.TheVariants as store
use Rattle.scripts.specs.Grammar.{store_by, part_of, one_store, two_stores, mailbox_by, report_of, sent, send_of, fetch_of, compare_of, put_of, all_words, asked, at_end, whole, understood}
use Rattle.scripts.specs.Keywords.{named, verbs, record_kinds, shapes, kinds, whats}
use Rattle.scripts.specs.Laws.{Size, InRange, Ranged}
use Rattle.scripts.specs.Numbers.{below, digits_on, decimal_of}
use Rattle.scripts.specs.Parts.{command_word, report_word, station_number, message_number, value_number}
use Rattle.scripts.specs.Readings.{Reading, taken, one, onward, ◌then◌, gives}

-- what is there, if anything, is in P
abbrev Of : {X : Type 0} → (X → Type 0) → Option X → Type 0
Of P None = Unit {0}
Of P (Some x) = P x

abbrev Read : {X : Type 0} → (X → Type 0) → Result (X × List (List ℕ)) Expected → Type 0
Read P (Ok q) = P q.0
Read P (Err e) = Unit {0}

abbrev All : {X : Type 0} → (X → Type 0) → Reading X → Type 0
All P p = (ts : List (List ℕ)) → Read P (p ts)

taken_all : {X : Type 0} (P : X → Type 0) (o : Option X) (e : Expected) (ts : List (List ℕ)) → Of P o → Read P (taken o e ts)
taken_all P None e ts h = tt
taken_all P (Some x) e ts h = h

onward_all : {X Y : Type 0} (P : X → Type 0) (Q : Y → Type 0) (r : Result (X × List (List ℕ)) Expected) (k : X → Reading Y) → Read P r → ((x : X) → P x → All Q (k x)) → Read Q (onward r k)
onward_all P Q (Ok q) k h all = all q.0 h q.1
onward_all P Q (Err e) k h all = tt

then_all : {X Y : Type 0} (P : X → Type 0) (Q : Y → Type 0) (p : Reading X) (k : X → Reading Y) → All P p → ((x : X) → P x → All Q (k x)) → All Q (p then k)
then_all P Q p k h all ts = onward_all P Q (p ts) k (h ts) all

below_of : (limit : ℕ) (o : Option ℕ) → Of (λ n. n < limit) (below limit o)
below_of limit None = tt
below_of limit (Some n) = cond_both (ltb n limit) (Some n) None (Of (λ n. n < limit)) (λ e. ltb-true n limit e) (λ e. tt)

number_all : (top : ℕ) (e : Expected) → All (λ n. n < top + 1) (one (decimal_of top) e)
number_all top e [] = tt
number_all top e (t ∷ ts) =
    taken_all (λ n. n < top + 1) (decimal_of top t) e ts
    (cond_both (leb 1 (length t) && leb (length t) 20) (below (top + 1) (digits_on 10 0 t)) None (Of (λ n. n < top + 1)) (λ b. below_of (top + 1) (digits_on 10 0 t)) (λ b. tt))

abbrev Any : {X : Type 0} → X → Type 0
Any x = Unit {0}

any_of : {X : Type 0} (o : Option X) → Of Any o
any_of None = tt
any_of (Some x) = tt

word_all : {X : Type 0} (f : List ℕ → Option X) (e : Expected) → All Any (one f e)
word_all f e [] = tt
word_all f e (t ∷ ts) = taken_all Any (f t) e ts (any_of (f t))

module _ {Y : Type 0} (Q : Y → Type 0) where
  after_word : {X : Type 0} (f : List ℕ → Option X) (e : Expected) (k : X → Reading Y) → ((x : X) → All Q (k x)) → All Q (one f e then k)
  after_word f e k all = then_all Any Q (one f e) k (word_all f e) (λ x h. all x)

  after_number : (top : ℕ) (e : Expected) (k : ℕ → Reading Y) → ((n : ℕ) → n < top + 1 → All Q (k n)) → All Q (one (decimal_of top) e then k)
  after_number top e k all = then_all (λ n. n < top + 1) Q (one (decimal_of top) e) k (number_all top e) all

store_all : (s : Shape) → All Size (store_by s)
store_all shape.Words = after_number Size 1000000 expected.Size (λ n. gives (store.Words n)) (λ n h us. omega arith)
store_all shape.Pages = after_number Size 1000000 expected.Size (λ n. gives (store.Pages n)) (λ n h us. omega arith)
store_all shape.Image = λ ts. tt
store_all shape.Overflow = λ ts. tt

part_all : All Size part_of
part_all = after_word Size (named shapes) expected.Store store_by store_all

one_all : (s : Shape) → All InRange (one_store s)
one_all s = then_all Size InRange (store_by s) (λ a. gives (command.Mailbox (mailbox.One a))) (store_all s) (λ a h us. h)

two_all : All InRange two_stores
two_all =
    then_all Size InRange part_of (λ a. part_of then λ b. gives (command.Mailbox (mailbox.Overflow a b))) part_all
    (λ a ha. then_all Size InRange part_of (λ b. gives (command.Mailbox (mailbox.Overflow a b))) part_all (λ b hb us. (ha, hb)))

mailbox_all : (s : Shape) → All InRange (mailbox_by s)
mailbox_all shape.Words = one_all shape.Words
mailbox_all shape.Pages = one_all shape.Pages
mailbox_all shape.Image = one_all shape.Image
mailbox_all shape.Overflow = two_all

-- a station, a message or a length
abbrev top : ℕ
top = 18446744073709551615

report_all : All InRange report_of
report_all =
    after_number InRange top expected.Station (λ s. report_word then λ w. value_number then λ n. gives (command.Report s w n))
    (λ s hs. after_word InRange (named whats) expected.What (λ w. value_number then λ n. gives (command.Report s w n))
    (λ w. after_number InRange 4294967295 expected.Value (λ n. gives (command.Report s w n)) (λ n hn us. (hs, hn))))

sent_range : (k : Kind) (s : ℕ) → s < top + 1 → InRange (sent k s)
sent_range kind.Delta s h = h
sent_range kind.Full s h = h

send_all : All InRange send_of
send_all =
    after_word InRange (named kinds) expected.Send (λ k. station_number then λ s. gives (sent k s))
    (λ k. after_number InRange top expected.Station (λ s. gives (sent k s)) (λ s h us. sent_range k s h))

fetch_all : All InRange fetch_of
fetch_all =
    after_number InRange top expected.Station (λ s. message_number then λ m. gives (command.Fetch s m))
    (λ s hs. after_number InRange top expected.Message (λ m. gives (command.Fetch s m)) (λ m hm us. (hs, hm)))

compare_all : All InRange compare_of
compare_all =
    after_number InRange top expected.Station (λ s. station_number then λ t. gives (command.Compare s t))
    (λ s hs. after_number InRange top expected.Station (λ t. gives (command.Compare s t)) (λ t ht us. (hs, ht)))

put_all : All InRange put_of
put_all ts =
    cond_both (all_words ts && leb (length ts) 255) (Ok (command.Put (length ts), [])) (Err expected.Words) (Read InRange)
    (λ e. leb-true (length ts) 255 (and_parts (all_words ts) (leb (length ts) 255) e).1) (λ e. tt)

asked_all : (v : Verb) → All InRange (asked v)
asked_all verb.Record = after_word InRange (named record_kinds) expected.RecordKind (λ k. gives (command.Record k)) (λ k us. tt)
asked_all verb.Stations = after_number InRange 100 expected.Stations (λ n. gives (command.Stations n)) (λ n h us. omega arith)
asked_all verb.Mailbox = after_word InRange (named shapes) expected.Mailbox mailbox_by mailbox_all
asked_all verb.Report = report_all
asked_all verb.Send = send_all
asked_all verb.Put = put_all
asked_all verb.Fetch = fetch_all
asked_all verb.Discard = after_number InRange top expected.Message (λ m. gives (command.Discard m)) (λ m h us. h)
asked_all verb.Count = λ ts. tt
asked_all verb.Fits = after_number InRange top expected.Length (λ n. gives (command.Fits n)) (λ n h us. h)
asked_all verb.Read = after_number InRange top expected.Message (λ m. gives (command.Read m)) (λ m h us. h)
asked_all verb.Show = after_number InRange top expected.Station (λ s. gives (command.Show s)) (λ s h us. h)
asked_all verb.Compare = compare_all
asked_all verb.Image = λ ts. tt

ended : (c : Command) (ts : List (List ℕ)) → InRange c → Ranged (at_end c ts)
ended c [] h = h
ended c (t ∷ ts) h = tt

whole_range : (r : Result (Command × List (List ℕ)) Expected) → Read InRange r → Ranged (whole r)
whole_range (Ok q) h = ended q.0 q.1 h
whole_range (Err e) h = tt

understood_range : (ts : List (List ℕ)) → Ranged (understood ts)
understood_range [] = tt
understood_range (t ∷ ts) =
    whole_range ((command_word then asked) (t ∷ ts)) (after_word InRange (named verbs) expected.Command asked asked_all (t ∷ ts))

pub in_range : (r : Result (Option Command) Expected) (ts : List (List ℕ)) → r ≡ understood ts → Ranged r
in_range r ts e = rw e (understood_range ts)
