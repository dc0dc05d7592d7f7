-- What is printed of a command is understood as that command.
use Rattle.std.proofs.Common.{◌≡◌, ℕ, ◌^◌, ◌<◌, ◌≤◌, true, List, [], ◌∷◌, ◌++◌, length, Some, Ok, codes, decimal, refl, arith, lit<}
use Rattle.scripts.specs.declared.command.Command.{Command}
use Rattle.scripts.specs.declared.command.Command.TheVariants as command
use Rattle.scripts.specs.declared.record_kind.RecordKind.{RecordKind}
use Rattle.scripts.specs.declared.record_kind.RecordKind.TheVariants as record_kind
use Rattle.scripts.specs.declared.store.MailboxShape.{MailboxShape}
use Rattle.scripts.specs.declared.store.MailboxShape.TheVariants as mailbox
use Rattle.scripts.specs.declared.store.Store.{Store}
use Rattle.scripts.specs.declared.store.Store.TheVariants as store
use Rattle.scripts.specs.declared.what.What.{What}
use Rattle.scripts.specs.declared.what.What.TheVariants as what
use Rattle.scripts.specs.Grammar.{understood, part_of, mailbox_of}
use Rattle.scripts.specs.Keywords.{named, whats}
use Rattle.scripts.specs.Laws.{Size, Sizes, PrintedBack}
use Rattle.scripts.specs.Numbers.{decimal_of}
use Rattle.scripts.specs.Shown.{store_shown, what_shown, shown}
use Rattle.scripts.specs.Tokens.{tokens}
use Rattle.scripts.proofs.Cuts.{all_letters}
use Rattle.scripts.proofs.Prints.{decimal_back, word_on, word_last, number_on, number_last}

-- a station, a message or a length
any : (n : ℕ) → n < 2 ^ 64 → decimal_of 18446744073709551615 (decimal n) ≡ Some n
any n h = decimal_back 18446744073709551615 n (omega arith) h

abbrev Back : Command → Type 0
Back c = understood (tokens (shown c)) ≡ Ok (Some c)

-- a command of a verb and a number
one_number : (w : List ℕ) (n : ℕ) → all_letters w ≡ true → 0 < length w → n < 2 ^ 64 → tokens (w ++ (32 ∷ decimal n)) ≡ w ∷ decimal n ∷ []
one_number w n all some h = word_on w all some (decimal n) (decimal n ∷ []) (number_last n h)

two_numbers : (w : List ℕ) (m n : ℕ) → all_letters w ≡ true → 0 < length w → m < 2 ^ 64 → n < 2 ^ 64 → tokens (w ++ (32 ∷ (decimal m ++ (32 ∷ decimal n)))) ≡ w ∷ decimal m ∷ decimal n ∷ []
two_numbers w m n all some hm hn =
    word_on w all some (decimal m ++ (32 ∷ decimal n)) (decimal m ∷ decimal n ∷ []) (number_on m hm (decimal n) (decimal n ∷ []) (number_last n hn))

record_back : (k : RecordKind) → Back (command.Record k)
record_back record_kind.Card = rw (word_on (codes "record") refl (lit< tt) (codes "card") (codes "card" ∷ []) (word_last (codes "card") refl (lit< tt)))
record_back record_kind.Loan = rw (word_on (codes "record") refl (lit< tt) (codes "loan") (codes "loan" ∷ []) (word_last (codes "loan") refl (lit< tt)))

what_letters : (w : What) → all_letters (what_shown w) ≡ true
what_letters what.Erased = refl
what_letters what.Taken = refl
what_letters what.Returned = refl
what_letters what.Retired = refl
what_letters what.Firmware = refl
what_letters what.Lent = refl
what_letters what.Marked = refl

what_some : (w : What) → 0 < length (what_shown w)
what_some what.Erased = lit< tt
what_some what.Taken = lit< tt
what_some what.Returned = lit< tt
what_some what.Retired = lit< tt
what_some what.Firmware = lit< tt
what_some what.Lent = lit< tt
what_some what.Marked = lit< tt

what_named : (w : What) → named whats (what_shown w) ≡ Some w
what_named what.Erased = refl
what_named what.Taken = refl
what_named what.Returned = refl
what_named what.Retired = refl
what_named what.Firmware = refl
what_named what.Lent = refl
what_named what.Marked = refl

report_back : (s : ℕ) (w : What) (n : ℕ) → s < 2 ^ 64 → n < 2 ^ 32 → Back (command.Report s w n)
report_back s w n hs hn =
    let hn' : n < 2 ^ 64 = omega arith in
    let value = word_on (what_shown w) (what_letters w) (what_some w) (decimal n) (decimal n ∷ []) (number_last n hn') in
    let all = number_on s hs (what_shown w ++ (32 ∷ decimal n)) (what_shown w ∷ decimal n ∷ []) value in
    rw (
      word_on (codes "report") refl (lit< tt) (decimal s ++ (32 ∷ (what_shown w ++ (32 ∷ decimal n)))) (decimal s ∷ what_shown w ∷ decimal n ∷ []) all,
      any s hs,
      what_named w,
      decimal_back 4294967295 n (omega arith) hn',
    )

abbrev store_words : Store → List (List ℕ)
store_words (store.Words n) = codes "words" ∷ decimal n ∷ []
store_words (store.Pages n) = codes "pages" ∷ decimal n ∷ []
store_words store.Image = codes "image" ∷ []

small : (n : ℕ) → n ≤ 1000000 → n < 2 ^ 64
small n h = omega arith

store_on : (a : Store) → Size a → (tail : List ℕ) (ts : List (List ℕ)) → tokens tail ≡ ts → tokens (store_shown a ++ (32 ∷ tail)) ≡ store_words a ++ ts
store_on (store.Words n) h tail ts e = word_on (codes "words") refl (lit< tt) (decimal n ++ (32 ∷ tail)) (decimal n ∷ ts) (number_on n (small n h) tail ts e)
store_on (store.Pages n) h tail ts e = word_on (codes "pages") refl (lit< tt) (decimal n ++ (32 ∷ tail)) (decimal n ∷ ts) (number_on n (small n h) tail ts e)
store_on store.Image h tail ts e = word_on (codes "image") refl (lit< tt) tail ts e

store_last : (a : Store) → Size a → tokens (store_shown a) ≡ store_words a
store_last (store.Words n) h = one_number (codes "words") n refl (lit< tt) (small n h)
store_last (store.Pages n) h = one_number (codes "pages") n refl (lit< tt) (small n h)
store_last store.Image h = word_last (codes "image") refl (lit< tt)

part_back : (a : Store) → Size a → (ts : List (List ℕ)) → part_of (store_words a ++ ts) ≡ Ok (a, ts)
part_back (store.Words n) h ts = rw (decimal_back 1000000 n h (small n h))
part_back (store.Pages n) h ts = rw (decimal_back 1000000 n h (small n h))
part_back store.Image h ts = refl

only_back : (a : Store) → Size a → mailbox_of (store_words a) ≡ Ok (command.Mailbox (mailbox.One a), [])
only_back (store.Words n) h = rw (decimal_back 1000000 n h (small n h))
only_back (store.Pages n) h = rw (decimal_back 1000000 n h (small n h))
only_back store.Image h = refl

part_last : (a : Store) → Size a → part_of (store_words a) ≡ Ok (a, [])
part_last (store.Words n) h = rw (decimal_back 1000000 n h (small n h))
part_last (store.Pages n) h = rw (decimal_back 1000000 n h (small n h))
part_last store.Image h = refl

mailbox_back : (m : MailboxShape) → Sizes m → Back (command.Mailbox m)
mailbox_back (mailbox.One a) h =
    rw (word_on (codes "mailbox") refl (lit< tt) (store_shown a) (store_words a) (store_last a h), only_back a h)
mailbox_back (mailbox.Overflow a b) h =
    let stores = store_on a h.0 (store_shown b) (store_words b) (store_last b h.1) in
    let both = word_on (codes "overflow") refl (lit< tt) (store_shown a ++ (32 ∷ store_shown b)) (store_words a ++ store_words b) stores in
    rw (
      word_on (codes "mailbox") refl (lit< tt) (codes "overflow " ++ (store_shown a ++ (32 ∷ store_shown b))) (codes "overflow" ∷ (store_words a ++ store_words b)) both,
      part_back a h.0 (store_words b),
      part_last b h.1,
    )

send_back : (w : List ℕ) (s : ℕ) → all_letters w ≡ true → 0 < length w → s < 2 ^ 64 → tokens (codes "send " ++ (w ++ (32 ∷ decimal s))) ≡ codes "send" ∷ w ∷ decimal s ∷ []
send_back w s all some h = word_on (codes "send") refl (lit< tt) (w ++ (32 ∷ decimal s)) (w ∷ decimal s ∷ []) (one_number w s all some h)

pub printed_back : PrintedBack
printed_back (command.Record k) h p = record_back k
printed_back (command.Stations n) h p =
    let h' : n < 2 ^ 64 = omega arith in rw (one_number (codes "stations") n refl (lit< tt) h', decimal_back 100 n h h')
printed_back (command.Mailbox m) h p = mailbox_back m h
printed_back (command.Report s w n) h p = report_back s w n h.0 h.1
printed_back (command.SendDelta s) h p = rw (send_back (codes "delta") s refl (lit< tt) h, any s h)
printed_back (command.SendFull s) h p = rw (send_back (codes "full") s refl (lit< tt) h, any s h)
printed_back (command.Put n) h p = absurd (p n refl)
printed_back (command.Fetch s m) h p = rw (two_numbers (codes "fetch") s m refl (lit< tt) h.0 h.1, any s h.0, any m h.1)
printed_back (command.Discard m) h p = rw (one_number (codes "discard") m refl (lit< tt) h, any m h)
printed_back command.Count h p = rw (word_last (codes "count") refl (lit< tt))
printed_back (command.Fits n) h p = rw (one_number (codes "fits") n refl (lit< tt) h, any n h)
printed_back (command.Read m) h p = rw (one_number (codes "read") m refl (lit< tt) h, any m h)
printed_back (command.Show s) h p = rw (one_number (codes "show") s refl (lit< tt) h, any s h)
printed_back (command.Compare s t) h p = rw (two_numbers (codes "compare") s t refl (lit< tt) h.0 h.1, any s h.0, any t h.1)
printed_back command.Image h p = rw (word_last (codes "image") refl (lit< tt))
