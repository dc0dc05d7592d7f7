-- What an overflow holds, over what its two parts hold. Assumes nothing.
--     waiting_of a b o      the first's messages, then the second's
--     goes_first a b o n    a message of n words goes to the first: nothing waits in the second, and the first takes it
--     goes_second a b o n   it goes to the second: it does not go to the first, and the second takes it
--     takes_of a b o n      one of the two takes it
use Rattle.std.specs.Prelude.{ℕ, Bool, not, ◌&&◌, List, ◌++◌}
use Rattle.mailboxes.specs.Overflows.{to_first, spills}
use Rattle.mailboxes.specs.declared.mailbox.Mailbox as mailbox
use Rattle.mailboxes.specs.declared.overflow.Overflow.{Overflow}

abbrev pub waiting_of : {A B : Type 0} → mailbox.Ghosts A → mailbox.Ghosts B → Overflow A B → List (List ℕ)
waiting_of a b o = a.waiting o.first ++ b.waiting o.second

abbrev pub goes_first : {A B : Type 0} → mailbox.Ghosts A → mailbox.Ghosts B → Overflow A B → ℕ → Bool
goes_first a b o n = to_first (a.takes o.first n) (b.waiting o.second)

abbrev pub goes_second : {A B : Type 0} → mailbox.Ghosts A → mailbox.Ghosts B → Overflow A B → ℕ → Bool
goes_second a b o n = not (goes_first a b o n) && b.takes o.second n

abbrev pub takes_of : {A B : Type 0} → mailbox.Ghosts A → mailbox.Ghosts B → Overflow A B → ℕ → Bool
takes_of a b o n = spills (a.takes o.first n) (b.takes o.second n) (b.waiting o.second)
