-- What an answer that is a header says of the message that was unpacked. Assumes nothing.
use Rattle.std.proofs.Common.{◌≡◌, ℕ, List, true, is_err, IfOk, Ok, Err, Result, sym, refl, ap, ◌∙◌, arith}
use Rattle.std.proofs.lemmas.Bool.{false≢true}
use Rattle.words.specs.declared.fault.Fault.{Fault}
use Rattle.words.specs.Readings.{Told}
use Rattle.entries.specs.Rows.{empty}
use Rattle.crdt.specs.declared.kind.Crdt.{Ghosts}
use Rattle.wire.specs.Messages.{Message, full, delta, Clock, packed}
use Rattle.wire.specs.Openings.{unpacked, record_of, OneToOne}
use Rattle.wire.specs.Answers.{bare, clock_in, unpack_answer, clock_unpacked, record_unpacked}
use Rattle.messages.specs.declared.header.Header.{Header}
use Rattle.messages.specs.declared.header.Header.TheVariants as header
use Rattle.messages.specs.Headers.{header_parts, header_told, message_of}

message_is : {V : Type 0} (h : Header) (m : Message Clock V) → header_parts h ≡ bare m → message_of h (clock_in m) (record_of m) ≡ m
message_is (header.Full s) (full r c v) e = let p : s ≡ r = cc in ap (λ x. full x c v) p
message_is (header.Full s) (delta r f t v) e = let z : ◌≡◌ {A = ℕ} 0 1 = cc in absurd (omega arith)
message_is (header.Delta s p) (full r c v) e = let z : ◌≡◌ {A = ℕ} 0 1 = cc in absurd (omega arith)
message_is (header.Delta s p) (delta r f t v) e =
    let a : s ≡ r = cc in
    let b : p.from ≡ f = cc in
    let d : p.to ≡ t = cc in
    ap (λ x. delta x p.from p.to v) a ∙ ap (λ x. delta r x p.to v) b ∙ ap (λ x. delta r f x v) d

-- where a message is refused, it leaves no clock and no record
pub none_unpacked : {V : Type 0} (d : V) (x : Result (Message Clock V) Told) (r : Result Header Fault) → header_told r ≡ unpack_answer x → is_err r ≡ true → (empty 65535 ≡ clock_unpacked x) × (d ≡ record_unpacked d x)
none_unpacked d x (Ok h) e t = absurd (false≢true t)
none_unpacked d (Ok m) (Err f) e t = let z : ◌≡◌ {A = ℕ} 0 1 = cc in absurd (omega arith)
none_unpacked d (Err f) (Err g) e t = (refl, refl)

-- where one is read, the words are those of its header, its clock and its record
pub all_unpacked : {S R : Type 0} (K : Ghosts S R) → OneToOne K → (ws : List ℕ) (x : Result (Message Clock K.Value) Told) (c : Clock) (v : K.Value) (r : Result Header Fault) → unpacked K ws ≡ x → header_told r ≡ unpack_answer x → IfOk r (λ h. c ≡ clock_unpacked x) → IfOk r (λ h. v ≡ record_unpacked K.least x) → IfOk r (λ h. ws ≡ packed K (message_of h c v))
all_unpacked K laws ws x c v (Err f) is e p q = tt
all_unpacked K laws ws (Err f) c v (Ok h) is e p q = let z : ◌≡◌ {A = ℕ} 0 1 = cc in absurd (omega arith)
all_unpacked K laws ws (Ok m) c v (Ok h) is e p q =
    let b : header_parts h ≡ bare m = cc in
    (laws.only ws m is).0 ∙ ap (packed K) (sym (ap (λ y. message_of h y v) p ∙ ap (message_of h (clock_in m)) q ∙ message_is h m b))
