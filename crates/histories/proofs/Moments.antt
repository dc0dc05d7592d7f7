-- What holds at each moment of a history: records are joins, clocks rise, and full messages are taken. Assumes nothing.
use Rattle.std.proofs.Common.{◌≡◌, ℕ, ◌<◌, ◌≤◌, ◌||◌, ltb, leb, ◌⊎◌, List, [], ◌∷◌, ◌++◌, length, get_or, Ok, sym, refl, ap, ◌∙◌, subst, inl, inr, arith}
use Rattle.std.proofs.lemmas.Bool.{cond-true, cond-false, le-ltb, lt-ltb}
use Rattle.std.proofs.lemmas.Bool.Decides.{nat_tests}
use Rattle.words.specs.Writes.{most}
use Rattle.crdt.specs.declared.kind.Crdt.{Ghosts}
use Rattle.mailboxes.specs.Mailboxes.{counted}
use Rattle.wire.specs.Messages.{Message, full, delta, Clock}
use Rattle.wire.specs.Openings.{unpacked}
use Rattle.histories.specs.Clusters.{Station, Cluster, entry, found}
use Rattle.histories.specs.Calls.{report, send_delta, send_full, fetch, discard, count, fits, peek, done, number, room_for, refused, faulted, fetched_if, hearing_opened, fetching, answered}
use Rattle.histories.specs.Histories.{Event, did, History, Accepted, Origin, as_full, origin, report_count, covered, join_of, end, Lawful, clock_of, held_by, reports, Fresh}
use Rattle.histories.proofs.Overs.{Laws, covers, over, join_covered, count_le, over_or, over_same}
use Rattle.histories.proofs.Sound.{SoundFull, SoundMessage, covers_grown, with_message}
use Rattle.histories.proofs.Outcomes.{found_was}
use Rattle.histories.proofs.Mails.{FullAt, From, Mail}
use Rattle.histories.proofs.Kept.{found_sound}
use Rattle.histories.proofs.Steps.{Kept, kept}
use Rattle.histories.proofs.Rises.{rises}

or_under : (k a b : ℕ) → a ≤ b → (leb k a || leb k b) ≡ leb k b
or_under k a b low = grind (arith, nat_tests)

module _ {S R : Type 0} (K : Ghosts S R) (laws : Laws K) (start : Cluster K.Value) where
  -- an earlier part of a history is a history
  pub lawful_before : (later g : History K.Value R) → Lawful K start (later ++ g) → Lawful K start g
  lawful_before [] g lawful = lawful
  lawful_before (did c a y ∷ later) g lawful = lawful_before later g lawful.1

  -- a call brings at most one report
  reports_step : (x : Event K.Value R) (h : History K.Value R) → (reports K start (x ∷ h) ≡ reports K start h) ⊎ ((e : Accepted K.Value) × (reports K start (x ∷ h) ≡ e ∷ reports K start h))
  reports_step (did (report s r) done y) h = inr (_, refl)
  reports_step (did (report s r) (number n) y) h = inl refl
  reports_step (did (report s r) (room_for b) y) h = inl refl
  reports_step (did (report s r) (refused n) y) h = inl refl
  reports_step (did (report s r) (faulted t k f) y) h = inl refl
  reports_step (did (send_delta s room) a y) h = inl refl
  reports_step (did (send_full s room) a y) h = inl refl
  reports_step (did (fetch s k room) a y) h = inl refl
  reports_step (did (discard k) a y) h = inl refl
  reports_step (did count a y) h = inl refl
  reports_step (did (fits n) a y) h = inl refl
  reports_step (did (peek k room) a y) h = inl refl

  -- what a clock of an earlier moment covers stays as it is
  covered_later : (c : ℕ → ℕ) (later h : History K.Value R) → ((j : ℕ) → c j ≤ report_count j (reports K start h)) →
      ((j : ℕ) → c j ≤ report_count j (reports K start (later ++ h))) × (over K (reports K start (later ++ h)) (covers c) ≡ over K (reports K start h) (covers c))
  covered_later c [] h low = (low, refl)
  covered_later c (x ∷ later) h low =
      let ih = covered_later c later h low in
      elim (reports_step x (later ++ h)) [
        | inl same ↦ (λ j. subst (λ l. c j ≤ report_count j l) (sym same) (ih.0 j), ap (λ l. over K l (covers c)) same ∙ ih.1)
        | inr more ↦ (
          λ j. subst (λ l. c j ≤ report_count j l) (sym more.1) (omega (arith, ih.0 j, count_le j more.0 (reports K start (later ++ h)))),
          ap (λ l. over K l (covers c)) more.1 ∙ covers_grown K laws more.0 (reports K start (later ++ h)) c ih.0 ∙ ih.1,
        )
      ]

  -- the words of a message that came as a full one
  pub record FullMail (log : List (Accepted K.Value)) (w : List ℕ) (i : ℕ) (g : History K.Value R) : Type 0 where
    pub sender : ℕ
    pub clock : Clock
    pub held : K.Value
    pub opens : unpacked K w ≡ Ok (full sender clock held)
    pub sound : SoundFull K log clock held
    pub sent : entry clock i ≡ report_count i (reports K start g)

  pub full_mail : (o : Origin K.Value R) (i : ℕ) (g : History K.Value R) → o ≡ as_full i g → (log : List (Accepted K.Value)) (w : List ℕ) → Mail K start log o w → FullMail log w i g
  full_mail o i g is log w mail = go mail.message mail.opens mail.sound (subst (λ x. From K start x mail.message) is mail.came)
    where
      go : (m : Message Clock K.Value) → unpacked K w ≡ Ok m → SoundMessage K log m → FullAt i (report_count i (reports K start g)) m → FullMail log w i g
      go (full j c v) opens sound at_i = record { sender = j; clock = c; held = v; opens = opens; sound = sound; sent = at_i }
      go (delta j f t v) opens sound at_i = absurd at_i

  module _ (n : ℕ) (blank : Fresh K n start) where
    pub joins_over : (h : History K.Value R) → Lawful K start h → (s : ℕ) → s < n → held_by K start h s ≡ over K (reports K start h) (covers (entry (clock_of K start h s)))
    joins_over h lawful s low = ((kept K laws start n blank h lawful).stations s low).held

    pub joins : (h : History K.Value R) → Lawful K start h → (s : ℕ) → s < n → held_by K start h s ≡ join_of K (covered (clock_of K start h s) (reports K start h))
    joins h lawful s low = joins_over h lawful s low ∙ sym (join_covered K laws (clock_of K start h s) (reports K start h) (kept K laws start n blank h lawful).numbered)

    pub numbered : (h : History K.Value R) → Lawful K start h → (s : ℕ) → s < n → entry (clock_of K start h s) s ≡ report_count s (reports K start h)
    numbered h lawful s low = ((kept K laws start n blank h lawful).stations s low).own

    -- a record of an earlier moment, by the reports of the whole history
    joins_later : (later h : History K.Value R) → Lawful K start (later ++ h) → (s : ℕ) → s < n → held_by K start h s ≡ over K (reports K start (later ++ h)) (covers (entry (clock_of K start h s)))
    joins_later later h lawful s low =
        let before = lawful_before later h lawful in
        joins_over h before s low ∙ sym (covered_later (entry (clock_of K start h s)) later h ((kept K laws start n blank h before).stations s low).below).1

    pub ordered : (later g later' g' : History K.Value R) → Lawful K start (later ++ g) → later ++ g ≡ later' ++ g' →
        (s t : ℕ) → s < n → t < n → ((j : ℕ) → entry (clock_of K start g s) j ≤ entry (clock_of K start g' t) j) →
        K.joined (held_by K start g s) (held_by K start g' t) ≡ held_by K start g' t
    ordered later g later' g' lawful same s t low high under =
        let log : List (Accepted K.Value) = reports K start (later ++ g) in
        let c : ℕ → ℕ = entry (clock_of K start g s) in
        let c' : ℕ → ℕ = entry (clock_of K start g' t) in
        let left : held_by K start g s ≡ over K log (covers c) = joins_later later g lawful s low in
        let right : held_by K start g' t ≡ over K log (covers c') =
        joins_later later' g' (subst (Lawful K start) same lawful) t high ∙ ap (λ l. over K (reports K start l) (covers c')) (sym same) in
        ap (λ v. K.joined v (held_by K start g' t)) left
        ∙ ap (K.joined _) right
        ∙ sym (over_or K laws log (covers c) (covers c'))
        ∙ over_same K laws log (λ j k. covers c j k || covers c' j k) (covers c') (λ j k one some. or_under k (c j) (c' j) (under j))
        ∙ sym right

    pub equal : (later g later' g' : History K.Value R) → Lawful K start (later ++ g) → later ++ g ≡ later' ++ g' →
        (s t : ℕ) → s < n → t < n → clock_of K start g s ≡ clock_of K start g' t → held_by K start g s ≡ held_by K start g' t
    equal later g later' g' lawful same s t low high level =
        let each : (j : ℕ) → entry (clock_of K start g s) j ≡ entry (clock_of K start g' t) j = λ j. ap (λ c. entry c j) level in
        let up = ordered later g later' g' lawful same s t low high (λ j. omega (arith, each j)) in
        let down = ordered later' g' later g (subst (Lawful K start) same lawful) (sym same) t s high low (λ j. omega (arith, each j)) in
        sym down ∙ laws.comm _ _ ∙ up

    -- a waiting full message is taken by whoever may fetch it
    pub accepted : (g : History K.Value R) → Lawful K start g → (s k room : ℕ) (st : Station K.Value) →
        found K (end start g).stations s ≡ Ok st → most ≤ room → k < counted (end start g).waiting →
        (i : ℕ) (sent_after : History K.Value R) → origin g k ≡ as_full i sent_after →
        answered K (end start g) (fetch s k room) ≡ number (length (get_or (end start g).waiting k []))
    accepted g lawful s k room st is roomy waits i sent_after came =
        let ws : List (List ℕ) = (end start g).waiting in
        let all : Kept K laws start n g = kept K laws start n blank g lawful in
        let m : FullMail (reports K start g) (get_or ws k []) i sent_after = full_mail _ i sent_after came (reports K start g) _ (all.mails k (omega (arith, waits))) in
        let sound = found_sound K laws start n _ _ (end start g) (end start g) all s st (found_was K (end start g).stations s st is) in
        let low : entry m.clock s ≤ entry st.clock s = omega (arith, sound.own, m.sound.below s) in
        let after : Station K.Value = with_message K (full m.sender m.clock m.held) st in
        let takes : fetching K ws s k room (found K (end start g).stations s) ≡ Ok after =
        ap (fetching K ws s k room) is
        ∙ cond-false (ltb room most) _ _ (le-ltb room most roomy)
        ∙ cond-true (ltb k (counted ws)) _ _ (lt-ltb k (counted ws) waits)
        ∙ ap (hearing_opened K s st) m.opens
        ∙ cond-false (ltb (entry st.clock s) (entry m.clock s)) _ _ (le-ltb _ _ low) in
        ap (fetched_if s k (length (get_or ws k []))) takes

    pub rises_later : (later h : History K.Value R) → Lawful K start (later ++ h) → (s j : ℕ) → s < n → entry (clock_of K start h s) j ≤ entry (clock_of K start (later ++ h) s) j
    rises_later [] h lawful s j low = omega arith
    rises_later (did c a y ∷ later) h lawful s j low =
        omega (arith, rises_later later h lawful.1 s j low, rises K n (end start (later ++ h)) y (kept K laws start n blank (later ++ h) lawful.1).size c a lawful.0 s low j)
