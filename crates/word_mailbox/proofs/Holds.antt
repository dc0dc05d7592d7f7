-- What the invariant of a word store says of its messages and of their places. Assumes nothing.
use Rattle.std.proofs.Common.{◌≡◌, ℕ, ◌+◌, ◌-◌, ◌%◌, ◌<◌, ◌≤◌, true, leb, List, [], ◌∷◌, ◌++◌, length, get_or, take, drop, set, sym, refl, ap, ◌∙◌, arith}
use lib.Seq.{paste}
use Rattle.std.specs.List.{remove, copy_within, AllByRecursion}
use Rattle.std.proofs.lemmas.Bool.{le-leb}
use Rattle.std.proofs.lemmas.List.{length-set}
use Rattle.std.proofs.lemmas.List.Edits.{length-paste}
use Rattle.std.proofs.lemmas.Slice.{put_mid-paste}
use borrow.Rule.Slice.PartMut.{put_mid}
use Rattle.mailboxes.specs.Mailboxes.{Message, sized, counted}
use Rattle.layouts.specs.Rows.{head, laid, parsed, sound, row_put, row_discard, row_sizes}
use Rattle.layouts.proofs.Rows
use Rattle.word_mailbox.specs.declared.WordMailbox.{WordMailbox}
use Rattle.word_mailbox.specs.Stores.{memory_of, waiting_of, takes_of}

-- message k of a store, its page head at a place
pub record At (t : WordMailbox) (k p : ℕ) : Type 0 where
  pub within : p + 1 + length (get_or (waiting_of t) k []) ≤ t.used
  pub size : get_or (memory_of t) p 0 % 256 ≡ length (get_or (waiting_of t) k [])
  pub next : length (laid (take (k + 1) (waiting_of t))) ≡ p + (length (get_or (waiting_of t) k []) + 1)
  pub short : length (get_or (waiting_of t) k []) ≤ 127

head_size : (n w : ℕ) → n ≤ 127 → w ≡ head n → w % 256 ≡ n
head_size n w h e = ap (λ x. x % 256) e ∙ low n h
  where
    low : (n : ℕ) → n ≤ 127 → head n % 256 ≡ n
    low n h = omega arith

module _ (t : WordMailbox) where
  pub used_is : t.used ≡ length (laid (waiting_of t))
  used_is = sym (Rows.laid_length (memory_of t) t.used t.held t.room t.messages)

  pub held_is : t.held ≡ counted (waiting_of t)
  held_is = Rows.counted_is (memory_of t) t.used t.held t.room t.messages t.small

  pub held_few : t.held ≤ 4096
  held_few = let h = Rows.held_small (memory_of t) t.used t.held t.room t.messages in omega (arith, t.small)

  pub at : (k : ℕ) → k < t.held → (p : ℕ) → p ≡ length (laid (take k (waiting_of t))) → At t k p
  at k h p e =
      let s = Rows.at_place (memory_of t) t.used t.held t.room t.messages k h p e in
      let m = Rows.message_short (memory_of t) t.used t.held t.room t.messages k h in
      record {
        within = s.0;
        size = head_size (length (get_or (waiting_of t) k [])) (get_or (memory_of t) p 0) m.1 s.1;
        next = s.2;
        short = m.1;
      }

  pub takes_is : (n : ℕ) → sized n ≡ true → length (memory_of t) ≤ 4096 → leb (t.used + n + 1) (length (memory_of t)) ≡ takes_of t n
  takes_is n s l = rw (s, le-leb (length (memory_of t)) 4096 l) (ap (λ x. leb (x + n + 1) (length (memory_of t))) used_is)

  pub takes_room : (n : ℕ) → takes_of t n ≡ true → (length (memory_of t) ≤ 4096) × (t.used + n + 1 ≤ length (memory_of t))
  takes_room n e = let r = Rows.row_room (length (memory_of t)) (waiting_of t) n e in (r.0, omega (arith, used_is, r.1))

  -- message k, from the place of its page head to its end
  pub message_at : (k p q : ℕ) → k < t.held → p ≡ length (laid (take k (waiting_of t))) → q ≡ p + 1 + length (get_or (waiting_of t) k []) → take (q - (p + 1)) (drop (p + 1) (memory_of t)) ≡ get_or (waiting_of t) k []
  message_at k p q h p-is q-is = Rows.words_at (memory_of t) t.used t.held t.room t.messages k h p (q - (p + 1)) p-is (omega arith)

  -- a message put behind the used words
  module _ (m part : List ℕ) (h k : ℕ) (fits : takes_of t (length m) ≡ true) (h-is : h ≡ head (length m)) (k-is : k ≡ length m) (part-is : part ≡ m) where
    abbrev new : List ℕ
    new = put_mid (t.used + 1) k (set (memory_of t) t.used h) part

    is : new ≡ paste (set (memory_of t) t.used (head (length m))) (t.used + 1) m (length m)
    is =
        put_mid-paste (t.used + 1) k (set (memory_of t) t.used h) part m (length m) part-is (sym k-is) refl
        ∙ ap (λ x. paste (set (memory_of t) t.used x) (t.used + 1) m (length m)) h-is

    short : (1 ≤ length m) × (length m ≤ 127)
    short = row_sizes (length (memory_of t)) (waiting_of t) (length m) fits

    put_laid : take (t.used + (length m + 1)) new ≡ laid (waiting_of t ++ (m ∷ []))
    put_laid = ap (λ x. take x new) (let e : t.used + (length m + 1) ≡ t.used + length m + 1 = omega arith in e) ∙ Rows.put_laid (memory_of t) t.used t.held t.room t.messages m new (takes_room (length m) fits).1 is

    put_all : AllByRecursion Message (waiting_of t ++ (m ∷ []))
    put_all = Rows.put_all (memory_of t) t.used t.held t.room t.messages m short.0 short.1

    put_count : t.held + 1 ≡ length (waiting_of t ++ (m ∷ []))
    put_count = Rows.put_count (memory_of t) t.used t.held t.room t.messages m

    pub put_waiting : parsed (t.held + 1) (take (t.used + (length m + 1)) new) ≡ waiting_of t ++ (m ∷ [])
    put_waiting = Rows.parsed_is (t.held + 1) (take (t.used + (length m + 1)) new) (waiting_of t ++ (m ∷ [])) put_count put_laid put_all

    pub put_sound : sound (t.held + 1) (take (t.used + (length m + 1)) new) ≡ true
    put_sound = Rows.sound_is (t.held + 1) (take (t.used + (length m + 1)) new) (waiting_of t ++ (m ∷ [])) put_count put_laid put_all

    pub put_room : t.used + (length m + 1) ≤ length new
    put_room =
        let r = (takes_room (length m) fits).1 in
        let w = set (memory_of t) t.used (head (length m)) in
        let lw : length w ≡ length (memory_of t) = length-set (memory_of t) t.used (head (length m)) in
        omega (arith, r, ap length is ∙ length-paste w (t.used + 1) m (length m) (omega (arith, r)) (omega arith) ∙ lw)

    pub put_memory : new ≡ row_put (takes_of t (length m)) (waiting_of t) m (memory_of t)
    put_memory = Rows.put_memory (takes_of t (length m)) (waiting_of t) (memory_of t) m new t.used fits used_is (takes_room (length m) fits).1 is

  -- the messages after message k moved down to where it stood
  module _ (k : ℕ) (below : k < t.held) (p q n : ℕ) (p-is : p ≡ length (laid (take k (waiting_of t)))) (n-is : n ≡ length (get_or (waiting_of t) k [])) (q-is : q ≡ p + 1 + n) (new : List ℕ) (moved : new ≡ copy_within (memory_of t) q t.used p) where
    moved_is : new ≡ paste (memory_of t) p (drop (p + 1 + n) (memory_of t)) (t.used - (p + 1 + n))
    moved_is = moved ∙ ap (λ x. paste (memory_of t) p (drop x (memory_of t)) (t.used - x)) q-is

    left : t.used - (q - p) ≡ t.used - (n + 1)
    left = omega arith

    close_laid : take (t.used - (q - p)) new ≡ laid (remove (waiting_of t) k)
    close_laid = ap (λ x. take x new) left ∙ Rows.close_laid (memory_of t) t.used t.held t.room t.messages k below p n p-is n-is new moved_is

    close_all : AllByRecursion Message (remove (waiting_of t) k)
    close_all = Rows.removed_all (memory_of t) t.used t.held t.room t.messages k below p n p-is n-is

    close_count : t.held - 1 ≡ length (remove (waiting_of t) k)
    close_count = Rows.removed_count (memory_of t) t.used t.held t.room t.messages k below p n p-is n-is

    pub close_waiting : parsed (t.held - 1) (take (t.used - (q - p)) new) ≡ remove (waiting_of t) k
    close_waiting = Rows.parsed_is (t.held - 1) (take (t.used - (q - p)) new) (remove (waiting_of t) k) close_count close_laid close_all

    pub close_sound : sound (t.held - 1) (take (t.used - (q - p)) new) ≡ true
    close_sound = Rows.sound_is (t.held - 1) (take (t.used - (q - p)) new) (remove (waiting_of t) k) close_count close_laid close_all

    pub close_memory : new ≡ row_discard (waiting_of t) k (memory_of t)
    close_memory = Rows.discard_memory (memory_of t) t.used t.held t.room t.messages k below p n p-is n-is new (omega (arith, held_is)) moved_is
