-- What the invariant of a page store says of its messages and of their pages. Assumes nothing.
use Rattle.std.proofs.Common.{◌≡◌, ℕ, ◌+◌, ◌-◌, ◌*◌, ◌^◌, ◌<◌, ◌≤◌, true, ltb, List, [], ◌∷◌, ◌++◌, length, get_or, take, drop, sym, refl, ap, ◌∙◌, add-one, arith}
use Rattle.std.specs.List.{remove}
use Rattle.std.proofs.lemmas.List.{take_all}
use Rattle.std.proofs.lemmas.Bool.{and_parts, ltb-true, lt-ltb, le-ltb, cond-true}
use Rattle.words.specs.Writes.{put}
use Rattle.mailboxes.specs.Mailboxes.{sized, counted}
use Rattle.layouts.specs.PageLaws.{page_sizes}
use Rattle.layouts.specs.Pages.{page_of, pages_of, page_put, page_closed, page_discard}
use Rattle.layouts.specs.Mounts.{full, pages_sound, whole}
use Rattle.layouts.proofs.Rows.{paste_put}
use Rattle.layouts.proofs.PageBytes.{length_page_of, page_back}
use Rattle.layouts.proofs.PageLists.{length_pages, counted_pages, put_pages, closed_pages, length_closed, moved_down_is}
use Rattle.layouts.proofs.Mounts
use Rattle.page_mailbox.specs.declared.PageMailbox.{PageMailbox}
use Rattle.page_mailbox.specs.Stores.{memory_of, waiting_of, takes_of}

module _ (t : PageMailbox) where
  pub room : (512 * t.pages ≤ length (memory_of t)) × (t.pages ≤ 128)
  room = let p = Mounts.whole_parts t.pages (length (memory_of t)) t.extent in (p.0, p.1)

  pub held_few : t.held ≤ t.pages
  held_few = Mounts.sound_held t.pages t.held (memory_of t) t.messages

  pub waiting_long : length (waiting_of t) ≡ t.held
  waiting_long = length_pages t.held (memory_of t)

  pub held_is : t.held ≡ counted (waiting_of t)
  held_is = omega (arith, counted_pages t.held (memory_of t), held_few, room)

  pub takes_is : (n : ℕ) → sized n ≡ true → ltb t.held t.pages ≡ takes_of t n
  takes_is n s = rw s (ap (λ x. ltb x t.pages) (sym waiting_long))

  pub takes_short : (n : ℕ) → takes_of t n ≡ true → (1 ≤ n) × (n ≤ 127)
  takes_short n e = page_sizes t.pages (waiting_of t) n e

  pub takes_room : (n : ℕ) → takes_of t n ≡ true → t.held < t.pages
  takes_room n e = let h = ltb-true (length (waiting_of t)) t.pages (and_parts (sized n) (ltb (length (waiting_of t)) t.pages) e).1 in omega (arith, waiting_long)

  pub full_at : (k : ℕ) → k < t.held → full (take 512 (drop (512 * k) (memory_of t))) ≡ true
  full_at k h = Mounts.sound_at t.pages t.held k (memory_of t) h t.messages

  -- a message put on the first page that is left
  module _ (m new : List ℕ) (fits : takes_of t (length m) ≡ true) (is : new ≡ put (memory_of t) (512 * t.held) (page_of m)) where
    short : (1 ≤ length m) × (length m ≤ 127)
    short = takes_short (length m) fits

    page_long : length (page_of m) ≡ 512
    page_long = length_page_of m short.1

    page_room : 512 * t.held + 512 ≤ length (memory_of t)
    page_room = omega (arith, takes_room (length m) fits, room)

    put_long : length new ≡ length (memory_of t)
    put_long = ap length is ∙ Mounts.length_put (memory_of t) (page_of m) (512 * t.held) (omega (arith, page_long, page_room))

    pub put_sound : pages_sound t.pages (t.held + 1) new ≡ true
    put_sound =
        ap (λ x. pages_sound t.pages x new) (add-one t.held) ∙ ap (pages_sound t.pages _) is
        ∙ Mounts.sound_put t.held t.pages (memory_of t) (page_of m) page_long (Mounts.page_full m short.0 short.1) (takes_room (length m) fits) room.0 t.messages

    pub put_extent : whole t.pages (length new) ≡ true
    put_extent = ap (whole t.pages) put_long ∙ t.extent

    pub put_waiting : ((i : ℕ) → get_or m i 0 < 2 ^ 32) → pages_of (t.held + 1) new ≡ waiting_of t ++ (m ∷ [])
    put_waiting words =
        ap (pages_of (t.held + 1)) (is ∙ sym (paste_put (memory_of t) (512 * t.held) (page_of m) (page_of m) 512 (take_all 512 (page_of m) (omega (arith, page_long))) (sym page_long)))
        ∙ put_pages t.held m (memory_of t) page_room page_long (page_back m short.1 words)

    pub put_memory : new ≡ page_put (takes_of t (length m)) (waiting_of t) m (memory_of t)
    put_memory = is ∙ ap (λ x. put (memory_of t) (512 * x) (page_of m)) (sym waiting_long) ∙ sym (cond-true (takes_of t (length m)) (put (memory_of t) (512 * length (waiting_of t)) (page_of m)) (memory_of t) fits)

  -- the pages after page k moved down
  module _ (k : ℕ) (new : List ℕ) (below : k < t.held) (is : new ≡ page_closed k t.held (memory_of t)) where
    used_room : 512 * t.held ≤ length (memory_of t)
    used_room = omega (arith, held_few, room)

    pub close_sound : pages_sound t.pages (t.held - 1) new ≡ true
    close_sound = ap (pages_sound t.pages (t.held - 1)) is ∙ Mounts.sound_closed k t.held t.pages (memory_of t) below held_few room.0 t.messages

    pub close_extent : whole t.pages (length new) ≡ true
    close_extent =
        let l : length new ≡ length (memory_of t) = ap length (is ∙ sym (moved_down_is k t.held (memory_of t) below used_room)) ∙ length_closed k t.held (memory_of t) below used_room in
        ap (whole t.pages) l ∙ t.extent

    pub close_waiting : pages_of (t.held - 1) new ≡ remove (waiting_of t) k
    close_waiting = ap (pages_of (t.held - 1)) (is ∙ sym (moved_down_is k t.held (memory_of t) below used_room)) ∙ closed_pages k t.held (memory_of t) below used_room

    pub close_memory : new ≡ page_discard (waiting_of t) k (memory_of t)
    close_memory =
        is ∙ ap (λ x. page_closed k x (memory_of t)) (sym waiting_long)
        ∙ sym (cond-true (ltb k (counted (waiting_of t))) (page_closed k (length (waiting_of t)) (memory_of t)) (memory_of t) (lt-ltb k (counted (waiting_of t)) (omega (arith, held_is))))

  pub discard_none : (k : ℕ) → t.held ≤ k → memory_of t ≡ page_discard (waiting_of t) k (memory_of t)
  discard_none k h = rw (le-ltb k (counted (waiting_of t)) (omega (arith, held_is))) refl
