-- Sound pages: a put and a discard leave them sound, and they are what the check of bytes accepts. Assumes nothing.
use Rattle.std.proofs.Common.{◌≡◌, ℕ, zero, suc, ◌+◌, ◌-◌, ◌*◌, ◌/◌, ◌%◌, ◌^◌, ◌<◌, ◌≤◌, Bool, true, false, cond, not, ◌&&◌, ◌||◌, eqb, ltb, leb, List, [], ◌∷◌, ◌++◌, length, get_or, take, drop, replicate, Ok, Err, Result, sym, refl, ap, ◌∙◌, ⊎_elim, append_assoc, add-zero, zero-add, arith, lit<, lit≤}
use Rattle.std.proofs.lemmas.List.{length-append, length-take-le, length-take, length-drop, take-append-le, drop-append-le, drop-drop, take_at, drop_at, take-take, drop-take, length-replicate, drop-replicate, get_or-take}
use Rattle.std.proofs.lemmas.Slice.{between_to_end}
use Rattle.std.proofs.lemmas.Bool.{and_parts, and_from, eq-eqb, ne_eqb, eqb-true, leb-true, le-leb, lt-ltb, false≢true, cases_eq}
use Rattle.std.proofs.lemmas.Bool.Decides.{nat_tests}
use Rattle.words.specs.Words.{kind, formed, zero_run}
use Rattle.words.specs.Writes.{put}
use Rattle.words.specs.Readings.{Told}
use Rattle.mailboxes.specs.Mailboxes.{sized}
use Rattle.layouts.specs.Rows.{head, sized_from, sized_true}
use Rattle.layouts.specs.Pages.{le_bytes, be_bytes, bytes_of, word_at, page_of, page_closed}
use Rattle.layouts.specs.Mounts.{all_zero, well, full, wrong, page_check, mount_next, mount_pages, paged, mount_check, pages_sound, whole, ForeignRefused}
use Rattle.layouts.proofs.PageBytes.{length_bytes_of, page_head, page_size}

-- zero bytes
pub all_zero_replicate : (n : ℕ) → all_zero (replicate n 0) ≡ true
all_zero_replicate zero = refl
all_zero_replicate (suc n) = all_zero_replicate n

all_zero_at : (bs : List ℕ) → all_zero bs ≡ true → (i : ℕ) → get_or bs i 0 ≡ 0
all_zero_at [] e i = refl
all_zero_at (b ∷ bs) e zero = eqb-true b 0 (and_parts (eqb b 0) (all_zero bs) e).0
all_zero_at (b ∷ bs) e (suc i) = all_zero_at bs (and_parts (eqb b 0) (all_zero bs) e).1 i

zero_head : (bs : List ℕ) → all_zero bs ≡ true → word_at bs 0 ≡ 0
zero_head bs e = omega (arith, all_zero_at bs e 0, all_zero_at bs e 1, all_zero_at bs e 2, all_zero_at bs e 3)

-- a message's page is full
head_formed : (w : ℕ) → kind w ≡ 15 → w / 2 ^ 8 % 2 ^ 20 ≡ 0 → formed w ≡ true
head_formed w k z = ap (λ x. eqb (w / 2 ^ (zero_run x).0 % 2 ^ (zero_run x).1) 0) k ∙ eq-eqb (w / 2 ^ 8 % 2 ^ 20) 0 z

pub page_full : (m : List ℕ) → 1 ≤ length m → length m ≤ 127 → full (page_of m) ≡ true
page_full m a b =
    let n = length m in
    let k : kind (head n) ≡ 15 = head_kind n b in
    let f : formed (head n) ≡ true = head_formed (head n) k (head_zeros n b) in
    let front = le_bytes (head n) ++ bytes_of m in
    let lf : length front ≡ 4 + 4 * n = omega (arith, length_bytes_of m) in
    let tail : drop (4 + 4 * n) (page_of m) ≡ replicate (508 - 4 * n) 0 = drop_at front (replicate (508 - 4 * n) 0) (4 + 4 * n) lf in
    let z : all_zero (drop (4 + 4 * n) (page_of m)) ≡ true = ap all_zero tail ∙ all_zero_replicate (508 - 4 * n) in
    and_from _ _ (ap (λ x. eqb (kind x) 15) (page_head m b) ∙ eq-eqb (kind (head n)) 15 k)
    (and_from _ _ (ap formed (page_head m b) ∙ f)
    (and_from _ _ (ap sized (page_size m b) ∙ sized_from n a b)
    (ap (λ x. all_zero (drop (4 + 4 * x) (page_of m))) (page_size m b) ∙ z)))
  where
    head_kind : (n : ℕ) → n ≤ 127 → kind (head n) ≡ 15
    head_kind n h = omega arith

    head_zeros : (n : ℕ) → n ≤ 127 → head n / 2 ^ 8 % 2 ^ 20 ≡ 0
    head_zeros n h = omega arith

-- a put, seen from behind the first bytes
module _ (bs x : List ℕ) (a b : ℕ) (within : a ≤ length bs) where
  long : a ≤ length (take (a + b) bs)
  long = simp length-take (omega arith)

  take_put : take a (put bs (a + b) x) ≡ take a bs
  take_put = take-append-le a (take (a + b) bs) (x ++ drop (a + b + length x) bs) long ∙ take-take a (a + b) bs (omega arith)

  drop_put : drop a (put bs (a + b) x) ≡ put (drop a bs) b x
  drop_put =
      let e : a + (b + length x) ≡ a + b + length x = omega arith in
      drop-append-le a (take (a + b) bs) (x ++ drop (a + b + length x) bs) long
      ∙ ap (λ t. t ++ (x ++ drop (a + b + length x) bs)) (drop-take a b bs)
      ∙ ap (λ t. take b (drop a bs) ++ (x ++ t)) (ap (λ j. drop j bs) (sym e) ∙ sym (drop-drop (b + length x) a bs))

-- two puts, one after the other
put_both : (bs x y : List ℕ) (a b : ℕ) → a + length x ≤ length bs → b ≡ a + length x → put (put bs a x) b y ≡ put bs a (x ++ y)
put_both bs x y a b room e =
    let front = take a bs ++ x in
    let rest = drop (a + length x) bs in
    let mid : put bs a x ≡ front ++ rest = sym (append_assoc (take a bs) x rest) in
    let lf : length front ≡ b = simp (length-append, length-take) (omega arith) in
    let t : take b (put bs a x) ≡ front = ap (take b) mid ∙ take_at front rest b lf in
    let j : a + length x + length y ≡ a + length (x ++ y) = simp length-append (omega arith) in
    let d : drop (b + length y) (put bs a x) ≡ drop (a + length (x ++ y)) bs =
    sym (drop-drop (length y) b (put bs a x)) ∙ ap (λ z. drop (length y) (drop b z)) mid ∙ ap (drop (length y)) (drop_at front rest b lf) ∙ drop-drop (length y) (a + length x) bs ∙ ap (λ z. drop z bs) j in
    ap (λ z. z ++ (y ++ drop (b + length y) (put bs a x))) t
    ∙ ap (λ z. front ++ (y ++ z)) d
    ∙ append_assoc (take a bs) x (y ++ drop (a + length (x ++ y)) bs)
    ∙ ap (λ z. take a bs ++ z) (sym (append_assoc x y (drop (a + length (x ++ y)) bs)))

-- one page more
pub sound_put : (held n : ℕ) (bs p : List ℕ) → length p ≡ 512 → full p ≡ true → held < n → 512 * n ≤ length bs → pages_sound n held bs ≡ true → pages_sound n (suc held) (put bs (512 * held) p) ≡ true
sound_put held zero bs p lp fp h l e = absurd (omega arith)
sound_put zero (suc n) bs p lp fp h l e =
    let r = drop (0 + length p) bs in
    let er : r ≡ drop 512 bs = ap (λ x. drop x bs) (zero-add (length p) ∙ lp) in
    let q = and_parts (all_zero (take 512 bs)) (pages_sound n zero (drop 512 bs)) e in
    and_from _ _ (ap full (take_at p r 512 lp) ∙ fp) (ap (pages_sound n zero) (drop_at p r 512 lp ∙ er) ∙ q.1)
sound_put (suc held) (suc n) bs p lp fp h l e =
    let j : 512 * suc held ≡ 512 + 512 * held = omega arith in
    let q = and_parts (full (take 512 bs)) (pages_sound n held (drop 512 bs)) e in
    let w : 512 ≤ length bs = omega arith in
    let ih = sound_put held n (drop 512 bs) p lp fp (omega arith) (simp length-drop (omega arith)) q.1 in
    and_from _ _ (ap (λ x. full (take 512 (put bs x p))) j ∙ ap full (take_put bs p 512 (512 * held) w) ∙ q.0)
    (ap (λ x. pages_sound n (suc held) (drop 512 (put bs x p))) j ∙ ap (pages_sound n (suc held)) (drop_put bs p 512 (512 * held) w) ∙ ih)

-- an empty page behind those of messages
sound_insert : (held n : ℕ) (ds z : List ℕ) → length z ≡ 512 → all_zero z ≡ true → held ≤ n → 512 * n ≤ length ds → pages_sound n held ds ≡ true → pages_sound (suc n) held (take (512 * held) ds ++ (z ++ drop (512 * held) ds)) ≡ true
sound_insert zero n ds z lz az h l e = and_from _ _ (ap all_zero (take_at z ds 512 lz) ∙ az) (ap (pages_sound n zero) (drop_at z ds 512 lz) ∙ e)
sound_insert (suc held) zero ds z lz az h l e = absurd (omega arith)
sound_insert (suc held) (suc n) ds z lz az h l e =
    let j : 512 * suc held ≡ 512 + 512 * held = omega arith in
    let q = and_parts (full (take 512 ds)) (pages_sound n held (drop 512 ds)) e in
    let rest = z ++ drop (512 + 512 * held) ds in
    let lt : 512 ≤ length (take (512 + 512 * held) ds) = simp length-take (omega arith) in
    let whole_is : take (512 * suc held) ds ++ (z ++ drop (512 * suc held) ds) ≡ take (512 + 512 * held) ds ++ rest = ap (λ x. take x ds ++ (z ++ drop x ds)) j in
    let t : take 512 (take (512 + 512 * held) ds ++ rest) ≡ take 512 ds = take-append-le 512 (take (512 + 512 * held) ds) rest lt ∙ take-take 512 (512 + 512 * held) ds (omega arith) in
    let d : drop 512 (take (512 + 512 * held) ds ++ rest) ≡ take (512 * held) (drop 512 ds) ++ (z ++ drop (512 * held) (drop 512 ds)) =
    drop-append-le 512 (take (512 + 512 * held) ds) rest lt
    ∙ ap (λ x. x ++ rest) (drop-take 512 (512 * held) ds)
    ∙ ap (λ x. take (512 * held) (drop 512 ds) ++ (z ++ x)) (sym (drop-drop (512 * held) 512 ds)) in
    let ih = sound_insert held n (drop 512 ds) z lz az (omega arith) (simp length-drop (omega arith)) q.1 in
    and_from _ _ (ap (λ x. full (take 512 x)) whole_is ∙ ap full t ∙ q.0) (ap (λ x. pages_sound (suc n) held (drop 512 x)) whole_is ∙ ap (pages_sound (suc n) held) d ∙ ih)

-- one page fewer: `held` are left
sound_flat : (k held n : ℕ) (bs z : List ℕ) → length z ≡ 512 → all_zero z ≡ true → k ≤ held → held < n → 512 * n ≤ length bs → pages_sound n (suc held) bs ≡ true → pages_sound n held (put bs (512 * k) (take (512 * (held - k)) (drop (512 * suc k) bs) ++ z)) ≡ true
sound_flat k held zero bs z lz az h g l e = absurd (omega arith)
sound_flat zero held (suc n) bs z lz az h g l e =
    let ds = drop 512 bs in
    let q = and_parts (full (take 512 bs)) (pages_sound n held ds) e in
    let ld : length ds ≡ length bs - 512 = length-drop 512 bs in
    let x = take (512 * (held - 0)) ds in
    let j : 512 * (held - 0) ≡ 512 * held = omega arith in
    let lx : length x ≡ 512 * held = ap (λ i. length (take i ds)) j ∙ length-take-le (512 * held) ds (omega arith) in
    let i : 0 + length (x ++ z) ≡ 512 + 512 * held = simp length-append (omega arith) in
    let is : (x ++ z) ++ drop (0 + length (x ++ z)) bs ≡ take (512 * held) ds ++ (z ++ drop (512 * held) ds) =
    ap (λ y. (x ++ z) ++ drop y bs) i ∙ ap (λ y. (x ++ z) ++ y) (sym (drop-drop (512 * held) 512 bs)) ∙ append_assoc x z (drop (512 * held) ds) ∙ ap (λ y. take y ds ++ (z ++ drop (512 * held) ds)) j in
    ap (pages_sound (suc n) held) is ∙ sound_insert held n ds z lz az (omega arith) (omega arith) q.1
sound_flat (suc k) zero (suc n) bs z lz az h g l e = absurd (omega arith)
sound_flat (suc k) (suc held) (suc n) bs z lz az h g l e =
    let ds = drop 512 bs in
    let q = and_parts (full (take 512 bs)) (pages_sound n (suc held) ds) e in
    let w : 512 ≤ length bs = omega arith in
    let x = take (512 * (suc held - suc k)) (drop (512 * suc (suc k)) bs) ++ z in
    let j : 512 * suc k ≡ 512 + 512 * k = omega arith in
    let j2 : suc held - suc k ≡ held - k = omega arith in
    let j3 : 512 * suc (suc k) ≡ 512 + 512 * suc k = omega arith in
    let ex : x ≡ take (512 * (held - k)) (drop (512 * suc k) ds) ++ z = ap (λ y. take (512 * y) (drop (512 * suc (suc k)) bs) ++ z) j2 ∙ ap (λ y. take (512 * (held - k)) (drop y bs) ++ z) j3 ∙ ap (λ y. take (512 * (held - k)) y ++ z) (sym (drop-drop (512 * suc k) 512 bs)) in
    let ih = sound_flat k held n ds z lz az (omega arith) (omega arith) (simp length-drop (omega arith)) q.1 in
    and_from _ _ (ap (λ y. full (take 512 (put bs y x))) j ∙ ap full (take_put bs x 512 (512 * k) w) ∙ q.0)
    (ap (λ y. pages_sound n held (drop 512 (put bs y x))) j ∙ ap (pages_sound n held) (drop_put bs x 512 (512 * k) w) ∙ ap (λ y. pages_sound n held (put ds (512 * k) y)) ex ∙ ih)

pub sound_closed : (k held n : ℕ) (bs : List ℕ) → k < held → held ≤ n → 512 * n ≤ length bs → pages_sound n held bs ≡ true → pages_sound n (held - 1) (page_closed k held bs) ≡ true
sound_closed k zero n bs h g l e = absurd (omega arith)
sound_closed k (suc held) n bs h g l e =
    let z : List ℕ = replicate 512 0 in
    let d = drop (512 * (k + 1)) bs in
    let x = take (512 * (suc held - (k + 1))) d in
    let ld : length d ≡ length bs - 512 * (k + 1) = length-drop (512 * (k + 1)) bs in
    let lx : length x ≡ 512 * (suc held - (k + 1)) = length-take-le (512 * (suc held - (k + 1))) d (omega arith) in
    let one : page_closed k (suc held) bs ≡ put bs (512 * k) (x ++ z) = put_both bs x z (512 * k) (512 * (suc held - 1)) (omega arith) (omega arith) in
    let j : suc held - (k + 1) ≡ held - k = omega arith in
    let j2 : k + 1 ≡ suc k = omega arith in
    let ex : x ≡ take (512 * (held - k)) (drop (512 * suc k) bs) = ap (λ y. take (512 * y) d) j ∙ ap (λ y. take (512 * (held - k)) (drop (512 * y) bs)) j2 in
    let j3 : suc held - 1 ≡ held = omega arith in
    ap (λ y. pages_sound n y (page_closed k (suc held) bs)) j3 ∙ ap (pages_sound n held) (one ∙ ap (λ y. put bs (512 * k) (y ++ z)) ex)
    ∙ sound_flat k held n bs z (length-replicate {A = ℕ} 512 0) (all_zero_replicate 512) (omega arith) (omega arith) l e

-- wiped pages
pub sound_zeros : (n m : ℕ) → pages_sound n zero (replicate m 0) ≡ true
sound_zeros zero m = refl
sound_zeros (suc n) m =
    let zeros : List ℕ = replicate m 0 in
    and_from _ _ (all_zero_take 512 zeros (all_zero_replicate m)) (ap (pages_sound n zero) (drop-replicate 512 m 0) ∙ sound_zeros n (m - 512))
  where
    all_zero_take : (k : ℕ) (bs : List ℕ) → all_zero bs ≡ true → all_zero (take k bs) ≡ true
    all_zero_take zero bs e = refl
    all_zero_take (suc k) [] e = refl
    all_zero_take (suc k) (b ∷ bs) e = let p = and_parts (eqb b 0) (all_zero bs) e in and_from _ _ p.0 (all_zero_take k bs p.1)

pub sound_held : (n held : ℕ) (bs : List ℕ) → pages_sound n held bs ≡ true → held ≤ n
sound_held n zero bs e = omega arith
sound_held zero (suc held) bs e = absurd (false≢true e)
sound_held (suc n) (suc held) bs e = let h = sound_held n held (drop 512 bs) (and_parts (full (take 512 bs)) (pages_sound n held (drop 512 bs)) e).1 in omega arith

pub sound_at : (n held k : ℕ) (bs : List ℕ) → k < held → pages_sound n held bs ≡ true → full (take 512 (drop (512 * k) bs)) ≡ true
sound_at n zero k bs h e = absurd (omega arith)
sound_at zero (suc held) k bs h e = absurd (false≢true e)
sound_at (suc n) (suc held) zero bs h e = (and_parts (full (take 512 bs)) (pages_sound n held (drop 512 bs)) e).0
sound_at (suc n) (suc held) (suc k) bs h e =
    let j : 512 * suc k ≡ 512 + 512 * k = omega arith in
    let p = and_parts (full (take 512 bs)) (pages_sound n held (drop 512 bs)) e in
    ap (λ x. full (take 512 x)) (ap (λ x. drop x bs) j ∙ sym (drop-drop (512 * k) 512 bs)) ∙ sound_at n held k (drop 512 bs) (omega arith) p.1

pub length_put : (bs x : List ℕ) (a : ℕ) → a + length x ≤ length bs → length (put bs a x) ≡ length bs
length_put bs x a h = simp (length-append, length-take, length-drop) (omega arith)

-- what a page is, by the four tests of its check: a zero head, zero bytes, the kind, and the form
module _ (at : ℕ) (seen : Bool) (page : List ℕ) where
  pub check_empty : all_zero page ≡ true → page_check at seen page ≡ Ok false
  check_empty e = rw (eq-eqb (word_at page 0) 0 (zero_head page e), e) refl

  pub check_full : seen ≡ false → full page ≡ true → page_check at seen page ≡ Ok true
  check_full s e =
      let p = and_parts (eqb (kind (word_at page 0)) 15) (well page) e in
      let k : kind (word_at page 0) ≡ 15 = eqb-true (kind (word_at page 0)) 15 p.0 in
      let nz : word_at page 0 ≡ 0 → ⊥ = λ z. omega (arith, ap kind z) in
      rw (ne_eqb (word_at page 0) 0 nz, p.0, s, p.1) refl

  pub empty_checked : page_check at seen page ≡ Ok false → all_zero page ≡ true
  empty_checked e = by (eqb (word_at page 0) 0) (all_zero page) (eqb (kind (word_at page 0)) 15) (not seen && well page) e
    where
      by : (z a k w : Bool) → ◌≡◌ {A = Result Bool Told} (cond z (cond a (Ok false) (Err (wrong 11 at))) (cond k (cond w (Ok true) (Err (wrong 11 at))) (Err (wrong 10 at)))) (Ok false) → a ≡ true
      by true true k w e = refl
      by true false k w e = let n : ◌≡◌ {A = ℕ} 0 1 = cc in absurd (omega arith)
      by false a true true e = let n : true ≡ false = cc in absurd (false≢true (sym n))
      by false a true false e = let n : ◌≡◌ {A = ℕ} 0 1 = cc in absurd (omega arith)
      by false a false w e = let n : ◌≡◌ {A = ℕ} 0 1 = cc in absurd (omega arith)

  pub full_checked : page_check at seen page ≡ Ok true → (seen ≡ false) × (full page ≡ true)
  full_checked e =
      let p = by (eqb (word_at page 0) 0) (all_zero page) (eqb (kind (word_at page 0)) 15) (not seen && well page) e in
      let q = and_parts (not seen) (well page) p.1 in
      (seen_not seen q.0, and_from _ _ p.0 q.1)
    where
      seen_not : (b : Bool) → not b ≡ true → b ≡ false
      seen_not true e = sym e
      seen_not false e = refl

      by : (z a k w : Bool) → ◌≡◌ {A = Result Bool Told} (cond z (cond a (Ok false) (Err (wrong 11 at))) (cond k (cond w (Ok true) (Err (wrong 11 at))) (Err (wrong 10 at)))) (Ok true) → (k ≡ true) × (w ≡ true)
      by true true k w e = let n : true ≡ false = cc in absurd (false≢true (sym n))
      by true false k w e = let n : ◌≡◌ {A = ℕ} 0 1 = cc in absurd (omega arith)
      by false a true true e = (refl, refl)
      by false a true false e = let n : ◌≡◌ {A = ℕ} 0 1 = cc in absurd (omega arith)
      by false a false w e = let n : ◌≡◌ {A = ℕ} 0 1 = cc in absurd (omega arith)

-- the last test of a page that has passed the others
pub check_last : (at : ℕ) (seen z : Bool) (page : List ℕ) (h : ℕ) → h ≡ word_at page 0 → length page ≡ 512 → (h ≡ 0 → ⊥) → eqb (kind h) 15 ≡ true → seen ≡ false → formed h ≡ true → sized (h % 256) ≡ true → z ≡ all_zero (take (512 - (4 + 4 * (h % 256))) (drop (4 + 4 * (h % 256)) page)) → page_check at seen page ≡ cond z (Ok true) (Err (wrong 11 at))
check_last at seen z page h eh l nz k s f sz e =
    let few = sized_true (h % 256) sz in
    let t : take (512 - (4 + 4 * (h % 256))) (drop (4 + 4 * (h % 256)) page) ≡ drop (4 + 4 * (h % 256)) page = between_to_end page (4 + 4 * (h % 256)) 512 (omega arith) in
    let w : (formed h && (sized (h % 256) && all_zero (drop (4 + 4 * (h % 256)) page))) ≡ z = rw (f, sz) (sym (e ∙ ap all_zero t)) in
    let test : ℕ → Bool = λ x. not seen && (formed x && (sized (x % 256) && all_zero (drop (4 + 4 * (x % 256)) page))) in
    let c : test h ≡ z = ap (λ b. not b && (formed h && (sized (h % 256) && all_zero (drop (4 + 4 * (h % 256)) page)))) s ∙ w in
    ap (λ x. cond (eqb x 0) (cond (all_zero page) (Ok false) (Err (wrong 11 at))) (cond (eqb (kind x) 15) (cond (test x) (Ok true) (Err (wrong 11 at))) (Err (wrong 10 at)))) (sym eh)
    ∙ rw (ne_eqb h 0 nz, k, c) refl

-- page i, and the rest of the pages: where fewer than i pages hold messages, an empty one came before
module _ (n i held : ℕ) (bs page : List ℕ) (turn : i < n) (few : held ≤ i) (at : page ≡ take 512 (drop (512 * i) bs)) where
  mount_turn : (v : Result Bool Told) → v ≡ page_check (512 * i) (ltb held i) page → mount_pages (n - i) (512 * i) held (ltb held i) (drop (512 * i) bs) ≡ mount_next v (mount_pages (n - (i + 1)) (512 * (i + 1)) (held + 1) (ltb held i) (drop (512 * (i + 1)) bs)) (mount_pages (n - (i + 1)) (512 * (i + 1)) held true (drop (512 * (i + 1)) bs))
  mount_turn v is =
      let more : n - i ≡ suc (n - (i + 1)) = omega arith in
      let there : 512 * i + 512 ≡ 512 * (i + 1) = omega arith in
      let next : drop 512 (drop (512 * i) bs) ≡ drop (512 * (i + 1)) bs = drop-drop 512 (512 * i) bs ∙ ap (λ x. drop x bs) there in
      let e : page_check (512 * i) (ltb held i) (take 512 (drop (512 * i) bs)) ≡ v = ap (page_check (512 * i) (ltb held i)) (sym at) ∙ sym is in
      ap (λ x. mount_pages x (512 * i) held (ltb held i) (drop (512 * i) bs)) more
      ∙ ap (λ x. mount_next x (mount_pages (n - (i + 1)) (512 * i + 512) (held + 1) (ltb held i) (drop 512 (drop (512 * i) bs))) (mount_pages (n - (i + 1)) (512 * i + 512) held true (drop 512 (drop (512 * i) bs)))) e
      ∙ ap (λ x. mount_next v (mount_pages (n - (i + 1)) x (held + 1) (ltb held i) (drop 512 (drop (512 * i) bs))) (mount_pages (n - (i + 1)) x held true (drop 512 (drop (512 * i) bs)))) there
      ∙ ap (λ x. mount_next v (mount_pages (n - (i + 1)) (512 * (i + 1)) (held + 1) (ltb held i) x) (mount_pages (n - (i + 1)) (512 * (i + 1)) held true x)) next

  pub mount_wrong : (f : Told) → Err f ≡ page_check (512 * i) (ltb held i) page → mount_pages (n - i) (512 * i) held (ltb held i) (drop (512 * i) bs) ≡ Err f
  mount_wrong f is = mount_turn (Err f) is

  pub mount_message : Ok true ≡ page_check (512 * i) (ltb held i) page → mount_pages (n - i) (512 * i) held (ltb held i) (drop (512 * i) bs) ≡ mount_pages (n - (i + 1)) (512 * (i + 1)) (held + 1) (ltb (held + 1) (i + 1)) (drop (512 * (i + 1)) bs)
  mount_message is =
      let same : ltb held i ≡ ltb (held + 1) (i + 1) = grind (arith, nat_tests) in
      mount_turn (Ok true) is ∙ ap (λ x. mount_pages (n - (i + 1)) (512 * (i + 1)) (held + 1) x (drop (512 * (i + 1)) bs)) same

  pub mount_empty : Ok false ≡ page_check (512 * i) (ltb held i) page → mount_pages (n - i) (512 * i) held (ltb held i) (drop (512 * i) bs) ≡ mount_pages (n - (i + 1)) (512 * (i + 1)) held (ltb held (i + 1)) (drop (512 * (i + 1)) bs)
  mount_empty is =
      let seen : ltb held (i + 1) ≡ true = lt-ltb held (i + 1) (omega arith) in
      mount_turn (Ok false) is ∙ ap (λ x. mount_pages (n - (i + 1)) (512 * (i + 1)) held x (drop (512 * (i + 1)) bs)) (sym seen)

pub mount_sized : (bs : List ℕ) → paged (length bs) ≡ true → mount_check bs ≡ mount_pages (length bs / 512) 0 0 false bs
mount_sized bs g = ap (λ x. cond x (mount_pages (length bs / 512) 0 0 false bs) (Err (wrong 16 0))) g

-- sound pages are accepted
mounts_zeros : (n at held : ℕ) (seen : Bool) (bs : List ℕ) → pages_sound n zero bs ≡ true → mount_pages n at held seen bs ≡ Ok held
mounts_zeros zero at held seen bs e = refl
mounts_zeros (suc n) at held seen bs e =
    let p = and_parts (all_zero (take 512 bs)) (pages_sound n zero (drop 512 bs)) e in
    ap (λ r. mount_next r (mount_pages n (at + 512) (held + 1) seen (drop 512 bs)) (mount_pages n (at + 512) held true (drop 512 bs))) (check_empty at seen (take 512 bs) p.0)
    ∙ mounts_zeros n (at + 512) held true (drop 512 bs) p.1

mounts_sound : (n more at held : ℕ) (bs : List ℕ) → pages_sound n more bs ≡ true → mount_pages n at held false bs ≡ Ok (held + more)
mounts_sound n zero at held bs e = mounts_zeros n at held false bs e ∙ ap Ok (sym (add-zero held))
mounts_sound zero (suc more) at held bs e = absurd (false≢true e)
mounts_sound (suc n) (suc more) at held bs e =
    let p = and_parts (full (take 512 bs)) (pages_sound n more (drop 512 bs)) e in
    let j : held + 1 + more ≡ held + suc more = omega arith in
    ap (λ r. mount_next r (mount_pages n (at + 512) (held + 1) false (drop 512 bs)) (mount_pages n (at + 512) held true (drop 512 bs))) (check_full at false (take 512 bs) refl p.0)
    ∙ mounts_sound n more (at + 512) (held + 1) (drop 512 bs) p.1 ∙ ap Ok j

-- what is accepted is sound
zeros_mounted : (n at held r : ℕ) (bs : List ℕ) → mount_pages n at held true bs ≡ Ok r → (r ≡ held) × (pages_sound n zero bs ≡ true)
zeros_mounted zero at held r bs e = (cc, refl)
zeros_mounted (suc n) at held r bs e = by (zeros_mounted n (at + 512) held r (drop 512 bs)) (page_check at true (take 512 bs)) refl e
  where
    by : (mount_pages n (at + 512) held true (drop 512 bs) ≡ Ok r → (r ≡ held) × (pages_sound n zero (drop 512 bs) ≡ true)) → (v : Result Bool Told) → page_check at true (take 512 bs) ≡ v → mount_next v (mount_pages n (at + 512) (held + 1) true (drop 512 bs)) (mount_pages n (at + 512) held true (drop 512 bs)) ≡ Ok r → (r ≡ held) × (pages_sound (suc n) zero bs ≡ true)
    by ih (Ok true) is e = absurd (false≢true (sym (full_checked at true (take 512 bs) is).0))
    by ih (Ok false) is e = let q = ih e in (q.0, and_from _ _ (empty_checked at true (take 512 bs) is) q.1)
    by ih (Err f) is e = let z : ◌≡◌ {A = ℕ} 0 1 = cc in absurd (omega arith)

sound_mounted : (n at held r : ℕ) (bs : List ℕ) → mount_pages n at held false bs ≡ Ok r → (more : ℕ) × (r ≡ held + more) × (pages_sound n more bs ≡ true)
sound_mounted zero at held r bs e = let q : r ≡ held = cc in (0, omega arith, refl)
sound_mounted (suc n) at held r bs e = by (sound_mounted n (at + 512) (held + 1) r (drop 512 bs)) (page_check at false (take 512 bs)) refl e
  where
    by : (mount_pages n (at + 512) (held + 1) false (drop 512 bs) ≡ Ok r → (more : ℕ) × (r ≡ held + 1 + more) × (pages_sound n more (drop 512 bs) ≡ true)) → (v : Result Bool Told) → page_check at false (take 512 bs) ≡ v → mount_next v (mount_pages n (at + 512) (held + 1) false (drop 512 bs)) (mount_pages n (at + 512) held true (drop 512 bs)) ≡ Ok r → (more : ℕ) × (r ≡ held + more) × (pages_sound (suc n) more bs ≡ true)
    by ih (Ok true) is e =
        let q = ih e in
        let i : r ≡ held + suc q.0 = omega (arith, q.1) in
        (suc q.0, i, and_from _ _ (full_checked at false (take 512 bs) is).1 q.2)
    by ih (Ok false) is e =
        let q = zeros_mounted n (at + 512) held r (drop 512 bs) e in
        let i : r ≡ held + 0 = omega (arith, q.0) in
        (0, i, and_from _ _ (empty_checked at false (take 512 bs) is) q.1)
    by ih (Err f) is e = let z : ◌≡◌ {A = ℕ} 0 1 = cc in absurd (omega arith)

-- the whole of the bytes
pub paged_parts : (n : ℕ) → paged n ≡ true → (1 ≤ n) × (n ≤ 65536) × (n % 512 ≡ 0)
paged_parts n e =
    let p = and_parts (not (eqb n 0)) (leb n 65536 && eqb (n % 512) 0) e in
    let q = and_parts (leb n 65536) (eqb (n % 512) 0) p.1 in
    (nonzero n p.0, leb-true n 65536 q.0, eqb-true (n % 512) 0 q.1)
  where
    nonzero : (n : ℕ) → not (eqb n 0) ≡ true → 1 ≤ n
    nonzero zero e = absurd (false≢true e)
    nonzero (suc n) e = omega arith

pub paged_from : (n : ℕ) → (n ≡ 0 → ⊥) → n ≤ 65536 → n % 512 ≡ 0 → paged n ≡ true
paged_from n a b c = rw (ne_eqb n 0 a, le-leb n 65536 b, eq-eqb (n % 512) 0 c) refl

pub whole_from : (n : ℕ) → paged n ≡ true → whole (n / 512) n ≡ true
whole_from n e =
    let p = paged_parts n e in
    let a : 512 * (n / 512) ≡ n = omega (arith, p.2) in
    let b : n / 512 ≤ 128 = omega (arith, p.1) in
    or_right (eqb (n / 512) 0) _ (and_from _ _ (eq-eqb (512 * (n / 512)) n a) (le-leb (n / 512) 128 b))
  where
    or_right : (x y : Bool) → y ≡ true → (x || y) ≡ true
    or_right true y e = refl
    or_right false y e = e

pub whole_parts : (pages n : ℕ) → whole pages n ≡ true → (512 * pages ≤ n) × (pages ≤ 128) × ((pages ≡ 0 → ⊥) → 512 * pages ≡ n)
whole_parts pages n e =
    ⊎_elim
    (λ (z : pages ≡ 0). (omega arith, omega arith, λ ne. absurd (ne z)))
    (λ (ne : pages ≡ 0 → ⊥).
    let q : (eqb (512 * pages) n && leb pages 128) ≡ true = sym (ap (λ x. x || (eqb (512 * pages) n && leb pages 128)) (ne_eqb pages 0 ne)) ∙ e in
    let p = and_parts (eqb (512 * pages) n) (leb pages 128) q in
    let a = eqb-true (512 * pages) n p.0 in
    let b = leb-true pages 128 p.1 in
    (omega arith, b, λ _. a))
    (cases_eq pages 0)

-- bytes that the check accepts are sound pages, and sound pages are accepted
pub accepted : (bs : List ℕ) (held : ℕ) → mount_check bs ≡ Ok held → (paged (length bs) ≡ true) × (pages_sound (length bs / 512) held bs ≡ true)
accepted bs held e = by (paged (length bs)) refl e
  where
    by : (b : Bool) → paged (length bs) ≡ b → ◌≡◌ {A = Result ℕ Told} (cond b (mount_pages (length bs / 512) 0 0 false bs) (Err (wrong 16 0))) (Ok held) → (paged (length bs) ≡ true) × (pages_sound (length bs / 512) held bs ≡ true)
    by true is e =
        let q = sound_mounted (length bs / 512) 0 0 held bs e in
        let i : q.0 ≡ held = omega (arith, q.1) in
        (is, ap (λ x. pages_sound (length bs / 512) x bs) (sym i) ∙ q.2)
    by false is e = let z : ◌≡◌ {A = ℕ} 0 1 = cc in absurd (omega arith)

pub accepts : (pages held : ℕ) (bs : List ℕ) → (pages ≡ 0 → ⊥) → whole pages (length bs) ≡ true → pages_sound pages held bs ≡ true → (mount_check bs ≡ Ok held) × (length bs / 512 ≡ pages)
accepts pages held bs ne w e =
    let p = whole_parts pages (length bs) w in
    let l : 512 * pages ≡ length bs = p.2 ne in
    let d : length bs / 512 ≡ pages = omega arith in
    let g : paged (length bs) ≡ true = paged_from (length bs) (λ z. ne (omega arith)) (omega (arith, p.1)) (omega arith) in
    (ap (λ x. cond x (mount_pages (length bs / 512) 0 0 false bs) (Err (wrong 16 0))) g ∙ ap (λ x. mount_pages x 0 0 false bs) d ∙ mounts_sound pages held 0 0 bs e ∙ ap Ok (zero-add held), d)

-- a page head in the other byte order
module _ (page : List ℕ) (n : ℕ) (few : 1 ≤ n) (short : n ≤ 127) (is : take 4 page ≡ be_bytes (head n)) where
  foreign_byte : (i : ℕ) → i < 4 → get_or page i 0 ≡ get_or (be_bytes (head n)) i 0
  foreign_byte i h = sym (get_or-take 4 page i 0 h) ∙ ap (λ x. get_or x i 0) is

  foreign_word : word_at page 0 ≡ 240 + n * 2 ^ 24
  foreign_word =
      let a : get_or page 0 0 ≡ head n / 2 ^ 24 % 256 = foreign_byte 0 (lit< tt) in
      let b : get_or page 1 0 ≡ head n / 2 ^ 16 % 256 = foreign_byte 1 (lit< tt) in
      let c : get_or page 2 0 ≡ head n / 2 ^ 8 % 256 = foreign_byte 2 (lit< tt) in
      let d : get_or page 3 0 ≡ head n % 256 = foreign_byte 3 (lit< tt) in
      let w = digits n short in
      omega (arith, a, b, c, d, w)
    where
      digits : (n : ℕ) → n ≤ 127 → (head n / 2 ^ 24 % 256 ≡ 240) × (head n / 2 ^ 16 % 256 ≡ 0) × (head n / 2 ^ 8 % 256 ≡ 0) × (head n % 256 ≡ n)
      digits n h = (omega arith, omega arith, omega arith, omega arith)

  foreign_page : (at : ℕ) (seen : Bool) → page_check at seen page ≡ Err (wrong 10 at)
  foreign_page at seen =
      let w = foreign_word in
      let nz : word_at page 0 ≡ 0 → ⊥ = λ z. omega (arith, w, z) in
      let k : kind (word_at page 0) ≡ 15 → ⊥ = λ z. not_head n short (sym (ap kind w) ∙ z) in
      rw (ne_eqb (word_at page 0) 0 nz, ne_eqb (kind (word_at page 0)) 15 k) refl
    where
      not_head : (n : ℕ) → n ≤ 127 → kind (240 + n * 2 ^ 24) ≡ 15 → ⊥
      not_head n h e = omega arith

foreign_first : (bs : List ℕ) (n : ℕ) → 1 ≤ n → n ≤ 127 → paged (length bs) ≡ true → take 4 bs ≡ be_bytes (head n) → mount_check bs ≡ Err (wrong 10 0)
foreign_first bs n few short g is =
    let p = paged_parts (length bs) g in
    let j : length bs / 512 ≡ suc (length bs / 512 - 1) = omega (arith, p.0, p.2) in
    let first : take 4 (take 512 bs) ≡ be_bytes (head n) = take-take 4 512 bs (lit≤ tt) ∙ is in
    mount_sized bs g
    ∙ ap (λ x. mount_pages x 0 0 false bs) j
    ∙ ap (λ r. mount_next r (mount_pages (length bs / 512 - 1) (0 + 512) (0 + 1) false (drop 512 bs)) (mount_pages (length bs / 512 - 1) (0 + 512) 0 true (drop 512 bs))) (foreign_page (take 512 bs) n few short first 0 false)

-- so it is of the check's answer
pub foreign_answer : (bs : List ℕ) (r : Result ℕ Told) → r ≡ mount_check bs → ForeignRefused bs r
foreign_answer bs r e = (λ at seen page n few short is. foreign_page page n few short is at seen, λ n few short g is. e ∙ foreign_first bs n few short g is)
