-- A reader on its way over words. Assumes nothing.
use Rattle.std.proofs.Common.{◌≡◌, ℕ, ◌+◌, ◌-◌, ◌≤◌, min, cond, eqb, List, ◌∷◌, length, Ok, Err, sym, refl, ap, ◌∙◌, subst, arith, length-drop}
use Rattle.words.specs.declared.reader.Reader.{Reader}
use Rattle.words.specs.Readings.{Reading, read, wrong, left, stepped, before, fault_at, load_answer}
use Rattle.words.proofs.Walks.{same_place, left_more}
use Rattle.wire.specs.Openings.{fault_in}

-- a reader that began as start has come to r, where the words ws are left
pub record At (start r : Reader) (ws : List ℕ) : Type 0 where
  pub stands : r ≡ before start ws
  pub sees : left r ≡ ws
  pub room : length ws ≤ length (left start)

pub at_start : (r : Reader) → At r r (left r)
at_start r = record { stands = same_place r _ _ (omega arith); sees = refl; room = omega arith }

module _ (start r : Reader) (ws : List ℕ) (at : At start r ws) where
  place_is : r.place ≡ start.place + length (left start) - length ws
  place_is = ap (λ (x : Reader). x.place) at.stands

  -- past one word
  pub at_step : (w : ℕ) (more : List ℕ) → ws ≡ w ∷ more → At start (stepped r) more
  at_step w more e =
      let s = at.stands in
      let p = place_is in
      let a = ap length at.sees in
      let b = ap length e in
      let room = at.room in
      let d = length-drop r.place r.words.now in
      let m : r.place + min 1 (length (left r)) ≡ start.place + length (left start) - length more = omega arith in
      let front = sym (left_more r (omega arith)) ∙ at.sees ∙ e in
      record {
        stands = (λ i. record { words = (s i).words; place = m i; layer = (s i).layer });
        sees = (let q : left (stepped r) ≡ more = cc in q);
        room = omega arith;
      }

  -- to any words that are left later
  pub at_before : (more : List ℕ) → before r more ≡ before start more
  at_before more =
      let s = at.stands in
      let p = place_is in
      let a = ap length at.sees in
      let room = at.room in
      let m : r.place + length (left r) - length more ≡ start.place + length (left start) - length more = omega arith in
      λ i. record { words = (s i).words; place = m i; layer = (s i).layer }

  -- the fault of what it reads from there is that of what start would
  pub at_fault : (n : ℕ) → fault_at r n ≡ fault_at (before start ws) n
  at_fault n = ap (λ s. fault_at s n) at.stands

-- a reader that has read to where it stands now
pub at_moved : (start r now : Reader) (ws : List ℕ) → now ≡ r → At start r ws → At start now ws
at_moved start r now ws e at = subst (λ s. At start s ws) (sym e) at

-- the fault of a reader that began at the front of words
pub fault_front : (start : Reader) (n : ℕ) (more : List ℕ) → start.place ≡ 0 → fault_at (before start more) n ≡ fault_in start.layer start.words.now n more
fault_front start n more e =
    let d = length-drop start.place start.words.now in
    let p : start.place + length (left start) - length more ≡ length start.words.now - length more = omega arith in
    λ i. record { number = n; place = cond (eqb n 12) 0 (p i); layer = start.layer }
