-- The turns of the loop that reads a row. Assumes nothing.
use Rattle.std.proofs.Common.{◌≡◌, ℕ, ◌+◌, ◌-◌, ◌%◌, ◌<◌, ◌≤◌, List, [], ◌∷◌, ◌++◌, length, take, drop, set, replicate, Some, None, Ok, Err, Result, sym, refl, ap, ◌∙◌, subst, append_assoc, add-zero, arith, length-drop, length-set, take-append-drop, drop-drop, drop-set-lt, take-add}
use Rattle.std.proofs.lemmas.List.{take_more_set, take-replicate, drop-replicate}
use Rattle.words.specs.declared.reader.Reader.{Reader}
use Rattle.words.specs.Readings.{Reading, Told, read, wrong, left, stepped, before, fault_at, found_at}
use Rattle.words.specs.Words.{index}
use Rattle.words.proofs.Walks.{on, on_stepped, on_before}
use Rattle.entries.specs.Rows.{row_of}
use Rattle.entries.specs.Entries.{examined, later, scan, as_row, row_reading}
use Rattle.entries.proofs.Scans.{entry_is, scan_by}

-- a word whose answer is a fault
pub refused : {X : Type 0} (r : Reader) (x : Result X ℕ) (t : Told) → Err t ≡ found_at r x → (n : ℕ) × (x ≡ Err n) × (t ≡ fault_at r n)
refused {X} r (Err n) t e = (n, refl, (let same : t ≡ fault_at r n = cc in same))
refused {X} r (Ok i) t e = let z : ◌≡◌ {A = ℕ} 0 1 = cc in absurd (omega arith)

later_none : (r : Reading (List ℕ)) → later [] r ≡ r
later_none (read ns ws) = refl
later_none (wrong n ws) = refl

later_later : (a b : List ℕ) (r : Reading (List ℕ)) → later a (later b r) ≡ later (a ++ b) r
later_later a b (read ns ws) = ap (λ xs. read xs ws) (sym (append_assoc a b ns))
later_later a b (wrong n ws) = refl

-- a row is being read by a reader that began as start: cur has the numbers below low, from seen entries
pub record Filling (k top : ℕ) (start reader : Reader) (cur : List ℕ) (low seen : ℕ) : Type 0 where
  pub walked : reader ≡ on start seen
  pub room : seen ≤ length (left start)
  pub reads : scan k top 0 0 (left start) ≡ later (take low cur) (scan k top low seen (left reader))
  pub zeros : drop low cur ≡ replicate (16 - low) 0
  pub long : length cur ≡ 16
  pub within : low ≤ 16
  pub few : seen ≤ low

pub filling_start : (k top : ℕ) (start : Reader) → Filling k top start start (replicate 16 0) 0 0
filling_start k top start = record {
  walked = (λ i. record { words = start.words; place = sym (add-zero start.place) i; layer = start.layer });
  room = omega arith;
  reads = sym (later_none (scan k top 0 0 (left start)));
  zeros = refl;
  long = refl;
  within = omega arith;
  few = omega arith;
}

module _ (k top : ℕ) (start reader : Reader) (cur : List ℕ) (low seen : ℕ) (so : Filling k top start reader cur low seen) where
  filled : (t n : ℕ) → low ≤ t → t < 16 → take (t + 1) (set cur t n) ≡ take low cur ++ (replicate (t - low) 0 ++ (n ∷ []))
  filled t n from station =
      let l = so.long in
      let th : t ≡ low + (t - low) = omega arith in
      let fits : t - low ≤ 16 - low = omega arith in
      let front : take t cur ≡ take low cur ++ replicate (t - low) 0 = ap (λ j. take j cur) th ∙ take-add low (t - low) cur ∙ ap (λ xs. take low cur ++ take (t - low) xs) so.zeros ∙ ap (λ xs. take low cur ++ xs) (take-replicate (t - low) (16 - low) 0 fits) in
      take_more_set cur t n (omega arith) ∙ ap (λ xs. xs ++ (n ∷ [])) front ∙ append_assoc (take low cur) (replicate (t - low) 0) (n ∷ [])

  module _ (w : ℕ) (word : left reader ≡ w ∷ left (stepped reader)) where
    -- a word is left, so the step is by one
    pub step_walked : stepped reader ≡ on start (seen + 1)
    step_walked = on_stepped start reader seen so.walked w (left (stepped reader)) word

    pub step_room : seen + 1 ≤ length (left start)
    step_room =
        let a = ap length word in
        let b = length-drop reader.place reader.words.now in
        let d = length-drop start.place start.words.now in
        let p : reader.place ≡ start.place + seen = ap (λ (r : Reader). r.place) so.walked in
        let q : length reader.words.now ≡ length start.words.now = ap (λ (r : Reader). length r.words.now) so.walked in
        let r = so.room in
        omega arith

    filling_entry : low ≤ index w → examined k top low seen w ≡ Ok (Some (index w, w % (top + 1))) → Filling k top start (stepped reader) (set cur (index w) (w % (top + 1))) (index w + 1) (seen + 1)
    filling_entry from is =
        let t = index w in
        let n = w % (top + 1) in
        let more : List ℕ = replicate (t - low) 0 ++ (n ∷ []) in
        let station : t < 16 = omega arith in
        let front : take (t + 1) (set cur t n) ≡ take low cur ++ more = filled t n from station in
        let next : Reading (List ℕ) = scan k top (t + 1) (seen + 1) (left (stepped reader)) in
        let here : scan k top low seen (left reader) ≡ later more next = ap (scan k top low seen) word ∙ scan_by k top low seen w (left (stepped reader)) (Ok (Some (index w, w % (top + 1)))) is in
        record {
          walked = step_walked;
          room = step_room;
          reads = so.reads ∙ ap (later (take low cur)) here ∙ later_later (take low cur) more next ∙ ap (λ xs. later xs next) (sym front);
          zeros =
              (let past : t < t + 1 = omega arith in
              let d : t + 1 ≡ low + ((t + 1) - low) = omega arith in
              let m : (16 - low) - ((t + 1) - low) ≡ 16 - (t + 1) = omega arith in
              drop-set-lt (t + 1) cur t n past ∙ ap (λ j. drop j cur) d ∙ sym (drop-drop ((t + 1) - low) low cur) ∙ ap (drop ((t + 1) - low)) so.zeros ∙ drop-replicate ((t + 1) - low) (16 - low) 0 ∙ ap (λ j. replicate j 0) m);
          long = length-set cur t n ∙ so.long;
          within = omega arith;
          few = (let f = so.few in omega arith);
        }

    pub filling_step : (x : ℕ × ℕ) → examined k top low seen w ≡ Ok (Some x) → Filling k top start (stepped reader) (set cur x.0 x.1) (x.0 + 1) (seen + 1)
    filling_step x is =
        let so_entry = entry_is k top low seen w x is in
        subst (λ (y : ℕ × ℕ). Filling k top start (stepped reader) (set cur y.0 y.1) (y.0 + 1) (seen + 1)) so_entry.4 (filling_entry so_entry.2 (is ∙ ap (λ y. Ok (Some y)) (sym so_entry.4)))

    pub read_wrong : (n : ℕ) → examined k top low seen w ≡ Err n → row_reading k top (left start) ≡ wrong n (left reader)
    read_wrong n is = ap (as_row top) (so.reads ∙ ap (later (take low cur)) (ap (scan k top low seen) word ∙ scan_by k top low seen w (left (stepped reader)) (Err n) is ∙ ap (wrong n) (sym word)))

    pub read_whole : examined k top low seen w ≡ Ok None → row_reading k top (left start) ≡ read (row_of top cur) (left (stepped reader))
    read_whole is =
        let end : scan k top low seen (left reader) ≡ read (replicate (16 - low) 0) (left (stepped reader)) = ap (scan k top low seen) word ∙ scan_by k top low seen w (left (stepped reader)) (Ok None) is in
        ap (as_row top) (so.reads ∙ ap (later (take low cur)) end ∙ ap (λ xs. read (take low cur ++ xs) (left (stepped reader))) (sym so.zeros) ∙ ap (λ xs. read xs (left (stepped reader))) (take-append-drop low cur))

    pub step_before : stepped reader ≡ before start (left (stepped reader))
    step_before = on_before start (stepped reader) (seen + 1) step_walked step_room

  pub read_ended : left reader ≡ [] → row_reading k top (left start) ≡ wrong 12 (left reader)
  read_ended none = ap (as_row top) (so.reads ∙ ap (λ xs. later (take low cur) (scan k top low seen xs)) none) ∙ ap (wrong 12) (sym none)

  pub stands_before : reader ≡ before start (left reader)
  stands_before = on_before start reader seen so.walked so.room
