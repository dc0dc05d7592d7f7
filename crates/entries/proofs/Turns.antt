-- The size of a row, and the turns of the loop that writes it. Assumes nothing.
use Rattle.std.proofs.Common.{◌≡◌, ℕ, zero, suc, ◌+◌, ◌-◌, ◌%◌, ◌<◌, ◌≤◌, Bool, true, false, not, cond, eqb, List, [], ◌∷◌, ◌++◌, length, get_or, drop, set, replicate, map, filter, sym, refl, ap, ◌∙◌, subst, arith, length-append, length-set}
use Rattle.std.specs.List.{sum_by}
use Rattle.std.proofs.lemmas.List.{drop_more, drop_all, length-map, get_or-map}
use Rattle.std.proofs.lemmas.List.Filters.{length-filter_both}
use Rattle.std.proofs.lemmas.List.Sums.{length-filter}
use Rattle.std.proofs.lemmas.Bool.{eq-eqb, ne_eqb, cond-true, cond-false}
use Rattle.words.specs.Writes.{put}
use Rattle.words.proofs.Writes.{put_step, put_last}
use Rattle.entries.specs.Sixteen.{getD_tabulated, tabulated_is}
use Rattle.entries.specs.Rows.{same_row, length_row, row_of, empty}
use Rattle.entries.specs.Entries.{entry_word, end_word, entries, entries_and_end}
use Rattle.entries.proofs.Scans.{tabulated_same}

pub zero_at : (m k : ℕ) → ◌≡◌ {A = ℕ} (get_or (replicate m 0) k 0) 0
zero_at zero k = refl
zero_at (suc m) zero = refl
zero_at (suc m) (suc k) = zero_at m k

-- sixteen stored zeros stand for the empty row
pub zeros_stand : (top : ℕ) → row_of top (replicate 16 0) ≡ empty top
zeros_stand top = same_row _ _ (tabulated_same _ _ (λ k h. ap (λ n. n % (top + 1)) (zero_at 16 k)))

-- what is left of the row that xs stands for, from entry i on
module _ (k top : ℕ) (xs : List ℕ) (i : ℕ) where
  first : i < 16 → drop i (row_of top xs).numbers ≡ (get_or xs i 0 % (top + 1)) ∷ drop (i + 1) (row_of top xs).numbers
  first low =
      let r = (row_of top xs).numbers in
      let long = length_row (row_of top xs) in
      drop_more r i 0 (omega arith) ∙ ap (λ n. n ∷ drop (i + 1) r) (getD_tabulated (λ j. get_or xs j 0 % (top + 1)) i low)

  pub left_skip : i < 16 → get_or xs i 0 % (top + 1) ≡ 0 → entries k i (drop i (row_of top xs).numbers) ≡ entries k (i + 1) (drop (i + 1) (row_of top xs).numbers)
  left_skip low none = ap (entries k i) (first low) ∙ cond-true _ _ _ (eq-eqb _ _ none)

  pub left_take : i < 16 → (get_or xs i 0 % (top + 1) ≡ 0 → ⊥) → entries k i (drop i (row_of top xs).numbers) ≡ entry_word k i (get_or xs i 0 % (top + 1)) ∷ entries k (i + 1) (drop (i + 1) (row_of top xs).numbers)
  left_take low some = ap (entries k i) (first low) ∙ cond-false _ _ _ (ne_eqb _ _ some)

  pub left_none : 16 ≤ i → entries k i (drop i (row_of top xs).numbers) ≡ []
  left_none past =
      let long = length_row (row_of top xs) in
      ap (entries k i) (drop_all i (row_of top xs).numbers (omega arith))

  -- with the end word
  words_skip : (seen : ℕ) → i < 16 → get_or xs i 0 % (top + 1) ≡ 0 → entries_and_end k i seen (drop i (row_of top xs).numbers) ≡ entries_and_end k (i + 1) seen (drop (i + 1) (row_of top xs).numbers)
  words_skip seen low none = ap (λ es. es ++ (end_word (seen + length es) ∷ [])) (left_skip low none)

  words_take : (seen : ℕ) → i < 16 → (get_or xs i 0 % (top + 1) ≡ 0 → ⊥) → entries_and_end k i seen (drop i (row_of top xs).numbers) ≡ entry_word k i (get_or xs i 0 % (top + 1)) ∷ entries_and_end k (i + 1) (seen + 1) (drop (i + 1) (row_of top xs).numbers)
  words_take seen low some =
      let es = entries k (i + 1) (drop (i + 1) (row_of top xs).numbers) in
      let n : seen + suc (length es) ≡ (seen + 1) + length es = omega arith in
      ap (λ ws. ws ++ (end_word (seen + length ws) ∷ [])) (left_take low some) ∙ ap (λ m. entry_word k i (get_or xs i 0 % (top + 1)) ∷ (es ++ (end_word m ∷ []))) n

  words_none : (seen : ℕ) → 16 ≤ i → entries_and_end k i seen (drop i (row_of top xs).numbers) ≡ end_word seen ∷ []
  words_none seen past =
      let n : seen + 0 ≡ seen = omega arith in
      ap (λ ws. ws ++ (end_word (seen + length ws) ∷ [])) (left_none past) ∙ ap (λ m. end_word m ∷ []) n

-- the numbers of the row that sixteen stored numbers stand for
pub numbers_of : (top : ℕ) (xs : List ℕ) → length xs ≡ 16 → map (λ x. x % (top + 1)) xs ≡ (row_of top xs).numbers
numbers_of top xs long = tabulated_is _ (map (λ x. x % (top + 1)) xs) (length-map xs (λ x. x % (top + 1)) ∙ long) (λ k h. get_or-map (λ x. x % (top + 1)) xs k 0 0 (omega arith))

-- as many stand for a number other than 0 as there are entries
one_more : (zero : Bool) (x w : ℕ) (ys zs : List ℕ) → length ys ≡ length zs → length (cond (not zero) (x ∷ ys) ys) ≡ length (cond zero zs (w ∷ zs))
one_more true x w ys zs e = e
one_more false x w ys zs e = ap suc e

filtered : (k i top : ℕ) (xs : List ℕ) → length (filter (λ x. not (eqb (x % (top + 1)) 0)) xs) ≡ length (entries k i (map (λ x. x % (top + 1)) xs))
filtered k i top [] = refl
filtered k i top (x ∷ xs) = one_more (eqb (x % (top + 1)) 0) x (entry_word k i (x % (top + 1))) _ _ (filtered k (i + 1) top xs)

-- so they are where ones are summed
pub summed : (top n : ℕ) (xs : List ℕ) → n ≡ sum_by (λ x. cond (not (eqb (x % (top + 1)) 0)) 1 0) xs → length xs ≡ 16 → (n ≡ length (filter (λ x. not (eqb (x % (top + 1)) 0)) xs)) × (n ≤ 16)
summed top n xs e long =
    let some = λ (x : ℕ). not (eqb (x % (top + 1)) 0) in
    let is = e ∙ sym (length-filter some xs) in
    let both = length-filter_both some (λ x. not (some x)) (λ x. refl) xs in
    (is, omega (arith, is, both, long))

pub row_sized : (k top : ℕ) (xs : List ℕ) → length xs ≡ 16 → 1 + length (filter (λ x. not (eqb (x % (top + 1)) 0)) xs) ≡ length (entries_and_end k 0 0 (row_of top xs).numbers)
row_sized k top xs long =
    let es = entries k 0 (row_of top xs).numbers in
    let e = filtered k 0 top xs ∙ ap (λ ns. length (entries k 0 ns)) (numbers_of top xs long) in
    let s = length-append es (end_word (0 + length es) ∷ []) in
    omega arith

-- a row is being written: what is left, put where the loop stands, leaves what all of it would at the place
pub record Writing (k top : ℕ) (xs old : List ℕ) (place : ℕ) (cur : List ℕ) (next seen i : ℕ) : Type 0 where
  pub same : put cur next (entries_and_end k i seen (drop i (row_of top xs).numbers)) ≡ put old place (entries_and_end k 0 0 (row_of top xs).numbers)
  pub place_is : next + length (entries_and_end k i seen (drop i (row_of top xs).numbers)) ≡ place + length (entries_and_end k 0 0 (row_of top xs).numbers)
  pub few : seen ≤ i
  pub room : place + length (entries_and_end k 0 0 (row_of top xs).numbers) ≤ length cur

some_words : (k s seen : ℕ) (ns : List ℕ) → 0 < length (entries_and_end k s seen ns)
some_words k s seen ns = let e = length-append (entries k s ns) (end_word (seen + length (entries k s ns)) ∷ []) in omega arith

pub writing_start : (k top : ℕ) (xs old : List ℕ) (place : ℕ) → length (entries_and_end k 0 0 (row_of top xs).numbers) ≤ length old - place → Writing k top xs old place old place 0 0
writing_start k top xs old place room = let s = some_words k 0 0 (row_of top xs).numbers in record { same = refl; place_is = refl; few = omega arith; room = omega arith }

module _ (k top : ℕ) (xs old : List ℕ) (place : ℕ) (cur : List ℕ) (next seen i : ℕ) (so : Writing k top xs old place cur next seen i) where
  pub writing_next : next < length cur
  writing_next =
      let some = some_words k i seen (drop i (row_of top xs).numbers) in
      let p = so.place_is in
      let r = so.room in
      omega arith

  pub writing_skip : i < 16 → get_or xs i 0 % (top + 1) ≡ 0 → Writing k top xs old place cur next seen (i + 1)
  writing_skip low none =
      let e = words_skip k top xs i seen low none in
      record {
        same = ap (put cur next) (sym e) ∙ so.same;
        place_is = ap (λ ws. next + length ws) (sym e) ∙ so.place_is;
        few = (let f = so.few in omega arith);
        room = so.room;
      }

  pub writing_take : i < 16 → (get_or xs i 0 % (top + 1) ≡ 0 → ⊥) → (w : ℕ) → w ≡ entry_word k i (get_or xs i 0 % (top + 1)) → Writing k top xs old place (set cur next w) (next + 1) (seen + 1) (i + 1)
  writing_take low some w is =
      let e = words_take k top xs i seen low some ∙ ap (λ x. x ∷ entries_and_end k (i + 1) (seen + 1) (drop (i + 1) (row_of top xs).numbers)) (sym is) in
      let ws = entries_and_end k (i + 1) (seen + 1) (drop (i + 1) (row_of top xs).numbers) in
      let n : next + length (entries_and_end k i seen (drop i (row_of top xs).numbers)) ≡ next + suc (length ws) = ap (λ x. next + length x) e in
      let l : length (set cur next w) ≡ length cur = length-set cur next w in
      record {
        same = sym (put_step cur next w ws writing_next) ∙ ap (put cur next) (sym e) ∙ so.same;
        place_is = (let p = so.place_is in omega arith);
        few = (let f = so.few in omega arith);
        room = (let r = so.room in omega arith);
      }

  pub writing_end : 16 ≤ i → set cur next (end_word seen) ≡ put old place (entries_and_end k 0 0 (row_of top xs).numbers)
  writing_end past = sym (put_last cur next (end_word seen) writing_next) ∙ ap (put cur next) (sym (words_none k top xs i seen past)) ∙ so.same

  pub writing_place : 16 ≤ i → next + 1 ≡ place + length (entries_and_end k 0 0 (row_of top xs).numbers)
  writing_place past = ap (λ ws. next + length ws) (sym (words_none k top xs i seen past)) ∙ so.place_is

pub moved : {X : Type 0} (P : X → ℕ → ℕ → Type 0) {x x' : X} {m m' n n' : ℕ} → x' ≡ x → m' ≡ m → n' ≡ n → P x m n → P x' m' n'
moved P {x} {x'} {m} {m'} {n} {n'} e f h p = subst (λ k. P x' m' k) (sym h) (subst (λ k. P x' k n) (sym f) (subst (λ y. P y m n) (sym e) p))
