-- Sets by their members: the laws of union, and what the calls of a set leave. Assumes nothing.
use Rattle.std.specs.Prelude.{◌≡◌, ℕ, zero, suc, ◌+◌, ◌*◌, ◌/◌, ◌%◌, ◌^◌, ◌<◌, ◌≤◌, Bool, true, false, ◌&&◌, ◌||◌, List, [], length, set, replicate, ◌==◌, count_ones, nat_eq, nat_lt, slice_index, slice_index_or, slice_set, refl}
use Rattle.std.proofs.Common.{⊎_elim, sym, ap, ◌∙◌, mod-eq_of_lt, arith, length-set, get_or-set_same, get_or-set_other}
use Rattle.std.specs.Int.Bits.{bit_or}
use Rattle.std.proofs.lemmas.Nat.{or_mod, pow_below, ones-le}
use Rattle.std.proofs.lemmas.List.{get_or_past}
use Rattle.std.proofs.lemmas.Bool.{eq-eqb, ne_eqb, lt-ltb, le-ltb, cases_eq, cases_lt}
use Rattle.entries.specs.Sixteen.{getD_tabulated, tabulated_is}
use Rattle.entries.specs.Rows.{same_row, length_row, row_low, empty}
use Rattle.entries.proofs.Scans.{tabulated_same}
use Rattle.registers.specs.Bits.{bit}
use Rattle.registers.specs.Members.{Members, members_of, has, entry_of, set_of, none, alone, union, how_many, count, Subsets}
use Rattle.registers.specs.Packs.{bit_zero, bit_packed, packed_same, packed_bits, bit_same, bit_other, bit-or, how_many_same, how_many_more, ones_bits}

-- a number by its entry and its bit
split : (m : ℕ) → 16 * (m / 16) + m % 16 ≡ m
split m = omega arith

pub set_same : (P Q : ℕ → Bool) → ((m : ℕ) → m < 256 → P m ≡ Q m) → set_of P ≡ set_of Q
set_same P Q each =
    same_row _ _ (tabulated_same (entry_of P) (entry_of Q) (λ c h. packed_same (λ b. P (16 * c + b)) (λ b. Q (16 * c + b)) 16 (λ b l. each (16 * c + b) (omega arith))))

-- above 255 there is no member
pub has_above : (v : Members) (m : ℕ) → 256 ≤ m → has v m ≡ false
has_above v m h =
    let long = length_row v in
    ap (λ x. bit x (m % 16)) (get_or_past v.numbers (m / 16) 0 (omega arith)) ∙ bit_zero (m % 16)

pub has_set : (P : ℕ → Bool) (m : ℕ) → m < 256 → has (set_of P) m ≡ P m
has_set P m h =
    ap (λ x. bit x (m % 16)) (getD_tabulated (entry_of P) (m / 16) (omega arith))
    ∙ bit_packed (λ b. P (16 * (m / 16) + b)) 16 (m % 16) (omega arith)
    ∙ ap P (split m)

-- bit b of entry c
pub has_at : (v : Members) (c b : ℕ) → b < 16 → has v (16 * c + b) ≡ bit (slice_index v.numbers c) b
has_at v c b h =
    let q : (16 * c + b) / 16 ≡ c = omega arith in
    let r : (16 * c + b) % 16 ≡ b = omega arith in
    ap (λ k. bit (slice_index v.numbers k) ((16 * c + b) % 16)) q ∙ ap (bit (slice_index v.numbers c)) r

pub set_back : (v : Members) → set_of (has v) ≡ v
set_back v =
    same_row _ _ (sym (tabulated_is (entry_of (has v)) v.numbers (length_row v) (λ c h. sym (packed_same (λ b. has v (16 * c + b)) (bit (slice_index v.numbers c)) 16 (λ b l. has_at v c b l) ∙ packed_bits (slice_index v.numbers c) 16 (row_low v c h)))))

pub same_members : (a b : Members) → ((m : ℕ) → m < 256 → has a m ≡ has b m) → a ≡ b
same_members a b each = sym (set_back a) ∙ set_same (has a) (has b) each ∙ set_back b

-- a fact of each number, from those below 256 and those above
by_range : (P : ℕ → Type 0) (m : ℕ) → (m < 256 → P m) → (256 ≤ m → P m) → P m
by_range P m low high = ⊎_elim low high (cases_lt m 256)

has_any : (P : ℕ → Bool) (m : ℕ) → has (set_of P) m ≡ (nat_lt m 256 && P m)
has_any P m =
    by_range (λ n. has (set_of P) n ≡ (nat_lt n 256 && P n)) m
    (λ h. has_set P m h ∙ ap (λ t. t && P m) (sym (lt-ltb m 256 h)))
    (λ h. has_above (set_of P) m h ∙ ap (λ t. t && P m) (sym (le-ltb m 256 h)))

pub has_none : (m : ℕ) → has none m ≡ false
has_none m = by_range (λ n. has none n ≡ false) m (λ h. has_set (λ j. false) m h) (λ h. has_above none m h)

pub has_alone : (n : ℕ) → n < 256 → (m : ℕ) → has (alone n) m ≡ (m == n)
has_alone n l m =
    by_range (λ j. has (alone n) j ≡ (j == n)) m
    (λ h. has_set (λ j. nat_eq j n) m h)
    (λ h. has_above (alone n) m h ∙ sym (ne_eqb m n (λ e. omega arith)))

pub has_union : (a b : Members) (m : ℕ) → has (union a b) m ≡ (has a m || has b m)
has_union a b m =
    by_range (λ j. has (union a b) j ≡ (has a j || has b j)) m
    (λ h. has_set (λ j. has a j || has b j) m h)
    (λ h. has_above (union a b) m h ∙ sym (ap (λ t. t || has b m) (has_above a m h) ∙ has_above b m h))

pub subsets : Subsets
subsets = record { same = same_members; any = has_any; below = has_above }

or_assoc : (x y z : Bool) → ((x || y) || z) ≡ (x || (y || z))
or_assoc true y z = refl
or_assoc false y z = refl

or_comm : (x y : Bool) → (x || y) ≡ (y || x)
or_comm true true = refl
or_comm true false = refl
or_comm false true = refl
or_comm false false = refl

or_idem : (x : Bool) → (x || x) ≡ x
or_idem true = refl
or_idem false = refl

pub union_assoc : (a b c : Members) → union (union a b) c ≡ union a (union b c)
union_assoc a b c =
    set_same _ _ (λ m h. ap (λ t. t || has c m) (has_union a b m) ∙ or_assoc (has a m) (has b m) (has c m) ∙ ap (λ t. has a m || t) (sym (has_union b c m)))

pub union_comm : (a b : Members) → union a b ≡ union b a
union_comm a b = set_same _ _ (λ m h. or_comm (has a m) (has b m))

pub union_idem : (a : Members) → union a a ≡ a
union_idem a = set_same _ (has a) (λ m h. or_idem (has a m)) ∙ set_back a

pub union_none : (a : Members) → union a none ≡ a
union_none a =
    set_same _ (has a) (λ m h. ap (λ t. has a m || t) (has_none m) ∙ or_comm (has a m) false) ∙ set_back a

-- what stored entries stand for
pub has_stored : (xs : List ℕ) (m : ℕ) → m < 256 → has (members_of xs) m ≡ bit (slice_index xs (m / 16) % 65536) (m % 16)
has_stored xs m h = ap (λ x. bit x (m % 16)) (getD_tabulated (λ k. slice_index xs k % 65536) (m / 16) (omega arith))

pub stored_none : (xs : List ℕ) → ((k : ℕ) → k < 16 → slice_index xs k ≡ 0) → members_of xs ≡ none
stored_none xs each =
    same_members _ _ (λ m h. has_stored xs m h ∙ ap (λ n. bit (n % 65536) (m % 16)) (each (m / 16) (omega arith)) ∙ bit_zero (m % 16) ∙ sym (has_none m))

zero_at : (m k : ℕ) → ◌≡◌ {A = ℕ} (slice_index (replicate m 0) k) 0
zero_at zero k = refl
zero_at (suc m) zero = refl
zero_at (suc m) (suc k) = zero_at m k

pub zeros_none : members_of (replicate 16 0) ≡ none
zeros_none = stored_none (replicate 16 0) (λ k h. zero_at 16 k)

pub empty_none : empty 65535 ≡ none
empty_none = stored_none [] (λ k h. refl)

pub stored_union : (xs ys zs : List ℕ) → ((k : ℕ) → k < 16 → slice_index zs k ≡ bit_or (slice_index xs k) (slice_index ys k)) → members_of zs ≡ union (members_of xs) (members_of ys)
stored_union xs ys zs each =
    same_members _ _ (λ m h.
    let c = m / 16 in
    let x = slice_index_or xs c 0 in
    let y = slice_index_or ys c 0 in
    has_stored zs m h
    ∙ ap (λ n. bit (n % 65536) (m % 16)) (each c (omega arith))
    ∙ ap (λ n. bit n (m % 16)) (or_mod x y 16)
    ∙ bit-or (x % 65536) (y % 65536) (m % 16)
    ∙ ap (λ t. t || bit (y % 65536) (m % 16)) (sym (has_stored xs m h))
    ∙ ap (λ t. has (members_of xs) m || t) (sym (has_stored ys m h))
    ∙ sym (has_union (members_of xs) (members_of ys) m))

-- zeros with one bit
module _ (n : ℕ) (low : n < 256) where
  abbrev zeros : List ℕ
  zeros = replicate 16 0

  in_entry : (m : ℕ) → n / 16 ≡ m / 16 → bit (2 ^ (n % 16)) (m % 16) ≡ (m == n)
  in_entry m e =
      ⊎_elim
      (λ (f : n % 16 ≡ m % 16). ap (bit (2 ^ (n % 16))) (sym f) ∙ bit_same (n % 16) ∙ sym (eq-eqb m n (omega arith)))
      (λ (ne : n % 16 ≡ m % 16 → ⊥). bit_other (n % 16) (m % 16) ne ∙ sym (ne_eqb m n (λ same. ne (ap (λ j. j % 16) (sym same)))))
      (cases_eq (n % 16) (m % 16))

  bit_of : (m : ℕ) → m < 256 → bit (slice_index (slice_set zeros (n / 16) (2 ^ (n % 16))) (m / 16) % 65536) (m % 16) ≡ (m == n)
  bit_of m h =
      let power = 2 ^ (n % 16) in
      let zs = set zeros (n / 16) power in
      let small : power < 65536 = pow_below (n % 16) 16 (omega arith) in
      ⊎_elim
      (λ (e : n / 16 ≡ m / 16). ap (λ c. bit (slice_index zs c % 65536) (m % 16)) (sym e) ∙ ap (λ x. bit (x % 65536) (m % 16)) (get_or-set_same zeros (n / 16) power 0 (omega arith)) ∙ ap (λ x. bit x (m % 16)) (mod-eq_of_lt small) ∙ in_entry m e)
      (λ (ne : n / 16 ≡ m / 16 → ⊥). ap (λ x. bit (x % 65536) (m % 16)) (get_or-set_other zeros (n / 16) (m / 16) power 0 (λ e. ne (sym e)) ∙ zero_at 16 (m / 16)) ∙ bit_zero (m % 16) ∙ sym (ne_eqb m n (λ same. ne (ap (λ j. j / 16) (sym same)))))
      (cases_eq (n / 16) (m / 16))

  pub stored_alone : members_of (slice_set (replicate 16 0) (n / 16) (2 ^ (n % 16))) ≡ alone n
  stored_alone = same_members _ _ (λ m h. has_stored (slice_set zeros (n / 16) (2 ^ (n % 16))) m h ∙ bit_of m h ∙ sym (has_set (λ j. nat_eq j n) m h))

-- a set is being counted: n members below 16 * i
pub record Counting (xs : List ℕ) (i n : ℕ) : Type 0 where
  pub few : n ≤ 16 * i
  pub all : n ≡ how_many (has (members_of xs)) (16 * i)

pub counting_start : (xs : List ℕ) → Counting xs 0 0
unfolding how_many
counting_start xs = record { few = omega arith; all = refl }

pub counting_step : (xs : List ℕ) (i n : ℕ) → Counting xs i n → i < 16 → Counting xs (i + 1) (n + count_ones (slice_index xs i % 65536))
counting_step xs i n so low =
    let x = slice_index xs i % 65536 in
    let v = members_of xs in
    let small : x < 2 ^ 16 = omega arith in
    let some = ones-le 16 x small in
    let f = so.few in
    let entry : slice_index_or v.numbers i 0 ≡ x = getD_tabulated (λ k. slice_index xs k % 65536) i low in
    let more : count_ones x ≡ how_many (λ b. has v (16 * i + b)) 16 = ones_bits x 16 small ∙ how_many_same (bit x) (λ b. has v (16 * i + b)) 16 (λ b l. ap (λ y. bit y b) (sym entry) ∙ sym (has_at v i b l)) in
    let next : 16 * (i + 1) ≡ 16 * i + 16 = omega arith in
    record {
      few = omega arith;
      all = ap (λ m. m + count_ones x) so.all ∙ ap (λ m. how_many (has v) (16 * i) + m) more ∙ sym (how_many_more (has v) (16 * i) 16) ∙ ap (how_many (has v)) (sym next);
    }

pub counting_all : (xs : List ℕ) (i n : ℕ) → Counting xs i n → i ≤ 16 → 16 ≤ i → n ≡ count (members_of xs)
counting_all xs i n so h l =
    let end : 16 * i ≡ 256 = omega arith in
    so.all ∙ ap (how_many (has (members_of xs))) end

-- a set is being joined into another: the entries below i are joined
pub record Joining (xs ys cur : List ℕ) (i : ℕ) : Type 0 where
  pub long : length cur ≡ 16
  pub done : (k : ℕ) → k < i → slice_index cur k ≡ bit_or (slice_index xs k) (slice_index ys k)
  pub ahead : (k : ℕ) → i ≤ k → slice_index cur k ≡ slice_index xs k

pub joining_step : (xs ys cur : List ℕ) (i : ℕ) → Joining xs ys cur i → i < 16 → Joining xs ys (slice_set cur i (bit_or (slice_index cur i) (slice_index ys i))) (i + 1)
joining_step xs ys cur i so low =
    let x = bit_or (slice_index cur i) (slice_index ys i) in
    let l = so.long in
    let within : i < length cur = omega arith in
    let here : slice_index_or (slice_set cur i x) i 0 ≡ bit_or (slice_index xs i) (slice_index ys i) = get_or-set_same cur i x 0 within ∙ ap (λ n. bit_or n (slice_index ys i)) (so.ahead i (omega arith)) in
    record {
      long = length-set cur i x ∙ so.long;
      done = (λ k h. ⊎_elim
          (λ (e : k ≡ i). ap (λ j. slice_index (slice_set cur i x) j) e ∙ here ∙ ap (λ j. bit_or (slice_index xs j) (slice_index ys j)) (sym e))
          (λ (ne : k ≡ i → ⊥). get_or-set_other cur i k x 0 ne ∙ so.done k (omega arith))
          (cases_eq k i));
      ahead = (λ k h. get_or-set_other cur i k x 0 (λ e. omega arith) ∙ so.ahead k (omega arith));
    }

pub joining_start : (xs ys : List ℕ) → length xs ≡ 16 → Joining xs ys xs 0
joining_start xs ys l = record { long = l; done = (λ k h. absurd (omega arith)); ahead = (λ k h. refl) }

pub joining_all : (xs ys cur : List ℕ) (i : ℕ) → Joining xs ys cur i → 16 ≤ i → members_of cur ≡ union (members_of xs) (members_of ys)
joining_all xs ys cur i so past = stored_union xs ys cur (λ k h. so.done k (omega arith))
