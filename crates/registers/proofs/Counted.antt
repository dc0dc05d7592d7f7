-- The members of a set, counted entry by entry. Assumes nothing.
use Rattle.std.proofs.Common.{◌≡◌, ℕ, zero, suc, ◌+◌, ◌%◌, ◌≤◌, List, length, take, sym, ap, ◌∙◌, subst, arith, count_ones}
use Rattle.std.specs.List.{sum_by}
use Rattle.std.proofs.lemmas.List.{take_all}
use Rattle.std.proofs.lemmas.List.Sums.{sum_by_more}
use Rattle.registers.specs.Members.{members_of, count}
use Rattle.registers.specs.Sets.{Counting, counting_start, counting_step, counting_all}

counted_upto : (xs : List ℕ) → length xs ≡ 16 → (i : ℕ) → i ≤ 16 → Counting xs i (sum_by (λ x. count_ones (x % 65536)) (take i xs))
counted_upto xs long zero h = counting_start xs
counted_upto xs long (suc i) h =
    let past : i + 1 ≡ suc i = omega arith in
    let more = sum_by_more (λ x. count_ones (x % 65536)) xs i 0 (omega arith) in
    let Upto : ℕ → Type 0 = λ j. Counting xs j (sum_by (λ x. count_ones (x % 65536)) (take j xs)) in
    subst Upto past (subst (Counting xs (i + 1)) (sym more) (counting_step xs i _ (counted_upto xs long i (omega arith)) (omega arith)))

pub counted : (xs : List ℕ) → length xs ≡ 16 → sum_by (λ x. count_ones (x % 65536)) xs ≡ count (members_of xs)
counted xs long = ap (sum_by (λ x. count_ones (x % 65536))) (sym (take_all 16 xs (omega arith))) ∙ counting_all xs 16 _ (counted_upto xs long 16 (omega arith)) (omega arith) (omega arith)
