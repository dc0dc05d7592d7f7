use Rattle.std.proofs.Common.{rules, ◌≡◌, ℕ, ◌+◌, ◌%◌, ◌^◌, ◌≤◌, not, cond, eqb, length, filter, ap, ◌∙◌, arith}
use borrow.Author.Tests.{tests}
use Rattle.std.specs.List.{sum_by}
use Rattle.std.proofs.lemmas.Iterator.{YieldsList-from_slice, YieldsList-from_map}
use Rattle.std.proofs.lemmas.Iterator.Consumers.{sum_by_from_yields_List}
use Rattle.std.proofs.lemmas.Iterator.Adapters.{fits_from_length, at_most_from_yields_List}
use Rattle.words.specs.Words.{kind_number}
use Rattle.entries.proofs.Turns.{summed, row_sized}
use Rattle.entries.proofs.write.size.Given.{Over}
use Rattle.entries.proofs.write.size.Goals as goal
use Rattle.entries.proofs.write.size.Goals.{After-sum-entries}

pub sum-entries-requires-clause-fits : goal.sum-entries-requires-clause-fits
sum-entries-requires-clause-fits g c =
    let few : length c.args.row.now ≤ 16 = search rules in
    fits_from_length _ _ 16 (2 ^ 64) (at_most_from_yields_List (YieldsList-from_slice c.args.row.now cc) few) c.map.ensures.closure (omega arith) (λ x r q k. search rules)

-- as many ones are summed as numbers are not 0
counted : (g : Over) (c : After-sum-entries g) → (c.sum-entries.result ≡ length (filter (λ x. not (eqb (x % (g.K.EntryKind.TOP + 1)) 0)) c.args.row.now)) × (c.sum-entries.result ≤ 16)
counted g c =
    let top = g.K.EntryKind.TOP in
    let xs = c.args.row.now in
    let ones : ℕ → ℕ = λ x. cond (not (eqb (x % (top + 1)) 0)) 1 0 in
    let long : length xs ≡ 16 = search rules in
    let chain : c.sum-entries.result ≡ sum_by ones xs = sum_by_from_yields_List ones xs c.map.result c.sum-entries.result c.sum-entries.ensures.ran (YieldsList-from_map _ ones (YieldsList-from_slice xs cc) c.map.ensures.closure (λ x r q k. search (rules, tests))) in
    summed top _ xs chain long

pub overflow_add-result : goal.overflow_add-result
overflow_add-result g c = omega (arith, (counted g (goal.at.overflow_add-result g c).After-sum-entries).1)

pub returns-clause-value : goal.returns-clause-value
returns-clause-value g c =
    let long : length c.args.row.now ≡ 16 = search rules in
    ap (λ n. 1 + n) (counted g (goal.at.returns-clause-value g c).After-sum-entries).0 ∙ row_sized (kind_number g.K.EntryKind.WORD) g.K.EntryKind.TOP c.args.row.now long

pub returns-clause-bound : goal.returns-clause-bound
returns-clause-bound g c = omega (arith, (counted g (goal.at.returns-clause-bound g c).After-sum-entries).1)
