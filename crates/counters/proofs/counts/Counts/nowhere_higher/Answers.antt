use Rattle.std.proofs.Common.{rules, ◌≡◌, ℕ, ◌+◌, ◌%◌, leb, length, ◌∙◌}
use borrow.Author.Tests.{tests}
use Rattle.std.specs.List.{zip, list_all}
use Rattle.std.proofs.lemmas.Iterator.{YieldsList-from_slice, YieldsList-from_zip}
use Rattle.std.proofs.lemmas.Iterator.Search.{all_from_yields_List}
use Rattle.counters.proofs.Orders.{none_stored}
use Rattle.counters.proofs.counts.Counts.nowhere_higher.Goals as goal

pub returns : goal.returns
returns g c =
    let top = g.K.EntryKind.TOP in
    let xs = c.args.self.now.counts in
    let ys = c.args.other.now.counts in
    let a : length xs ≡ 16 = search rules in
    let b : length ys ≡ 16 = search rules in
    let chain : c.all.result ≡ list_all (λ (p : ℕ × ℕ). leb (p.0 % (top + 1)) (p.1 % (top + 1))) (zip xs ys) = all_from_yields_List (λ (p : ℕ × ℕ). leb (p.0 % (top + 1)) (p.1 % (top + 1))) c.all.new.self _ c.all.result c.all.ensures.ran (YieldsList-from_zip (YieldsList-from_slice xs cc) (YieldsList-from_slice ys cc)) (λ x b q k. search (rules, tests)) in
    chain ∙ none_stored top xs ys a b
