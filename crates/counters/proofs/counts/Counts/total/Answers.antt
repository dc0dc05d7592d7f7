use Rattle.std.proofs.Common.{rules, ◌≡◌, ◌+◌, ◌%◌, ◌^◌, ◌≤◌, length, map, sum, ap, ◌∙◌, arith}
use Rattle.std.proofs.lemmas.Iterator.{YieldsList-from_slice, YieldsList-from_map}
use Rattle.std.proofs.lemmas.Iterator.Consumers.{sum_from_yields_List}
use Rattle.std.proofs.lemmas.Iterator.Adapters.{fits_from_length, at_most_from_yields_List}
use Rattle.entries.proofs.Turns.{numbers_of}
use Rattle.counters.proofs.counts.Counts.total.Goals as goal

pub sum-requires-clause-fits : goal.sum-requires-clause-fits
sum-requires-clause-fits g c =
    let few : length c.args.self.now.counts ≤ 16 = search rules in
    fits_from_length _ _ 16 (2 ^ 32) (at_most_from_yields_List (YieldsList-from_slice c.args.self.now.counts cc) few) c.map.ensures.closure (omega arith) (λ x r q k. search rules)

pub returns : goal.returns
returns g c =
    let top = g.K.EntryKind.TOP in
    let xs = c.args.self.now.counts in
    let a : length xs ≡ 16 = search rules in
    let chain : c.sum.result ≡ sum (map (λ x. x % (top + 1)) xs) = sum_from_yields_List c.map.result c.sum.result c.sum.ensures.ran (YieldsList-from_map _ (λ x. x % (top + 1)) (YieldsList-from_slice xs cc) c.map.ensures.closure (λ x r q k. search rules)) in
    chain ∙ ap sum (numbers_of top xs a)
