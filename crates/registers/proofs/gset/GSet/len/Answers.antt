use Rattle.std.proofs.Common.{rules, ◌≡◌, ◌%◌, ◌^◌, ◌≤◌, length, ◌∙◌, arith, count_ones}
use Rattle.std.specs.List.{sum_by}
use Rattle.std.proofs.lemmas.Iterator.{YieldsList-from_slice, YieldsList-from_map}
use Rattle.std.proofs.lemmas.Iterator.Consumers.{sum_by_from_yields_List}
use Rattle.std.proofs.lemmas.Iterator.Adapters.{fits_from_length, at_most_from_yields_List}
use Rattle.registers.proofs.Counted.{counted}
use Rattle.registers.proofs.gset.GSet.len.Goals as goal

pub sum-requires-clause-fits : goal.sum-requires-clause-fits
sum-requires-clause-fits c =
    let few : length c.args.self.now.bits ≤ 16 = search rules in
    fits_from_length _ _ 16 (2 ^ 64) (at_most_from_yields_List (YieldsList-from_slice c.args.self.now.bits cc) few) c.map.ensures.closure (omega arith) (λ x r q k. search rules)

pub returns : goal.returns
returns c =
    let xs = c.args.self.now.bits in
    let long : length xs ≡ 16 = search rules in
    let chain : c.sum.result ≡ sum_by (λ x. count_ones (x % 65536)) xs = sum_by_from_yields_List (λ x. count_ones (x % 65536)) xs c.map.result c.sum.result c.sum.ensures.ran (YieldsList-from_map _ (λ x. count_ones (x % 65536)) (YieldsList-from_slice xs cc) c.map.ensures.closure (λ x r q k. search rules)) in
    chain ∙ counted xs long
