-- The five costs, each at most the highest, are summed; the definition adds them one after the other.
use Rattle.std.proofs.Common.{arith, rules, ◌≡◌}
use Rattle.std.proofs.lemmas.Iterator.{YieldsList-from_range, YieldsList-from_map}
use Rattle.std.proofs.lemmas.Iterator.Consumers.{YieldsList-at, sum_from_yields_List}
use Rattle.std.proofs.lemmas.Iterator.Adapters.{fits_from_length, at_most_from_yields_List}
use Rattle.capacity.specs.Capacity.{cost_at, capacity_cost}
use borrow.Author.Tests.{tests}
use Rattle.capacity.proofs.Theorems.Capacity.{capacity_cost_at_most}
use Rattle.capacity.proofs.Tiers.capacity_cost.Goals as goal

pub sum-requires-clause-fits : goal.sum-requires-clause-fits
sum-requires-clause-fits c =
    fits_from_length _ _ 5 _ (at_most_from_yields_List (YieldsList-at c.map.ensures.source (YieldsList-from_range 0 5 5 (cc) (omega arith))) (omega arith)) c.map.ensures.closure (omega arith) (λ x r q k. search (rules, tests))

pub returns : goal.returns
returns c =
    let tiers = c.args.self.now in
    let demands = c.args.demands.now in
    let total = sum_from_yields_List _ _ c.sum.ensures.ran
    (YieldsList-from_map _ (cost_at tiers demands) (YieldsList-at c.map.ensures.source (YieldsList-from_range 0 5 5 (cc) (omega arith))) c.map.ensures.closure (λ x r q k. search rules)) in
    let e : c.sum.result ≡ capacity_cost tiers demands = omega (arith, total) in
    (e, omega (arith, e, capacity_cost_at_most tiers demands c.requires.0 c.requires.1))
