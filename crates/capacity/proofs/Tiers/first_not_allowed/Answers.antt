-- What `find` hands back is the first tier that isn't allowed (first_from_Range), and the definition asks the five one after the other.
use Rattle.std.proofs.Common.{rules, true, false, ◌≡◌}
use Rattle.std.proofs.lemmas.Iterator.{first_from_Range}
use borrow.Author.Tests.{tests}
use Rattle.capacity.specs.Capacity.{tier_allowed}
use Rattle.capacity.proofs.EachTier.{found_refused}
use Rattle.capacity.proofs.Tiers.first_not_allowed.Goals as goal

pub returns : goal.returns
returns c =
    let tiers = c.args.self.now in
    found_refused tiers c.find.result c.map.result
    (first_from_Range _ _ _ c.find.result (λ tier. tier_allowed tiers tier ≡ false) (λ tier. tier_allowed tiers tier ≡ true) c.find.ensures.ran (λ x q k. search (rules, tests)) (λ x q k. search (rules, tests)))
    c.map.ensures.cases
    (λ tier n e. search rules)
