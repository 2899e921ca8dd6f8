-- The eight products are summed: each byte times its weight, which is the definition's sum (weighed), and fits, since a byte is below 256.
use Rattle.std.proofs.Common.{arith, rules, ◌≡◌}
use Rattle.std.proofs.lemmas.Iterator.{YieldsList-from_slice, YieldsList-from_zip, YieldsList-from_map}
use Rattle.std.proofs.lemmas.Iterator.Consumers.{YieldsList-at, sum_from_yields_List, fits_from_yields_list}
use Rattle.numbers.proofs.Weights.{product, weights, weighed, weighed_below}
use Rattle.numbers.proofs.check.weighed_sum.Goals as goal

pub sum-requires-clause-fits : goal.sum-requires-clause-fits
sum-requires-clause-fits c =
    let word = c.args.word.now in
    let second : c.zip.result.b.rest.now ≡ weights = c.zip.ensures.second.0 in
    fits_from_yields_list _ _
    (YieldsList-from_map _ product (YieldsList-at c.map.ensures.source (YieldsList-from_zip (YieldsList-at c.zip.ensures.first (YieldsList-from_slice word cc)) (YieldsList-from_slice weights second))) c.map.ensures.closure (λ x r q k. search rules))
    (omega (arith, weighed word c.told-word, weighed_below word c.fits-word))

pub returns : goal.returns
returns c =
    let word = c.args.word.now in
    let second : c.zip.result.b.rest.now ≡ weights = c.zip.ensures.second.0 in
    let total = sum_from_yields_List _ _ c.sum.ensures.ran
    (YieldsList-from_map _ product (YieldsList-at c.map.ensures.source (YieldsList-from_zip (YieldsList-at c.zip.ensures.first (YieldsList-from_slice word cc)) (YieldsList-from_slice weights second))) c.map.ensures.closure (λ x r q k. search rules)) in
    let same = weighed word c.told-word in
    let below = weighed_below word c.fits-word in
    (omega arith, omega arith)
