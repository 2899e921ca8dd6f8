-- The sum, going on over the words from this one on, comes to the check of all.
use Rattle.std.proofs.Common.{drop, flat_map, ◌<◌, ◌≡◌}
use Rattle.numbers.specs.Check.{check, check_from}
use Rattle.numbers.proofs.check.check_words.Given as goal

abbrev pub invariant-loop-word : goal.invariant-loop-word
invariant-loop-word l = (l.sum < 65521) × (check (flat_map (λ word. word) l.words) ≡ check_from l.sum (flat_map (λ word. word) (drop l.word-index l.words)))
