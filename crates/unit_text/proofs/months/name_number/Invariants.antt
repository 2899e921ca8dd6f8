-- No name so far is the one.
use Rattle.std.proofs.Common.{drop, ◌+◌, ◌≡◌}
use Rattle.unit_text.specs.Measure.{word_number}
use Rattle.unit_text.specs.Month.{month_names}
use Rattle.unit_text.proofs.months.name_number.Given as goal

abbrev pub invariant-loop-month : goal.invariant-loop-month
invariant-loop-month l = l.month + word_number (drop l.month month_names) l.letters ≡ word_number month_names l.letters
