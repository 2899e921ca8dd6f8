-- The theorems of UnitBuffers, by name.
use Rattle.quoting_unit.proofs.Theorems.UnitBuffers.{figures_short_lem, figures_long, answer_short_lem, answer_long, first_short, second_short, both_long}
use Rattle.quoting_unit.proofs.laws.short_buffers.Goals as goal

pub returns-clause-figures_short : goal.returns-clause-figures_short
returns-clause-figures_short c = figures_short_lem

pub returns-clause-figures_long : goal.returns-clause-figures_long
returns-clause-figures_long c = figures_long

pub returns-clause-answer_short : goal.returns-clause-answer_short
returns-clause-answer_short c = answer_short_lem

pub returns-clause-answer_long : goal.returns-clause-answer_long
returns-clause-answer_long c = answer_long

pub returns-clause-first_short : goal.returns-clause-first_short
returns-clause-first_short c = first_short

pub returns-clause-second_short : goal.returns-clause-second_short
returns-clause-second_short c = second_short

pub returns-clause-both_long : goal.returns-clause-both_long
returns-clause-both_long c = λ call lent test both. both_long call lent test both.0 both.1
