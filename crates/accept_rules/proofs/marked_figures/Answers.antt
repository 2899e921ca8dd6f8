-- The figures are computed where they are stated, in specs/Cases.
use Rattle.accept_rules.specs.Cases.MarkedFigures.{marked_figures}
use Rattle.accept_rules.proofs.marked_figures.Goals as goal

pub returns : goal.returns
returns c = marked_figures
