-- The theorem.
use Rattle.unit_text.proofs.Theorems.Exact.{figure_exact}
use Rattle.unit_text.proofs.laws.figure_exact.Goals as goal

pub returns : goal.returns
returns c = figure_exact
