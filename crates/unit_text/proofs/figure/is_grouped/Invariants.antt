-- The rest decides.
use Rattle.std.proofs.Common.{drop, ◌≡◌}
use Rattle.unit_text.specs.Figure.{is_grouped}
use Rattle.unit_text.proofs.figure.is_grouped.Given as goal

abbrev pub invariant-loop-place : goal.invariant-loop-place
invariant-loop-place l = is_grouped l.separator l.text ≡ is_grouped l.separator (drop l.place l.text)
