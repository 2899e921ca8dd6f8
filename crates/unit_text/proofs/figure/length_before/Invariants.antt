-- No byte so far is the one that is looked for.
use Rattle.std.proofs.Common.{drop, ◌+◌, ◌≡◌}
use Rattle.std.specs.List.{position_or_len}
use Rattle.unit_text.specs.Figure.{is}
use Rattle.unit_text.proofs.figure.length_before.Given as goal

abbrev pub invariant-loop-place : goal.invariant-loop-place
invariant-loop-place l = l.place + position_or_len (is l.byte) (drop l.place l.text) ≡ position_or_len (is l.byte) l.text
