-- No word so far is the one.
use Rattle.std.proofs.Common.{drop, ◌+◌, ◌≡◌}
use Rattle.unit_text.specs.Measure.{spellings, word_number}
use Rattle.unit_text.proofs.read.spelling_number.Given as goal

abbrev pub invariant-loop-place : goal.invariant-loop-place
invariant-loop-place l = l.place + word_number (drop l.place (spellings l.words)) l.text ≡ word_number (spellings l.words) l.text
