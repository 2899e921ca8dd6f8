-- The rounds that are left decide.
use Rattle.std.proofs.Common.{◌-◌, ◌≡◌}
use Rattle.text_shown.specs.Lines.{all_small}
use Rattle.text_shown.proofs.lines.all_small.Given as goal

abbrev pub invariant-loop-round : goal.invariant-loop-round
invariant-loop-round l =
    all_small l.kind l.field l.wide l.fields (l.count - l.round) l.round ≡ all_small l.kind l.field l.wide l.fields l.count 0
