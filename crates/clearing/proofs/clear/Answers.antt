-- 13, and then the clearing of a sound ledger.
use Rattle.std.proofs.Common.{sym, ◌∙◌}
use Rattle.calls.proofs.Theorems.Promised.{unsound_promised}
use Rattle.clearing.proofs.clear.Goals as goal

pub returns-then-not-is_sound : goal.returns-then-not-is_sound
returns-then-not-is_sound c = rw c.of_call.ensures (unsound_promised _ _ (sym c.is_sound.ensures.holds ∙ c.if-not-is_sound.true))
