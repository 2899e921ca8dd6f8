-- 13, and then the plan is the call.
use Rattle.std.proofs.Common.{sym, ◌∙◌}
use Rattle.calls.proofs.Theorems.Promised.{unsound_promised}
use Rattle.acceptance.proofs.Carrying.{accept_kept}
use Rattle.acceptance.proofs.accept.accept.Goals as goal

pub returns-then-not-is_sound : goal.returns-then-not-is_sound
returns-then-not-is_sound c = rw c.of_call.ensures (unsound_promised _ _ (sym c.is_sound.ensures.holds ∙ c.if-not-is_sound.true))

pub returns : goal.returns
returns c =
    accept_kept _ _ (c.is_sound.ensures.places c.if-not-is_sound.false) _ _ c.accept_sound.ensures.answer c.accept_sound.ensures.ledger c.accept_sound.ensures.table
