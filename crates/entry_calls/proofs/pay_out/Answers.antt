-- 13, and then the change that keeps the promise.
use Rattle.std.proofs.Common.{sym, ◌∙◌}
use Rattle.calls.proofs.Theorems.Promised.{unsound_promised}
use Rattle.entry_calls.proofs.Kept.{pay_out_kept}
use Rattle.entry_calls.proofs.pay_out.Goals as goal

pub returns-then-not-is_sound : goal.returns-then-not-is_sound
returns-then-not-is_sound c = rw c.of_call.ensures (unsound_promised _ _ (sym c.is_sound.ensures.holds ∙ c.if-not-is_sound.true))

pub returns : goal.returns
returns c = pay_out_kept _ _ (sym c.is_sound.ensures.holds ∙ c.if-not-is_sound.false) _ _ c.pay_out_sound.ensures.answer c.pay_out_sound.ensures.after
