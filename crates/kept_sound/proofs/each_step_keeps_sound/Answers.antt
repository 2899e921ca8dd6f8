-- The theorems of SoundSteps and Clearing, one for each step.
use Rattle.kept_sound.proofs.Theorems.SoundSteps.{booked_keeps_sound, joined_keeps_sound, opened_keeps_sound}
use Rattle.kept_sound.proofs.Theorems.Clearing.{clear_keeps_sound}
use Rattle.kept_sound.proofs.each_step_keeps_sound.Goals as goal

pub returns : goal.returns
returns c = record { booking = booked_keeps_sound; joining = joined_keeps_sound; opening = opened_keeps_sound; clearing = clear_keeps_sound }
