-- The theorems of KeptSound and Rest, which go by what each call decides.
use Rattle.kept_sound.proofs.Theorems.KeptSound.{call_keeps_sound, leaves_places, leaves_length}
use Rattle.kept_sound.proofs.Theorems.Rest.{leaves_rest}
use Rattle.kept_sound.proofs.every_call_keeps_sound.Goals as goal

pub returns : goal.returns
returns c = record { stays_sound = call_keeps_sound; keeps_places = leaves_places; keeps_table = leaves_length; keeps_rest = leaves_rest }
