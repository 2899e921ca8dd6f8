-- The theorem of ClearsExactly.
use Rattle.kept_sound.proofs.Theorems.ClearsExactly.{clears_exactly}
use Rattle.kept_sound.proofs.clears_exactly.Goals as goal

pub returns : goal.returns
returns c = clears_exactly
