-- The library's own trimming.
use Rattle.unit_text.proofs.Trimming.{trimmed_is}
use Rattle.unit_text.proofs.read.trimmed.Goals as goal

pub returns-clause-value : goal.returns-clause-value
returns-clause-value c = trimmed_is _ _ c.trim_ascii.ensures.value
