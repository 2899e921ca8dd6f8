-- The theorem of ByEntries.
use Rattle.calls.proofs.Theorems.ByEntries.{by_entries}
use Rattle.calls.proofs.laws.calls_by_entries.Goals as goal

pub returns : goal.returns
returns c = by_entries
