-- How many records the first ones of an array are.
use Rattle.std.specs.Prelude.{ℕ, min, ◌≡◌, List, length, take}
use Rattle.std.proofs.Common.{ap, ◌∙◌, length-take}
use Rattle.ledger.specs.Limits.{most_entries}
use Rattle.ledger.specs.declared.records.Party.{Party}

pub records_length : (parties : List Party) (room : ℕ) → length parties ≡ most_entries → length (take room parties) ≡ min room most_entries
records_length parties room records = length-take room parties ∙ ap (min room) records
