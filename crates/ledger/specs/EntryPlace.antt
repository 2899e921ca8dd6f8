-- An entry's place by its number.
use Rattle.std.specs.Prelude.{ℕ, List, Option}
use Rattle.ledger.specs.Lookup.{place_of}
use Rattle.ledger.specs.declared.records.Party.{Party}

abbrev pub entry_place : ℕ → List Party → Option ℕ
entry_place e entries = place_of (λ entry. entry.number) e entries
