-- The credits by place: 0 for an entry of another scheme.
use Rattle.std.specs.Prelude.{ℕ, List}
use Rattle.ledger.specs.Columns.{scheme_column}
use Rattle.ledger.specs.CapacityColumns.{capacity_column}
use Rattle.ledger.specs.declared.records.Party.{Party}
use Rattle.calls.specs.CreditColumns.{credits}

-- what each of these entries is credited
abbrev pub credits_among : ℕ → ℕ → List Party → List ℕ
credits_among s amount entries = credits s amount (scheme_column entries) (capacity_column entries)
