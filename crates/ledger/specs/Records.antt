-- The records field by field, and those of a new ledger: "In a new ledger both next numbers are 1 and all else is zeros" (document 02, E8).
use Rattle.std.specs.Prelude.{ℕ, List, replicate}
use Rattle.ledger.specs.Limits.{most_schemes, most_entries}
use Rattle.ledger.specs.declared.records.Scheme.{Scheme}
use Rattle.ledger.specs.declared.records.Party.{Party}
use Rattle.ledger.specs.declared.records.Ledger.{Ledger}

abbrev pub scheme_of : ℕ → ℕ → ℕ → ℕ → ℕ → ℕ → ℕ → Scheme
scheme_of number cost fee minimum opening term fees =
    record { number = number; cost = cost; fee = fee; minimum = minimum; opening = opening; term = term; fees = fees }

abbrev pub party_of : ℕ → ℕ → ℕ → ℕ → ℕ → ℕ → ℕ → Party
party_of number scheme person capacity put_in credited paid_out =
    record { number = number; scheme = scheme; person = person; capacity = capacity; put_in = put_in; credited = credited; paid_out = paid_out }

abbrev pub no_scheme : Scheme
no_scheme = scheme_of 0 0 0 0 0 0 0

abbrev pub no_party : Party
no_party = party_of 0 0 0 0 0 0 0

-- the records where there is no entry
unfoldable pub no_parties : List Party
no_parties = replicate most_entries no_party

abbrev pub new_ledger : Ledger
new_ledger =
    record {
      month = 0;
      connections = 0;
      charged = 0;
      borne = 0;
      next_scheme = 1;
      next_entry = 1;
      cleared_collected = 0;
      cleared_paid_out = 0;
      cleared_fees = 0;
      entries = 0;
      count = 0;
      schemes = replicate most_schemes no_scheme;
    }
