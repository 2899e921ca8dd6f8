-- Changes of one record, by name: a new field of a record touches one place.
use Rattle.std.specs.Prelude.{ℕ, ◌+◌, List}
use Rattle.ledger.specs.declared.records.Scheme.{Scheme}
use Rattle.ledger.specs.declared.records.Party.{Party}
use Rattle.ledger.specs.declared.records.Ledger.{Ledger}

abbrev pub with_person : ℕ → Party → Party
with_person person party = record party { person = person }

abbrev pub with_credited : ℕ → Party → Party
with_credited credited party = record party { credited = credited }

abbrev pub with_paid_out : ℕ → Party → Party
with_paid_out paid_out party = record party { paid_out = paid_out }

abbrev pub with_fees : ℕ → Scheme → Scheme
with_fees fees scheme = record scheme { fees = fees }

-- a connection more in this month, with what it charges and what the company bears
abbrev pub with_connection : ℕ → ℕ → ℕ → Ledger → Ledger
with_connection month charged borne ledger =
    record ledger { month = month; connections = ledger.connections + 1; charged = ledger.charged + charged; borne = ledger.borne + borne }

-- an entry more, which has the next number
abbrev pub with_entry : Ledger → Ledger
with_entry ledger = record ledger { entries = ledger.entries + 1; next_entry = ledger.next_entry + 1 }

-- as many schemes, in these places
abbrev pub with_schemes : List Scheme → Ledger → Ledger
with_schemes schemes ledger = record ledger { schemes = schemes }

-- a scheme more, which has the next number, with all in these places
abbrev pub with_scheme : List Scheme → Ledger → Ledger
with_scheme schemes ledger = record ledger { count = ledger.count + 1; next_scheme = ledger.next_scheme + 1; schemes = schemes }
