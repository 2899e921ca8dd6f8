-- Each change of a record: the other fields stay.
use Rattle.std.specs.Prelude.{◌≡◌, refl, [], ◌∷◌}
use Rattle.ledger.specs.Records.{scheme_of, party_of}
use Rattle.ledger.specs.Updates.{with_person, with_credited, with_paid_out, with_fees, with_connection, with_entry, with_schemes, with_scheme}
use Rattle.ledger.specs.declared.records.Scheme.{Scheme}
use Rattle.ledger.specs.declared.records.Party.{Party}
use Rattle.ledger.specs.declared.records.Ledger.{Ledger}

abbrev party : Party
party = party_of 70 1 2 3 4 5000000005 5000000006

abbrev scheme : Scheme
scheme = scheme_of 70 1 2 3 4 5 5000000006

abbrev ledger : Ledger
ledger =
    record {
      month = 1;
      connections = 2;
      charged = 5000000003;
      borne = 5000000004;
      next_scheme = 5;
      next_entry = 6;
      cleared_collected = 5000000007;
      cleared_paid_out = 5000000008;
      cleared_fees = 5000000009;
      entries = 10;
      count = 11;
      schemes = scheme ∷ [];
    }

pub others_stay :
    (with_person 9 party ≡ party_of 70 1 9 3 4 5000000005 5000000006)
    × (with_credited 9 party ≡ party_of 70 1 2 3 4 9 5000000006)
    × (with_paid_out 9 party ≡ party_of 70 1 2 3 4 5000000005 9)
    × (with_fees 9 scheme ≡ scheme_of 70 1 2 3 4 5 9)
    × (with_connection 7 8 9 ledger ≡ record ledger { month = 7; connections = 3; charged = 5000000011; borne = 5000000013 })
    × (with_entry ledger ≡ record ledger { next_entry = 7; entries = 11 })
    × (with_schemes [] ledger ≡ record ledger { schemes = [] })
    × (with_scheme [] ledger ≡ record ledger { next_scheme = 6; count = 12; schemes = [] })
others_stay = (refl, refl, refl, refl, refl, refl, refl, refl)
