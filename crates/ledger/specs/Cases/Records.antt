-- The records and a new ledger, field by field.
use Rattle.std.specs.Prelude.{◌≡◌, refl, replicate}
use Rattle.ledger.specs.Records.{scheme_of, party_of, no_scheme, no_party, no_parties, new_ledger}
use Rattle.ledger.specs.declared.records.Scheme.{Scheme}
use Rattle.ledger.specs.declared.records.Party.{Party}

abbrev zero_scheme : Scheme
zero_scheme = record { number = 0; cost = 0; fee = 0; minimum = 0; opening = 0; term = 0; fees = 0 }

abbrev zero_party : Party
zero_party = record { number = 0; scheme = 0; person = 0; capacity = 0; put_in = 0; credited = 0; paid_out = 0 }

pub each_field :
    (scheme_of 1 2 3 4 5 6 7 ≡ record { number = 1; cost = 2; fee = 3; minimum = 4; opening = 5; term = 6; fees = 7 })
    × (party_of 1 2 3 4 5 6 7 ≡ record { number = 1; scheme = 2; person = 3; capacity = 4; put_in = 5; credited = 6; paid_out = 7 })
each_field = (refl, refl)

-- zeros but for both next numbers
pub zeros_only :
    (no_scheme ≡ zero_scheme)
    × (no_party ≡ zero_party)
    × (no_parties ≡ replicate 512 zero_party)
    × (
    new_ledger ≡
    record {
      month = 0;
      connections = 0;
      charged = 0;
      borne = 0;
      next_scheme = 1;
      next_entry = 1;
      cleared_collected = 0;
      cleared_paid_out = 0;
      cleared_fees = 0;
      entries = 0;
      count = 0;
      schemes = replicate 64 zero_scheme;
    }
    )
unfolding no_parties
zeros_only = (refl, refl, refl, refl)
