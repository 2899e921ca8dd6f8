-- Places of schemes and entries by number: a number below the first, the first, one between, the last, one past it, and the place's own number.
use Rattle.std.specs.Prelude.{◌≡◌, refl, List, [], ◌∷◌, map, None, Some}
use Rattle.ledger.specs.Records.{no_scheme, no_party}
use Rattle.ledger.specs.Lookup.{place_of, scheme_place}
use Rattle.ledger.specs.EntryPlace.{entry_place}
use Rattle.ledger.specs.declared.records.Scheme.{Scheme}
use Rattle.ledger.specs.declared.records.Party.{Party}

-- the number 65,537 is 1 in sixteen bits
abbrev schemes : List Scheme
schemes = record no_scheme { number = 2 } ∷ record no_scheme { number = 5 } ∷ record no_scheme { number = 65537 } ∷ []

abbrev entries : List Party
entries = record no_party { number = 3; scheme = 1 } ∷ record no_party { number = 4; scheme = 2 } ∷ record no_party { number = 9; scheme = 3 } ∷ []

pub place_cases_hold :
    (map (λ s. scheme_place s schemes) (0 ∷ 1 ∷ 2 ∷ 3 ∷ 5 ∷ 65537 ∷ 65538 ∷ []) ≡ None ∷ None ∷ Some 0 ∷ None ∷ Some 1 ∷ Some 2 ∷ None ∷ [])
    × (map (λ e. entry_place e entries) (0 ∷ 1 ∷ 3 ∷ 4 ∷ 5 ∷ 9 ∷ 10 ∷ []) ≡ None ∷ None ∷ Some 0 ∷ Some 1 ∷ None ∷ Some 2 ∷ None ∷ [])
    × (scheme_place 1 [] ≡ None)
unfolding place_of
place_cases_hold = (refl, refl, refl)
