-- Names in literals: every row, and each tier, zone, pair and year at its first and its last.
use Rattle.std.specs.Prelude.{◌≡◌, refl, codes}
use Rattle.text_output.specs.Digits.{decimal_from}
use Rattle.text_names.specs.Names.{book_names, request_names, tier_names, ordinals, value_name}
use Rattle.text_names.specs.declared.table.Kind.TheVariants.{Book, Request}
use Rattle.text_names.specs.declared.table.Over.TheVariants.{Nothing, Pairs, Tiers, Years, Zones}

-- the kind of file, what the row is repeated over, the row, the round, and what the value is called
pub names_hold :
    (value_name Book Nothing 0 0 ≡ codes "discount rate")
    × (value_name Book Pairs 1 0 ≡ codes "selected opex 1")
    × (value_name Book Pairs 2 4 ≡ codes "distribution revenue 5")
    × (value_name Book Years 3 0 ≡ codes "distribution revenue factor year 0")
    × (value_name Book Years 3 7 ≡ codes "distribution revenue factor year 7")
    × (value_name Book Years 4 6 ≡ codes "transmission revenue factor year 6")
    × (value_name Book Nothing 5 0 ≡ codes "threshold")
    × (value_name Book Nothing 6 0 ≡ codes "fee")
    × (value_name Book Nothing 7 0 ≡ codes "minimum")
    × (value_name Book Nothing 8 0 ≡ codes "term months")
    × (value_name Book Nothing 9 0 ≡ codes "capacity charged")
    × (value_name Book Nothing 10 0 ≡ codes "credit share")
    × (value_name Book Zones 11 0 ≡ codes "first zone number")
    × (value_name Book Zones 12 1 ≡ codes "second zone LV mains rate")
    × (value_name Book Zones 13 2 ≡ codes "third zone distribution substation rate")
    × (value_name Book Zones 14 3 ≡ codes "fourth zone HV feeder rate")
    × (value_name Book Zones 15 4 ≡ codes "fifth zone zone substation rate")
    × (value_name Book Zones 16 5 ≡ codes "sixth zone sub-transmission rate")
    × (value_name Book Zones 11 6 ≡ codes "seventh zone number")
    × (value_name Book Zones 16 7 ≡ codes "eighth zone sub-transmission rate")
    × (value_name Request Nothing 0 0 ≡ codes "person number")
    × (value_name Request Nothing 1 0 ≡ codes "class")
    × (value_name Request Nothing 2 0 ≡ codes "zone number")
    × (value_name Request Nothing 3 0 ≡ codes "minimum scheme extension ME")
    × (value_name Request Nothing 4 0 ≡ codes "customer enhancement extension CE")
    × (value_name Request Nothing 5 0 ≡ codes "distributor enhancement DE")
    × (value_name Request Nothing 6 0 ≡ codes "transmission works TW")
    × (value_name Request Nothing 7 0 ≡ codes "historical cost recovery HR")
    × (value_name Request Nothing 8 0 ≡ codes "operating loading OL")
    × (value_name Request Tiers 9 0 ≡ codes "LV mains mode")
    × (value_name Request Tiers 10 1 ≡ codes "distribution substation demand")
    × (value_name Request Tiers 11 2 ≡ codes "HV feeder bespoke rate")
    × (value_name Request Tiers 12 3 ≡ codes "zone substation added demand")
    × (value_name Request Tiers 12 4 ≡ codes "sub-transmission added demand")
    × (value_name Request Nothing 13 0 ≡ codes "year-one distribution revenue")
    × (value_name Request Nothing 14 0 ≡ codes "year-one transmission revenue")
    × (value_name Request Years 15 1 ≡ codes "part-year factor year 1")
    × (value_name Request Years 16 0 ≡ codes "distribution tariff factor year 0")
    × (value_name Request Years 17 7 ≡ codes "transmission tariff factor year 7")
    × (value_name Request Nothing 18 0 ≡ codes "month")
    × (value_name Request Nothing 19 0 ≡ codes "capacity")
    × (value_name Request Nothing 20 0 ≡ codes "scheme joined")
    × (value_name Request Nothing 21 0 ≡ codes "mark")
unfolding decimal_from book_names request_names tier_names ordinals value_name
names_hold = (refl, refl, refl, refl, refl, refl, refl, refl, refl, refl, refl, refl, refl, refl, refl, refl, refl, refl, refl, refl, refl, refl, refl, refl, refl, refl, refl, refl, refl, refl, refl, refl, refl, refl, refl, refl, refl, refl, refl, refl, refl, refl, refl)
