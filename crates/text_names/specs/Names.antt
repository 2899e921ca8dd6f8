-- What the values are called in a text, by their rows.
use Rattle.std.specs.Prelude.{ℕ, ◌+◌, List, [], ◌∷◌, ◌++◌, get_or, codes}
use Rattle.text_output.specs.Digits.{decimal}
use Rattle.text_names.specs.declared.table.Kind.{Kind}
use Rattle.text_names.specs.declared.table.Kind.TheVariants.{Book, Request}
use Rattle.text_names.specs.declared.table.Over.{Over}
use Rattle.text_names.specs.declared.table.Over.TheVariants.{Pairs, Tiers, Years, Zones}

-- "rate book" and "request"
abbrev pub kind_name : Kind → List ℕ
kind_name Book = codes "rate book"
kind_name Request = codes "request"

unfoldable pub book_names : List (List ℕ)
book_names =
    codes "discount rate" ∷
    codes "selected opex" ∷
    codes "distribution revenue" ∷
    codes "distribution revenue factor" ∷
    codes "transmission revenue factor" ∷
    codes "threshold" ∷
    codes "fee" ∷
    codes "minimum" ∷
    codes "term months" ∷
    codes "capacity charged" ∷
    codes "credit share" ∷
    codes "number" ∷
    codes "LV mains rate" ∷
    codes "distribution substation rate" ∷
    codes "HV feeder rate" ∷
    codes "zone substation rate" ∷
    codes "sub-transmission rate" ∷
    []

unfoldable pub request_names : List (List ℕ)
request_names =
    codes "person number" ∷
    codes "class" ∷
    codes "zone number" ∷
    codes "minimum scheme extension ME" ∷
    codes "customer enhancement extension CE" ∷
    codes "distributor enhancement DE" ∷
    codes "transmission works TW" ∷
    codes "historical cost recovery HR" ∷
    codes "operating loading OL" ∷
    codes "mode" ∷
    codes "demand" ∷
    codes "bespoke rate" ∷
    codes "added demand" ∷
    codes "year-one distribution revenue" ∷
    codes "year-one transmission revenue" ∷
    codes "part-year factor" ∷
    codes "distribution tariff factor" ∷
    codes "transmission tariff factor" ∷
    codes "month" ∷
    codes "capacity" ∷
    codes "scheme joined" ∷
    codes "mark" ∷
    []

abbrev pub row_names : Kind → List (List ℕ)
row_names Book = book_names
row_names Request = request_names

abbrev pub row_name : Kind → ℕ → List ℕ
row_name kind number = get_or (row_names kind) number []

-- ---- what a value is repeated over
-- "LV mains, distribution substation, HV feeder, zone substation, sub-transmission"
unfoldable pub tier_names : List (List ℕ)
tier_names = codes "LV mains" ∷ codes "distribution substation" ∷ codes "HV feeder" ∷ codes "zone substation" ∷ codes "sub-transmission" ∷ []

unfoldable pub ordinals : List (List ℕ)
ordinals = codes "first" ∷ codes "second" ∷ codes "third" ∷ codes "fourth" ∷ codes "fifth" ∷ codes "sixth" ∷ codes "seventh" ∷ codes "eighth" ∷ []

-- before the name: the tier, or the zone
abbrev pub name_front : Over → ℕ → List ℕ
name_front Tiers round = get_or tier_names round [] ++ codes " "
name_front Zones round = get_or ordinals round [] ++ codes " zone "
name_front over round = []

-- behind it: the pair from 1 on, or the year from 0 on
abbrev pub name_back : Over → ℕ → List ℕ
name_back Pairs round = codes " " ++ decimal (round + 1)
name_back Years round = codes " year " ++ decimal round
name_back over round = []

-- what the value of a row is called in a round
unfoldable pub value_name : Kind → Over → ℕ → ℕ → List ℕ
value_name kind over number round = name_front over round ++ (row_name kind number ++ name_back over round)
