-- Document 01, 'Marked figures', M3 and M4, and boundary cases, by computation.
use Rattle.std.specs.Prelude.{ℕ, suc, ◌*◌, ◌/◌, ◌≡◌, refl, List, [], ◌∷◌, map}
use Rattle.field_values.specs.declared.factors.Factors.{Factors}
use Rattle.discount.specs.Discount.{discount}
use Rattle.revenue.specs.Revenue.{opex_factor, transmission_opex_factor, distribution_opex_factor, factor_of, life_of, year_revenue, stream_year, incremental_revenue}
use Rattle.revenue.specs.declared.Stream.{Stream}

abbrev pub factors : ℕ → List ℕ → Factors
factors count values = record { count = count; values = values }

-- one factor, and one of year 0 with another of all later years
abbrev pub always : ℕ → Factors
always x = factors 1 (x ∷ 0 ∷ 0 ∷ 0 ∷ 0 ∷ 0 ∷ 0 ∷ 0 ∷ [])

abbrev pub first_then : ℕ → ℕ → Factors
first_then x y = factors 2 (x ∷ y ∷ 0 ∷ 0 ∷ 0 ∷ 0 ∷ 0 ∷ 0 ∷ [])

-- "Book: b 0, opex 0, revenue 1 in each pair, all factors 10,000 .. revenue 57,320 and 0, part-year 0 then 10,000, tariffs 10,000."
abbrev pub slip_stream : ℕ → ℕ → Stream
slip_stream revenue o =
    record {
      revenue = revenue;
      opex_factor = o;
      part_year = first_then 0 10000;
      revenue_factors = always 10000;
      tariff_factors = always 10000;
    }

abbrev pub slip_revenue : ℕ → ℕ → ℕ
slip_revenue b class =
    incremental_revenue (slip_stream 57320 (opex_factor 0 (5 * 1))) (slip_stream 0 transmission_opex_factor) b (suc (life_of class))

-- M3: "opex 19,300 and revenue 153,800, five times: O 8,745." M4: "the slip's .. IR 859,800".
pub revenue_marked_figures :
    (opex_factor (5 * 19300) (5 * 153800) ≡ 8745) × (slip_revenue 0 1 ≡ 859800)
unfolding discount incremental_revenue
revenue_marked_figures = (refl, refl)

-- The slip's IR at rates of the table of discount factors, at the rates beside them and at others: rate, and IR.
abbrev pub non_residential_slips : List (ℕ × ℕ)
non_residential_slips =
    (275, 696814) ∷
    (299, 684770) ∷
    (300, 684276) ∷
    (301, 683779) ∷
    (312, 678374) ∷
    (325, 672063) ∷
    (475, 605138) ∷
    (575, 565906) ∷
    (600, 556698) ∷
    (601, 556335) ∷
    (625, 547718) ∷
    []

-- only the years 16 to 30 of a residential connection read the later half of the table
abbrev pub residential_slips : List (ℕ × ℕ)
residential_slips =
    (275, 1160676) ∷
    (300, 1123482) ∷
    (325, 1088027) ∷
    (475, 906811) ∷
    (575, 810547) ∷
    (600, 788983) ∷
    (625, 768321) ∷
    []

pub slips_at_rates :
    (map (λ t. slip_revenue t.0 1) non_residential_slips ≡ map (λ t. t.1) non_residential_slips) ×
    (map (λ t. slip_revenue t.0 0) residential_slips ≡ map (λ t. t.1) residential_slips)
unfolding discount incremental_revenue
slips_at_rates = (refl, refl)

-- a stream whose lists have three, two and four factors, such that each order of theirs rounds to another figure
abbrev different_factors : Stream
different_factors =
    record {
      revenue = 28388;
      opex_factor = 7269;
      part_year = factors 3 (19182 ∷ 11111 ∷ 22222 ∷ 0 ∷ 0 ∷ 0 ∷ 0 ∷ 0 ∷ []);
      revenue_factors = factors 2 (25872 ∷ 9999 ∷ 0 ∷ 0 ∷ 0 ∷ 0 ∷ 0 ∷ 0 ∷ []);
      tariff_factors = factors 4 (39805 ∷ 31234 ∷ 12345 ∷ 20001 ∷ 0 ∷ 0 ∷ 0 ∷ 0 ∷ []);
    }

-- the years 0 to 5 at b 463; and the highest revenue by the highest factors
pub years_of_a_stream :
    (map (λ n. stream_year different_factors n (discount 463 n)) (0 ∷ 1 ∷ 2 ∷ 3 ∷ 4 ∷ 5 ∷ []) ≡ 407627 ∷ 68431 ∷ 51702 ∷ 80060 ∷ 76517 ∷ 73131 ∷ [])
    × (year_revenue 1000000000 10000 40000 40000 40000 100000000 ≡ 64000000000)
    × (year_revenue 1000000000 9999 40000 40000 40000 95574882 ≡ 61161807687)
unfolding discount
years_of_a_stream = (refl, refl, refl)

-- "A list's first factor is year 0's, its last holds for all later years." In each row count, year and factor, of a list whose first value is 1, the
-- second 2, and so on.
abbrev pub factor_cases : List (ℕ × ℕ × ℕ)
factor_cases =
    (1, 0, 1) ∷
    (1, 1, 1) ∷
    (1, 30, 1) ∷
    (2, 0, 1) ∷
    (2, 1, 2) ∷
    (2, 2, 2) ∷
    (2, 30, 2) ∷
    (8, 0, 1) ∷
    (8, 6, 7) ∷
    (8, 7, 8) ∷
    (8, 8, 8) ∷
    (8, 30, 8) ∷
    []

pub factors_of_years : map (λ t. factor_of (factors t.0 (1 ∷ 2 ∷ 3 ∷ 4 ∷ 5 ∷ 6 ∷ 7 ∷ 8 ∷ [])) t.1) factor_cases ≡ map (λ t. t.2) factor_cases
factors_of_years = refl

-- "0 residential, life 30; 1 non-residential, life 15." Document 02, E3: "special pricing, life 15".
pub lives_of_classes : (life_of 0 ≡ 30) × (life_of 1 ≡ 15) × (life_of 2 ≡ 15)
lives_of_classes = (refl, refl, refl)

-- "for n from 0 to life inclusive": one cent a year, in either stream, over 31 and 16 years
abbrev pub steady : ℕ → Stream
steady revenue =
    record {
      revenue = revenue;
      opex_factor = 10000;
      part_year = always 10000;
      revenue_factors = always 10000;
      tariff_factors = always 10000;
    }

pub years_of_lives :
    (incremental_revenue (steady 1) (steady 0) 0 (suc (life_of 0)) ≡ 31) × (incremental_revenue (steady 0) (steady 1) 0 (suc (life_of 1)) ≡ 16)
unfolding discount incremental_revenue
years_of_lives = (refl, refl)

-- the greatest and least opex factor, and one rounded down
pub opex_factors : (opex_factor 0 1 ≡ 10000) × (opex_factor 1 1 ≡ 0) × (opex_factor 1 3 ≡ 6666)
opex_factors = (refl, refl, refl)

-- Document 02, E3: "O taken as 10,000 for distribution too", in class 2 alone, also where opex takes all
pub opex_factors_of_classes :
    (distribution_opex_factor 0 96500 769000 ≡ 8745) × (distribution_opex_factor 1 96500 769000 ≡ 8745) × (distribution_opex_factor 2 96500 769000 ≡ 10000)
    × (distribution_opex_factor 1 1 1 ≡ 0) × (distribution_opex_factor 2 1 1 ≡ 10000)
opex_factors_of_classes = (refl, refl, refl, refl, refl)

-- "rounded down after each division". In each row one of the first four divisions leaves a part that would make a cent more, if only the end were rounded.
abbrev pub rounded_at_end : ℕ → ℕ → ℕ → ℕ → ℕ → ℕ → ℕ
rounded_at_end revenue o part_year revenue_factor tariff_factor f =
    revenue * o * part_year * revenue_factor * tariff_factor * f / (10000 * 10000 * 10000 * 10000 * 100000000)

abbrev pub rounding_cases : List (ℕ × ℕ × ℕ × ℕ × ℕ × ℕ)
rounding_cases =
    (1, 5000, 20000, 10000, 10000, 100000000) ∷
    (1, 10000, 5000, 20000, 10000, 100000000) ∷
    (1, 10000, 10000, 5000, 20000, 100000000) ∷
    (3, 10000, 10000, 10000, 5000, 70000000) ∷
    []

pub five_roundings :
    (map (λ t. year_revenue t.0 t.1 t.2 t.3 t.4 t.5) rounding_cases ≡ 0 ∷ 0 ∷ 0 ∷ 0 ∷ []) ×
    (map (λ t. rounded_at_end t.0 t.1 t.2 t.3 t.4 t.5) rounding_cases ≡ 1 ∷ 1 ∷ 1 ∷ 1 ∷ [])
five_roundings = (refl, refl)
