-- Document 02, E3, on document 01's slip: how a request of each class is refused or priced, with an operating loading and without, by books with opex and
-- without.
use Rattle.std.specs.Prelude.{ℕ, ◌≡◌, refl, ℤ, pos, Err, Ok}
use mathlib.Core.List.{List, [], ◌∷◌, map, flat_map}
use Rattle.numbers.specs.BigEndian.{number, bytes_of}
use Rattle.numbers.specs.Check.{check_from}
use Rattle.field_walk.specs.Walk.{due_from, all_had, front_of, walk_from}
use Rattle.tagged.specs.Find.{fields_from, first_with, fields_with}
use Rattle.tagged.specs.File.{refusal}
use Rattle.field_values.specs.Judged.{judge_numbers, same_bytes}
use Rattle.book_zones.specs.Zones.{judge_zones_from}
use Rattle.rate_book.specs.Book.{book_of}
use Rattle.request.specs.Request.{request_of}
use Rattle.discount.specs.Discount.{discount}
use Rattle.revenue.specs.Revenue.{incremental_revenue}
use Rattle.charge.specs.Price.{zone_found, values_priced, request_priced, price_of, Pricing}
use Rattle.charge.specs.Cases.MarkedFigures.{slip_book, slip_book_with, request_of_class, tier, connection}

-- of this class, with these for HR, OL and the first tier's mode
abbrev altered : ℕ → ℕ → ℕ → ℕ → List ℕ
altered class hr ol mode =
    request_of_class class 1 (1598500 ∷ 0 ∷ 0 ∷ 0 ∷ hr ∷ ol ∷ [])
    (tier mode 400 0 ∷ tier 0 400 0 ∷ tier 0 200 0 ∷ tier 0 200 0 ∷ tier 0 150 0 ∷ []) (connection 24315 15000 0 0)

abbrev loaded : ℕ → ℕ → List ℕ
loaded class ol = altered class 0 ol 0

-- "OL above 0 in class 0 or 1 is 3, at OL's first byte, in its turn among the values."
abbrev refused_cases : List (Pricing × Pricing)
refused_cases =
    (price_of slip_book (loaded 0 1), Err (refusal 3 2 45)) ∷
    (price_of slip_book (loaded 1 1), Err (refusal 3 2 45)) ∷
    -- HR past its limit comes before it, a mode after it
    (price_of slip_book (altered 1 1000000001 1 0), Err (refusal 3 2 41)) ∷
    (price_of slip_book (altered 1 0 1 3), Err (refusal 3 2 45)) ∷
    (price_of slip_book (loaded 3 1), Err (refusal 3 2 17)) ∷
    (price_of slip_book (loaded 2 1000000001), Err (refusal 3 2 45)) ∷
    -- the book's opex is judged in every class
    (price_of (slip_book_with 0 153801 153800) (loaded 2 0), Err (refusal 3 1 15)) ∷
    []

pub refused_by_class : map (λ t. t.0) refused_cases ≡ map (λ t. t.1) refused_cases
unfolding check_from number bytes_of due_from all_had front_of walk_from fields_from first_with fields_with judge_numbers same_bytes judge_zones_from book_of request_of discount incremental_revenue zone_found values_priced request_priced price_of flat_map
refused_by_class = refl

-- CC, IC, IR, NIC and NC, as the slip has them
abbrev figures_of : Pricing → List ℤ
figures_of (Ok bill) =
    pos bill.reconciliation.cc ∷ pos bill.reconciliation.ic ∷ pos bill.reconciliation.ir ∷ bill.reconciliation.nic ∷ bill.reconciliation.nc ∷ []
figures_of (Err r) = []

-- by books with opex 19,300 and revenue 153,800 in each pair: b, class and OL, and the figures
abbrev priced_cases : List ((ℕ × ℕ × ℕ) × List ℤ)
priced_cases =
    ((0, 1, 0), pos 1217772 ∷ pos 1706500 ∷ pos 751890 ∷ pos 954610 ∷ pos 263162 ∷ []) ∷
    ((0, 2, 0), pos 1147630 ∷ pos 1706500 ∷ pos 859800 ∷ pos 846700 ∷ pos 300930 ∷ []) ∷
    ((0, 2, 50000), pos 1197630 ∷ pos 1756500 ∷ pos 859800 ∷ pos 896700 ∷ pos 300930 ∷ []) ∷
    ((463, 0, 0), pos 1183811 ∷ pos 1706500 ∷ pos 804137 ∷ pos 902363 ∷ pos 281448 ∷ []) ∷
    ((463, 1, 0), pos 1359698 ∷ pos 1706500 ∷ pos 533543 ∷ pos 1172957 ∷ pos 186741 ∷ []) ∷
    ((463, 2, 0), pos 1309924 ∷ pos 1706500 ∷ pos 610118 ∷ pos 1096382 ∷ pos 213542 ∷ []) ∷
    []

abbrev priced_by : ℕ × ℕ × ℕ → Pricing
priced_by t = price_of (slip_book_with t.0 19300 153800) (loaded t.1 t.2)

pub priced_by_class : map (λ t. figures_of (priced_by t.0)) priced_cases ≡ map (λ t. t.1) priced_cases
unfolding check_from number bytes_of due_from all_had front_of walk_from fields_from first_with fields_with judge_numbers same_bytes judge_zones_from book_of request_of discount incremental_revenue zone_found values_priced request_priced price_of flat_map
priced_by_class = refl
