-- Each list full: a book of eight zones and eight factors in both of its lists, and a request of eight factors in each of its three. Priced in the first, the
-- fifth and the eighth zone, in both forms: MC, IR, CC and NC.
use Rattle.std.specs.Prelude.{ℕ, ◌≡◌, refl, replicate, ℤ, pos}
use mathlib.Core.List.{List, [], ◌∷◌, ◌++◌, map, flat_map}
use Rattle.numbers.specs.BigEndian.{number, bytes_of}
use Rattle.numbers.specs.Check.{check_from}
use Rattle.field_walk.specs.Walk.{due_from, all_had, front_of, walk_from}
use Rattle.tagged.specs.Find.{fields_from, first_with, fields_with}
use Rattle.tagged.specs.Encoded.{closed}
use Rattle.field_values.specs.Judged.{judge_numbers, same_bytes}
use Rattle.book_zones.specs.Zones.{judge_zones_from}
use Rattle.book_zones.specs.Cases.EightZones.{eight_narrow, eight_wide, narrow_fields, wide_fields}
use Rattle.rate_book.specs.Book.{book_letters, book_of}
use Rattle.request.specs.Request.{request_letters, request_of}
use Rattle.discount.specs.Discount.{discount}
use Rattle.revenue.specs.Revenue.{incremental_revenue}
use Rattle.charge.specs.Price.{zone_found, values_priced, request_priced, price_of}
use Rattle.charge.specs.Cases.MarkedFigures.{tier, connection, figures_of}

abbrev full_book : List (ℕ × List ℕ) → List ℕ
full_book zones =
    closed
    (((1, book_letters) ∷
    (2, bytes_of 2 463) ∷
    (3, flat_map (bytes_of 4) (10 ∷ 20 ∷ 200 ∷ 300 ∷ 3000 ∷ 4000 ∷ 40000 ∷ 50000 ∷ 500000 ∷ 600000 ∷ [])) ∷
    (4, flat_map (bytes_of 2) (11001 ∷ 9002 ∷ 12003 ∷ 8004 ∷ 13005 ∷ 7006 ∷ 14007 ∷ 6008 ∷ [])) ∷
    (5, flat_map (bytes_of 2) (12001 ∷ 8102 ∷ 11203 ∷ 9304 ∷ 10405 ∷ 7506 ∷ 13607 ∷ 5708 ∷ [])) ∷
    (6, flat_map (bytes_of 4) (3000001 ∷ 20001 ∷ 20002 ∷ []) ++ bytes_of 2 121) ∷
    (7, 1 ∷ bytes_of 2 6501) ∷
    []) ++ zones)

abbrev pub narrow_book : List ℕ
narrow_book = full_book (narrow_fields eight_narrow)

abbrev wide_book : List ℕ
wide_book = full_book (wide_fields eight_wide)

-- with a field 04, or a 0D at the end
abbrev full_request : List (ℕ × List ℕ) → List (ℕ × List ℕ) → List ℕ
full_request first last =
    closed
    (((1, request_letters) ∷ (2, bytes_of 4 4711) ∷ (3, 1 ∷ []) ∷ []) ++ (first ++
    (((5, flat_map (bytes_of 4) (9598500 ∷ replicate 5 0)) ∷
    (6, flat_map (λ demand. tier 0 demand 0) (100 ∷ 200 ∷ 300 ∷ 400 ∷ 500 ∷ [])) ∷
    (7, flat_map (bytes_of 4) (500 ∷ 400 ∷ 300 ∷ 200 ∷ 100 ∷ [])) ∷
    (8, flat_map (bytes_of 4) (57321 ∷ 31207 ∷ [])) ∷
    (9, flat_map (bytes_of 2) (2500 ∷ 9900 ∷ 10100 ∷ 9700 ∷ 10300 ∷ 9500 ∷ 10500 ∷ 9300 ∷ [])) ∷
    (10, flat_map (bytes_of 2) (10400 ∷ 9600 ∷ 10700 ∷ 9100 ∷ 11100 ∷ 8800 ∷ 11500 ∷ 8500 ∷ [])) ∷
    (11, flat_map (bytes_of 2) (11300 ∷ 8700 ∷ 10900 ∷ 9200 ∷ 10600 ∷ 9400 ∷ 10200 ∷ 9800 ∷ [])) ∷
    (12, connection 24315 15000 0 0) ∷
    []) ++ last)))

abbrev pub in_narrow : ℕ → List ℕ
in_narrow zone = full_request ((4, zone ∷ []) ∷ []) []

abbrev in_wide : ℕ → List ℕ
in_wide zone = full_request [] ((13, bytes_of 2 zone) ∷ [])

abbrev figures : ℕ → ℕ → ℕ → ℕ → List ℤ
figures mc ir cc nc = pos mc ∷ pos ir ∷ pos cc ∷ pos nc ∷ []

abbrev full_cases : List ((List ℕ × List ℕ) × List ℤ)
full_cases =
    ((narrow_book, in_narrow 3), figures 465055 342368 10306017 119795) ∷
    ((narrow_book, in_narrow 33), figures 525055 342368 10426017 119795) ∷
    ((narrow_book, in_narrow 255), figures 570055 342368 10516017 119795) ∷
    ((narrow_book, in_wide 255), figures 570055 342368 10516017 119795) ∷
    ((wide_book, in_narrow 4), figures 615055 342368 10606017 119795) ∷
    ((wide_book, in_wide 4), figures 615055 342368 10606017 119795) ∷
    ((wide_book, in_wide 1400), figures 675055 342368 10726017 119795) ∷
    ((wide_book, in_wide 65535), figures 720055 342368 10816017 119795) ∷
    []

pub full_cases_hold : map (λ case. figures_of (price_of case.0.0 case.0.1)) full_cases ≡ map (λ case. case.1) full_cases
unfolding check_from number bytes_of due_from all_had front_of walk_from fields_from first_with fields_with judge_numbers same_bytes judge_zones_from book_of request_of discount incremental_revenue zone_found values_priced request_priced price_of flat_map
full_cases_hold = refl
