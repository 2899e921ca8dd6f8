-- Document 02, E6: books and requests of both forms, priced. "A two-byte number up to 255 means the same zone as the one-byte number", and 263 is never 7.
use Rattle.std.specs.Prelude.{ℕ, ◌≡◌, refl, replicate, Err, Ok}
use mathlib.Core.List.{List, [], ◌∷◌, ◌++◌, map, flat_map}
use Rattle.numbers.specs.BigEndian.{number, bytes_of}
use Rattle.numbers.specs.Check.{check_from}
use Rattle.field_walk.specs.Walk.{due_from, all_had, front_of, walk_from}
use Rattle.tagged.specs.Find.{fields_from, first_with, fields_with}
use Rattle.tagged.specs.Encoded.{closed}
use Rattle.field_values.specs.Judged.{judge_numbers, same_bytes}
use Rattle.book_zones.specs.Zones.{judge_zones_from}
use Rattle.rate_book.specs.Book.{book_letters, book_of}
use Rattle.request.specs.Request.{request_letters, request_of}
use Rattle.discount.specs.Discount.{discount}
use Rattle.revenue.specs.Revenue.{incremental_revenue}
use Rattle.charge.specs.Price.{zone_found, values_priced, request_priced, price_of, Pricing}
use Rattle.charge.specs.Cases.MarkedFigures.{tier, connection}

-- a book of zones with these numbers and LV rates, in the form that a zone is written in
abbrev book_of_zones : (ℕ → List ℕ → ℕ × List ℕ) → List (ℕ × ℕ) → List ℕ
book_of_zones written zones =
    closed
    (((1, book_letters) ∷
    (2, bytes_of 2 0) ∷
    (3, flat_map (bytes_of 4) (0 ∷ 1 ∷ replicate 8 0)) ∷
    (4, bytes_of 2 10000) ∷
    (5, bytes_of 2 10000) ∷
    (6, flat_map (bytes_of 4) (5000000 ∷ 20000 ∷ 20000 ∷ []) ++ bytes_of 2 84) ∷
    (7, 1 ∷ bytes_of 2 6500) ∷
    []) ++ map (λ zone. written zone.0 (flat_map (bytes_of 4) (zone.1 ∷ replicate 4 0))) zones)

abbrev narrow : ℕ → List ℕ → ℕ × List ℕ
narrow n rates = (8, n ∷ rates)

abbrev wide : ℕ → List ℕ → ℕ × List ℕ
wide n rates = (9, bytes_of 2 n ++ rates)

-- a request of 1 kVA of LV mains in a zone, of either form
abbrev request_of_zone : List (ℕ × List ℕ) → List (ℕ × List ℕ) → List ℕ
request_of_zone first last =
    closed
    (((1, request_letters) ∷ (2, bytes_of 4 4711) ∷ (3, 1 ∷ []) ∷ []) ++ (first ++
    (((5, replicate 24 0) ∷
    (6, tier 0 100 0 ++ flat_map (λ t. t) (replicate 4 (tier 0 0 0))) ∷
    (7, replicate 20 0) ∷
    (8, replicate 8 0) ∷
    (9, bytes_of 2 10000) ∷
    (10, bytes_of 2 10000) ∷
    (11, bytes_of 2 10000) ∷
    (12, connection 24315 15000 0 0) ∷
    []) ++ last)))

abbrev in_narrow : ℕ → List ℕ
in_narrow zone = request_of_zone ((4, zone ∷ []) ∷ []) []

abbrev in_wide : ℕ → List ℕ
in_wide zone = request_of_zone [] ((13, bytes_of 2 zone) ∷ [])

-- 0 and MC, or the refusal's number and place
abbrev ended : Pricing → ℕ × ℕ
ended (Ok bill) = (0, bill.reconciliation.mc)
ended (Err r) = (r.number, r.place)

abbrev narrow_book : List ℕ
narrow_book = book_of_zones narrow ((0, 10) ∷ (7, 11) ∷ (255, 12) ∷ [])

abbrev same_book : List ℕ
same_book = book_of_zones wide ((0, 10) ∷ (7, 11) ∷ (255, 12) ∷ [])

abbrev wide_book : List ℕ
wide_book = book_of_zones wide ((7, 21) ∷ (255, 22) ∷ (256, 23) ∷ (263, 24) ∷ (1400, 25) ∷ (65535, 26) ∷ [])

abbrev form_cases : List ((List ℕ × List ℕ) × (ℕ × ℕ))
form_cases =
    -- the four pairs of forms
    ((narrow_book, in_narrow 7), (0, 11)) ∷
    ((narrow_book, in_wide 7), (0, 11)) ∷
    ((same_book, in_narrow 7), (0, 11)) ∷
    ((same_book, in_wide 7), (0, 11)) ∷
    ((narrow_book, in_wide 0), (0, 10)) ∷
    ((same_book, in_narrow 0), (0, 10)) ∷
    ((narrow_book, in_wide 255), (0, 12)) ∷
    ((same_book, in_narrow 255), (0, 12)) ∷
    -- a number that has only its low byte in common with a zone of the book
    ((narrow_book, in_wide 263), (4, 0)) ∷
    ((narrow_book, in_wide 256), (4, 0)) ∷
    ((book_of_zones wide ((263, 1) ∷ []), in_narrow 7), (4, 0)) ∷
    -- numbers past 255
    ((wide_book, in_narrow 7), (0, 21)) ∷
    ((wide_book, in_wide 255), (0, 22)) ∷
    ((wide_book, in_wide 256), (0, 23)) ∷
    ((wide_book, in_wide 263), (0, 24)) ∷
    ((wide_book, in_wide 1400), (0, 25)) ∷
    ((wide_book, in_wide 65535), (0, 26)) ∷
    ((wide_book, in_wide 1399), (4, 0)) ∷
    ((wide_book, in_wide 65534), (4, 0)) ∷
    []

pub form_cases_hold : map (λ case. ended (price_of case.0.0 case.0.1)) form_cases ≡ map (λ case. case.1) form_cases
unfolding check_from number bytes_of due_from all_had front_of walk_from fields_from first_with fields_with judge_numbers same_bytes judge_zones_from book_of request_of discount incremental_revenue zone_found values_priced request_priced price_of flat_map
form_cases_hold = refl
