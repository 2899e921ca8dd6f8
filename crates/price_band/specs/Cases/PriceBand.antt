-- Bands on document 01's slip, from the bytes on, with every figure written out.
use Rattle.std.specs.Prelude.{ℕ, ◌≡◌, refl, ℤ, pos, negsuc, Err, Ok}
use mathlib.Core.List.{List, [], ◌∷◌, map, flat_map}
use Rattle.numbers.specs.BigEndian.{number, bytes_of}
use Rattle.numbers.specs.Check.{check_from}
use Rattle.field_walk.specs.Walk.{due_from, all_had, front_of, walk_from}
use Rattle.tagged.specs.Find.{fields_from, first_with, fields_with}
use Rattle.tagged.specs.File.{refusal}
use Rattle.field_values.specs.Judged.{judge_numbers, same_bytes}
use Rattle.book_zones.specs.Zones.{judge_zones_from}
use Rattle.rate_book.specs.Book.{book_of}
use Rattle.request.specs.Request.{request_of}
use Rattle.discount.specs.Discount.{discount}
use Rattle.revenue.specs.Revenue.{incremental_revenue}
use Rattle.charge.specs.Price.{zone_found, values_priced, request_priced, price_of}
use Rattle.charge.specs.Cases.MarkedFigures.{slip_book_by, slip_book_with, slip_book, slip_request, slip_tiers, connection, request_of_revenues, request_with, bespoke_request}
use Rattle.charge.specs.Cases.FullBook.{narrow_book, in_narrow}
use Rattle.price_band.specs.PriceBand.{band_of, BandPricing}
use Rattle.price_band.specs.declared.Bands.{Bands}

-- low and high, of distribution and of transmission
abbrev bands : ℕ → ℕ → ℕ → ℕ → Bands
bands a b c d = record { distribution_low = a; distribution_high = b; transmission_low = c; transmission_high = d }

-- IR, CC and NC, each lowest then highest
abbrev pub band_of_figures : ℕ → ℕ → ℕ → ℕ → ℤ → ℤ → BandPricing
band_of_figures a b c d e f =
    Ok (record { lowest_ir = a; highest_ir = b; lowest_cc = c; highest_cc = d; lowest_nc = e; highest_nc = f })

-- the slip's request but for its class, OL and revenues
abbrev request_with_revenues : ℕ → ℕ → ℕ → ℕ → List ℕ
request_with_revenues class ol distribution transmission =
    request_of_revenues (distribution ∷ transmission ∷ []) class 1 (1598500 ∷ 0 ∷ 0 ∷ 0 ∷ 0 ∷ ol ∷ []) slip_tiers (connection 24315 15000 0 0)

abbrev refused : ℕ → BandPricing
refused number = Err (refusal number 0 0)

abbrev slip_bands : List (Bands × BandPricing)
slip_bands =
    -- from the credit below M to the credit above it
    (bands 57320 200000 0 0, band_of_figures 859800 3000000 0 1147630 (pos 300930) (pos 1293500)) ∷
    (bands 50000 57320 1000 2000, band_of_figures 765000 889800 1128130 1209250 (pos 267750) (pos 311430)) ∷
    -- the whole of field 08's limits, and one past each
    (bands 0 1000000000 0 1000000000, band_of_figures 0 30000000000 0 1706500 (pos 0) (pos 29998293500)) ∷
    (bands 1000000000 1000000000 1000000000 1000000000, band_of_figures 30000000000 30000000000 0 0 (pos 29998293500) (pos 29998293500)) ∷
    (bands 1000000001 0 0 0, refused 3) ∷
    (bands 0 1000000001 0 0, refused 3) ∷
    (bands 0 0 1000000001 0, refused 3) ∷
    (bands 1 0 0 1000000001, refused 3) ∷
    -- 2^32 + 1, which isn't cut to 1
    (bands 0 4294967297 0 0, refused 3) ∷
    -- a low that is its high, and one above it; transmission's low against its own high
    (bands 57320 57320 0 0, band_of_figures 859800 859800 1147630 1147630 (pos 300930) (pos 300930)) ∷
    (bands 1 0 0 0, refused 15) ∷
    (bands 0 0 1 0, refused 15) ∷
    (bands 0 2 2 1, refused 15) ∷
    (bands 0 1 2 2, band_of_figures 30 45 1706471 1706481 (pos 11) (pos 16)) ∷
    []

pub slip_bands_hold : map (λ t. band_of slip_book slip_request t.0) slip_bands ≡ map (λ t. t.1) slip_bands
unfolding check_from number bytes_of due_from all_had front_of walk_from fields_from first_with fields_with judge_numbers same_bytes judge_zones_from book_of request_of discount incremental_revenue zone_found values_priced request_priced price_of flat_map band_of
slip_bands_hold = refl

abbrev other_bands : List (BandPricing × BandPricing)
other_bands =
    -- share 10,000: NC is 0 up to M. Capacity not charged: NC is below 0.
    (band_of (slip_book_by 0 0 1 1 10000) slip_request (bands 0 57320 0 0), band_of_figures 0 859800 846700 1706500 (pos 0) (pos 0)) ∷
    (band_of (slip_book_by 0 0 1 0 6500) slip_request (bands 0 57320 0 0), band_of_figures 0 859800 1039630 1598500 (negsuc 107999) (pos 192930)) ∷
    -- special pricing with an operating loading, by a book with opex
    (band_of (slip_book_with 0 19300 153800) (request_with_revenues 2 50000 57320 0) (bands 0 57320 0 1), band_of_figures 0 859815 1197621 1756500 (pos 0) (pos 300936)) ∷
    -- the request's own field 08 is judged as always, and stands for nothing where it passes
    (band_of slip_book (request_with_revenues 1 0 1000000001 0) (bands 0 0 0 0), Err (refusal 3 2 123)) ∷
    (band_of slip_book (request_with_revenues 1 0 1000000000 1) (bands 57320 57320 0 0), band_of_figures 859800 859800 1147630 1147630 (pos 300930) (pos 300930)) ∷
    -- in a full book's eighth zone, whose factors and revenues of distribution and of transmission all differ
    (band_of narrow_book (in_narrow 255) (bands 57321 60000 31207 40000), band_of_figures 342368 419379 10465952 10516017 (pos 119795) (pos 146741)) ∷
    -- book, request, 4 and 5 come before the figures
    (band_of [] slip_request (bands 1 0 0 0), Err (refusal 1 1 0)) ∷
    (band_of slip_book [] (bands 1 0 0 0), Err (refusal 1 2 0)) ∷
    (band_of slip_book (request_with 2 slip_tiers) (bands 1 0 0 0), Err (refusal 4 2 0)) ∷
    (band_of slip_book (bespoke_request 12750 57001) (bands 1000000001 0 0 0), Err (refusal 5 2 3)) ∷
    []

pub other_bands_hold : map (λ t. t.0) other_bands ≡ map (λ t. t.1) other_bands
unfolding check_from number bytes_of due_from all_had front_of walk_from fields_from first_with fields_with judge_numbers same_bytes judge_zones_from book_of request_of discount incremental_revenue zone_found values_priced request_priced price_of flat_map band_of
other_bands_hold = refl
