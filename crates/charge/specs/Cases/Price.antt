-- Pricings from the bytes on, with every figure written out. Book and request have values that all differ and none that is neutral: several factors in
-- every list, all three classes, two bespoke modes, and a zone that isn't the book's first.
use Rattle.std.specs.Prelude.{ℕ, ◌≡◌, refl, replicate, pos, Err, None, Ok}
use mathlib.Core.List.{List, [], ◌∷◌, ◌++◌, flat_map}
use Rattle.numbers.specs.BigEndian.{number, bytes_of}
use Rattle.numbers.specs.Check.{check_from}
use Rattle.field_walk.specs.Walk.{due_from, all_had, front_of, walk_from}
use Rattle.tagged.specs.Find.{fields_from, first_with, fields_with}
use Rattle.tagged.specs.File.{refusal}
use Rattle.tagged.specs.Encoded.{closed}
use Rattle.field_values.specs.Judged.{judge_numbers, same_bytes}
use Rattle.book_zones.specs.Zones.{judge_zones_from}
use Rattle.rate_book.specs.Book.{book_letters, book_of}
use Rattle.request.specs.Request.{request_letters, request_of}
use Rattle.discount.specs.Discount.{discount}
use Rattle.revenue.specs.Revenue.{incremental_revenue}
use Rattle.reconciliation.specs.Cases.Reconciliation.{figures, capacity_charged, capacity_not_charged, without_loading, credit_is_m, credit_above_m}
use Rattle.reconciliation.specs.declared.Reconciliation.{Reconciliation}
use Rattle.charge.specs.Price.{zone_found, values_priced, request_priced, price_of}
use Rattle.charge.specs.Cases.MarkedFigures.{tier, connection}
use Rattle.charge.specs.declared.Bill.{Bill}

-- a book with these values for capacity charged and for the share
abbrev varied_book : ℕ → ℕ → List ℕ
varied_book charged share =
    closed
    ((1, book_letters) ∷
    (2, bytes_of 2 463) ∷
    (3, flat_map (bytes_of 4) (19300 ∷ 153800 ∷ 20100 ∷ 151200 ∷ 18700 ∷ 160900 ∷ 21500 ∷ 149300 ∷ 17900 ∷ 158600 ∷ [])) ∷
    (4, flat_map (bytes_of 2) (9700 ∷ 10300 ∷ 11900 ∷ [])) ∷
    (5, flat_map (bytes_of 2) (8900 ∷ 12100 ∷ [])) ∷
    (6, flat_map (bytes_of 4) (4900000 ∷ 21000 ∷ 33000 ∷ []) ++ bytes_of 2 120) ∷
    (7, charged ∷ bytes_of 2 share) ∷
    (8, 3 ∷ flat_map (bytes_of 4) (5100 ∷ 6200 ∷ 7300 ∷ 8400 ∷ 9500 ∷ [])) ∷
    (8, 7 ∷ flat_map (bytes_of 4) (1103 ∷ 2301 ∷ 8507 ∷ 38003 ∷ 10709 ∷ [])) ∷
    (8, 9 ∷ flat_map (bytes_of 4) (4100 ∷ 3300 ∷ 2700 ∷ 1900 ∷ 700 ∷ [])) ∷
    [])

-- a request of this class in a zone with these amounts, tiers, added demands and revenues
abbrev varied_by : ℕ → ℕ → List ℕ → List (List ℕ) → List ℕ → List ℕ → List ℕ
varied_by class zone amounts tiers added revenues =
    closed
    ((1, request_letters) ∷
    (2, bytes_of 4 90210) ∷
    (3, class ∷ []) ∷
    (4, zone ∷ []) ∷
    (5, flat_map (bytes_of 4) amounts) ∷
    (6, flat_map (λ t. t) tiers) ∷
    (7, flat_map (bytes_of 4) added) ∷
    (8, flat_map (bytes_of 4) revenues) ∷
    (9, flat_map (bytes_of 2) (2500 ∷ 9900 ∷ [])) ∷
    (10, flat_map (bytes_of 2) (10400 ∷ 9600 ∷ 10700 ∷ 9100 ∷ [])) ∷
    (11, flat_map (bytes_of 2) (11300 ∷ 8700 ∷ [])) ∷
    (12, connection 24317 15100 2 1) ∷
    [])

abbrev varied_request : ℕ → ℕ → ℕ → ℕ → List ℕ
varied_request class zone me ol =
    varied_by class zone (me ∷ 417300 ∷ 290100 ∷ 83700 ∷ 61900 ∷ ol ∷ [])
    (tier 0 4103 7777 ∷ tier 2 4207 3452 ∷ tier 1 2311 9999 ∷ tier 2 2417 30399 ∷ tier 0 1509 555 ∷ [])
    (613 ∷ 727 ∷ 839 ∷ 947 ∷ 1051 ∷ []) (57321 ∷ 31207 ∷ [])

abbrev varied_bill : Reconciliation → Bill
varied_bill reconciliation =
    record {
      reconciliation = reconciliation;
      terms = record { threshold = 4900000; fee = 21000; minimum = 33000; term = 120 };
      applicant = record { person = 90210; month = 24317; capacity = 15100; scheme = 2; mark = 1 };
    }

pub record PricingCases : Type 0 where
  -- special pricing: the book's opex takes nothing from the revenue
  pub charged : price_of (varied_book 1 6300) (varied_request 2 7 1598500 154400) ≡ Ok (varied_bill capacity_charged)
  -- capacity isn't charged: IC still has it, and NC is below 0
  pub not_charged : price_of (varied_book 0 6300) (varied_request 2 7 1598500 154400) ≡ Ok (varied_bill capacity_not_charged)
  -- non-residential: the same but for the opex and the loading
  pub without_loading_lem : price_of (varied_book 1 6300) (varied_request 1 7 1598500 0) ≡ Ok (varied_bill without_loading)
  -- residential: the credit is M, and one cent above it; X is CE
  pub credit_is_m_lem : price_of (varied_book 1 8700) (varied_request 0 7 138000 0) ≡ Ok (varied_bill credit_is_m)
  pub credit_above_m_lem : price_of (varied_book 1 8700) (varied_request 0 7 137999 0) ≡ Ok (varied_bill credit_above_m)
  -- nothing is asked for: "none where the divisor is 0"
  pub nothing_asked :
      price_of (varied_book 1 6300) (varied_by 0 7 (replicate 6 0) (replicate 5 (tier 0 0 0)) (replicate 5 0) (replicate 2 0))
      ≡ Ok (varied_bill (figures 0 0 0 0 0 0 0 0 0 0 (pos 0) (pos 0) 0 0 0 None None None))
  -- zone 0 isn't in a book of three zones, though the places past them hold zeros
  pub zone_0 : price_of (varied_book 1 6300) (varied_request 2 0 1598500 154400) ≡ Err (refusal 4 2 0)

pub pricing_cases : PricingCases
unfolding check_from number bytes_of due_from all_had front_of walk_from fields_from first_with fields_with judge_numbers same_bytes judge_zones_from book_of request_of discount incremental_revenue zone_found values_priced request_priced price_of flat_map
pricing_cases =
    record {
      charged = refl;
      not_charged = refl;
      without_loading_lem = refl;
      credit_is_m_lem = refl;
      credit_above_m_lem = refl;
      nothing_asked = refl;
      zone_0 = refl;
    }
