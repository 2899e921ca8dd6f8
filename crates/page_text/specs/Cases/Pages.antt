-- Pages from the bytes of a book and a request on, written out: document 01's slip with fee, minimum and threshold 0 and term 84, and what differs from it.
use Rattle.std.specs.Prelude.{ℕ, ◌≡◌, refl, take, drop, replicate, Err, Ok}
use mathlib.Core.List.{List, [], ◌∷◌, ◌++◌, flatten, flat_map}
use Rattle.numbers.specs.BigEndian.{number, bytes_of}
use Rattle.numbers.specs.Check.{check_from}
use Rattle.field_walk.specs.Walk.{due_from, all_had, front_of, walk_from}
use Rattle.tagged.specs.Find.{fields_from, first_with, fields_with}
use Rattle.tagged.specs.File.{refusal}
use Rattle.tagged.specs.Encoded.{closed}
use Rattle.field_values.specs.Judged.{judge_numbers, same_bytes}
use Rattle.book_zones.specs.Zones.{judge_zones_from}
use Rattle.rate_book.specs.Book.{book_letters, book_of}
use Rattle.request.specs.Request.{request_letters, request_of}
use Rattle.discount.specs.Discount.{discount}
use Rattle.revenue.specs.Revenue.{incremental_revenue}
use Rattle.charge.specs.Price.{zone_found, values_priced, request_priced, price_of}
use Rattle.charge.specs.Cases.MarkedFigures.{tier, connection, slip_tiers}
use Rattle.slip_text.specs.SlipReading.{ascii}
use Rattle.page_text.specs.Page.{dollars_text, page_of, page_written, page_output}
use Rattle.page_text.specs.PageColumns.{line_of}

-- a book with these factors, capacity charged or not, share and rates of zone 1
abbrev book_with : ℕ → ℕ → ℕ → List ℕ → List ℕ
book_with factor charged share rates =
    closed
    ((1, book_letters) ∷
    (2, bytes_of 2 0) ∷
    (3, flat_map (bytes_of 4) (0 ∷ 1 ∷ 0 ∷ 1 ∷ 0 ∷ 1 ∷ 0 ∷ 1 ∷ 0 ∷ 1 ∷ [])) ∷
    (4, bytes_of 2 factor) ∷
    (5, bytes_of 2 factor) ∷
    (6, flat_map (bytes_of 4) (0 ∷ 0 ∷ 0 ∷ []) ++ bytes_of 2 84) ∷
    (7, charged ∷ bytes_of 2 share) ∷
    (8, 1 ∷ flat_map (bytes_of 4) rates) ∷
    [])

-- a request of this class in a zone, with these amounts, tiers, added demands, revenues, part-year factors and tariff factor
abbrev request_with : ℕ → ℕ → List ℕ → List (List ℕ) → List ℕ → List ℕ → List ℕ → ℕ → List ℕ
request_with class zone amounts tiers added revenues years tariff =
    closed
    ((1, request_letters) ∷
    (2, bytes_of 4 4711) ∷
    (3, class ∷ []) ∷
    (4, zone ∷ []) ∷
    (5, flat_map (bytes_of 4) amounts) ∷
    (6, flat_map (λ t. t) tiers) ∷
    (7, flat_map (bytes_of 4) added) ∷
    (8, flat_map (bytes_of 4) revenues) ∷
    (9, flat_map (bytes_of 2) years) ∷
    (10, bytes_of 2 tariff) ∷
    (11, bytes_of 2 tariff) ∷
    (12, connection 24315 15000 0 0) ∷
    [])

abbrev slip_book : List ℕ
slip_book = book_with 10000 1 6500 (0 ∷ 0 ∷ 8500 ∷ 38000 ∷ 10000 ∷ [])

abbrev slip_request : ℕ → ℕ → List ℕ
slip_request zone revenue =
    request_with 1 zone (1598500 ∷ replicate 5 0) slip_tiers (replicate 5 0) (revenue ∷ 0 ∷ []) (0 ∷ 10000 ∷ []) 10000

-- capacity isn't charged, and all amounts differ
abbrev distinct_book : List ℕ
distinct_book = book_with 10000 0 1500 (100 ∷ 2000 ∷ 8500 ∷ 38000 ∷ 10000 ∷ [])

abbrev distinct_request : List ℕ
distinct_request =
    request_with 1 1 (1598500 ∷ 100000 ∷ 7 ∷ 99999 ∷ 100000001 ∷ 0 ∷ []) slip_tiers (1 ∷ 20 ∷ 300 ∷ 0 ∷ 50 ∷ []) (50000 ∷ 4321 ∷ []) (0 ∷ 10000 ∷ []) 10000

-- the same in class 2, with an OL
abbrev special_request : List ℕ
special_request =
    request_with 2 1 (1598500 ∷ 100000 ∷ 7 ∷ 99999 ∷ 100000001 ∷ 4567 ∷ []) slip_tiers (1 ∷ 20 ∷ 300 ∷ 0 ∷ 50 ∷ []) (50000 ∷ 4321 ∷ []) (0 ∷ 10000 ∷ []) 10000

-- the highest revenues and factors, no costs
abbrev highest_book : List ℕ
highest_book = book_with 40000 1 6500 (0 ∷ 0 ∷ 8500 ∷ 38000 ∷ 10000 ∷ [])

abbrev highest_request : List ℕ
highest_request =
    request_with 0 1 (replicate 6 0) (replicate 5 (tier 0 0 0)) (replicate 5 0) (1000000000 ∷ 1000000000 ∷ []) (40000 ∷ []) 40000

-- one tier at rate 100 with demand 5, and nothing else
abbrev few_book : List ℕ
few_book = book_with 10000 0 6500 (100 ∷ replicate 4 0)

abbrev few_request : List ℕ
few_request = request_with 1 1 (replicate 6 0) (tier 0 5 0 ∷ replicate 4 (tier 0 0 0)) (replicate 5 0) (0 ∷ 0 ∷ []) (0 ∷ 10000 ∷ []) 10000

-- the output after the call, which begins with 768 times 7
abbrev page_for : List ℕ → List ℕ → List ℕ
page_for book request = page_output (price_of book request) (replicate 768 7)

-- document 01's slip as a page: all 768 bytes
pub whole_page :
    page_for slip_book (slip_request 1 57320) ≡
    flatten
    (
    ascii "ME                                                    15,985.00\n" ∷
    ascii "MC                                                     1,080.00\n" ∷
    ascii "CE                                                         0.00\n" ∷
    ascii "CC2                                                        0.00\n" ∷
    ascii "TW                                                         0.00\n" ∷
    ascii "HR                                                         0.00\n" ∷
    ascii "OL                                                         0.00\n" ∷
    ascii "IC                                                    17,065.00\n" ∷
    ascii "IR                                                     8,598.00\n" ∷
    ascii "CC                                                    11,476.30\n" ∷
    ascii "NIC                                                    8,467.00\n" ∷
    ascii "NC                                                     3,009.30\n" ∷
    [])
unfolding check_from number bytes_of due_from all_had front_of walk_from fields_from first_with fields_with judge_numbers same_bytes judge_zones_from book_of request_of discount incremental_revenue zone_found values_priced request_priced price_of flat_map flatten dollars_text page_of page_written page_output
whole_page = refl

-- twelve amounts, all different
pub special_page :
    page_for distinct_book special_request ≡
    flatten
    (
    ascii "ME                                                    15,985.00\n" ∷
    ascii "MC                                                     1,164.00\n" ∷
    ascii "CE                                                     1,000.00\n" ∷
    ascii "CC2                                                      309.01\n" ∷
    ascii "TW                                                       999.99\n" ∷
    ascii "HR                                                 1,000,000.01\n" ∷
    ascii "OL                                                        45.67\n" ∷
    ascii "IC                                                 1,019,503.68\n" ∷
    ascii "IR                                                     8,148.15\n" ∷
    ascii "CC                                                 1,016,808.45\n" ∷
    ascii "NIC                                                1,011,355.53\n" ∷
    ascii "NC                                                     5,452.92\n" ∷
    [])
unfolding check_from number bytes_of due_from all_had front_of walk_from fields_from first_with fields_with judge_numbers same_bytes judge_zones_from book_of request_of discount incremental_revenue zone_found values_priced request_priced price_of flat_map flatten dollars_text page_of page_written page_output
special_page = refl

pub record Pages : Type 0 where
  -- bytes 448 to 511 and 640 to 703, from the page's own
  pub ic_bytes : take 64 (drop 448 (page_for slip_book (slip_request 1 57320))) ≡ ascii "IC                                                    17,065.00\n"
  pub nic_bytes : take 64 (drop 640 (page_for slip_book (slip_request 1 200000))) ≡ ascii "NIC                                                  -12,935.00\n"
  pub cc_zero : line_of 9 (page_for slip_book (slip_request 1 200000)) ≡ ascii "CC                                                         0.00\n"
  pub mc : line_of 1 (page_for distinct_book distinct_request) ≡ ascii "MC                                                     1,164.00\n"
  pub ce : line_of 2 (page_for distinct_book distinct_request) ≡ ascii "CE                                                     1,000.00\n"
  pub cc2 : line_of 3 (page_for distinct_book distinct_request) ≡ ascii "CC2                                                      309.01\n"
  pub tw : line_of 4 (page_for distinct_book distinct_request) ≡ ascii "TW                                                       999.99\n"
  pub hr : line_of 5 (page_for distinct_book distinct_request) ≡ ascii "HR                                                 1,000,000.01\n"
  pub ic : line_of 7 (page_for distinct_book distinct_request) ≡ ascii "IC                                                 1,019,458.01\n"
  pub ir : line_of 8 (page_for distinct_book distinct_request) ≡ ascii "IR                                                     8,148.15\n"
  pub cc : line_of 9 (page_for distinct_book distinct_request) ≡ ascii "CC                                                 1,016,762.78\n"
  pub nic : line_of 10 (page_for distinct_book distinct_request) ≡ ascii "NIC                                                1,011,309.86\n"
  pub nc : line_of 11 (page_for distinct_book distinct_request) ≡ ascii "NC                                                     5,452.92\n"
  pub highest_nic : line_of 10 (page_for highest_book highest_request) ≡ ascii "NIC                                          -39,680,000,000.00\n"
  -- five cents, and five cents below 0
  pub few_mc : line_of 1 (page_for few_book few_request) ≡ ascii "MC                                                         0.05\n"
  pub few_nc : line_of 11 (page_for few_book few_request) ≡ ascii "NC                                                        -0.05\n"
  -- the output one byte short, as long as the page and one byte longer; a refused pricing comes first
  pub output_767 : page_written (price_of slip_book (slip_request 1 57320)) (replicate 767 7) ≡ Err (refusal 14 0 0)
  pub output_768 : page_written (price_of slip_book (slip_request 1 57320)) (replicate 768 7) ≡ Ok tt
  pub output_769 : drop 768 (page_output (price_of slip_book (slip_request 1 57320)) (replicate 769 7)) ≡ 7 ∷ []
  pub zone_first : page_written (price_of slip_book (slip_request 2 57320)) [] ≡ Err (refusal 4 2 0)

pub page_cases : Pages
unfolding check_from number bytes_of due_from all_had front_of walk_from fields_from first_with fields_with judge_numbers same_bytes judge_zones_from book_of request_of discount incremental_revenue zone_found values_priced request_priced price_of flat_map flatten dollars_text page_of page_written page_output
page_cases =
    record {
      ic_bytes = refl;
      nic_bytes = refl;
      cc_zero = refl;
      mc = refl;
      ce = refl;
      cc2 = refl;
      tw = refl;
      hr = refl;
      ic = refl;
      ir = refl;
      cc = refl;
      nic = refl;
      nc = refl;
      highest_nic = refl;
      few_mc = refl;
      few_nc = refl;
      output_767 = refl;
      output_768 = refl;
      output_769 = refl;
      zone_first = refl;
    }
