-- Document 01, 'Marked figures', over the definitions. M6 to M8 are the ledger's.
use Rattle.std.specs.Prelude.{ℕ, ◌*◌, ◌-◌, ◌≡◌, refl, true, false, replicate, ℤ, pos, negsuc, Err, Ok}
use mathlib.Core.List.{List, [], ◌∷◌, ◌++◌, flat_map}
use Rattle.numbers.specs.BigEndian.{number, bytes_of}
use Rattle.numbers.specs.Check.{check, check_from}
use Rattle.field_walk.specs.Walk.{due_from, all_had, front_of, walk_from}
use Rattle.tagged.specs.Find.{fields_from, first_with, fields_with}
use Rattle.tagged.specs.File.{refusal}
use Rattle.tagged.specs.Encoded.{closed}
use Rattle.field_values.specs.Judged.{judge_numbers, same_bytes}
use Rattle.book_zones.specs.Zones.{judge_zones_from}
use Rattle.rate_book.specs.Book.{book_letters, book_of}
use Rattle.request.specs.Request.{request_letters, request_of}
use Rattle.discount.specs.Discount.{discount}
use Rattle.revenue.specs.Revenue.{opex_factor, incremental_revenue}
use Rattle.capacity.specs.Capacity.{bespoke_allowed}
use Rattle.reconciliation.specs.Percent.{percent_of}
use Rattle.reconciliation.specs.Reconciliation.{reconciliation_of}
use Rattle.reconciliation.specs.Cases.Reconciliation.{whole}
use Rattle.charge.specs.Price.{zone_found, values_priced, request_priced, price_of, Pricing}
use Rattle.charge.specs.declared.Bill.{Bill}

-- The slip's book: "b 0, opex 0, revenue 1 in each pair, all factors 10,000, capacity charged, share 6,500, zone 1 at 0, 0, 8500, 38000, 10000."
-- with these for b, opex, revenue, capacity charged and share
abbrev pub slip_book_by : ℕ → ℕ → ℕ → ℕ → ℕ → List ℕ
slip_book_by rate opex revenue charged share =
    closed
    ((1, book_letters) ∷
    (2, bytes_of 2 rate) ∷
    (3, flat_map (λ pair. pair) (replicate 5 (bytes_of 4 opex ++ bytes_of 4 revenue))) ∷
    (4, bytes_of 2 10000) ∷
    (5, bytes_of 2 10000) ∷
    (6, flat_map (bytes_of 4) (5000000 ∷ 20000 ∷ 20000 ∷ []) ++ bytes_of 2 84) ∷
    (7, charged ∷ bytes_of 2 share) ∷
    (8, 1 ∷ flat_map (bytes_of 4) (0 ∷ 0 ∷ 8500 ∷ 38000 ∷ 10000 ∷ [])) ∷
    [])

abbrev pub slip_book_with : ℕ → ℕ → ℕ → List ℕ
slip_book_with rate opex revenue = slip_book_by rate opex revenue 1 6500

abbrev pub slip_book : List ℕ
slip_book = slip_book_with 0 0 1

-- a tier's mode, demand and bespoke rate
abbrev pub tier : ℕ → ℕ → ℕ → List ℕ
tier mode demand bespoke = mode ∷ (bytes_of 4 demand ++ bytes_of 4 bespoke)

-- field 0C: month, capacity, scheme joined and mark
abbrev pub connection : ℕ → ℕ → ℕ → ℕ → List ℕ
connection month capacity scheme mark = bytes_of 2 month ++ (bytes_of 4 capacity ++ (bytes_of 2 scheme ++ (mark ∷ [])))

-- a request with these revenues, of this class in a zone with these amounts, tiers and field 0C, otherwise the slip's: "non-residential, .. none added,
-- revenue 57,320 and 0, part-year 0 then 10,000, tariffs 10,000."
abbrev pub request_of_revenues : List ℕ → ℕ → ℕ → List ℕ → List (List ℕ) → List ℕ → List ℕ
request_of_revenues revenues class zone amounts tiers asked =
    closed
    ((1, request_letters) ∷
    (2, bytes_of 4 4711) ∷
    (3, class ∷ []) ∷
    (4, zone ∷ []) ∷
    (5, flat_map (bytes_of 4) amounts) ∷
    (6, flat_map (λ t. t) tiers) ∷
    (7, replicate 20 0) ∷
    (8, flat_map (bytes_of 4) revenues) ∷
    (9, flat_map (bytes_of 2) (0 ∷ 10000 ∷ [])) ∷
    (10, bytes_of 2 10000) ∷
    (11, bytes_of 2 10000) ∷
    (12, asked) ∷
    [])

abbrev pub request_of_class : ℕ → ℕ → List ℕ → List (List ℕ) → List ℕ → List ℕ
request_of_class = request_of_revenues (57320 ∷ 0 ∷ [])

abbrev pub request_by : ℕ → List ℕ → List (List ℕ) → List ℕ → List ℕ
request_by = request_of_class 1

-- "ME 1,598,500, other amounts 0"
abbrev pub request_with : ℕ → List (List ℕ) → List ℕ
request_with zone tiers = request_by zone (1598500 ∷ replicate 5 0) tiers (connection 24315 15000 0 0)

-- "zone 1, .. mode 0 demands 400, 400, 200, 200, 150"
abbrev pub slip_tiers : List (List ℕ)
slip_tiers = tier 0 400 0 ∷ tier 0 400 0 ∷ tier 0 200 0 ∷ tier 0 200 0 ∷ tier 0 150 0 ∷ []

abbrev pub slip_request : List ℕ
slip_request = request_with 1 slip_tiers

-- with bespoke rates against the slip's posted 0, 0, 8,500, 38,000, 10,000
abbrev pub bespoke_request : ℕ → ℕ → List ℕ
bespoke_request third fourth = request_with 1 (tier 0 400 0 ∷ tier 0 400 0 ∷ tier 2 200 third ∷ tier 2 200 fourth ∷ tier 0 150 0 ∷ [])

-- a bill by the slip's book, of the slip's request but for CE, month, capacity and scheme joined
abbrev pub slip_bill : ℕ → ℕ → ℕ → ℕ → Bill
slip_bill ce month capacity scheme =
    record {
      reconciliation = reconciliation_of (record { me = 1598500; mc = 108000; ce = ce; cc2 = 0; de = 0; tw = 0; hr = 0; ol = 0 }) 859800 1 6500;
      terms = record { threshold = 5000000; fee = 20000; minimum = 20000; term = 84 };
      applicant = record { person = 4711; month = month; capacity = capacity; scheme = scheme; mark = 0 };
    }

-- the slip from its bytes on: book, request, bill
pub slip_priced : price_of slip_book slip_request ≡ Ok (slip_bill 0 24315 15000 0)
unfolding check_from number bytes_of due_from all_had front_of walk_from fields_from first_with fields_with judge_numbers same_bytes judge_zones_from book_of request_of discount incremental_revenue zone_found values_priced request_priced price_of flat_map
slip_priced = refl

-- MC, IR, CC and NC of a pricing
abbrev pub figures_of : Pricing → List ℤ
figures_of (Ok bill) =
    pos bill.reconciliation.mc ∷ pos bill.reconciliation.ir ∷ pos bill.reconciliation.cc ∷ bill.reconciliation.nc ∷ []
figures_of (Err r) = []

pub record MarkedFigures : Type 0 where
  -- "check of no bytes 0; of 01 02, 517; of FF FF, 527"
  pub m1 : (check [] ≡ 0) × (check (1 ∷ 2 ∷ []) ≡ 517) × (check (255 ∷ 255 ∷ []) ≡ 527)
  -- "b 463: F(1) 95,574,882; F(2) 91,345,581"
  pub m2 : (discount 463 1 ≡ 95574882) × (discount 463 2 ≡ 91345581)
  -- "opex 19,300 and revenue 153,800, five times: O 8,745"
  pub m3 : opex_factor (5 * 19300) (5 * 153800) ≡ 8745
  -- "the slip's MC 108,000; its IR 859,800; its CC and NC"
  pub m4 : figures_of (price_of slip_book slip_request) ≡ pos 108000 ∷ pos 859800 ∷ pos 1147630 ∷ pos 300930 ∷ []
  -- "posted 8,500: 12,751 and 6,799 allowed; 12,750 and 6,800 not"
  pub m5 :
      (bespoke_allowed 8500 12751 ≡ true) × (bespoke_allowed 8500 6799 ≡ true) × (bespoke_allowed 8500 12750 ≡ false) × (bespoke_allowed 8500 6800 ≡ false)
  -- "−1 of 200 is −1 percent": rounded, and rounded down with a remainder of 100
  pub m9 : percent_of (negsuc 0) 200 ≡ whole (negsuc 0) (negsuc 0) 100

pub marked_figures : MarkedFigures
unfolding check_from number bytes_of due_from all_had front_of walk_from fields_from first_with fields_with judge_numbers same_bytes judge_zones_from book_of request_of discount incremental_revenue zone_found values_priced request_priced price_of flat_map
marked_figures =
    record {
      m1 = (refl, refl, refl);
      m2 = (refl, refl);
      m3 = refl;
      m4 = refl;
      m5 = (refl, refl, refl, refl);
      m9 = refl;
    }

-- 4 and 5 at the pricing call: another zone than the book's; the first tier whose bespoke rate isn't allowed, and the last one; both rates at their edges allowed.
pub pricing_refusals :
    (price_of slip_book (request_with 2 (replicate 5 (tier 0 0 0))) ≡ Err (refusal 4 2 0))
    × (price_of slip_book (bespoke_request 12750 57001) ≡ Err (refusal 5 2 3))
    × (price_of slip_book (bespoke_request 12751 57000) ≡ Err (refusal 5 2 4))
    × (price_of slip_book (request_with 1 (tier 0 400 0 ∷ tier 0 400 0 ∷ tier 0 200 0 ∷ tier 0 200 0 ∷ tier 2 150 15000 ∷ [])) ≡ Err (refusal 5 2 5))
    × (figures_of (price_of slip_book (bespoke_request 12751 57001)) ≡ pos 154504 ∷ pos 859800 ∷ pos 1194134 ∷ pos 300930 ∷ [])
unfolding check_from number bytes_of due_from all_had front_of walk_from fields_from first_with fields_with judge_numbers same_bytes judge_zones_from book_of request_of discount incremental_revenue zone_found values_priced request_priced price_of flat_map
pricing_refusals = (refl, refl, refl, refl, refl)

-- ---- the bills by which the ledger tells M6 to M8

-- the slip's request with X of this height, which takes CE = X − (1,598,500 − ⌊859,800 × 6,500 / 10,000⌋), in this month, with this capacity, joining
-- this scheme; and what the slip's book makes of it
abbrev pub scheme_request : ℕ → ℕ → ℕ → ℕ → List ℕ
scheme_request x month capacity scheme = request_by 1 (1598500 ∷ (x - 1039630) ∷ replicate 4 0) slip_tiers (connection month capacity scheme 0)

abbrev pub scheme_bill : ℕ → ℕ → ℕ → ℕ → Bill
scheme_bill x month capacity scheme = slip_bill (x - 1039630) month capacity scheme

abbrev pub SchemeBilled : ℕ → ℕ → ℕ → ℕ → Type 0
SchemeBilled x month capacity scheme = price_of slip_book (scheme_request x month capacity scheme) ≡ Ok (scheme_bill x month capacity scheme)

pub record SchemeBills : Type 0 where
  -- X the threshold, and one cent more
  pub at_threshold : SchemeBilled 5000000 24315 10000 0
  pub above_threshold : SchemeBilled 5000001 24315 10000 0
  -- M7's opening and joinings
  pub opening : SchemeBilled 6000000 24315 10000 0
  pub joining : SchemeBilled 1039630 24315 5000 1
  -- M8's: capacities of which a joiner's is a three-hundredth, the cost one cent less, the last month in force and the one after it
  pub wide_opening : SchemeBilled 6000000 24315 299000 0
  pub less_opening : SchemeBilled 5999999 24315 299000 0
  pub small_joining : SchemeBilled 1039630 24315 1000 1
  pub last_joining : SchemeBilled 1039630 24398 1000 1
  pub late_joining : SchemeBilled 1039630 24399 1000 1

pub scheme_bills : SchemeBills
unfolding check_from number bytes_of due_from all_had front_of walk_from fields_from first_with fields_with judge_numbers same_bytes judge_zones_from book_of request_of discount incremental_revenue zone_found values_priced request_priced price_of flat_map
scheme_bills =
    record {
      at_threshold = refl;
      above_threshold = refl;
      opening = refl;
      joining = refl;
      wide_opening = refl;
      less_opening = refl;
      small_joining = refl;
      last_joining = refl;
      late_joining = refl;
    }
