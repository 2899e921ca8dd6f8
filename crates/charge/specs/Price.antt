-- Document 01, 'How calls end': "Pricing (slip): book, request, 4, 5." The pricing of a request by a rate book, from their bytes alone.
use Rattle.std.specs.Prelude.{ℕ, zero, suc, ◌+◌, List, [], Err, None, Ok, Option, Some, Result, if◌then◌else◌, ◌==◌, slice_index, slice_index_or}
use Rattle.std.specs.Option.{ok_or}
use Rattle.tagged.specs.File.{◌>>=◌, fields_part, refusal}
use Rattle.tagged.specs.Refusals.{zone_not_in_book, bespoke_not_allowed}
use Rattle.rate_book.specs.Book.{book_of}
use Rattle.book_zones.specs.Zones.{zone_rates}
use Rattle.rate_book.specs.declared.book.Book.{Book}
use Rattle.request.specs.Request.{request_of}
use Rattle.request.specs.declared.values.Request.{Request}
use Rattle.revenue.specs.Revenue.{transmission_opex_factor, distribution_opex_factor, life_of, incremental_revenue}
use Rattle.revenue.specs.declared.Stream.{Stream}
use Rattle.capacity.specs.Capacity.{first_not_allowed, capacity_cost}
use Rattle.capacity.specs.declared.Tiers.{Tiers}
use Rattle.reconciliation.specs.Reconciliation.{reconciliation_of}
use Rattle.reconciliation.specs.declared.Costs.{Costs}
use Rattle.charge.specs.declared.Bill.{Bill}
use Rattle.tagged.specs.declared.file.Refusal.{Refusal}

-- the bill, or why there is none
abbrev pub Pricing : Type 0
Pricing = Result Bill Refusal

-- the row of the zone with this number, among `zones` zones from row k on
unfoldable pub zone_found : ℕ → ℕ → List ℕ → ℕ → Option ℕ
zone_found k zero numbers number = None
zone_found k (suc zones) numbers number = if slice_index numbers k == number then Some k else zone_found (k + 1) zones numbers number

-- the two streams of revenue; their year-one figures are handed over
abbrev pub distribution_of : Book → Request → ℕ → Stream
distribution_of book request revenue =
    record {
      revenue = revenue;
      opex_factor = distribution_opex_factor request.class book.opex book.revenue;
      part_year = request.part_year;
      revenue_factors = book.distribution;
      tariff_factors = request.distribution_tariff;
    }

abbrev pub transmission_of : Book → Request → ℕ → Stream
transmission_of book request revenue =
    record {
      revenue = revenue;
      opex_factor = transmission_opex_factor;
      part_year = request.part_year;
      revenue_factors = book.transmission;
      tariff_factors = request.transmission_tariff;
    }

-- IR over the years 0 to life
abbrev pub incremental_revenue_of : Book → Request → ℕ → ℕ → ℕ
incremental_revenue_of book request distribution transmission =
    incremental_revenue (distribution_of book request distribution) (transmission_of book request transmission) book.rate (suc (life_of request.class))

-- the tiers' modes and bespoke rates are the request's, the posted rates the zone's row
abbrev pub tiers_of : List ℕ → Request → Tiers
tiers_of posted request = record { modes = request.modes; posted = posted; bespoke = request.bespoke_rates }

abbrev pub costs_of : Tiers → Request → Costs
costs_of tiers request =
    record {
      me = request.me;
      mc = capacity_cost tiers request.demands;
      ce = request.ce;
      cc2 = capacity_cost tiers request.added_demands;
      de = request.de;
      tw = request.tw;
      hr = request.hr;
      ol = request.ol;
    }

abbrev pub bill_of : Book → Tiers → Request → ℕ → Bill
bill_of book tiers request ir =
    record {
      reconciliation = reconciliation_of (costs_of tiers request) ir book.charged book.share;
      terms = record { threshold = book.threshold; fee = book.fee; minimum = book.minimum; term = book.term };
      applicant =
          record {
            person = request.person;
            month = request.month;
            capacity = request.capacity;
            scheme = request.scheme;
            mark = request.mark;
          };
    }

-- "bespoke rate not allowed", file 2, place the tier
abbrev pub if_allowed : Option ℕ → Bill → Pricing
if_allowed None bill = Ok bill
if_allowed (Some tier) bill = Err (refusal bespoke_not_allowed 2 tier)

abbrev pub priced_at : Book → List ℕ → Request → ℕ → ℕ → Pricing
priced_at book posted request distribution transmission =
    if_allowed (first_not_allowed (tiers_of posted request))
    (bill_of book (tiers_of posted request) request (incremental_revenue_of book request distribution transmission))

-- "zone not in the book", file 2, place 0
unfoldable pub values_priced : Book → List (List ℕ) → Request → ℕ → ℕ → Pricing
values_priced book rates request distribution transmission = do
  zone ← ok_or (zone_found 0 book.zones book.zone_numbers request.zone) (refusal zone_not_in_book 2 0)
  priced_at book (slice_index_or rates zone []) request distribution transmission

-- the year-one revenues are the request's
unfoldable pub request_priced : Book → List (List ℕ) → List ℕ → Pricing
request_priced book rates file = do
  request ← request_of 2 file
  values_priced book rates request request.distribution_revenue request.transmission_revenue

unfoldable pub price_of : List ℕ → List ℕ → Pricing
price_of book_file request_file = do
  book ← book_of 1 book_file
  request_priced book (zone_rates (fields_part book_file)) request_file
