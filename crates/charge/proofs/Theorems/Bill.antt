-- What holds of every pricing: one altered byte of the book or the request is refused, and a bill lies within the bounds that a ledger needs and
-- reconciles.
use Rattle.std.specs.Prelude.{ℕ, zero, suc, ◌+◌, ◌-◌, ◌<◌, ◌≤◌, ◌≡◌, refl, Bool, true, false, cond, List, [], ◌⊎◌, length, get_or, set, eqb, pos, ◌-ℤ◌, Err, None, Ok, Option, Some, Result}
use Rattle.std.proofs.Common.{sym, ap, subst, ◌∙◌, inl, inr, ⊎_elim, arith}
use Rattle.tagged.proofs.Theorems.Impossible.{impossible}
use Rattle.numbers.specs.BigEndian.{Bytes}
use Rattle.tagged.specs.File.{fields_part, refusal, answer_of}
use Rattle.tagged.specs.Refusals.{file_does_not_walk, check_differs}
use Rattle.tagged.specs.declared.file.Refusal.{Refusal}
use Rattle.field_values.specs.Limits.{highest_revenue}
use Rattle.rate_book.specs.Book.{book_of}
use Rattle.rate_book.proofs.Theorems.Book.{altered_book_refused}
use Rattle.rate_book.specs.BookLimits.{BookWithin}
use Rattle.rate_book.proofs.Theorems.BookLimits.{book_within_limits, rates_within_limits}
use Rattle.book_zones.specs.Zones.{zone_rates}
use Rattle.book_zones.specs.ZoneLimits.{RatesWithin}
use Rattle.rate_book.specs.declared.book.Book.{Book}
use Rattle.request.specs.Request.{request_of}
use Rattle.request.proofs.Theorems.Request.{altered_request_refused}
use Rattle.request.specs.RequestLimits.{RequestWithin}
use Rattle.request.proofs.Theorems.RequestLimits.{request_within_limits}
use Rattle.request.specs.declared.values.Request.{Request}
use Rattle.revenue.specs.Revenue.{life_of}
use Rattle.revenue.specs.StreamLimits.{StreamWithin, longest_life}
use Rattle.revenue.proofs.Theorems.Revenue.{distribution_opex_factor_at_most, incremental_revenue_bounded}
use Rattle.capacity.specs.TierLimits.{TiersWithin}
use Rattle.capacity.specs.Capacity.{first_not_allowed}
use Rattle.capacity.proofs.Theorems.Capacity.{capacity_cost_at_most}
use Rattle.reconciliation.specs.CostLimits.{CostsWithin}
use Rattle.reconciliation.specs.ExactPercent.{ExactPercentages}
use Rattle.reconciliation.proofs.Theorems.Reconciliation.{reconciliation_bounded}
use Rattle.reconciliation.proofs.Theorems.ExactPercent.{percentages_exact}
use Rattle.charge.specs.Price.{zone_found, distribution_of, transmission_of, incremental_revenue_of, tiers_of, costs_of, bill_of, values_priced, price_of}
use Rattle.charge.specs.BillLimits.{BillWithin}
use Rattle.charge.proofs.Theorems.Price.{zone_not_in_book_lem, bespoke_not_allowed_lem, bill_in_zone, request_not_accepted, request_priced_lem, book_not_accepted, book_accepted}
use Rattle.charge.specs.declared.Bill.{Bill}

-- a refusal is no bill
no_bill : {r : Refusal} {bill : Bill} → Err r ≡ Ok bill → ⊥
no_bill e = let z : ◌≡◌ {A = ℕ} 0 1 = cc in omega arith

-- a zone that is found is one of the book's
zone_found_below : (k zones : ℕ) (numbers : List ℕ) (number zone : ℕ) → zone_found k zones numbers number ≡ Some zone → zone < k + zones
unfolding zone_found
zone_found_below k zero numbers number zone e = impossible cc
zone_found_below k (suc zones) numbers number zone e = by (eqb (get_or numbers k 0) number) e (zone_found_below (k + 1) zones numbers number zone)
  where
    by : (test : Bool) → cond test (Some k) (zone_found (k + 1) zones numbers number) ≡ Some zone →
        (zone_found (k + 1) zones numbers number ≡ Some zone → zone < k + 1 + zones) → zone < k + suc zones
    by true p later = let same : k ≡ zone = cc in omega arith
    by false p later = omega (arith, later p)

-- the values that a bill comes from: the book and the request are accepted, the zone is one of the book's, and each bespoke rate is allowed
pub record PricedBy (book_file request_file : List ℕ) (bill : Bill) : Type 0 where
  pub book : Book
  pub request : Request
  pub book_accepted : book_of 1 book_file ≡ Ok book
  pub request_accepted : request_of 2 request_file ≡ Ok request
  pub zone : ℕ
  pub zone_below : zone < book.zones
  pub found : zone_found 0 book.zones book.zone_numbers request.zone ≡ Some zone
  pub allowed : first_not_allowed (tiers_of (get_or (zone_rates (fields_part book_file)) zone []) request) ≡ None
  pub is :
      bill ≡ bill_of book (tiers_of (get_or (zone_rates (fields_part book_file)) zone []) request) request
      (incremental_revenue_of book request request.distribution_revenue request.transmission_revenue)

pub priced_by : (book_file request_file : List ℕ) (bill : Bill) → price_of book_file request_file ≡ Ok bill → PricedBy book_file request_file bill
priced_by book_file request_file bill e = by_book (book_of 1 book_file) refl
  where
    rates : List (List ℕ)
    rates = zone_rates (fields_part book_file)

    Priced : Book → Request → Type 0
    Priced book request = values_priced book rates request request.distribution_revenue request.transmission_revenue ≡ Ok bill

    by_allowed : (book : Book) (request : Request) → book_of 1 book_file ≡ Ok book → request_of 2 request_file ≡ Ok request → Priced book request →
        (zone : ℕ) → zone_found 0 book.zones book.zone_numbers request.zone ≡ Some zone →
        (allowed : Option ℕ) → first_not_allowed (tiers_of (get_or rates zone []) request) ≡ allowed → PricedBy book_file request_file bill
    by_allowed book request b r p zone f None a =
        let priced = sym (bill_in_zone book rates request request.distribution_revenue request.transmission_revenue zone f a) ∙ p in
        record {
          book = book;
          request = request;
          book_accepted = b;
          request_accepted = r;
          zone = zone;
          zone_below = omega (arith, zone_found_below 0 book.zones book.zone_numbers request.zone zone f);
          found = f;
          allowed = a;
          is = cc priced;
        }
    by_allowed book request b r p zone f (Some tier) a =
        absurd (no_bill (sym (bespoke_not_allowed_lem book rates request request.distribution_revenue request.transmission_revenue zone f tier a) ∙ p))

    by_zone : (book : Book) (request : Request) → book_of 1 book_file ≡ Ok book → request_of 2 request_file ≡ Ok request → Priced book request →
        (zone : Option ℕ) → zone_found 0 book.zones book.zone_numbers request.zone ≡ zone → PricedBy book_file request_file bill
    by_zone book request b r p (Some zone) f = by_allowed book request b r p zone f (first_not_allowed (tiers_of (get_or rates zone []) request)) refl
    by_zone book request b r p None f =
        absurd (no_bill (sym (zone_not_in_book_lem book rates request request.distribution_revenue request.transmission_revenue f) ∙ p))

    by_request : (book : Book) → book_of 1 book_file ≡ Ok book → (read : Result Request Refusal) → request_of 2 request_file ≡ read → PricedBy book_file request_file bill
    by_request book b (Ok request) r =
        by_zone book request b r (sym (book_accepted book_file request_file b ∙ request_priced_lem book rates request_file r) ∙ e)
        (zone_found 0 book.zones book.zone_numbers request.zone) refl
    by_request book b (Err x) r = absurd (no_bill (sym (book_accepted book_file request_file b ∙ request_not_accepted book rates request_file x r) ∙ e))

    by_book : (read : Result Book Refusal) → book_of 1 book_file ≡ read → PricedBy book_file request_file bill
    by_book (Ok book) b = by_request book b (request_of 2 request_file) refl
    by_book (Err x) b = absurd (no_bill (sym (book_not_accepted book_file request_file x b) ∙ e))

-- With exactly one byte of the book altered, or of the request, a request that was priced is refused: with 1 for the last five bytes, or with 2.
module _ (book_file request_file : List ℕ) (bill : Bill) (priced : price_of book_file request_file ≡ Ok bill) (i b : ℕ) (below : b < 256) where
  pub altered_book_not_priced : Bytes book_file → i < length book_file → (get_or book_file i 0 ≡ b → ⊥) →
      (price_of (set book_file i b) request_file ≡ Err (refusal file_does_not_walk 1 0)) ⊎ (price_of (set book_file i b) request_file ≡ Err (refusal check_differs 1 (length book_file - 2)))
  altered_book_not_priced bytes within other =
      ⊎_elim
      (λ e. inl (book_not_accepted (set book_file i b) request_file _ e))
      (λ e. inr (book_not_accepted (set book_file i b) request_file _ e))
      (altered_book_refused 1 book_file i b (ap answer_of (priced_by book_file request_file bill priced).book_accepted) bytes within below other)

  pub altered_request_not_priced : Bytes request_file → i < length request_file → (get_or request_file i 0 ≡ b → ⊥) →
      (price_of book_file (set request_file i b) ≡ Err (refusal file_does_not_walk 2 0)) ⊎ (price_of book_file (set request_file i b) ≡ Err (refusal check_differs 2 (length request_file - 2)))
  altered_request_not_priced bytes within other =
      let by = priced_by book_file request_file bill priced in
      let refused : (r : Refusal) → request_of 2 (set request_file i b) ≡ Err r → price_of book_file (set request_file i b) ≡ Err r =
      λ r e. book_accepted book_file (set request_file i b) by.book_accepted ∙ request_not_accepted _ _ (set request_file i b) r e in
      ⊎_elim (λ e. inl (refused _ e)) (λ e. inr (refused _ e))
      (altered_request_refused 2 request_file i b bytes within below other (ap answer_of by.request_accepted))

-- the costs, and the bill, of values within document 01's limits
pub costs_within : (book : Book) (rates : List (List ℕ)) (request : Request) (zone : ℕ) → RatesWithin rates book.zones → RequestWithin request → zone < book.zones →
    CostsWithin (costs_of (tiers_of (get_or rates zone []) request) request)
costs_within book rates request zone s r h =
    let tiers = tiers_of (get_or rates zone []) request in
    let tiers_within : TiersWithin tiers = record { posted = λ tier. s.each zone tier h; bespoke = r.bespoke_rates } in
    record {
      me = r.me;
      mc = capacity_cost_at_most tiers request.demands tiers_within r.demands;
      ce = r.ce;
      cc2 = capacity_cost_at_most tiers request.added_demands tiers_within r.added_demands;
      de = r.de;
      tw = r.tw;
      hr = r.hr;
      ol = r.ol;
    }

pub bill_within : (book : Book) (rates : List (List ℕ)) (request : Request) (zone distribution transmission : ℕ) → BookWithin book → RatesWithin rates book.zones →
    RequestWithin request → zone < book.zones → distribution ≤ highest_revenue → transmission ≤ highest_revenue →
    BillWithin (bill_of book (tiers_of (get_or rates zone []) request) request (incremental_revenue_of book request distribution transmission))
bill_within book rates request zone distribution transmission b s r h d t =
    let distributed : StreamWithin (distribution_of book request distribution) =
    record {
      revenue = d;
      opex_factor = distribution_opex_factor_at_most request.class book.opex book.revenue;
      part_year = r.part_year;
      revenue_factors = b.distribution;
      tariff_factors = r.distribution_tariff;
    } in
    let transmitted : StreamWithin (transmission_of book request transmission) =
    record {
      revenue = t;
      opex_factor = omega arith;
      part_year = r.part_year;
      revenue_factors = b.transmission;
      tariff_factors = r.transmission_tariff;
    } in
    let costs = costs_within book rates request zone s r h in
    record {
      figures = reconciliation_bounded costs (incremental_revenue_bounded book.rate distributed transmitted (life_at_most request.class)) b.charged b.share;
      threshold = b.threshold;
      fee = b.fee;
      minimum = b.minimum;
      term = b.term;
      term_below = b.term_below;
      person = r.person;
      month = r.month;
      some_capacity = r.some_capacity;
      capacity = r.capacity;
      scheme = r.scheme;
      mark = r.mark;
    }
  where
    life_at_most : (class : ℕ) → life_of class ≤ longest_life
    life_at_most class = by (eqb class 0)
      where
        by : (test : Bool) → cond test 30 15 ≤ longest_life
        by true = omega arith
        by false = omega arith

pub priced_within : (book_file request_file : List ℕ) (bill : Bill) → Bytes book_file → Bytes request_file → price_of book_file request_file ≡ Ok bill → BillWithin bill
priced_within book_file request_file bill bytes bytes' priced =
    let by = priced_by book_file request_file bill priced in
    let request = request_within_limits 2 request_file bytes' by.request_accepted in
    subst BillWithin (sym by.is)
    (bill_within by.book (zone_rates (fields_part book_file)) by.request by.zone _ _
    (book_within_limits 1 book_file by.book_accepted bytes) (rates_within_limits 1 book_file by.book_accepted) request by.zone_below
    request.distribution_revenue request.transmission_revenue)

-- CC and the cost borne make up the cost entered, and CC − NC is NIC, of every bill from the bytes on.
pub priced_reconciles : (book_file request_file : List ℕ) (bill : Bill) → Bytes book_file → Bytes request_file → price_of book_file request_file ≡ Ok bill →
    (bill.reconciliation.cc + bill.reconciliation.borne ≡ bill.reconciliation.entered)
    × (pos bill.reconciliation.cc -ℤ bill.reconciliation.nc ≡ bill.reconciliation.nic)
priced_reconciles book_file request_file bill bytes bytes' priced =
    let figures = (priced_within book_file request_file bill bytes bytes' priced).figures in
    (sym figures.entered, figures.net)

-- Document 02, E10: "100 × numerator = quotient × divisor + remainder, remainder from 0 to divisor − 1, also where NC is negative", of all three percentages of
-- every bill from the bytes on; and each rounded percentage follows from its quotient and remainder.
pub priced_percentages_exact : (book_file request_file : List ℕ) (bill : Bill) → price_of book_file request_file ≡ Ok bill → ExactPercentages bill.reconciliation
priced_percentages_exact book_file request_file bill priced =
    subst (λ (bill : Bill). ExactPercentages bill.reconciliation) (sym (priced_by book_file request_file bill priced).is) (percentages_exact _ _ _ _)
