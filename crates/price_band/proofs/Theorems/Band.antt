-- Document 02, E5: "For every pair of revenues inside the bands, the priced figures lie inside the given ones. Both ends are reached by some pair."
use Rattle.std.specs.Prelude.{ℕ, ◌≤◌, ◌≡◌, List, [], get_or, Ok}
use Rattle.std.proofs.Common.{sym, subst, ◌∙◌, le_refl, arith}
use Rattle.std.proofs.Math.Path.{ap}
use Rattle.std.specs.Result.{result_map_both}
use Rattle.numbers.specs.BigEndian.{Bytes}
use Rattle.tagged.specs.File.{fields_part}
use Rattle.field_values.specs.Limits.{highest_revenue}
use Rattle.book_zones.specs.Zones.{zone_rates}
use Rattle.rate_book.proofs.Theorems.BookLimits.{book_within_limits}
use Rattle.rate_book.specs.declared.book.Book.{Book}
use Rattle.request.specs.declared.values.Request.{Request}
use Rattle.request.specs.WithRevenues.{with_revenues}
use Rattle.request.proofs.Theorems.WithRevenues.{file_with_revenues, revenues_replaced, revenues_differ}
use Rattle.revenue.proofs.Theorems.Revenue.{incremental_revenue_monotone}
use Rattle.reconciliation.proofs.Theorems.RisingRevenue.{cc_never_rises, nc_never_falls}
use Rattle.reconciliation.specs.declared.Reconciliation.{Reconciliation}
use Rattle.charge.specs.Price.{distribution_of, transmission_of, incremental_revenue_of, tiers_of, costs_of, values_priced, price_of}
use Rattle.charge.proofs.Theorems.Price.{bill_in_zone, book_accepted, request_priced_lem}
use Rattle.charge.proofs.Theorems.Bill.{PricedBy}
use Rattle.charge.specs.declared.Bill.{Bill}
use Rattle.price_band.specs.PriceBand.{band_of}
use Rattle.price_band.specs.BandLimits.{BandFits}
use Rattle.price_band.specs.BandPromises.{Inside, ReadsWith, Between, PricedBetween, Reached, EndsReached}
use Rattle.price_band.proofs.Theorems.PriceBand.{end_bill, end_within, BandBy, band_by}
use Rattle.price_band.specs.declared.Bands.{Bands}
use Rattle.price_band.specs.declared.Band.{Band}

ir_never_falls : (book : Book) (request : Request) {d d' t t' : ℕ} → d ≤ d' → t ≤ t' → incremental_revenue_of book request d t ≤ incremental_revenue_of book request d' t'
ir_never_falls book request = incremental_revenue_monotone (distribution_of book request 0) (transmission_of book request 0) book.rate _

module _ (book_file request_file : List ℕ) {bill : Bill} (by : PricedBy book_file request_file bill) where
  -- a file that reads as the request does, but for the two revenues, is priced with these
  other_priced : (other : List ℕ) (d t : ℕ) → ReadsWith d t request_file other → price_of book_file other ≡ Ok (end_bill book_file request_file by d t)
  unfolding values_priced
  other_priced other d t reads =
      let rates = zone_rates (fields_part book_file) in
      let request = with_revenues d t by.request in
      book_accepted book_file other by.book_accepted
      ∙ request_priced_lem by.book rates other (reads ∙ ap (result_map_both (with_revenues d t) (λ refusal. refusal)) by.request_accepted)
      ∙ bill_in_zone by.book rates request d t by.zone by.found by.allowed

pub band_holds : (book_file request_file : List ℕ) (bands : Bands) (band : Band) → Bytes book_file → band_of book_file request_file bands ≡ Ok band →
    (other : List ℕ) (distribution transmission : ℕ) → ReadsWith distribution transmission request_file other → Inside bands distribution transmission →
    PricedBetween book_file other band
band_holds book_file request_file bands band bytes priced other d t reads inside =
    let h = band_by book_file request_file bands band priced in
    let book = h.by.book in
    let request = h.by.request in
    let costs = costs_of (tiers_of (get_or (zone_rates (fields_part book_file)) h.by.zone []) request) request in
    let share = (book_within_limits 1 book_file h.by.book_accepted bytes).share in
    let above = ir_never_falls book request inside.distribution_low inside.transmission_low in
    let below = ir_never_falls book request inside.distribution_high inside.transmission_high in
    record {
      bill = end_bill book_file request_file h.by d t;
      priced = other_priced book_file request_file h.by other d t reads;
      between =
          subst (λ b. Between b (end_bill book_file request_file h.by d t).reconciliation) (sym h.is)
          (record {
            lowest_ir = above;
            highest_ir = below;
            lowest_cc = cc_never_rises costs book.charged book.share below;
            highest_cc = cc_never_rises costs book.charged book.share above;
            lowest_nc = nc_never_falls costs book.charged book.share above share;
            highest_nc = nc_never_falls costs book.charged book.share below share;
          });
    }

pub band_reached : (book_file request_file : List ℕ) (bands : Bands) (band : Band) → Bytes request_file → band_of book_file request_file bands ≡ Ok band →
    EndsReached book_file request_file bands band
band_reached book_file request_file bands band bytes priced =
    let h = band_by book_file request_file bands band priced in
    record {
      lowest_ir = low (λ r. r.ir ≡ band.lowest_ir) (sym (ap (λ b. b.lowest_ir) h.is));
      highest_ir = high (λ r. r.ir ≡ band.highest_ir) (sym (ap (λ b. b.highest_ir) h.is));
      lowest_cc = high (λ r. r.cc ≡ band.lowest_cc) (sym (ap (λ b. b.lowest_cc) h.is));
      highest_cc = low (λ r. r.cc ≡ band.highest_cc) (sym (ap (λ b. b.highest_cc) h.is));
      lowest_nc = low (λ r. r.nc ≡ band.lowest_nc) (sym (ap (λ b. b.lowest_nc) h.is));
      highest_nc = high (λ r. r.nc ≡ band.highest_nc) (sym (ap (λ b. b.highest_nc) h.is));
    }
  where
    from : BandBy book_file request_file bands band
    from = band_by book_file request_file bands band priced

    at : (d t : ℕ) → d ≤ highest_revenue → t ≤ highest_revenue → Inside bands d t → (comes_to : Reconciliation → Type 0) →
        comes_to (end_bill book_file request_file from.by d t).reconciliation → Reached book_file request_file bands comes_to
    at d t d_within t_within inside comes_to reached =
        let accepted = from.by.request_accepted in
        let other = file_with_revenues d t request_file in
        let differs = revenues_differ d t d_within t_within 2 request_file bytes accepted in
        let reads : ReadsWith d t request_file other =
        revenues_replaced d t d_within t_within 2 request_file bytes accepted
        ∙ sym (ap (result_map_both (with_revenues d t) (λ refusal. refusal)) accepted) in
        record {
          other = other;
          bytes = differs.0;
          differs = differs.1;
          distribution = d;
          transmission = t;
          inside = inside;
          reads = reads;
          bill = end_bill book_file request_file from.by d t;
          priced = other_priced book_file request_file from.by other d t reads;
          reached = reached;
        }

    low : (comes_to : Reconciliation → Type 0) → comes_to (end_bill book_file request_file from.by bands.distribution_low bands.transmission_low).reconciliation →
        Reached book_file request_file bands comes_to
    low =
        at _ _ from.limits.distribution_low from.limits.transmission_low
        (record { distribution_low = le_refl _; distribution_high = from.order.0; transmission_low = le_refl _; transmission_high = from.order.1 })

    high : (comes_to : Reconciliation → Type 0) → comes_to (end_bill book_file request_file from.by bands.distribution_high bands.transmission_high).reconciliation →
        Reached book_file request_file bands comes_to
    high =
        at _ _ from.limits.distribution_high from.limits.transmission_high
        (record { distribution_low = from.order.0; distribution_high = le_refl _; transmission_low = from.order.1; transmission_high = le_refl _ })

-- The figures of a band fit 64 bits with a sign.
pub band_fits : (book_file request_file : List ℕ) (bands : Bands) (band : Band) → Bytes book_file → Bytes request_file → band_of book_file request_file bands ≡ Ok band → BandFits band
band_fits book_file request_file bands band book_bytes bytes priced =
    let h = band_by book_file request_file bands band priced in
    let low = (end_within book_file request_file h.by bytes book_bytes _ _ h.limits.distribution_low h.limits.transmission_low).figures in
    let high = (end_within book_file request_file h.by bytes book_bytes _ _ h.limits.distribution_high h.limits.transmission_high).figures in
    subst BandFits (sym h.is)
    (record {
      lowest_ir = omega (arith, low.ir);
      highest_ir = omega (arith, high.ir);
      lowest_cc = omega (arith, high.cc);
      highest_cc = omega (arith, low.cc);
    })
