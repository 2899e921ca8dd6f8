-- Pricing between two figures by its cases, in order: as the request itself is refused, 3, 15, the band; and what a band comes from.
use Rattle.std.specs.Prelude.{ℕ, ◌≤◌, ◌≡◌, refl, List, [], Bool, true, false, ◌&&◌, get_or, Err, Ok}
use Rattle.std.proofs.Common.{sym, ap, ap₂, ◌∙◌, arith, leb-true}
use Rattle.std.proofs.lemmas.Bool.{false≢true}
use Rattle.numbers.specs.BigEndian.{Bytes}
use Rattle.tagged.specs.File.{◌>>=◌, fields_part}
use Rattle.tagged.proofs.Theorems.Impossible.{impossible}
use Rattle.tagged.proofs.Theorems.Walk.{by_test}
use Rattle.tagged.specs.declared.file.Refusal.{Refusal}
use Rattle.field_values.specs.Limits.{highest_revenue}
use Rattle.book_zones.specs.Zones.{zone_rates}
use Rattle.rate_book.proofs.Theorems.BookLimits.{book_within_limits, rates_within_limits}
use Rattle.request.proofs.Theorems.RequestLimits.{request_within_limits}
use Rattle.reconciliation.specs.CostLimits.{CostsWithin}
use Rattle.charge.specs.Price.{tiers_of, incremental_revenue_of, bill_of, price_of, Pricing}
use Rattle.charge.specs.BillLimits.{BillWithin}
use Rattle.charge.proofs.Theorems.Price.{bill_in_zone}
use Rattle.charge.proofs.Theorems.Bill.{PricedBy, priced_by, costs_within, bill_within}
use Rattle.charge.specs.declared.Bill.{Bill}
use Rattle.price_band.specs.PriceBand.{within_limits, low_to_high, if_bands, priced_with, band_between, band_at_ends, band_of}
use Rattle.price_band.specs.EndCosts.{end_costs, end_reconciliation}
use Rattle.price_band.specs.declared.Bands.{Bands}
use Rattle.price_band.specs.declared.Band.{Band}

module _ (book_file request_file : List ℕ) (bands : Bands) where
  pub band_not_priced : (r : Refusal) → price_of book_file request_file ≡ Err r → band_of book_file request_file bands ≡ Err r
  unfolding band_of
  band_not_priced r e = rw e

  pub band_judged : (bill : Bill) → price_of book_file request_file ≡ Ok bill →
      band_of book_file request_file bands ≡ if_bands bands (band_at_ends book_file request_file bands)
  unfolding band_of
  band_judged bill e = rw e

-- ---- the figures that pass
and_parts : (first second : Bool) → first && second ≡ true → (first ≡ true) × (second ≡ true)
and_parts true second e = (refl, e)
and_parts false second e = absurd (false≢true e)

pub record LimitsKept (bands : Bands) : Type 0 where
  pub distribution_low : bands.distribution_low ≤ highest_revenue
  pub distribution_high : bands.distribution_high ≤ highest_revenue
  pub transmission_low : bands.transmission_low ≤ highest_revenue
  pub transmission_high : bands.transmission_high ≤ highest_revenue

pub limits_kept : (bands : Bands) → within_limits bands ≡ true → LimitsKept bands
limits_kept bands passes =
    let third = and_parts _ _ passes in
    let second = and_parts _ _ third.0 in
    let first = and_parts _ _ second.0 in
    record {
      distribution_low = leb-true _ _ first.0;
      distribution_high = leb-true _ _ first.1;
      transmission_low = leb-true _ _ second.1;
      transmission_high = leb-true _ _ third.1;
    }

pub low_to_high_lem : (bands : Bands) → low_to_high bands ≡ true →
    (bands.distribution_low ≤ bands.distribution_high) × (bands.transmission_low ≤ bands.transmission_high)
low_to_high_lem bands passes = let both = and_parts _ _ passes in (leb-true _ _ both.0, leb-true _ _ both.1)

-- ---- a request that is priced is priced with any revenues
module _ (book_file request_file : List ℕ) {bill : Bill} (by : PricedBy book_file request_file bill) where
  -- its bill with these
  abbrev pub end_bill : ℕ → ℕ → Bill
  end_bill distribution transmission =
      bill_of by.book (tiers_of (get_or (zone_rates (fields_part book_file)) by.zone []) by.request) by.request
      (incremental_revenue_of by.book by.request distribution transmission)

  pub end_priced : (distribution transmission : ℕ) → priced_with book_file request_file distribution transmission ≡ Ok (end_bill distribution transmission)
  end_priced distribution transmission =
      rw (by.book_accepted, by.request_accepted) (bill_in_zone _ _ _ distribution transmission by.zone by.found by.allowed)

  pub ends_priced : (bands : Bands) → band_at_ends book_file request_file bands
      ≡ Ok (band_between (end_bill bands.distribution_low bands.transmission_low).reconciliation (end_bill bands.distribution_high bands.transmission_high).reconciliation)
  ends_priced bands = ap₂ (λ lows highs. lows >>= λ low. highs >>= λ high. Ok (band_between low.reconciliation high.reconciliation)) (end_priced _ _) (end_priced _ _)

  -- from the costs of the bill alone
  pub ends_by_costs : (bands : Bands) →
      let costs = end_costs bill.reconciliation in
      band_at_ends book_file request_file bands
      ≡ Ok (band_between (end_reconciliation by.book by.request costs bands.distribution_low bands.transmission_low) (end_reconciliation by.book by.request costs bands.distribution_high bands.transmission_high))
  ends_by_costs bands =
      ends_priced bands
      ∙ ap (λ b. Ok (band_between (end_reconciliation by.book by.request (end_costs b.reconciliation) bands.distribution_low bands.transmission_low) (end_reconciliation by.book by.request (end_costs b.reconciliation) bands.distribution_high bands.transmission_high))) (sym by.is)

  module _ (bytes : Bytes request_file) where
    pub end_costs_within : CostsWithin (end_costs bill.reconciliation)
    end_costs_within =
        let within = costs_within by.book (zone_rates (fields_part book_file)) by.request by.zone
        (rates_within_limits 1 book_file by.book_accepted) (request_within_limits 2 request_file bytes by.request_accepted) by.zone_below in
        rw by.is
        (record { me = within.me; mc = within.mc; ce = within.ce; cc2 = within.cc2; de = omega arith; tw = within.tw; hr = within.hr; ol = within.ol })

    pub end_within : Bytes book_file → (distribution transmission : ℕ) → distribution ≤ highest_revenue → transmission ≤ highest_revenue →
        BillWithin (end_bill distribution transmission)
    end_within book_bytes distribution transmission d t =
        bill_within by.book (zone_rates (fields_part book_file)) by.request by.zone distribution transmission
        (book_within_limits 1 book_file by.book_accepted book_bytes) (rates_within_limits 1 book_file by.book_accepted)
        (request_within_limits 2 request_file bytes by.request_accepted) by.zone_below d t

-- ---- what a band comes from
pub record BandBy (book_file request_file : List ℕ) (bands : Bands) (band : Band) : Type 0 where
  pub bill : Bill
  pub by : PricedBy book_file request_file bill
  pub limits : LimitsKept bands
  pub order : (bands.distribution_low ≤ bands.distribution_high) × (bands.transmission_low ≤ bands.transmission_high)
  pub is :
      band
      ≡ band_between (end_bill book_file request_file by bands.distribution_low bands.transmission_low).reconciliation (end_bill book_file request_file by bands.distribution_high bands.transmission_high).reconciliation

pub band_by : (book_file request_file : List ℕ) (bands : Bands) (band : Band) → band_of book_file request_file bands ≡ Ok band → BandBy book_file request_file bands band
unfolding band_of
band_by book_file request_file bands band = by_pricing (price_of book_file request_file) refl
  where
    by_pricing : (pricing : Pricing) → price_of book_file request_file ≡ pricing → (pricing >>= λ bill. if_bands bands (band_at_ends book_file request_file bands)) ≡ Ok band →
        BandBy book_file request_file bands band
    by_pricing (Err r) p e = impossible cc
    by_pricing (Ok bill) p e =
        by_test (λ band'. band' ≡ Ok band → BandBy book_file request_file bands band) (within_limits bands) _ _
        (λ limits.
        by_test (λ band'. band' ≡ Ok band → BandBy book_file request_file bands band) (low_to_high bands) _ _
        (λ order e.
        let by = priced_by book_file request_file bill p in
        record { bill = bill; by = by; limits = limits_kept bands limits; order = low_to_high_lem bands order; is = cc (sym e ∙ ends_priced book_file request_file by bands) })
        (λ _ e. impossible cc))
        (λ _ e. impossible cc) e
