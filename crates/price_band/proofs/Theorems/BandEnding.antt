-- Pricing between two figures refuses as pricing does, or with 3 or 15 for its bands; its ending tells its answer.
use Rattle.std.specs.Prelude.{ℕ, ◌≤◌, ◌≡◌, List, pos, nat_abs, get_or, is_ok, Err, Ok}
use Rattle.std.proofs.Math.Path.{refl, ap}
use Rattle.std.proofs.Common.{sym, ◌∙◌, ⊎_elim, arith}
use Rattle.std.proofs.Math.Logic.{inl, inr}
use Rattle.tagged.specs.EndingTests.{number_is_0, Numbered}
use Rattle.tagged.specs.AnswerPromised.{AnswerPromised}
use Rattle.tagged.specs.File.{◌>>=◌}
use Rattle.tagged.specs.Refusals.{value_not_listed, low_above_high}
use Rattle.tagged.proofs.Theorems.Ending.{answer_by_number, answer_by_ending, promised_by_ending, answer_promise}
use Rattle.tagged.proofs.Theorems.Impossible.{impossible}
use Rattle.tagged.proofs.Theorems.Walk.{by_test}
use Rattle.tagged.specs.declared.file.Refusal.{Refusal}
use Rattle.charge.specs.Price.{price_of, Pricing}
use Rattle.charge.proofs.Theorems.Bill.{priced_by}
use Rattle.charge.proofs.Theorems.PriceRefusals.{pricing_refusal}
use Rattle.price_band.specs.PriceBand.{within_limits, low_to_high, if_bands, band_at_ends, band_of, band_values, BandPricing}
use Rattle.price_band.specs.BandEnding.{band_ending, BandRefusal}
use Rattle.price_band.proofs.Theorems.PriceBand.{ends_priced}
use Rattle.price_band.specs.declared.Bands.{Bands}
use Rattle.price_band.specs.declared.Band.{Band}

module _ (book_file request_file : List ℕ) (bands : Bands) where
  pub band_refusal : (r : Refusal) → band_of book_file request_file bands ≡ Err r → BandRefusal r
  unfolding band_of
  band_refusal r = by_pricing (price_of book_file request_file) refl
    where
      by_pricing : (pricing : Pricing) → price_of book_file request_file ≡ pricing → (pricing >>= λ bill. if_bands bands (band_at_ends book_file request_file bands)) ≡ Err r →
          BandRefusal r
      by_pricing (Err s) p e = let same : s ≡ r = cc in inl (pricing_refusal book_file request_file r (p ∙ ap Err same))
      by_pricing (Ok bill) p e =
          by_test (λ band. band ≡ Err r → BandRefusal r) (within_limits bands) _ _
          (λ _.
          by_test (λ band. band ≡ Err r → BandRefusal r) (low_to_high bands) _ _
          (λ _ e. impossible (cc (sym e ∙ ends_priced book_file request_file (priced_by book_file request_file bill p) bands)))
          (λ _ e. inr (inr (cc))))
          (λ _ e. inr (inl (cc))) e

  number_1 : (r : Refusal) → BandRefusal r → 1 ≤ r.number
  number_1 r told =
      ⊎_elim (λ priced. ⊎_elim (λ h. h.0) (λ h. h.0) priced)
      (⊎_elim (λ same. let is : r.number ≡ value_not_listed = ap (λ s. s.number) same in omega arith) (λ same. let is : r.number ≡ low_above_high = ap (λ s. s.number) same in omega arith))
      told

  pub band_numbered : Numbered (band_of book_file request_file bands)
  band_numbered = by (band_of book_file request_file bands) band_refusal
    where
      by : (pricing : BandPricing) → ((r : Refusal) → pricing ≡ Err r → BandRefusal r) → Numbered pricing
      by (Ok band) told = tt
      by (Err r) told = number_1 r (told r refl)

  -- number 0 exactly where there is a band
  pub band_by_number : number_is_0 (band_ending (band_of book_file request_file bands)) ≡ is_ok (band_of book_file request_file bands)
  band_by_number = answer_by_number band_values (band_of book_file request_file bands) band_numbered

-- ---- the ending tells the answer
band_by_values : (band other : Band) → band_values band ≡ band_values other → band ≡ other
band_by_values band other e =
    let figure : (place : ℕ) → get_or (band_values band) place (pos 0) ≡ get_or (band_values other) place (pos 0) = λ place. ap (λ values. get_or values place (pos 0)) e in
    λ i.
    record {
      lowest_ir = nat_abs (figure 0 i);
      highest_ir = nat_abs (figure 1 i);
      lowest_cc = nat_abs (figure 2 i);
      highest_cc = nat_abs (figure 3 i);
      lowest_nc = figure 4 i;
      highest_nc = figure 5 i;
    }

pub band_by_ending : (book_file request_file other_book other_request : List ℕ) (bands other_bands : Bands) →
    band_ending (band_of book_file request_file bands) ≡ band_ending (band_of other_book other_request other_bands) →
    band_of book_file request_file bands ≡ band_of other_book other_request other_bands
band_by_ending book_file request_file other_book other_request bands other_bands =
    answer_by_ending band_values band_by_values _ _ (band_numbered book_file request_file bands) (band_numbered other_book other_request other_bands)

module _ (book_file request_file : List ℕ) (bands : Bands) where
  pub band_promise : {pricing : BandPricing} → pricing ≡ band_of book_file request_file bands → AnswerPromised band_ending (band_of book_file request_file bands) pricing
  band_promise = answer_promise band_ending (band_numbered book_file request_file bands)

  pub promised_band : (pricing : BandPricing) → AnswerPromised band_ending (band_of book_file request_file bands) pricing → pricing ≡ band_of book_file request_file bands
  promised_band pricing = promised_by_ending band_values band_by_values _ _ (band_numbered book_file request_file bands)
