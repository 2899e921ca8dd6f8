-- For a caller that looks at the result: it is 0 exactly where there is a band and room for it, otherwise it has the number of a refusal that the call can
-- come to; and a refusal leaves the lent figures as they were.
use Rattle.std.specs.Prelude.{ℕ, ◌≡◌, refl, Bool, true, false, cond, List, ◌≢◌, ltb, ℤ, length, Err, Ok}
use Rattle.std.proofs.Common.{ap, ⊎_elim, arith}
use Rattle.tagged.specs.File.{refusal}
use Rattle.tagged.specs.Refusals.{bespoke_not_allowed, output_too_short}
use Rattle.tagged.specs.declared.file.Refusal.{Refusal}
use Rattle.ledger.specs.RefusalNumbers.{one_of, one_to}
use Rattle.ledger.proofs.Theorems.RefusalNumbers.{one_of_more, within_one_to}
use Rattle.price_band.specs.PriceBand.{band_of, BandPricing}
use Rattle.price_band.specs.BandEnding.{BandRefusal}
use Rattle.price_band.proofs.Theorems.BandEnding.{band_refusal}
use Rattle.price_band.specs.declared.Bands.{Bands}
use Rattle.price_band.specs.declared.Band.{Band}
use Rattle.quoting_unit.specs.UnitResults.{Results}
use Rattle.quoting_unit.proofs.Theorems.UnitResults.{is_done, is_refused}
use Rattle.fikrem_c.specs.BandResult.{band_places, BandEnd, end_of, band_end}
use Rattle.fikrem_c.specs.BandResults.{band_numbers}

band_number : (r : Refusal) → BandRefusal r → one_of band_numbers r.number ≡ true
band_number r told =
    ⊎_elim
    (λ priced. one_of_more (one_to bespoke_not_allowed) band_numbers r.number refl (⊎_elim (λ h. within_one_to bespoke_not_allowed r.number h.0 (omega (arith, h.1))) (λ h. within_one_to bespoke_not_allowed r.number h.0 h.1) priced))
    (⊎_elim (λ same. ap (λ s. one_of band_numbers s.number) same) (λ same. ap (λ s. one_of band_numbers s.number) same))
    told

-- by the test of the figures
abbrev end_if : BandPricing → List ℤ → Bool → BandEnd
end_if pricing figures short = cond short (record { result = output_too_short; figures = figures }) (end_of pricing figures)

module _ (book_file request_file : List ℕ) (bands : Bands) (figures : List ℤ) where
  pub band_results :
      Results ((ltb (length figures) band_places ≡ false) × ((band : Band) × (band_of book_file request_file bands ≡ Ok band))) band_numbers
      (band_end (band_of book_file request_file bands) figures).result
  band_results = by (band_of book_file request_file bands) (ltb (length figures) band_places) (band_refusal book_file request_file bands)
    where
      by : (pricing : BandPricing) (short : Bool) → ((r : Refusal) → pricing ≡ Err r → BandRefusal r) →
          Results ((short ≡ false) × ((band : Band) × (pricing ≡ Ok band))) band_numbers (end_if pricing figures short).result
      by pricing true told = is_refused (refusal output_too_short 0 0) 0 refl (λ d. cc d.0) refl
      by (Ok band) false told = is_done (refl, (band, refl))
      by (Err r) false told = is_refused r 0 refl (λ d. cc d.1.1) (band_number r (told r refl))

  pub refused_band_changes_nothing : (band_end (band_of book_file request_file bands) figures).result ≢ 0 → (band_end (band_of book_file request_file bands) figures).figures ≡ figures
  refused_band_changes_nothing = by (band_of book_file request_file bands) (ltb (length figures) band_places)
    where
      by : (pricing : BandPricing) (short : Bool) → (end_if pricing figures short).result ≢ 0 → (end_if pricing figures short).figures ≡ figures
      by pricing true refused = refl
      by (Ok band) false refused = absurd (refused refl)
      by (Err r) false refused = refl
