-- Whatever the reader accepts lies within document 01's limits, and has its lengths.
use Rattle.std.specs.Prelude.{ℕ, ◌+◌, ◌-◌, ◌<◌, ◌≤◌, ◌≡◌, List, map, length, Ok}
use Rattle.std.proofs.Common.{sym, subst, arith, ltb-true, leb-true}
use Rattle.numbers.specs.BigEndian.{Bytes, number_at}
use Rattle.numbers.proofs.Theorems.BigEndian.{Bytes-take, number_at_below}
use Rattle.field_walk.specs.FieldsWalk.{FieldsWalk}
use Rattle.tagged.specs.Find.{first_place, field_value, field_start}
use Rattle.tagged.proofs.Theorems.FoundFields.{Bytes-part}
use Rattle.tagged.specs.File.{fields_part, answer_of}
use Rattle.field_values.specs.SumLimits.{sums_below}
use Rattle.field_values.proofs.Theorems.Judged.{judge_passes, first_failure_passes, judged_within}
use Rattle.field_values.proofs.Theorems.Factors.{factors_within}
use Rattle.book_zones.specs.BookRows.{book_rows}
use Rattle.book_zones.specs.Zones.{zone_starts, zone_number, zone_rates}
use Rattle.book_zones.proofs.Theorems.ZoneFields.{zones_stand}
use Rattle.book_zones.proofs.Theorems.Zones.{length_zone_array}
use Rattle.book_zones.specs.ZoneLimits.{RatesWithin}
use Rattle.book_zones.proofs.Theorems.ZoneLimits.{zone_numbers_rise, zone_rates_within}
use Rattle.rate_book.specs.BookSizes.{BookSizes}
use Rattle.rate_book.proofs.Theorems.BookSizes.{book_sizes}
use Rattle.rate_book.specs.Fields.{rate_limits, charged_limits, sum_from, sum_judgements, term_judgements}
use Rattle.rate_book.specs.Book.{book_judgements, judge_book, book_values, book_of}
use Rattle.rate_book.proofs.Theorems.Book.{accepted_stands, accepted_passes, book_walks, read_is_accepted, book_is_values}
use Rattle.rate_book.specs.BookLimits.{BookWithin}
use Rattle.rate_book.specs.declared.book.Book.{Book}

sum_below : (value : List ℕ) (from : ℕ) → Bytes value → from + 36 ≤ length value → sum_from value from < sums_below
sum_below value from h l =
    let below : (k : ℕ) → k ≤ 32 → number_at value (from + k) 4 < 4294967296 = λ k fits. number_at_below value (from + k) 4 h (omega arith) in
    let first : number_at value from 4 < 4294967296 = number_at_below value from 4 h (omega arith) in
    omega (arith, below 8 (omega arith), below 16 (omega arith), below 24 (omega arith), below 32 (omega arith))

module _ (s : List ℕ) (walks : FieldsWalk book_rows s) (passes : judge_book s ≡ Ok tt) where
  pub values_within : Bytes s → BookWithin (book_values s)
  values_within bytes =
      let sizes = book_sizes s walks in
      let stand = zones_stand s walks in
      let pass = first_failure_passes (book_judgements s) passes in
      let sums = first_failure_passes (sum_judgements s) (pass 2) in
      let terms = first_failure_passes (term_judgements s) (pass 5) in
      let rates = judged_within rate_limits (field_start 2 s) (field_value 2 s) (pass 1) in
      let charges = judged_within charged_limits (field_start 7 s) (field_value 7 s) (pass 6) in
      let bytes_of : (tag : ℕ) → Bytes (field_value tag s) = λ tag. Bytes-part (first_place tag s) s bytes in
      record {
        rate = (rates 0 (omega (arith, sizes.rate))).1;
        opex = leb-true _ _ (judge_passes _ _ (sums 0));
        revenue = ltb-true _ _ (judge_passes _ _ (sums 1));
        revenue_below = sum_below (field_value 3 s) 4 (bytes_of 3) (omega (arith, sizes.figures));
        distribution = factors_within 4 s (pass 3) sizes.distribution;
        transmission = factors_within 5 s (pass 4) sizes.transmission;
        threshold = leb-true _ _ (judge_passes _ _ (terms 0));
        fee = leb-true _ _ (judge_passes _ _ (terms 1));
        minimum = leb-true _ _ (judge_passes _ _ (terms 2));
        term = leb-true _ _ (judge_passes _ _ (terms 3));
        term_below = number_at_below (field_value 6 s) 12 2 (bytes_of 6) (omega (arith, sizes.terms));
        charged = (charges 0 (omega (arith, sizes.charged))).1;
        share = (charges 1 (omega (arith, sizes.charged))).1;
        least_zones = stand.least;
        zones_at_most = stand.most;
        numbers = length_zone_array 0 (map (zone_number s) (zone_starts s));
        rise = zone_numbers_rise s stand (pass 7);
      }

  pub rates_within : RatesWithin (zone_rates s) (length (zone_starts s))
  rates_within = zone_rates_within s (zones_stand s walks) (first_failure_passes (book_judgements s) passes 7)

module _ (number : ℕ) (file : List ℕ) where
  -- its values have the lengths that document 01 gives them: a list of factors has an even number of bytes, 2 to 16
  pub accepted_book_sizes : answer_of (book_of number file) ≡ Ok tt → BookSizes (fields_part file)
  accepted_book_sizes accepted = book_sizes (fields_part file) (book_walks number file (accepted_stands number file accepted))

  module _ {book : Book} (read : book_of number file ≡ Ok book) where
    accepted : answer_of (book_of number file) ≡ Ok tt
    accepted = read_is_accepted number file read

    walks : FieldsWalk book_rows (fields_part file)
    walks = book_walks number file (accepted_stands number file accepted)

    pub book_within_limits : Bytes file → BookWithin book
    book_within_limits bytes =
        subst BookWithin (sym (book_is_values number file read))
        (values_within (fields_part file) walks (accepted_passes number file accepted) (Bytes-take (length file - 5) file bytes))

    pub rates_within_limits : RatesWithin (zone_rates (fields_part file)) book.zones
    rates_within_limits = rw (book_is_values number file read) (rates_within (fields_part file) walks (accepted_passes number file accepted))
