-- Document 02, E6: "Older books and requests price as before." Pricing by the fields that document 01 gives alone, and what it is now.
use Rattle.std.specs.Prelude.{ℕ, ◌≤◌, ◌≡◌, ◌⊎◌, List, Err, Result}
use Rattle.tagged.specs.Refusals.{file_does_not_walk}
use Rattle.tagged.specs.File.{◌>>=◌, fields_part, refusal, file_answer}
use Rattle.tagged.specs.declared.file.Refusal.{Refusal}
use Rattle.field_values.specs.Reading.{reading_of}
use Rattle.book_zones.specs.Zones.{zone_rates}
use Rattle.rate_book.specs.Book.{judge_book, book_values}
use Rattle.rate_book.specs.declared.book.Book.{Book}
use Rattle.request.specs.Request.{judge_request, request_values}
use Rattle.request.specs.declared.values.Request.{Request}
use Rattle.charge.specs.Price.{values_priced, Pricing}
use Rattle.pricing_laws.specs.EarlierRows.{earlier_book_rows, earlier_request_rows}

abbrev pub earlier_book_of : List ℕ → Result Book Refusal
earlier_book_of file = reading_of 1 (file_answer earlier_book_rows 1 file) (judge_book (fields_part file)) (book_values (fields_part file))

abbrev pub earlier_request_of : List ℕ → Result Request Refusal
earlier_request_of file = reading_of 2 (file_answer earlier_request_rows 2 file) (judge_request (fields_part file)) (request_values (fields_part file))

abbrev pub earlier_price_of : List ℕ → List ℕ → Pricing
earlier_price_of book_file request_file = do
  book ← earlier_book_of book_file
  request ← earlier_request_of request_file
  values_priced book (zone_rates (fields_part book_file)) request request.distribution_revenue request.transmission_revenue

-- an answer as before, or the file of this number refused with 1, at a place that isn't earlier
abbrev pub AsBefore : {A : Type 0} → ℕ → Result A Refusal → Result A Refusal → Type 0
AsBefore number before now =
    (now ≡ before)
    ⊎ ((at : ℕ) × (later : ℕ) × (before ≡ Err (refusal file_does_not_walk number at)) × (at ≤ later) × (now ≡ Err (refusal file_does_not_walk number later)))
