-- Document 01, 'Rate book': the values of a book, or its refusal, from its bytes alone.
use Rattle.std.specs.Prelude.{ℕ, List, [], ◌∷◌, length, Result}
use Rattle.tagged.specs.File.{file_answer, fields_part}
use Rattle.tagged.specs.declared.file.Refusal.{Refusal}
use Rattle.field_values.specs.Judged.{first_failure, judge_field, judge_letters, Judged}
use Rattle.field_values.specs.Factors.{factors_of, judge_factors}
use Rattle.field_values.specs.Reading.{reading_of}
use Rattle.book_zones.specs.BookRows.{book_rows}
use Rattle.book_zones.specs.Zones.{zone_starts, zone_numbers, judge_zones}
use Rattle.rate_book.specs.Fields.{rate_limits, rate_in, sums_in, judge_sums, terms_in, judge_terms, charged_limits, charging_in}
use Rattle.rate_book.specs.declared.book.Book.{Book}

-- 01, "the four letters RATE"
abbrev pub book_letters : List ℕ
book_letters = 82 ∷ 65 ∷ 84 ∷ 69 ∷ []

-- 3: every value of the fields s, in byte order
abbrev pub book_judgements : List ℕ → List Judged
book_judgements s =
    judge_letters book_letters s ∷
    judge_field rate_limits 2 s ∷
    judge_sums s ∷
    judge_factors 4 s ∷
    judge_factors 5 s ∷
    judge_terms s ∷
    judge_field charged_limits 7 s ∷
    judge_zones s ∷
    []

abbrev pub judge_book : List ℕ → Judged
judge_book s = first_failure (book_judgements s)

-- what the fields s say
abbrev pub book_values : List ℕ → Book
book_values s =
    record {
      rate = rate_in s;
      opex = (sums_in s).opex;
      revenue = (sums_in s).revenue;
      distribution = factors_of 4 s;
      transmission = factors_of 5 s;
      threshold = (terms_in s).threshold;
      fee = (terms_in s).fee;
      minimum = (terms_in s).minimum;
      term = (terms_in s).term;
      charged = (charging_in s).charged;
      share = (charging_in s).share;
      zones = length (zone_starts s);
      zone_numbers = zone_numbers s;
    }

-- "Order for a file: 1 for its last five bytes, 2, 1 for the rest, 3 in byte order."
unfoldable pub book_of : ℕ → List ℕ → Result Book Refusal
book_of number file = reading_of number (file_answer book_rows number file) (judge_book (fields_part file)) (book_values (fields_part file))
