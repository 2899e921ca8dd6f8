-- Document 02, E6: "Older books and requests price as before": two files without 09 and 0D price as by the fields that document 01 gives alone.
use Rattle.std.specs.Prelude.{ℕ, ◌≡◌, refl, List, Err, None, Ok, Result}
use Rattle.std.proofs.Common.{ap, inl, inr, ⊎_elim}
use Rattle.numbers.specs.BigEndian.{number_at}
use Rattle.tagged.specs.Find.{fields_of, first_place, field_value}
use Rattle.tagged.specs.File.{◌>>=◌, fields_part, file_answer, FileAnswer}
use Rattle.tagged.specs.declared.file.Refusal.{Refusal}
use Rattle.field_values.specs.Judged.{Judged}
use Rattle.field_values.specs.Reading.{reading_of}
use Rattle.book_zones.specs.Zones.{zone_tag, zone_rates}
use Rattle.rate_book.specs.Book.{book_of}
use Rattle.rate_book.specs.declared.book.Book.{Book}
use Rattle.request.specs.Fields.{zone_in}
use Rattle.request.specs.Request.{request_of, judge_request, request_values}
use Rattle.request.specs.declared.values.Request.{Request}
use Rattle.charge.specs.Price.{values_priced, request_priced, price_of, Pricing}
use Rattle.pricing_laws.specs.EarlierRows.{earlier_request_rows}
use Rattle.pricing_laws.specs.EarlierPricing.{earlier_book_of, earlier_request_of, earlier_price_of, AsBefore}
use Rattle.pricing_laws.proofs.Theorems.Without.{without}
use Rattle.pricing_laws.proofs.Theorems.OlderBooks.{older_book_same, older_zone_tag}
use Rattle.pricing_laws.proofs.Theorems.OlderRequests.{older_request_same, older_zone_in}

-- its zones are the fields 08, with a number of one byte
pub older_zones : (s : List ℕ) → first_place 9 s ≡ None → zone_tag s ≡ 8
older_zones s e = older_zone_tag s (without 9 (fields_of s) e)

-- an older request names its zone in 04
pub older_zone : (s : List ℕ) → first_place 13 s ≡ None → zone_in s ≡ number_at (field_value 4 s) 0 1
older_zone s e = older_zone_in s (without 13 (fields_of s) e)

older_book : (file : List ℕ) → first_place 9 (fields_part file) ≡ None → book_of 1 file ≡ earlier_book_of file
unfolding book_of
older_book file e = rw (older_book_same 1 file e)

read_as_before : {Values : Type 0} (before now : FileAnswer) (judged : Judged) (values : Values) → AsBefore 2 before now →
    AsBefore 2 (reading_of 2 before judged values) (reading_of 2 now judged values)
read_as_before before now judged values =
    ⊎_elim
    (λ same. inl (ap (λ answer. reading_of 2 answer judged values) same))
    (λ later. inr (later.0, later.1, ap (λ answer. reading_of 2 answer judged values) later.2, later.3, ap (λ answer. reading_of 2 answer judged values) later.4))

older_request : (file : List ℕ) → first_place 13 (fields_part file) ≡ None → AsBefore 2 (earlier_request_of file) (request_of 2 file)
unfolding request_of
older_request file e =
    read_as_before (file_answer earlier_request_rows 2 file) _ (judge_request (fields_part file)) (request_values (fields_part file))
    (older_request_same 2 file e)

pub older_priced : (book request : List ℕ) → first_place 9 (fields_part book) ≡ None → first_place 13 (fields_part request) ≡ None →
    AsBefore 2 (earlier_price_of book request) (price_of book request)
unfolding price_of request_priced
older_priced book request b r = rw (older_book book b) (by (earlier_book_of book))
  where
    rates : List (List ℕ)
    rates = zone_rates (fields_part book)

    priced : Book → Result Request Refusal → Pricing
    priced values asked = asked >>= λ r. values_priced values rates r r.distribution_revenue r.transmission_revenue

    by : (values : Result Book Refusal) →
        AsBefore 2 (values >>= λ b. priced b (earlier_request_of request)) (values >>= λ b. priced b (request_of 2 request))
    by (Err refused) = inl refl
    by (Ok values) =
        ⊎_elim
        (λ same. inl (ap (priced values) same))
        (λ later. inr (later.0, later.1, ap (priced values) later.2, later.3, ap (priced values) later.4))
        (older_request request r)
