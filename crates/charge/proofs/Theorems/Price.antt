-- The pricing by its cases, in document 01's order: book, request, 4, 5, the bill.
use Rattle.std.specs.Prelude.{ℕ, ◌≡◌, List, [], get_or, Err, None, Ok, Some}
use Rattle.tagged.specs.File.{fields_part, refusal}
use Rattle.tagged.specs.Refusals.{zone_not_in_book, bespoke_not_allowed}
use Rattle.tagged.specs.declared.file.Refusal.{Refusal}
use Rattle.rate_book.specs.Book.{book_of}
use Rattle.book_zones.specs.Zones.{zone_rates}
use Rattle.rate_book.specs.declared.book.Book.{Book}
use Rattle.request.specs.Request.{request_of}
use Rattle.request.specs.declared.values.Request.{Request}
use Rattle.capacity.specs.Capacity.{first_not_allowed}
use Rattle.charge.specs.Price.{zone_found, tiers_of, incremental_revenue_of, bill_of, values_priced, request_priced, price_of}

module _ (book : Book) (rates : List (List ℕ)) (request : Request) (distribution transmission : ℕ) where
  pub zone_not_in_book_lem : zone_found 0 book.zones book.zone_numbers request.zone ≡ None →
      values_priced book rates request distribution transmission ≡ Err (refusal zone_not_in_book 2 0)
  unfolding values_priced
  zone_not_in_book_lem e = rw e

  module _ (zone : ℕ) (found : zone_found 0 book.zones book.zone_numbers request.zone ≡ Some zone) where
    pub bespoke_not_allowed_lem : (tier : ℕ) → first_not_allowed (tiers_of (get_or rates zone []) request) ≡ Some tier →
        values_priced book rates request distribution transmission ≡ Err (refusal bespoke_not_allowed 2 tier)
    unfolding values_priced
    bespoke_not_allowed_lem tier e = rw (found, e)

    pub bill_in_zone : first_not_allowed (tiers_of (get_or rates zone []) request) ≡ None →
        values_priced book rates request distribution transmission
        ≡ Ok (bill_of book (tiers_of (get_or rates zone []) request) request (incremental_revenue_of book request distribution transmission))
    unfolding values_priced
    bill_in_zone e = rw (found, e)

pub request_not_accepted : (book : Book) (rates : List (List ℕ)) (file : List ℕ) (r : Refusal) → request_of 2 file ≡ Err r →
    request_priced book rates file ≡ Err r
unfolding request_priced
request_not_accepted book rates file r e = rw e

pub request_priced_lem : (book : Book) (rates : List (List ℕ)) (file : List ℕ) {request : Request} → request_of 2 file ≡ Ok request →
    request_priced book rates file ≡ values_priced book rates request request.distribution_revenue request.transmission_revenue
unfolding request_priced
request_priced_lem book rates file e = rw e

pub book_not_accepted : (book_file request_file : List ℕ) (r : Refusal) → book_of 1 book_file ≡ Err r → price_of book_file request_file ≡ Err r
unfolding price_of
book_not_accepted book_file request_file r e = rw e

pub book_accepted : (book_file request_file : List ℕ) {book : Book} → book_of 1 book_file ≡ Ok book →
    price_of book_file request_file ≡ request_priced book (zone_rates (fields_part book_file)) request_file
unfolding price_of
book_accepted book_file request_file e = rw e
