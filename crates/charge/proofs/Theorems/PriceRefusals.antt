-- Pricing refuses a book with 1 to 3, a request with 1 to 5, and with no other number.
use Rattle.std.specs.Prelude.{ℕ, ◌≤◌, ◌≡◌, refl, List, [], get_or, Err, None, Ok, Option, Some, Result}
use Rattle.std.specs.Option.{ok_or}
use Rattle.std.proofs.Common.{subst, inl, inr, ⊎_elim, arith}
use Rattle.tagged.specs.File.{◌>>=◌, answer_of, refusal}
use Rattle.tagged.specs.FileStands.{RefusalTo}
use Rattle.tagged.proofs.Theorems.File.{RefusesTo}
use Rattle.tagged.specs.Refusals.{value_not_listed, zone_not_in_book, bespoke_not_allowed}
use Rattle.tagged.specs.declared.file.Refusal.{Refusal}
use Rattle.rate_book.specs.Book.{book_of}
use Rattle.rate_book.proofs.Theorems.Book.{book_refusal_numbers}
use Rattle.rate_book.specs.declared.book.Book.{Book}
use Rattle.request.specs.Request.{request_of}
use Rattle.request.proofs.Theorems.Request.{request_refusal_numbers}
use Rattle.request.specs.declared.values.Request.{Request}
use Rattle.capacity.specs.Capacity.{first_not_allowed}
use Rattle.charge.specs.Price.{zone_found, tiers_of, if_allowed, values_priced, request_priced, price_of, Pricing}
use Rattle.charge.specs.PriceRefusals.{PricingRefusal}
use Rattle.charge.specs.declared.Bill.{Bill}

abbrev PricingRefuses : Pricing → Type 0
PricingRefuses (Ok bill) = Unit {0}
PricingRefuses (Err r) = PricingRefusal r

if_allowed_lem : (allowed : Option ℕ) (bill : Bill) → PricingRefuses (if_allowed allowed bill)
if_allowed_lem None bill = tt
if_allowed_lem (Some tier) bill = inr (omega arith, omega arith, refl)

in_zone_lem : (zone : Option ℕ) (priced : ℕ → Pricing) → ((zone : ℕ) → PricingRefuses (priced zone)) →
    PricingRefuses (ok_or zone (refusal zone_not_in_book 2 0) >>= priced)
in_zone_lem None priced h = inr (omega arith, omega arith, refl)
in_zone_lem (Some zone) priced h = h zone

if_stands_lem : {Values : Type 0} (file : ℕ) (read : Result Values Refusal) (priced : Values → Pricing) → ((r : Refusal) → RefusalTo value_not_listed file r → PricingRefusal r) →
    RefusesTo value_not_listed file (answer_of read) → ((values : Values) → PricingRefuses (priced values)) → PricingRefuses (read >>= priced)
if_stands_lem file (Ok values) priced told h p = p values
if_stands_lem file (Err r) priced told h p = told r h

values_refusals : (book : Book) (rates : List (List ℕ)) (request : Request) (distribution transmission : ℕ) →
    PricingRefuses (values_priced book rates request distribution transmission)
unfolding values_priced
values_refusals book rates request distribution transmission =
    in_zone_lem (zone_found 0 book.zones book.zone_numbers request.zone) _ (λ zone. if_allowed_lem (first_not_allowed (tiers_of (get_or rates zone []) request)) _)

request_refusals : (book : Book) (rates : List (List ℕ)) (file : List ℕ) → PricingRefuses (request_priced book rates file)
unfolding request_priced
request_refusals book rates file =
    if_stands_lem 2 (request_of 2 file) _ (λ r h. inr (h.0, omega arith, h.2)) (request_refusal_numbers 2 file) (λ request. values_refusals _ _ request _ _)

pricing_refuses : (book_file request_file : List ℕ) → PricingRefuses (price_of book_file request_file)
unfolding price_of
pricing_refuses book_file request_file =
    if_stands_lem 1 (book_of 1 book_file) _ (λ r h. inl h) (book_refusal_numbers 1 book_file) (λ book. request_refusals book _ request_file)

module _ (book_file request_file : List ℕ) (r : Refusal) (refused : price_of book_file request_file ≡ Err r) where
  pub pricing_refusal : PricingRefusal r
  pricing_refusal = subst PricingRefuses refused (pricing_refuses book_file request_file)

  pub pricing_refusal_numbers : (1 ≤ r.number) × (r.number ≤ bespoke_not_allowed)
  pricing_refusal_numbers = ⊎_elim (λ h. (h.0, omega arith)) (λ h. (h.0, h.1)) pricing_refusal
