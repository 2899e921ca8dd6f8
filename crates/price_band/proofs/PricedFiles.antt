-- Book and request of a request that is priced: their fields walk, the values read are within their limits, and with the bill's costs they make the band.
use Rattle.std.proofs.Common.{ℕ, List, ◌≡◌, Ok, subst, ap₂, ◌∙◌}
use Rattle.numbers.specs.BigEndian.{Bytes}
use Rattle.field_walk.specs.FieldsWalk.{FieldsWalk}
use Rattle.tagged.specs.File.{fields_part}
use Rattle.book_zones.specs.BookRows.{book_rows}
use Rattle.rate_book.specs.Book.{book_values}
use Rattle.rate_book.specs.BookLimits.{BookWithin}
use Rattle.rate_book.proofs.Theorems.Book.{book_walks, accepted_stands, read_is_accepted, book_is_values}
use Rattle.rate_book.proofs.Theorems.BookLimits.{book_within_limits}
use Rattle.rate_book.specs.declared.book.Book.{Book}
use Rattle.request.specs.Request.{request_values}
use Rattle.request.specs.RequestLimits.{RequestWithin}
use Rattle.request.specs.RequestRows.{request_rows}
use Rattle.request.proofs.Theorems.Request.{request_walks, read_accepted, request_is_values}
use Rattle.request.proofs.Theorems.RequestLimits.{request_within_limits}
use Rattle.request.specs.declared.values.Request.{Request}
use Rattle.reconciliation.specs.CostLimits.{CostsWithin}
use Rattle.reconciliation.specs.declared.Costs.{Costs}
use Rattle.charge.specs.Price.{price_of}
use Rattle.charge.proofs.Theorems.Bill.{PricedBy, priced_by}
use Rattle.charge.specs.declared.Bill.{Bill}
use Rattle.price_band.specs.PriceBand.{band_between, band_at_ends}
use Rattle.price_band.specs.EndCosts.{end_costs, end_reconciliation}
use Rattle.price_band.specs.declared.Bands.{Bands}
use Rattle.price_band.specs.declared.Band.{Band}
use Rattle.price_band.proofs.Theorems.PriceBand.{ends_by_costs, end_costs_within}

-- the band between the reconciliations at both ends
abbrev pub band_from : Book → Request → Costs → Bands → Band
band_from book request costs bands =
    band_between (end_reconciliation book request costs bands.distribution_low bands.transmission_low)
    (end_reconciliation book request costs bands.distribution_high bands.transmission_high)

module _ (book request : List ℕ) (bill : Bill) (priced : price_of book request ≡ Ok bill) where
  by : PricedBy book request bill
  by = priced_by book request bill priced

  pub book_part_walks : FieldsWalk book_rows (fields_part book)
  book_part_walks = book_walks 1 book (accepted_stands 1 book (read_is_accepted 1 book by.book_accepted))

  pub request_part_walks : FieldsWalk request_rows (fields_part request)
  request_part_walks = request_walks 2 request (read_accepted 2 request by.request_accepted).stands

  book_read : by.book ≡ book_values (fields_part book)
  book_read = book_is_values 1 book by.book_accepted

  request_read : by.request ≡ request_values (fields_part request)
  request_read = request_is_values 2 request by.request_accepted

  pub ends_within : Bytes book → Bytes request →
      BookWithin (book_values (fields_part book)) × RequestWithin (request_values (fields_part request)) × CostsWithin (end_costs bill.reconciliation)
  ends_within book_bytes request_bytes = (
    subst BookWithin book_read (book_within_limits 1 book by.book_accepted book_bytes),
    subst RequestWithin request_read (request_within_limits 2 request request_bytes by.request_accepted),
    end_costs_within book request by request_bytes,
  )

  pub band_of_values : (bands : Bands) →
      band_at_ends book request bands ≡ Ok (band_from (book_values (fields_part book)) (request_values (fields_part request)) (end_costs bill.reconciliation) bands)
  band_of_values bands =
      ends_by_costs book request by bands ∙ ap₂ (λ (b : Book) (r : Request). Ok (band_from b r (end_costs bill.reconciliation) bands)) book_read request_read
