-- A book that is read is within the limits that pricing the request requires, and so are the rates of its zones.
use Rattle.std.proofs.Common.{◌≡◌, Ok, rules}
use Rattle.tagged.specs.File.{file_answer}
use Rattle.book_zones.specs.BookRows.{book_rows}
use Rattle.rate_book.specs.Book.{book_of}
use Rattle.rate_book.proofs.Theorems.Book.{book_judged}
use Rattle.rate_book.proofs.Theorems.BookLimits.{book_within_limits, rates_within_limits}
use Rattle.charge.specs.Price.{price_of}
use Rattle.charge.proofs.Theorems.PriceEnding.{price_promise}
use Rattle.charge.proofs.price.Goals as goal

pub price_request-requires : goal.price_request-requires
price_request-requires c =
    let file = c.args.book.now in
    let stands : file_answer book_rows 1 file ≡ Ok tt = search rules in
    let read : book_of 1 file ≡ Ok c.in_ok-values.values =
    rw (book_judged 1 file stands, ← c.fields_part.ensures.0, ← c.new-book.ensures, ← c.read_walked_book.ensures) c.in_ok-values.was in (
      book_within_limits 1 file read (λ k. (c.type_inv.book k).fits),
      rw (c.zone_rates-rates.ensures, c.new-book.ensures, c.fields_part.ensures.0) (rates_within_limits 1 file read),
    )

pub returns-in_err-values : goal.returns-in_err-values
unfolding price_of book_of
returns-in_err-values c = price_promise c.args.book.now c.args.request.now (search rules)

pub returns : goal.returns
unfolding price_of book_of
returns c = price_promise c.args.book.now c.args.request.now (search rules)
