-- A book and a request that were read lie within document 01's limits, which is what `bounds_of` requires.
use Rattle.std.proofs.Common.{sym, ◌∙◌}
use Rattle.rate_book.proofs.Theorems.BookLimits.{book_within_limits}
use Rattle.request.proofs.Theorems.RequestLimits.{request_within_limits}
use Rattle.printed_figures.proofs.tolerance.read_bounds.Goals as goal

pub bounds_of-requires : goal.bounds_of-requires
bounds_of-requires c = (
  book_within_limits 1 c.args.book.now (sym c.read_book.ensures ∙ c.in_ok-book.was) (λ k. (c.type_inv.book k).fits),
  request_within_limits 2 c.args.request.now (λ k. (c.type_inv.request k).fits) (sym c.read_request.ensures ∙ c.in_ok-request.was),
)
