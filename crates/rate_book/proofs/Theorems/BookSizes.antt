-- A book that walks has values of these lengths.
use Rattle.std.specs.Prelude.{ℕ, ◌<◌, ◌≤◌, List, [], length, get_or}
use Rattle.std.proofs.Common.{arith}
use Rattle.field_walk.specs.Walk.{least_of, neither_form, row_in}
use Rattle.field_walk.specs.FieldsWalk.{FieldsWalk}
use Rattle.tagged.specs.Sized.{Sized}
use Rattle.tagged.proofs.Theorems.FoundFields.{walk_sized}
use Rattle.book_zones.specs.BookRows.{book_rows}
use Rattle.book_zones.specs.Cases.BookRows.{book_rows_rise}
use Rattle.rate_book.specs.BookSizes.{BookSizes}

pub book_sizes : (s : List ℕ) → FieldsWalk book_rows s → BookSizes s
book_sizes s walks =
    let sized : (k : ℕ) → k < length book_rows → 1 ≤ least_of (row_in neither_form (get_or book_rows k [])) → Sized (get_or book_rows k []) s = walk_sized book_rows s book_rows_rise walks in
    record {
      rate = omega (arith, sized 1 (omega arith) (omega arith));
      figures = omega (arith, sized 2 (omega arith) (omega arith));
      distribution = omega (arith, sized 3 (omega arith) (omega arith));
      transmission = omega (arith, sized 4 (omega arith) (omega arith));
      terms = omega (arith, sized 5 (omega arith) (omega arith));
      charged = omega (arith, sized 6 (omega arith) (omega arith));
      terms_within = omega (arith, sized 5 (omega arith) (omega arith));
    }
