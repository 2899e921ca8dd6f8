-- Every row is small.
use Rattle.text_names.specs.declared.table.Kind.TheVariants.{Book, Request}
use Rattle.text_names.proofs.Rows.{few_alike, near_place, known_width}
use Rattle.text_names.proofs.table.row_at.Goals as goal

pub returns-in-Book-clause-within : goal.returns-in-Book-clause-within
returns-in-Book-clause-within c = rw c.book_row.ensures (few_alike Book c.args.number, near_place Book c.args.number)

pub returns-in-Book-clause-width : goal.returns-in-Book-clause-width
returns-in-Book-clause-width c = rw c.book_row.ensures (known_width Book c.args.number)

pub returns-in-Request-clause-within : goal.returns-in-Request-clause-within
returns-in-Request-clause-within c = rw c.request_row.ensures (few_alike Request c.args.number, near_place Request c.args.number)

pub returns-in-Request-clause-width : goal.returns-in-Request-clause-width
returns-in-Request-clause-width c = rw c.request_row.ensures (known_width Request c.args.number)
