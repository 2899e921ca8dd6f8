-- Every field is short.
use Rattle.text_names.specs.declared.table.Kind.TheVariants.{Book, Request}
use Rattle.text_names.proofs.Rows.{short_field, few_rows}
use Rattle.text_names.proofs.table.field_at.Goals as goal

pub returns-in-Book-clause-within : goal.returns-in-Book-clause-within
returns-in-Book-clause-within c = rw c.book_field.ensures (short_field Book c.args.number, few_rows Book c.args.number)

pub returns-in-Request-clause-within : goal.returns-in-Request-clause-within
returns-in-Request-clause-within c = rw c.request_field.ensures (short_field Request c.args.number, few_rows Request c.args.number)
