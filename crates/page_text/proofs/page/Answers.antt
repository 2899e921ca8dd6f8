-- The page of a refused pricing is refused as the pricing is.
use Rattle.std.proofs.Common.{rules}
use Rattle.page_text.specs.Page.{page_written}
use Rattle.page_text.proofs.Theorems.PageEnding.{page_promise}
use Rattle.page_text.proofs.page.Goals as goal

pub returns-in_err-bill-clause-answer : goal.returns-in_err-bill-clause-answer
unfolding page_written
returns-in_err-bill-clause-answer c = page_promise c.args.book.now c.args.request.now c.args.out.now (search rules)
