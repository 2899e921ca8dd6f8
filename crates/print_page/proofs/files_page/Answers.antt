-- What the page promises tells its answer.
use Rattle.std.proofs.Common.{ap₂, ◌∙◌}
use Rattle.charge.specs.Price.{price_of}
use Rattle.page_text.specs.Page.{page_written}
use Rattle.page_text.proofs.Theorems.PageEnding.{promised_page}
use Rattle.print_page.proofs.files_page.Goals as goal

pub returns-clause-value : goal.returns-clause-value
returns-clause-value c =
    promised_page _ _ _ _ c.page.ensures.answer
    ∙ ap₂ (λ book request. page_written (price_of book request) c.args.out.now) c.counted.ensures.0 c.counted-2.ensures.0
