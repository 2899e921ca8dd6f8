-- What is printed of a page has an answer that is numbered, so that its ending may be promised.
use Rattle.std.specs.Prelude.{ℕ, ◌≡◌, List, Err, Ok}
use Rattle.tagged.specs.EndingTests.{Numbered}
use Rattle.tagged.specs.AnswerPromised.{AnswerPromised}
use Rattle.tagged.proofs.Theorems.Ending.{answer_promise}
use Rattle.slip_text.specs.Slip.{slip_written, SlipWritten}
use Rattle.slip_text.specs.SlipEnding.{slip_ending}
use Rattle.slip_text.proofs.Theorems.SlipEnding.{slip_numbered}
use Rattle.page_text.specs.Page.{page_size, PageWritten}
use Rattle.print_page.specs.PageOrLine.{page_or_line}

line_numbered : (written : PageWritten) (text : List ℕ) → Numbered (page_or_line written (Ok page_size) (λ r. slip_written (Err r) text))
line_numbered (Ok _) text = tt
line_numbered (Err r) text = slip_numbered (Err r) text

pub line_promise : (written : PageWritten) (text : List ℕ) {printed : SlipWritten} → printed ≡ page_or_line written (Ok page_size) (λ r. slip_written (Err r) text) →
    AnswerPromised slip_ending (page_or_line written (Ok page_size) (λ r. slip_written (Err r) text)) printed
line_promise written text = answer_promise slip_ending (line_numbered written text)
