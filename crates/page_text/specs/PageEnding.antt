-- How the writing of a page ends, by document 01's number and values.
use Rattle.std.specs.Prelude.{[]}
use Rattle.tagged.specs.Ending.{Ending, ending_by}
use Rattle.page_text.specs.Page.{PageWritten}

-- the page's length is always the same, so that no value tells it
abbrev pub page_ending : PageWritten → Ending
page_ending written = ending_by (λ _. []) written
