-- What is printed of a page: the page, or the line of its refusal where it isn't written.
use Rattle.std.specs.Prelude.{Err, Ok}
use Rattle.tagged.specs.declared.file.Refusal.{Refusal}
use Rattle.page_text.specs.Page.{PageWritten}

abbrev pub page_or_line : {A : Type 0} → PageWritten → A → (Refusal → A) → A
page_or_line (Ok _) page line = page
page_or_line (Err r) page line = line r
