-- What holds of every text of a file.
use Rattle.std.specs.Prelude.{ℕ, ◌≤◌, ◌≡◌, List, length, Err}
use Rattle.tagged.specs.declared.file.Refusal.{Refusal}
use Rattle.text_names.specs.declared.table.Kind.{Kind}
use Rattle.text_shown.specs.Lines.{file_text}
use Rattle.text_shown.specs.Show.{longest_text, show_written, show_output}

-- no text is longer than the longest
abbrev pub ShownFits : Type 0
ShownFits = (kind : Kind) (s : List ℕ) → length (file_text kind s) ≤ longest_text

-- a refused show leaves the output as it was
abbrev pub RefusedShowChangesNothing : Type 0
RefusedShowChangesNothing = (file out : List ℕ) (r : Refusal) → show_written file out ≡ Err r → show_output file out ≡ out
