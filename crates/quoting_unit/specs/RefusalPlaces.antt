-- Document 01, 'How calls end', "Place": an offset within the file, or a tier. A refusal whose place is at most a file's size.
use Rattle.std.specs.Prelude.{ℕ, ◌≤◌, Err, Ok}
use Rattle.tagged.specs.declared.file.Refusal.{Refusal}
use Rattle.tagged.specs.File.{FileAnswer}

-- ---- files: the place of a refusal

-- a refusal of one of the files, at a place up to `size`
abbrev pub PlacedBy : ℕ → Refusal → Type 0
PlacedBy size r = (r.file ≤ 2) × (r.place ≤ size)

abbrev pub FileAnswerBy : ℕ → FileAnswer → Type 0
FileAnswerBy size (Ok _) = Unit {0}
FileAnswerBy size (Err r) = PlacedBy size r
