-- Document 01, 'How calls end': "Order for a file: 1 for its last five bytes, 2, 1 for the rest, 3 in byte order."
use Rattle.std.specs.Prelude.{ℕ, Err, Ok, Result}
use Rattle.tagged.specs.Refusals.{value_not_listed}
use Rattle.tagged.specs.File.{refusal, FileAnswer}
use Rattle.tagged.specs.declared.file.Refusal.{Refusal}
use Rattle.field_values.specs.Judged.{Judged}

-- what a reading returns, by how its file stands and how its values are judged
abbrev pub reading_of : {Values : Type 0} → ℕ → FileAnswer → Judged → Values → Result Values Refusal
reading_of number (Err r) judged values = Err r
reading_of number (Ok _) (Err at) values = Err (refusal value_not_listed number at)
reading_of number (Ok _) (Ok _) values = Ok values
