-- What the moves keep and bring back.
use Rattle.std.specs.Prelude.{ℕ, ◌<◌, ◌≤◌, ◌≡◌, List, map, length, take, Err, Ok}
use Rattle.field_walk.specs.Walk.{value_of}
use Rattle.tagged.specs.Find.{fields_of, fields_with, field_value}
use Rattle.tagged.specs.File.{fields_part, refusal}
use Rattle.tagged.specs.Refusals.{output_too_short}
use Rattle.ledger.specs.Lists.{at_start}
use Rattle.stored.specs.Layout.{past_number, record_values, head_widths, scheme_widths, party_widths}
use Rattle.stored.specs.Writing.{WriteEnd}
use Rattle.stored.specs.declared.form.Form.{Form}
use Rattle.stored.specs.declared.form.Form.TheVariants.{Pion, Pio2}

-- what a move has written
abbrev pub written_of : ℕ → WriteEnd → List ℕ
written_of size end = take size end.output

-- the other move gives these bytes, and refuses with nothing but 14
pub record ComesBack (moves : List ℕ → List ℕ → WriteEnd) (moved file : List ℕ) : Type 0 where
  pub fits : (out : List ℕ) → length file ≤ length out → moves moved out ≡ record { answer = Ok (length file); output = at_start file out }
  pub short : (out : List ℕ) → length out < length file → moves moved out ≡ record { answer = Err (refusal output_too_short 0 0); output = out }

-- ---- "Either way, all that both forms hold stays the same."

-- a file's month, connections and both sums, and the six values of each scheme and of each entry, as its bytes have them
abbrev pub head_held : List ℕ → List ℕ
head_held s = record_values head_widths (field_value 2 s)

abbrev pub schemes_held : Form → List ℕ → List (List ℕ)
schemes_held form s = map (λ f. record_values scheme_widths (past_number form (value_of s f))) (fields_with 3 (fields_of s))

abbrev pub entries_held : Form → List ℕ → List (List ℕ)
entries_held form s = map (λ f. record_values party_widths (past_number form (value_of s f))) (fields_with 4 (fields_of s))

-- of an old file and a new one, by their fields
pub record SameValues (old new : List ℕ) : Type 0 where
  pub head : head_held (fields_part old) ≡ head_held (fields_part new)
  pub schemes : schemes_held Pion (fields_part old) ≡ schemes_held Pio2 (fields_part new)
  pub entries : entries_held Pion (fields_part old) ≡ entries_held Pio2 (fields_part new)
