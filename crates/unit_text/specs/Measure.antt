-- The words of those values that are one of a few, in the order of their numbers.
use Rattle.std.specs.Prelude.{ℕ, List, [], ◌∷◌, ◌++◌, codes}
use Rattle.std.specs.List.{position_or_len}
use Rattle.std.specs.Str.{str_eq_ignore_ascii_case}
use Rattle.unit_text.specs.declared.measure.Words.{Words}
use Rattle.unit_text.specs.declared.measure.Words.TheVariants.{Forms, YesNo, Classes, Modes, Marks}

abbrev pub words_of : Words → List (List ℕ)
words_of Forms = codes "1" ∷ codes "2" ∷ []
words_of YesNo = codes "no" ∷ codes "yes" ∷ []
words_of Classes = codes "residential" ∷ codes "non-residential" ∷ codes "special pricing" ∷ []
words_of Modes = codes "posted" ∷ codes "extension-like" ∷ codes "bespoke" ∷ []
words_of Marks = codes "none" ∷ codes "opted out in writing" ∷ codes "real estate" ∷ []

-- what a spreadsheet makes of no and yes
abbrev pub also_read : Words → List (List ℕ)
also_read YesNo = codes "false" ∷ codes "true" ∷ []
also_read words = []

-- every word that is read, in the order of the numbers and in that order once more
unfoldable pub spellings : Words → List (List ℕ)
spellings words = words_of words ++ also_read words

-- which of these words a text is, in letters of either case; their number where it is none
unfoldable pub word_number : List (List ℕ) → List ℕ → ℕ
word_number words s = position_or_len (λ word. str_eq_ignore_ascii_case word s) words
