-- The library's trimming by its words; and how few words are read.
use Rattle.std.specs.Prelude.{ℕ, ◌<◌, ◌≤◌, ◌≡◌, List, length, refl}
use Rattle.std.proofs.Common.{arith}
use Rattle.std.specs.Str.{IsTrimAscii}
use Rattle.std.proofs.lemmas.Str.Ascii.{trim_ascii_is}
use Rattle.unit_text.specs.Measure.{words_of, spellings}
use Rattle.unit_text.specs.Read.{trimmed}
use Rattle.unit_text.specs.declared.measure.Words.{Words}
use Rattle.unit_text.specs.declared.measure.Words.TheVariants.{Forms, YesNo, Classes, Modes, Marks}

pub trimmed_is : (s r : List ℕ) → IsTrimAscii s r → r ≡ trimmed s
unfolding trimmed
trimmed_is s r h = trim_ascii_is s r _ refl h

pub few_spellings : (words : Words) → (length (spellings words) ≤ 4) × (0 < length (words_of words))
unfolding spellings
few_spellings Forms = (omega arith, omega arith)
few_spellings YesNo = (omega arith, omega arith)
few_spellings Classes = (omega arith, omega arith)
few_spellings Modes = (omega arith, omega arith)
few_spellings Marks = (omega arith, omega arith)
