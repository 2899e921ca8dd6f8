-- What holds of every figure and every text.
use Rattle.std.specs.Prelude.{ℕ, ◌≡◌, List, true, Ok}
use Rattle.unit_text.specs.Shown.{shown}
use Rattle.unit_text.specs.Read.{read}
use Rattle.unit_text.specs.ExactFigures.{can_hold, is_figure_unit, decimals_of, SaysExactly}
use Rattle.unit_text.specs.declared.measure.Measure.{Measure}

-- "for each unit every number that a file can hold is shown as a text that reads as that number"
abbrev pub FigureReadsBack : Type 0
FigureReadsBack = (measure : Measure) (n : ℕ) → can_hold measure n ≡ true → read measure (shown measure n) ≡ Ok n

-- "a text that is read as n of a unit is n of its last decimal by the decimal digits it has"
abbrev pub FigureExact : Type 0
FigureExact =
    (measure : Measure) (text : List ℕ) (n : ℕ) → is_figure_unit measure ≡ true → read measure text ≡ Ok n →
    SaysExactly (decimals_of measure text) text n
