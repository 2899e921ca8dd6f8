-- What the laws of figures speak of: which numbers a file can hold, and what the digits of a text say.
use Rattle.std.specs.Prelude.{ℕ, ◌+◌, ◌-◌, ◌*◌, ◌^◌, ◌≤◌, ◌≡◌, List, [], ◌∷◌, Bool, true, false, cond, ◌||◌, length, ltb, eqb}
use Rattle.std.specs.Char.{is_ascii_digit}
use Rattle.unit_text.specs.Measure.{words_of}
use Rattle.unit_text.specs.Figure.{digits_value, past_all}
use Rattle.unit_text.specs.Read.{last_is}
use Rattle.unit_text.specs.declared.measure.Measure.{Measure}
use Rattle.unit_text.specs.declared.measure.Measure.TheVariants.{Number, ThousandDollars, Factor, Month, Choice}

-- a number that a file can hold
abbrev pub can_hold : Measure → ℕ → Bool
can_hold Month n = ltb n 65536
can_hold (Choice words) n = ltb n (length (words_of words))
can_hold measure n = ltb n past_all

-- ---- "a text that is read as n of a unit is n of its last decimal by the decimal digits it has"
abbrev pub is_figure_unit : Measure → Bool
is_figure_unit Month = false
is_figure_unit (Choice words) = false
is_figure_unit measure = true

-- how many decimals a number of a unit has where a text says it: a factor in percent has two fewer
abbrev pub decimals_of : Measure → List ℕ → ℕ
decimals_of Number text = 0
decimals_of ThousandDollars text = 0
decimals_of Factor text = cond (last_is 37 text) 2 4
decimals_of measure text = 2

-- how many digits stand behind the first point of a text; `seen` says whether it came before
unfoldable pub digits_behind : Bool → List ℕ → ℕ
digits_behind seen [] = 0
digits_behind seen (byte ∷ rest) =
    cond (is_ascii_digit byte) (cond seen 1 0 + digits_behind seen rest) (digits_behind (seen || eqb byte 46) rest)

pub record SaysExactly (decimals : ℕ) (text : List ℕ) (n : ℕ) : Type 0 where
  pub places : digits_behind false text ≤ decimals
  pub value : n ≡ digits_value text * 10 ^ (decimals - digits_behind false text)
