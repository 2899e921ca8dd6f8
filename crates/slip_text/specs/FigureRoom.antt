-- A figure of a line, and how many bytes it has at most.
use Rattle.std.specs.Prelude.{ℕ}
use mathlib.Core.List.{List}
use Rattle.slip_text.specs.declared.Figure.{Figure}
use Rattle.slip_text.specs.declared.Figure.TheVariants.{Unsigned, Signed, Rounded, Exact}
use Rattle.slip_text.specs.Slip.{decimal, signed_decimal, percent_text, exact_text}

-- a figure of a line, by its kind
abbrev pub figure_text : Figure → List ℕ
figure_text (Unsigned n) = decimal n
figure_text (Signed n) = signed_decimal n
figure_text (Rounded p) = percent_text p
figure_text (Exact p) = exact_text p

-- how many bytes a figure has at most: 20 digits and a sign, and of a pair a blank and 20 digits more
abbrev pub figure_room : Figure → ℕ
figure_room (Exact p) = 42
figure_room figure = 21
