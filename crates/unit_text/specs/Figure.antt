-- Figures: "No figure is rounded: more decimals than the unit has are a fault." A figure is a whole number of the last of its unit's decimals.
use Rattle.std.specs.Prelude.{ℕ, ◌+◌, ◌-◌, ◌*◌, ◌%◌, ◌^◌, List, [], ◌∷◌, Bool, true, false, cond, ◌&&◌, ◌||◌, length, take, drop, ltb, eqb, Err, Ok, Result}
use mathlib.Core.List.{foldl}
use Rattle.std.specs.Char.{is_ascii_digit}
use Rattle.std.specs.List.{position_or_len}
use Rattle.std.specs.Str.{all_ascii_digits}
use Rattle.unit_text.specs.declared.figure.Unread.{Unread}
use Rattle.unit_text.specs.declared.figure.Unread.TheVariants.{NotRead, Decimals, PastAll}

-- a number of the unit's last decimal, or why the text is none
abbrev pub Reading : Type 0
Reading = Result ℕ Unread

abbrev pub is : ℕ → ℕ → Bool
is byte other = eqb other byte

-- ---- what the digits say

-- after one more byte: a digit counts ten times what stands before it, any other byte nothing
abbrev pub after_byte : ℕ → ℕ → ℕ
after_byte n byte = cond (is_ascii_digit byte) (n * 10 + (byte - 48)) n

unfoldable pub value_after : ℕ → List ℕ → ℕ
value_after n text = foldl after_byte n text

-- what the digits of a text come to, whatever stands between them
abbrev pub digits_value : List ℕ → ℕ
digits_value text = value_after 0 text

-- how many bytes stand behind the point
abbrev pub places : List ℕ → ℕ
places text = length text - position_or_len (is 46) text - 1

-- ---- the form of a figure

-- a separator before each three last digits, and no other: "`50 000` and `50,000`"
unfoldable pub is_grouped : ℕ → List ℕ → Bool
is_grouped separator [] = true
is_grouped separator (byte ∷ rest) =
    cond (eqb (length (byte ∷ rest) % 4) 0) (eqb byte separator) (is_ascii_digit byte) && is_grouped separator rest

-- a whole number begins with a digit
abbrev pub is_whole : List ℕ → Bool
is_whole [] = false
is_whole (byte ∷ rest) =
    is_ascii_digit byte && (all_ascii_digits (byte ∷ rest) || is_grouped 44 (byte ∷ rest) || is_grouped 32 (byte ∷ rest))

abbrev pub is_filled : List ℕ → Bool
is_filled [] = false
is_filled (byte ∷ rest) = true

-- a whole number; or one, a point and at least one decimal
abbrev pub is_figure : List ℕ → Bool
is_figure text =
    let before = position_or_len (is 46) text in
    let decimals = drop (before + 1) text in
    cond (eqb before (length text)) (is_whole text) (is_whole (take before text) && is_filled decimals && all_ascii_digits decimals)

-- ---- its number

-- no value has more than 32 bits
abbrev pub past_all : ℕ
past_all = 4294967296

abbrev pub bounded : ℕ → Reading
bounded n = cond (ltb n past_all) (Ok n) (Err PastAll)

-- the figure that a text is, as a number of the last of so many decimals
abbrev pub figure_of : ℕ → List ℕ → Reading
figure_of decimals text =
    cond (is_figure text)
    (cond (ltb decimals (places text)) (Err Decimals) (bounded (digits_value text * 10 ^ (decimals - places text))))
    (Err NotRead)
