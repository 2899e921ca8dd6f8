-- A text as a number of a unit, with the signs and the habits of spreadsheets.
use Rattle.std.specs.Prelude.{ℕ, ◌-◌, ◌*◌, ◌%◌, List, Bool, true, false, cond, ◌&&◌, length, get_or, take, drop, ltb, leb, eqb, codes, Err, Ok}
use Rattle.std.specs.Char.{is_ascii_whitespace}
use Rattle.std.specs.List.{prefix_len, suffix_len}
use Rattle.std.specs.Str.{str_eq_ignore_ascii_case}
use Rattle.unit_text.specs.Measure.{words_of, spellings, word_number}
use Rattle.unit_text.specs.Figure.{Reading, figure_of}
use Rattle.unit_text.specs.Month.{month_read}
use Rattle.unit_text.specs.declared.figure.Unread.TheVariants.{NotRead, BelowZero, EitherOf}
use Rattle.unit_text.specs.declared.measure.Words.{Words}
use Rattle.unit_text.specs.declared.measure.Measure.{Measure}
use Rattle.unit_text.specs.declared.measure.Measure.TheVariants.{Number, Dollars, DollarsPerKva, ThousandDollars, Kva, Percent, Factor, Month, Choice}

-- without the white space about it
abbrev pub trimmed_front : List ℕ → List ℕ
trimmed_front s = drop (prefix_len is_ascii_whitespace s) s

unfoldable pub trimmed : List ℕ → List ℕ
trimmed s = take (length (trimmed_front s) - suffix_len is_ascii_whitespace (trimmed_front s)) (trimmed_front s)

abbrev pub first_is : ℕ → List ℕ → Bool
first_is byte s = eqb (get_or s 0 0) byte

abbrev pub last_is : ℕ → List ℕ → Bool
last_is byte s = eqb (get_or s (length s - 1) 0) byte

abbrev pub without_first : List ℕ → List ℕ
without_first s = trimmed (drop 1 s)

abbrev pub without_last : List ℕ → List ℕ
without_last s = trimmed (take (length s - 1) s)

-- ---- figures below 0
-- no value is: 0 alone is read
abbrev pub negative : Reading → Reading
negative (Ok n) = cond (eqb n 0) (Ok 0) (Err BelowZero)
negative (Err unread) = Err unread

-- a figure, of money with a dollar sign before it or none
abbrev pub unsigned : Bool → ℕ → List ℕ → Reading
unsigned money decimals s = figure_of decimals (cond (money && first_is 36 s) (without_first s) s)

-- "accounting's brackets for .. below 0", or a minus
abbrev pub signed : Bool → ℕ → List ℕ → Reading
signed money decimals s =
    cond (first_is 45 s) (negative (unsigned money decimals (without_first s)))
    (cond (first_is 40 s && last_is 41 s) (negative (unsigned money decimals (without_last (drop 1 s))))
    (unsigned money decimals s))

-- ---- each unit's signs
-- "`$-` .. for 0"
abbrev pub is_dash : List ℕ → Bool
is_dash s = eqb (length s) 1 && first_is 45 s

abbrev pub money_read : List ℕ → Reading
money_read s = cond (first_is 36 s && is_dash (without_first s)) (Ok 0) (signed true 2 s)

-- "`150 kVA`"
abbrev pub ends_in_kva : List ℕ → Bool
ends_in_kva s = leb 3 (length s) && str_eq_ignore_ascii_case (drop (length s - 3) s) (codes "kva")

abbrev pub kva_read : List ℕ → Reading
kva_read s = signed false 2 (cond (ends_in_kva s) (trimmed (take (length s - 3) s)) s)

-- "A share or a rate below 1 without a percent sign is refused with both readings": as a percentage, and as a fraction of 1.
abbrev pub not_a_fraction : Reading → Reading
not_a_fraction (Ok n) = cond (ltb 0 n && ltb n 100) (Err (EitherOf n (n * 100))) (Ok n)
not_a_fraction (Err unread) = Err unread

abbrev pub percent_read : List ℕ → Reading
percent_read s = cond (last_is 37 s) (signed false 2 (without_last s)) (not_a_fraction (signed false 2 s))

-- "`110%` for a factor": of the four decimals a percentage has two
abbrev pub factor_read : List ℕ → Reading
factor_read s = cond (last_is 37 s) (signed false 2 (without_last s)) (signed false 4 s)

-- ---- words
abbrev pub spelling_number : Words → List ℕ → ℕ
spelling_number words s = word_number (spellings words) s

abbrev pub choice_read : Words → List ℕ → Reading
choice_read words s =
    cond (ltb (spelling_number words s) (length (spellings words))) (Ok (spelling_number words s % length (words_of words))) (Err NotRead)

-- ---- all
abbrev pub read : Measure → List ℕ → Reading
read Number s = signed false 0 s
read Dollars s = money_read s
read DollarsPerKva s = money_read s
read ThousandDollars s = signed false 0 s
read Kva s = kva_read s
read Percent s = percent_read s
read Factor s = factor_read s
read Month s = month_read s
read (Choice words) s = choice_read words s
