-- Months as texts have them: `2026-04`, as they are shown; and `2026-04-01`, `Apr-26`, `Apr 2026` and `1/04/2026`, as spreadsheets make dates of them.
use Rattle.std.specs.Prelude.{ℕ, ◌+◌, ◌-◌, ◌*◌, List, [], ◌∷◌, Bool, cond, ◌&&◌, ◌||◌, length, get_or, take, drop, ltb, eqb, codes, Err, Ok}
use Rattle.std.specs.Int.{is_in_range}
use Rattle.std.specs.List.{position_or_len}
use Rattle.std.specs.Str.{all_ascii_digits}
use Rattle.unit_text.specs.Measure.{word_number}
use Rattle.unit_text.specs.Figure.{Reading, is, digits_value}
use Rattle.unit_text.specs.declared.figure.Unread.TheVariants.{NotRead, EitherOf}

-- a month's number, by its year and its number in it from 1 on
abbrev pub month_number : ℕ → ℕ → ℕ
month_number year month = year * 12 + (month - 1)

abbrev pub month_of : ℕ → ℕ → Reading
month_of year month = cond (is_in_range 1 12 month) (Ok (month_number year month)) (Err NotRead)

-- ---- `2026-04` and `2026-04-01`
unfoldable pub is_year_month : List ℕ → Bool
is_year_month s = eqb (length s) 7 && all_ascii_digits (take 4 s) && eqb (get_or s 4 0) 45 && all_ascii_digits (drop 5 s)

abbrev pub year_month : List ℕ → Reading
year_month s = month_of (digits_value (take 4 s)) (digits_value (drop 5 s))

unfoldable pub is_date : List ℕ → Bool
is_date s =
    eqb (length s) 10 && is_year_month (take 7 s) && eqb (get_or s 7 0) 45 && all_ascii_digits (drop 8 s)
    && is_in_range 1 31 (digits_value (drop 8 s))

-- ---- `Apr-26` and `Apr 2026`
unfoldable pub month_names : List (List ℕ)
month_names =
    codes "jan" ∷ codes "feb" ∷ codes "mar" ∷ codes "apr" ∷ codes "may" ∷ codes "jun" ∷
    codes "jul" ∷ codes "aug" ∷ codes "sep" ∷ codes "oct" ∷ codes "nov" ∷ codes "dec" ∷ []

abbrev pub name_number : List ℕ → ℕ
name_number letters = word_number month_names letters

abbrev pub named_size : ℕ → Bool
named_size size = eqb size 6 || eqb size 8

abbrev pub is_mark : ℕ → Bool
is_mark byte = eqb byte 45 || eqb byte 32

unfoldable pub is_named : List ℕ → Bool
is_named s =
    named_size (length s) && is_mark (get_or s 3 0) && all_ascii_digits (drop 4 s)
    && ltb (name_number (take 3 s)) 12

-- two digits are a year of this century
abbrev pub named_year : List ℕ → ℕ
named_year s = cond (eqb (length s) 6) (2000 + digits_value (drop 4 s)) (digits_value (drop 4 s))

abbrev pub named_month : List ℕ → Reading
named_month s = Ok (month_number (named_year s) (name_number (take 3 s) + 1))

-- ---- `1/04/2026`
-- "day first; one that could be read in two ways is refused with both". A month that a spreadsheet made a date has day 1.
abbrev pub day_first : ℕ → ℕ → ℕ → Reading
day_first day month year =
    cond (is_in_range 1 31 day && is_in_range 1 12 month)
    (cond (eqb day 1 || ltb 12 day || eqb day month)
    (Ok (month_number year month))
    (Err (EitherOf (month_number year month) (month_number year day))))
    (Err NotRead)

abbrev pub one_or_two_digits : List ℕ → Bool
one_or_two_digits s = is_in_range 1 2 (length s) && all_ascii_digits s

abbrev pub four_digits : List ℕ → Bool
four_digits s = eqb (length s) 4 && all_ascii_digits s

-- of the parts between the slashes
abbrev pub of_parts : List ℕ → List ℕ → List ℕ → Reading
of_parts day month year =
    cond (one_or_two_digits day && one_or_two_digits month && four_digits year)
    (day_first (digits_value day) (digits_value month) (digits_value year))
    (Err NotRead)

abbrev pub before_slash : List ℕ → List ℕ
before_slash s = take (position_or_len (is 47) s) s

abbrev pub behind_slash : List ℕ → List ℕ
behind_slash s = drop (position_or_len (is 47) s + 1) s

unfoldable pub slashed_month : List ℕ → Reading
slashed_month s = of_parts (before_slash s) (before_slash (behind_slash s)) (behind_slash (behind_slash s))

abbrev pub month_read : List ℕ → Reading
month_read s =
    cond (is_year_month s) (year_month s)
    (cond (is_date s) (year_month (take 7 s))
    (cond (is_named s) (named_month s) (slashed_month s)))
