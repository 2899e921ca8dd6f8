-- Months in literals: 24,312 is January 2026, and each form has its first and last month, and what is none.
use Rattle.std.specs.Prelude.{◌≡◌, refl, codes, Ok, Err}
use Rattle.unit_text.specs.Measure.{word_number}
use Rattle.unit_text.specs.Figure.{value_after}
use Rattle.unit_text.specs.Month.{month_names, is_year_month, is_date, is_named, slashed_month, month_read}
use Rattle.unit_text.specs.declared.figure.Unread.TheVariants.{NotRead, EitherOf}

-- the text, and what it is
pub months_hold :
    (month_read (codes "2026-04") ≡ Ok 24315)
    × (month_read (codes "0000-01") ≡ Ok 0)
    × (month_read (codes "5461-04") ≡ Ok 65535)
    × (month_read (codes "2026-12") ≡ Ok 24323)
    × (month_read (codes "2026-13") ≡ Err NotRead)
    × (month_read (codes "2026-00") ≡ Err NotRead)
    × (month_read (codes "2026-4") ≡ Err NotRead)
    × (month_read (codes "26-04") ≡ Err NotRead)
    × (month_read (codes "2026-04-01") ≡ Ok 24315)
    × (month_read (codes "2026-04-31") ≡ Ok 24315)
    × (month_read (codes "2026-04-32") ≡ Err NotRead)
    × (month_read (codes "2026-04-00") ≡ Err NotRead)
    × (month_read (codes "2026-13-01") ≡ Err NotRead)
    × (month_read (codes "2026/04/01") ≡ Err NotRead)
    × (month_read (codes "Apr-26") ≡ Ok 24315)
    × (month_read (codes "APR 2026") ≡ Ok 24315)
    × (month_read (codes "apr-2026") ≡ Ok 24315)
    × (month_read (codes "Jan 26") ≡ Ok 24312)
    × (month_read (codes "Dec-2026") ≡ Ok 24323)
    × (month_read (codes "Apx-26") ≡ Err NotRead)
    × (month_read (codes "April 26") ≡ Err NotRead)
    × (month_read (codes "Apr-026") ≡ Err NotRead)
    × (month_read (codes "Apr.26") ≡ Err NotRead)
    × (month_read (codes "26-Apr") ≡ Err NotRead)
    × (month_read (codes "1/04/2026") ≡ Ok 24315)
    × (month_read (codes "01/04/2026") ≡ Ok 24315)
    × (month_read (codes "1/4/2026") ≡ Ok 24315)
    × (month_read (codes "13/04/2026") ≡ Ok 24315)
    × (month_read (codes "31/12/2026") ≡ Ok 24323)
    × (month_read (codes "32/04/2026") ≡ Err NotRead)
    × (month_read (codes "4/4/2026") ≡ Ok 24315)
    × (month_read (codes "4/1/2026") ≡ Err (EitherOf 24312 24315))
    × (month_read (codes "2/04/2026") ≡ Err (EitherOf 24315 24313))
    × (month_read (codes "12/04/2026") ≡ Err (EitherOf 24315 24323))
    × (month_read (codes "04/13/2026") ≡ Err NotRead)
    × (month_read (codes "1/04/26") ≡ Err NotRead)
    × (month_read (codes "1/04") ≡ Err NotRead)
    × (month_read (codes "1//2026") ≡ Err NotRead)
    × (month_read (codes "0/04/2026") ≡ Err NotRead)
    × (month_read (codes "1/0/2026") ≡ Err NotRead)
    × (month_read (codes "001/04/2026") ≡ Err NotRead)
    × (month_read (codes "") ≡ Err NotRead)
unfolding word_number value_after month_names is_year_month is_date is_named slashed_month
months_hold = (refl, refl, refl, refl, refl, refl, refl, refl, refl, refl, refl, refl, refl, refl, refl, refl, refl, refl, refl, refl, refl, refl, refl, refl, refl, refl, refl, refl, refl, refl, refl, refl, refl, refl, refl, refl, refl, refl, refl, refl, refl, refl)
