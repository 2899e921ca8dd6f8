-- Shown numbers in literals.
use Rattle.std.specs.Prelude.{◌≡◌, refl, codes}
use Rattle.text_output.specs.Digits.{decimal_from, last_digits}
use Rattle.unit_text.specs.Shown.{shown}
use Rattle.unit_text.specs.declared.measure.Words.TheVariants.{Forms, YesNo, Classes, Modes, Marks}
use Rattle.unit_text.specs.declared.measure.Measure.TheVariants.{Number, Dollars, DollarsPerKva, ThousandDollars, Kva, Percent, Factor, Month, Choice}

-- the unit, the number, and its text
pub shown_hold :
    (shown Number 0 ≡ codes "0")
    × (shown Number 65535 ≡ codes "65535")
    × (shown Number 4294967295 ≡ codes "4294967295")
    × (shown Dollars 0 ≡ codes "0.00")
    × (shown Dollars 5 ≡ codes "0.05")
    × (shown Dollars 99 ≡ codes "0.99")
    × (shown Dollars 100 ≡ codes "1.00")
    × (shown Dollars 5000000 ≡ codes "50000.00")
    × (shown DollarsPerKva 8500 ≡ codes "85.00")
    × (shown ThousandDollars 1234 ≡ codes "1234")
    × (shown Kva 150 ≡ codes "1.50")
    × (shown Kva 15000 ≡ codes "150.00")
    × (shown Percent 0 ≡ codes "0.00")
    × (shown Percent 1 ≡ codes "0.01%")
    × (shown Percent 65 ≡ codes "0.65%")
    × (shown Percent 99 ≡ codes "0.99%")
    × (shown Percent 100 ≡ codes "1.00")
    × (shown Percent 6500 ≡ codes "65.00")
    × (shown Percent 10000 ≡ codes "100.00")
    × (shown Factor 0 ≡ codes "0.0000")
    × (shown Factor 1 ≡ codes "0.0001")
    × (shown Factor 10000 ≡ codes "1.0000")
    × (shown Factor 40000 ≡ codes "4.0000")
    × (shown Month 0 ≡ codes "0000-01")
    × (shown Month 24315 ≡ codes "2026-04")
    × (shown Month 24323 ≡ codes "2026-12")
    × (shown Month 65535 ≡ codes "5461-04")
    × (shown (Choice Forms) 0 ≡ codes "1")
    × (shown (Choice Forms) 1 ≡ codes "2")
    × (shown (Choice YesNo) 0 ≡ codes "no")
    × (shown (Choice YesNo) 1 ≡ codes "yes")
    × (shown (Choice Classes) 0 ≡ codes "residential")
    × (shown (Choice Classes) 1 ≡ codes "non-residential")
    × (shown (Choice Classes) 2 ≡ codes "special pricing")
    × (shown (Choice Modes) 0 ≡ codes "posted")
    × (shown (Choice Modes) 1 ≡ codes "extension-like")
    × (shown (Choice Modes) 2 ≡ codes "bespoke")
    × (shown (Choice Marks) 0 ≡ codes "none")
    × (shown (Choice Marks) 1 ≡ codes "opted out in writing")
    × (shown (Choice Marks) 2 ≡ codes "real estate")
    × (shown (Choice Marks) 3 ≡ codes "")
unfolding decimal_from last_digits
shown_hold = (refl, refl, refl, refl, refl, refl, refl, refl, refl, refl, refl, refl, refl, refl, refl, refl, refl, refl, refl, refl, refl, refl, refl, refl, refl, refl, refl, refl, refl, refl, refl, refl, refl, refl, refl, refl, refl, refl, refl, refl, refl)
