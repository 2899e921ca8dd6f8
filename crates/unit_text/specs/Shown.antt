-- A number as a text has it.
use Rattle.std.specs.Prelude.{ℕ, ◌+◌, ◌/◌, ◌%◌, ◌^◌, List, [], ◌∷◌, ◌++◌, cond, ◌&&◌, get_or, ltb, codes}
use Rattle.text_output.specs.Digits.{decimal, last_digits, grouped}
use Rattle.unit_text.specs.Measure.{words_of}
use Rattle.unit_text.specs.declared.measure.Measure.{Measure}
use Rattle.unit_text.specs.declared.measure.Measure.TheVariants.{Number, Dollars, DollarsPerKva, ThousandDollars, Kva, Percent, Factor, Month, Choice}

-- a number of the last of so many decimals
abbrev pub pointed : ℕ → ℕ → List ℕ
pointed decimals n = decimal (n / 10 ^ decimals) ++ (46 ∷ last_digits decimals n)

-- A percentage above 0 and below 1 has its sign: without it, it could be a fraction of 1.
abbrev pub percent_text : ℕ → List ℕ
percent_text n = cond (ltb 0 n && ltb n 100) (pointed 2 n ++ (37 ∷ [])) (pointed 2 n)

-- year × 12 + (month − 1), as `2026-04`
abbrev pub month_text : ℕ → List ℕ
month_text n = last_digits 4 (n / 12) ++ (45 ∷ last_digits 2 (n % 12 + 1))

abbrev pub shown : Measure → ℕ → List ℕ
shown Number n = decimal n
shown Dollars n = pointed 2 n
shown DollarsPerKva n = pointed 2 n
shown ThousandDollars n = decimal n
shown Kva n = pointed 2 n
shown Percent n = percent_text n
shown Factor n = pointed 4 n
shown Month n = month_text n
shown (Choice words) n = get_or (words_of words) n []

-- ---- as a sentence has it
-- where there are decimals, with a comma between thousands
abbrev pub said_pointed : ℕ → ℕ → List ℕ
said_pointed decimals n = grouped (n / 10 ^ decimals) ++ (46 ∷ last_digits decimals n)

abbrev pub said : Measure → ℕ → List ℕ
said Number n = decimal n
said Dollars n = said_pointed 2 n
said DollarsPerKva n = said_pointed 2 n
said ThousandDollars n = decimal n
said Kva n = said_pointed 2 n
said Percent n = said_pointed 2 n
said Factor n = said_pointed 4 n
said Month n = month_text n
said (Choice words) n = get_or (words_of words) n []

-- how many decimals a unit has
abbrev pub unit_decimals : Measure → ℕ
unit_decimals Dollars = 2
unit_decimals DollarsPerKva = 2
unit_decimals Kva = 2
unit_decimals Percent = 2
unit_decimals Factor = 4
unit_decimals measure = 0

-- its name behind a number
abbrev pub unit_name : Measure → List ℕ
unit_name Dollars = codes "dollars"
unit_name DollarsPerKva = codes "dollars per kVA"
unit_name ThousandDollars = codes "thousand dollars"
unit_name Kva = codes "kVA"
unit_name Percent = codes "percent"
unit_name measure = []
