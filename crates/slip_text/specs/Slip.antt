-- Document 01, 'The slip': "It writes, each line ended by byte 0A, cents, then the three percentages". "“none” is written `-`; a negative figure starts
-- with `-`." "A refusal is the one line `REFUSED n file place`." Document 02, E10: "The slip gains three lines after NCRATIO, named RELIANCE-R, UPFRONT-R and
-- NCRATIO-R, each with quotient, a blank, remainder; `-` where the divisor is 0."
use Rattle.std.specs.Prelude.{ℕ, zero, suc, ◌+◌, ◌/◌, ◌%◌, length, drop, ℤ, pos, negsuc, Err, None, Ok, Some, Result, if◌then◌else◌, nat_lt}
use mathlib.Core.List.{List, [], ◌∷◌, ◌++◌, flatten}
use Rattle.tagged.specs.File.{refusal}
use Rattle.tagged.specs.Refusals.{output_too_short}
use Rattle.tagged.specs.declared.file.Refusal.{Refusal}
use Rattle.reconciliation.specs.Percent.{Percent}
use Rattle.reconciliation.specs.declared.Reconciliation.{Reconciliation}
use Rattle.charge.specs.Price.{Pricing}

-- how many bytes were written, or the refusal
abbrev pub SlipWritten : Type 0
SlipWritten = Result ℕ Refusal

-- decimal digits without leading zeros; `most` bounds their number
unfoldable pub decimal_from : ℕ → ℕ → List ℕ
decimal_from zero n = []
decimal_from (suc most) n =
    let higher = decimal_from most (n / 10) in
    if nat_lt n 10 then (48 + n) ∷ [] else higher ++ ((48 + n % 10) ∷ [])

-- a number of up to 64 bits has at most 20 digits
abbrev pub decimal : ℕ → List ℕ
decimal n = decimal_from 20 n

-- "a negative figure starts with `-`"
abbrev pub signed_decimal : ℤ → List ℕ
signed_decimal (pos n) = decimal n
signed_decimal (negsuc n) = 45 ∷ decimal (suc n)

-- "none" is written `-`
abbrev pub percent_text : Percent → List ℕ
percent_text (Some p) = signed_decimal p.rounded
percent_text None = 45 ∷ []

-- "quotient, a blank, remainder; `-` where the divisor is 0"
abbrev pub exact_text : Percent → List ℕ
exact_text (Some p) = signed_decimal p.quotient ++ (32 ∷ decimal p.remainder)
exact_text None = 45 ∷ []

-- a label, a blank, the figure, byte 0A
abbrev pub line : List ℕ → List ℕ → List ℕ
line label figure = label ++ (32 ∷ (figure ++ (10 ∷ [])))

-- CC, IC, IR, NIC, NC, RELIANCE, UPFRONT, NCRATIO
abbrev pub figure_lines : Reconciliation → List (List ℕ)
figure_lines r =
    line (67 ∷ 67 ∷ []) (decimal r.cc) ∷
    line (73 ∷ 67 ∷ []) (decimal r.ic) ∷
    line (73 ∷ 82 ∷ []) (decimal r.ir) ∷
    line (78 ∷ 73 ∷ 67 ∷ []) (signed_decimal r.nic) ∷
    line (78 ∷ 67 ∷ []) (signed_decimal r.nc) ∷
    line (82 ∷ 69 ∷ 76 ∷ 73 ∷ 65 ∷ 78 ∷ 67 ∷ 69 ∷ []) (percent_text r.reliance) ∷
    line (85 ∷ 80 ∷ 70 ∷ 82 ∷ 79 ∷ 78 ∷ 84 ∷ []) (percent_text r.upfront) ∷
    line (78 ∷ 67 ∷ 82 ∷ 65 ∷ 84 ∷ 73 ∷ 79 ∷ []) (percent_text r.nc_ratio) ∷
    []

-- RELIANCE-R, UPFRONT-R, NCRATIO-R
abbrev pub exact_lines : Reconciliation → List (List ℕ)
exact_lines r =
    line (82 ∷ 69 ∷ 76 ∷ 73 ∷ 65 ∷ 78 ∷ 67 ∷ 69 ∷ 45 ∷ 82 ∷ []) (exact_text r.reliance) ∷
    line (85 ∷ 80 ∷ 70 ∷ 82 ∷ 79 ∷ 78 ∷ 84 ∷ 45 ∷ 82 ∷ []) (exact_text r.upfront) ∷
    line (78 ∷ 67 ∷ 82 ∷ 65 ∷ 84 ∷ 73 ∷ 79 ∷ 45 ∷ 82 ∷ []) (exact_text r.nc_ratio) ∷
    []

abbrev pub reconciliation_lines : Reconciliation → List (List ℕ)
reconciliation_lines r = figure_lines r ++ exact_lines r

-- REFUSED n file place
abbrev pub refusal_text : Refusal → List ℕ
refusal_text r =
    line (82 ∷ 69 ∷ 70 ∷ 85 ∷ 83 ∷ 69 ∷ 68 ∷ []) (decimal r.number ++ (32 ∷ (decimal r.file ++ (32 ∷ decimal r.place))))

unfoldable pub slip_of : Pricing → List ℕ
slip_of (Ok bill) = flatten (reconciliation_lines bill.reconciliation)
slip_of (Err r) = refusal_text r

-- The slip in a lent buffer: its length, and the buffer with the slip at its start; refused where the buffer is shorter, and the buffer as it was.
abbrev pub slip_written : Pricing → List ℕ → SlipWritten
slip_written pricing out = if nat_lt (length out) (length (slip_of pricing)) then Err (refusal output_too_short 0 0) else Ok (length (slip_of pricing))

abbrev pub slip_buffer : Pricing → List ℕ → List ℕ
slip_buffer pricing out = if nat_lt (length out) (length (slip_of pricing)) then out else slip_of pricing ++ drop (length (slip_of pricing)) out
