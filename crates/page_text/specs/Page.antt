-- Document 02, E1, "The reconciliation as a page": the bytes that are written for a pricing.
use Rattle.std.specs.Prelude.{ℕ, zero, suc, ◌+◌, ◌-◌, ◌/◌, ◌%◌, length, drop, replicate, ℤ, pos, negsuc, Err, Ok, Result, if◌then◌else◌, nat_lt}
use mathlib.Core.List.{List, [], ◌∷◌, ◌++◌, flatten}
use Rattle.tagged.specs.File.{refusal}
use Rattle.tagged.specs.Refusals.{output_too_short}
use Rattle.reconciliation.specs.declared.Reconciliation.{Reconciliation}
use Rattle.charge.specs.Price.{Pricing}
use Rattle.tagged.specs.declared.file.Refusal.{Refusal}

-- the page is written, or refused
abbrev pub PageWritten : Type 0
PageWritten = Result (Unit {0}) Refusal

-- the last decimal digit of n
abbrev pub digit : ℕ → ℕ
digit n = 48 + n % 10

-- the last three, before what follows them
abbrev pub three_digits_of : ℕ → List ℕ → List ℕ
three_digits_of n behind = digit (n / 100) ∷ digit (n / 10) ∷ digit n ∷ behind

-- one to three digits, without a leading zero
abbrev pub first_group : ℕ → List ℕ → List ℕ
first_group n behind =
    if nat_lt n 10 then digit n ∷ behind
    else if nat_lt n 100 then digit (n / 10) ∷ digit n ∷ behind else three_digits_of n behind

-- "a comma between thousands": dollars before what follows them, with at most this many commas
unfoldable pub dollars_text : ℕ → ℕ → List ℕ → List ℕ
dollars_text zero dollars behind = first_group dollars behind
dollars_text (suc commas) dollars behind =
    if nat_lt dollars 1000 then first_group dollars behind
    else dollars_text commas (dollars / 1000) (44 ∷ three_digits_of dollars behind)

-- "as dollars with two decimals"; the dollars of 64 bits of cents have at most 18 digits
abbrev pub cents_text : ℕ → List ℕ
cents_text cents = dollars_text 5 (cents / 100) (46 ∷ digit (cents / 10) ∷ digit cents ∷ [])

-- "a leading minus where negative"
abbrev pub amount_text : ℤ → List ℕ
amount_text (pos cents) = cents_text cents
amount_text (negsuc cents) = 45 ∷ cents_text (suc cents)

-- "a label of 32 bytes padded with blanks"
abbrev pub label_text : List ℕ → List ℕ
label_text label = label ++ replicate (32 - length label) 32

-- "then 31 bytes of amount, right-aligned"
abbrev pub right_aligned : List ℕ → List ℕ
right_aligned amount = replicate (31 - length amount) 32 ++ amount

-- "byte 0A last on each"
abbrev pub line : List ℕ → List ℕ → List ℕ
line label amount = label_text label ++ (right_aligned amount ++ (10 ∷ []))

-- "The lines are ME, MC, CE, CC2, TW, HR, OL, IC, IR, CC, NIC, NC, under the names of document 01."
abbrev pub page_lines : Reconciliation → List (List ℕ)
page_lines r =
    line (77 ∷ 69 ∷ []) (amount_text (pos r.me)) ∷
    line (77 ∷ 67 ∷ []) (amount_text (pos r.mc)) ∷
    line (67 ∷ 69 ∷ []) (amount_text (pos r.ce)) ∷
    line (67 ∷ 67 ∷ 50 ∷ []) (amount_text (pos r.cc2)) ∷
    line (84 ∷ 87 ∷ []) (amount_text (pos r.tw)) ∷
    line (72 ∷ 82 ∷ []) (amount_text (pos r.hr)) ∷
    line (79 ∷ 76 ∷ []) (amount_text (pos r.ol)) ∷
    line (73 ∷ 67 ∷ []) (amount_text (pos r.ic)) ∷
    line (73 ∷ 82 ∷ []) (amount_text (pos r.ir)) ∷
    line (67 ∷ 67 ∷ []) (amount_text (pos r.cc)) ∷
    line (78 ∷ 73 ∷ 67 ∷ []) (amount_text r.nic) ∷
    line (78 ∷ 67 ∷ []) (amount_text r.nc) ∷
    []

unfoldable pub page_of : Reconciliation → List ℕ
page_of r = flatten (page_lines r)

abbrev pub page_size : ℕ
page_size = 768

-- "(An output under 768 bytes is 14, after 5.)" A refusal leaves the output as it was, and so does a page what is past it.
unfoldable pub page_written : Pricing → List ℕ → PageWritten
page_written (Err r) out = Err r
page_written (Ok bill) out = if nat_lt (length out) page_size then Err (refusal output_too_short 0 0) else Ok tt

unfoldable pub page_output : Pricing → List ℕ → List ℕ
page_output (Err r) out = out
page_output (Ok bill) out =
    if nat_lt (length out) page_size then out else page_of bill.reconciliation ++ drop page_size out
