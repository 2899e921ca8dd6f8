-- Columns that have an amount, and columns that have none.
use Rattle.std.specs.Prelude.{ℕ, refl, List, [], ◌∷◌, ℤ, pos, negsuc}
use Rattle.std.proofs.Common.{lit<}
use mathlib.Core.List.{Memᴰ}
use Rattle.slip_text.specs.SlipReading.{ascii}
use Rattle.page_text.specs.AmountGrammar.{AmountColumns}
use Rattle.page_text.specs.Page.{dollars_text}
use Rattle.page_text.proofs.Theorems.ReadBack.{columns_written, none_found, groups_read, first_group_read, unsigned_read, amount_read}

pub amounts_found :
    AmountColumns (ascii "                           0.00") (pos 0)
    × AmountColumns (ascii "                          -0.05") (negsuc 4)
    × AmountColumns (ascii "                         309.01") (pos 30901)
    × AmountColumns (ascii "                     -12,935.00") (negsuc 1293499)
    × AmountColumns (ascii "                   1,000,000.01") (pos 100000001)
    × AmountColumns (ascii "     184,467,440,737,095,516.15") (pos 18446744073709551615)
unfolding dollars_text
amounts_found = (
  columns_written (pos 0) (lit< tt),
  columns_written (negsuc 4) (lit< tt),
  columns_written (pos 30901) (lit< tt),
  columns_written (negsuc 1293499) (lit< tt),
  columns_written (pos 100000001) (lit< tt),
  columns_written (pos 18446744073709551615) (lit< tt),
)

-- no amount; a minus before 0, before blanks or alone; a leading zero; a comma one place off or left out; cents without the leading zero; no point; a blank
-- behind the amount or in it; a currency sign; two amounts
abbrev without_amount : List (List ℕ)
without_amount =
    ascii "                               " ∷
    ascii "                          -0.00" ∷
    ascii "               -      12,935.00" ∷
    ascii "                              -" ∷
    ascii "                          01.00" ∷
    ascii "                       0,123.00" ∷
    ascii "                      1,2935.00" ∷
    ascii "                       12935.00" ∷
    ascii "                            0.5" ∷
    ascii "                            .05" ∷
    ascii "                         12,935" ∷
    ascii "                     12,935.00 " ∷
    ascii "                     12 ,935.00" ∷
    ascii "                     $12,935.00" ∷
    ascii "             1.00     12,935.00" ∷
    []

pub no_amounts_found : (columns : List ℕ) → Memᴰ columns without_amount → (amount : ℤ) → AmountColumns columns amount → ⊥
unfolding groups_read first_group_read unsigned_read amount_read
no_amounts_found = none_found without_amount refl
