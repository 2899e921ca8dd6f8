-- Rows described in literals: each kind of limit and unit, what they are repeated over, the first, the last and one past it; and outputs about the longest.
use Rattle.std.specs.Prelude.{◌≡◌, refl, codes, replicate, take, Ok, Err, [], ◌∷◌}
use Rattle.tagged.specs.File.{refusal}
use Rattle.text_output.specs.Digits.{decimal_from, last_digits}
use Rattle.text_names.specs.Table.{book_fields, request_fields, book_rows, request_rows}
use Rattle.text_names.specs.Names.{book_names, request_names}
use Rattle.text_names.specs.declared.table.Kind.TheVariants.{Book, Request}
use Rattle.text_shown.specs.Described.{over_in, described_text, row_text, row_written, row_output}

pub rows_described :
    (row_text Book 0 ≡ codes "discount rate\npercent\n0.00\n100.00\n\nnothing\n")
    × (row_text Book 1 ≡ codes "selected opex\nthousand dollars\n0\n4294967295\n\npairs\n")
    × (row_text Book 4 ≡ codes "transmission revenue factor\n\n0.0000\n4.0000\n\nyears\n")
    × (row_text Book 5 ≡ codes "threshold\ndollars\n0.00\n50000.00\n\nnothing\n")
    × (row_text Book 6 ≡ codes "fee\ndollars\n0.00\n10000000.00\n\nnothing\n")
    × (row_text Book 8 ≡ codes "term months\n\n84\n65535\n\nnothing\n")
    × (row_text Book 9 ≡ codes "capacity charged\n\nno\nyes\nno,yes\nnothing\n")
    × (row_text Book 11 ≡ codes "number\n\n0\n65535\n\nzones\n")
    × (row_text Book 16 ≡ codes "sub-transmission rate\ndollars per kVA\n0.00\n100000.00\n\nzones\n")
    × (row_text Book 17 ≡ codes "")
    × (row_text Request 0 ≡ codes "person number\n\n0\n4294967295\n\nnothing\n")
    × (row_text Request 8 ≡ codes "operating loading OL\ndollars\n0.00\n10000000.00\n\nnothing\n")
    × (row_text Request 9 ≡ codes "mode\n\nposted\nbespoke\nposted,extension-like,bespoke\ntiers\n")
    × (row_text Request 12 ≡ codes "added demand\nkVA\n0.00\n10000.00\n\ntiers\n")
    × (row_text Request 18 ≡ codes "month\n\n0000-01\n5461-04\n\nnothing\n")
    × (row_text Request 19 ≡ codes "capacity\nkVA\n0.01\n10000.00\n\nnothing\n")
    × (row_text Request 21 ≡ codes "mark\n\nnone\nreal estate\nnone,opted out in writing,real estate\nnothing\n")
    × (row_text Request 22 ≡ codes "")
unfolding decimal_from last_digits book_fields request_fields book_rows request_rows book_names request_names over_in described_text row_text
rows_described = (refl, refl, refl, refl, refl, refl, refl, refl, refl, refl, refl, refl, refl, refl, refl, refl, refl, refl)

pub row_outputs :
    (row_written Book 8 (replicate 256 7) ≡ Ok 31)
    × (take 4 (row_output Book 8 (replicate 256 7)) ≡ codes "term")
    × (row_written Book 17 (replicate 256 7) ≡ Ok 0)
    × (row_written Book 8 (replicate 255 7) ≡ Err (refusal 14 0 0))
    × (take 2 (row_output Book 8 (replicate 255 7)) ≡ 7 ∷ 7 ∷ [])
unfolding decimal_from last_digits book_fields book_rows book_names over_in described_text row_text
row_outputs = (refl, refl, refl, refl, refl)
