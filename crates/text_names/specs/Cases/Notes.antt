-- Notes in literals: each kind of limit, words, units with decimals and without, rows that are alike, and no row.
use Rattle.std.specs.Prelude.{◌≡◌, refl, codes}
use Rattle.text_output.specs.Digits.{decimal_from, grouped_from, last_digits}
use Rattle.text_names.specs.Table.{book_rows, request_rows}
use Rattle.text_names.specs.Names.{book_names, request_names}
use Rattle.text_names.specs.Notes.{from_to, only_text, sums_text, allowed_text, described, names_text, note_line}
use Rattle.text_names.specs.declared.table.Kind.TheVariants.{Book, Request}

pub notes_hold :
    (note_line Book 0 ≡ codes "# discount rate: percent, 0.00 to 100.00, at most 2 decimals\n")
    × (note_line Book 1 ≡ codes "# selected opex: thousand dollars, 0 to 4294967295, together at most the distribution revenue together, which isn't 0\n")
    × (note_line Book 6 ≡ codes "# fee: dollars, 0.00 to the minimum, at most 2 decimals\n")
    × (note_line Book 8 ≡ codes "# term months: 84 to 65535\n")
    × (note_line Book 9 ≡ codes "# capacity charged: no or yes\n")
    × (note_line Book 11 ≡ codes "# number: 0 to 65535, above that of the zone before\n")
    × (note_line Book 12 ≡ codes "# LV mains rate to sub-transmission rate: dollars per kVA, 0.00 to 100,000.00, at most 2 decimals\n")
    × (note_line Book 13 ≡ codes "")
    × (note_line Book 17 ≡ codes "")
    × (note_line Request 1 ≡ codes "# class: residential, non-residential or special pricing\n")
    × (note_line Request 8 ≡ codes "# operating loading OL: dollars, 0.00 to 10,000,000.00 where class is special pricing, otherwise 0.00, at most 2 decimals\n")
    × (note_line Request 11 ≡ codes "# bespoke rate: dollars per kVA, 0.00 to 100,000.00, at most 2 decimals, used in mode bespoke alone\n")
    × (note_line Request 15 ≡ codes "# part-year factor: 0.0000 to 4.0000, at most 4 decimals\n")
    × (note_line Request 18 ≡ codes "# month: 0000-01 to 5461-04\n")
    × (note_line Request 19 ≡ codes "# capacity: kVA, 0.01 to 10,000.00, at most 2 decimals\n")
    × (note_line Request 20 ≡ codes "# scheme joined: 0 to 65535, 0 for none\n")
    × (note_line Request 21 ≡ codes "# mark: none, opted out in writing or real estate\n")
unfolding decimal_from grouped_from last_digits book_rows request_rows book_names request_names from_to only_text sums_text allowed_text described names_text note_line
notes_hold = (refl, refl, refl, refl, refl, refl, refl, refl, refl, refl, refl, refl, refl, refl, refl, refl, refl)
