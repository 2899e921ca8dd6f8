-- Whole texts in literals: every value of a book of eight zones and of a request, each another; zone numbers of two bytes, past 255 and not.
use Rattle.std.specs.Prelude.{◌≡◌, refl, codes, ℕ, List}
use mathlib.Core.List.{[], ◌∷◌, flatten}
use Rattle.text_names.specs.declared.table.Kind.TheVariants.{Book, Request}
use Rattle.text_names.specs.Table.{book_fields, request_fields, book_rows, request_rows}
use Rattle.text_names.specs.Names.{book_names, request_names, tier_names, ordinals, value_name}
use Rattle.text_names.specs.Notes.{from_to, only_text, sums_text, allowed_text, described, names_text, note_line, field_notes}
use Rattle.text_output.specs.Digits.{decimal_from, grouped_from, last_digits}
use Rattle.text_output.specs.Pieces.{each}
use Rattle.numbers.specs.BigEndian.{number}
use Rattle.tagged.specs.Find.{fields_from, first_with}
use Rattle.text_shown.specs.Values.{rounds, number_in, value_number}
use Rattle.text_shown.specs.Lines.{value_line, round_lines, all_small, form_line, field_text, head_text, file_text}

abbrev full_book_fields : List ℕ
full_book_fields =
    1 ∷ 0 ∷ 4 ∷ 82 ∷ 65 ∷ 84 ∷ 69 ∷
    2 ∷ 0 ∷ 2 ∷ 1 ∷ 207 ∷
    3 ∷ 0 ∷ 40 ∷ 0 ∷ 0 ∷ 0 ∷ 1 ∷ 0 ∷ 0 ∷ 0 ∷ 11 ∷ 0 ∷ 0 ∷ 0 ∷ 2 ∷ 0 ∷ 0 ∷ 0 ∷ 12 ∷ 0 ∷ 0 ∷ 0 ∷ 3 ∷ 0 ∷ 0 ∷ 0 ∷ 13 ∷ 0 ∷ 0 ∷ 0 ∷ 4 ∷ 0 ∷ 0 ∷ 0 ∷ 14 ∷ 0 ∷ 0 ∷ 0 ∷ 5 ∷ 0 ∷ 0 ∷ 0 ∷ 15 ∷
    4 ∷ 0 ∷ 16 ∷ 35 ∷ 41 ∷ 35 ∷ 42 ∷ 35 ∷ 43 ∷ 35 ∷ 44 ∷ 35 ∷ 45 ∷ 35 ∷ 46 ∷ 35 ∷ 47 ∷ 35 ∷ 48 ∷
    5 ∷ 0 ∷ 16 ∷ 42 ∷ 249 ∷ 42 ∷ 250 ∷ 42 ∷ 251 ∷ 42 ∷ 252 ∷ 42 ∷ 253 ∷ 42 ∷ 254 ∷ 42 ∷ 255 ∷ 43 ∷ 0 ∷
    6 ∷ 0 ∷ 14 ∷ 0 ∷ 61 ∷ 9 ∷ 1 ∷ 0 ∷ 0 ∷ 78 ∷ 34 ∷ 0 ∷ 0 ∷ 117 ∷ 51 ∷ 0 ∷ 120 ∷
    7 ∷ 0 ∷ 3 ∷ 1 ∷ 25 ∷ 104 ∷
    8 ∷ 0 ∷ 21 ∷ 10 ∷ 0 ∷ 0 ∷ 0 ∷ 101 ∷ 0 ∷ 0 ∷ 0 ∷ 102 ∷ 0 ∷ 0 ∷ 0 ∷ 103 ∷ 0 ∷ 0 ∷ 0 ∷ 104 ∷ 0 ∷ 0 ∷ 0 ∷ 105 ∷
    8 ∷ 0 ∷ 21 ∷ 20 ∷ 0 ∷ 0 ∷ 0 ∷ 201 ∷ 0 ∷ 0 ∷ 0 ∷ 202 ∷ 0 ∷ 0 ∷ 0 ∷ 203 ∷ 0 ∷ 0 ∷ 0 ∷ 204 ∷ 0 ∷ 0 ∷ 0 ∷ 205 ∷
    8 ∷ 0 ∷ 21 ∷ 30 ∷ 0 ∷ 0 ∷ 1 ∷ 45 ∷ 0 ∷ 0 ∷ 1 ∷ 46 ∷ 0 ∷ 0 ∷ 1 ∷ 47 ∷ 0 ∷ 0 ∷ 1 ∷ 48 ∷ 0 ∷ 0 ∷ 1 ∷ 49 ∷
    8 ∷ 0 ∷ 21 ∷ 40 ∷ 0 ∷ 0 ∷ 1 ∷ 145 ∷ 0 ∷ 0 ∷ 1 ∷ 146 ∷ 0 ∷ 0 ∷ 1 ∷ 147 ∷ 0 ∷ 0 ∷ 1 ∷ 148 ∷ 0 ∷ 0 ∷ 1 ∷ 149 ∷
    8 ∷ 0 ∷ 21 ∷ 50 ∷ 0 ∷ 0 ∷ 1 ∷ 245 ∷ 0 ∷ 0 ∷ 1 ∷ 246 ∷ 0 ∷ 0 ∷ 1 ∷ 247 ∷ 0 ∷ 0 ∷ 1 ∷ 248 ∷ 0 ∷ 0 ∷ 1 ∷ 249 ∷
    8 ∷ 0 ∷ 21 ∷ 60 ∷ 0 ∷ 0 ∷ 2 ∷ 89 ∷ 0 ∷ 0 ∷ 2 ∷ 90 ∷ 0 ∷ 0 ∷ 2 ∷ 91 ∷ 0 ∷ 0 ∷ 2 ∷ 92 ∷ 0 ∷ 0 ∷ 2 ∷ 93 ∷
    8 ∷ 0 ∷ 21 ∷ 70 ∷ 0 ∷ 0 ∷ 2 ∷ 189 ∷ 0 ∷ 0 ∷ 2 ∷ 190 ∷ 0 ∷ 0 ∷ 2 ∷ 191 ∷ 0 ∷ 0 ∷ 2 ∷ 192 ∷ 0 ∷ 0 ∷ 2 ∷ 193 ∷
    8 ∷ 0 ∷ 21 ∷ 80 ∷ 0 ∷ 0 ∷ 3 ∷ 33 ∷ 0 ∷ 0 ∷ 3 ∷ 34 ∷ 0 ∷ 0 ∷ 3 ∷ 35 ∷ 0 ∷ 0 ∷ 3 ∷ 36 ∷ 0 ∷ 0 ∷ 3 ∷ 37 ∷
    []

pub full_book_shown :
    file_text Book full_book_fields ≡
    flatten
    (
    codes "# A rate book: a name and its value on each line.\n" ∷
    codes "file,rate book\n" ∷
    codes "# discount rate: percent, 0.00 to 100.00, at most 2 decimals\n" ∷
    codes "discount rate,4.63\n" ∷
    codes "# selected opex: thousand dollars, 0 to 4294967295, together at most the distribution revenue together, which isn't 0\n" ∷
    codes "# distribution revenue: thousand dollars, 0 to 4294967295\n" ∷
    codes "selected opex 1,1\n" ∷
    codes "distribution revenue 1,11\n" ∷
    codes "selected opex 2,2\n" ∷
    codes "distribution revenue 2,12\n" ∷
    codes "selected opex 3,3\n" ∷
    codes "distribution revenue 3,13\n" ∷
    codes "selected opex 4,4\n" ∷
    codes "distribution revenue 4,14\n" ∷
    codes "selected opex 5,5\n" ∷
    codes "distribution revenue 5,15\n" ∷
    codes "# distribution revenue factor: 0.0000 to 4.0000, at most 4 decimals\n" ∷
    codes "# up to year 7; the last given holds for all later years\n" ∷
    codes "distribution revenue factor year 0,0.9001\n" ∷
    codes "distribution revenue factor year 1,0.9002\n" ∷
    codes "distribution revenue factor year 2,0.9003\n" ∷
    codes "distribution revenue factor year 3,0.9004\n" ∷
    codes "distribution revenue factor year 4,0.9005\n" ∷
    codes "distribution revenue factor year 5,0.9006\n" ∷
    codes "distribution revenue factor year 6,0.9007\n" ∷
    codes "distribution revenue factor year 7,0.9008\n" ∷
    codes "# transmission revenue factor: 0.0000 to 4.0000, at most 4 decimals\n" ∷
    codes "# up to year 7; the last given holds for all later years\n" ∷
    codes "transmission revenue factor year 0,1.1001\n" ∷
    codes "transmission revenue factor year 1,1.1002\n" ∷
    codes "transmission revenue factor year 2,1.1003\n" ∷
    codes "transmission revenue factor year 3,1.1004\n" ∷
    codes "transmission revenue factor year 4,1.1005\n" ∷
    codes "transmission revenue factor year 5,1.1006\n" ∷
    codes "transmission revenue factor year 6,1.1007\n" ∷
    codes "transmission revenue factor year 7,1.1008\n" ∷
    codes "# threshold: dollars, 0.00 to 50,000.00, at most 2 decimals\n" ∷
    codes "# fee: dollars, 0.00 to the minimum, at most 2 decimals\n" ∷
    codes "# minimum: dollars, 0.00 to 10,000,000.00, at most 2 decimals\n" ∷
    codes "# term months: 84 to 65535\n" ∷
    codes "threshold,40000.01\n" ∷
    codes "fee,200.02\n" ∷
    codes "minimum,300.03\n" ∷
    codes "term months,120\n" ∷
    codes "# capacity charged: no or yes\n" ∷
    codes "# credit share: percent, 0.00 to 100.00, at most 2 decimals\n" ∷
    codes "capacity charged,yes\n" ∷
    codes "credit share,65.04\n" ∷
    codes "# number: 0 to 65535, above that of the zone before\n" ∷
    codes "# LV mains rate to sub-transmission rate: dollars per kVA, 0.00 to 100,000.00, at most 2 decimals\n" ∷
    codes "# up to the eighth zone\n" ∷
    codes "# zone number bytes: 1 or 2, may be left out: then 1 where every zone number is at most 255, otherwise 2\n" ∷
    codes "first zone number,10\n" ∷
    codes "first zone LV mains rate,1.01\n" ∷
    codes "first zone distribution substation rate,1.02\n" ∷
    codes "first zone HV feeder rate,1.03\n" ∷
    codes "first zone zone substation rate,1.04\n" ∷
    codes "first zone sub-transmission rate,1.05\n" ∷
    codes "second zone number,20\n" ∷
    codes "second zone LV mains rate,2.01\n" ∷
    codes "second zone distribution substation rate,2.02\n" ∷
    codes "second zone HV feeder rate,2.03\n" ∷
    codes "second zone zone substation rate,2.04\n" ∷
    codes "second zone sub-transmission rate,2.05\n" ∷
    codes "third zone number,30\n" ∷
    codes "third zone LV mains rate,3.01\n" ∷
    codes "third zone distribution substation rate,3.02\n" ∷
    codes "third zone HV feeder rate,3.03\n" ∷
    codes "third zone zone substation rate,3.04\n" ∷
    codes "third zone sub-transmission rate,3.05\n" ∷
    codes "fourth zone number,40\n" ∷
    codes "fourth zone LV mains rate,4.01\n" ∷
    codes "fourth zone distribution substation rate,4.02\n" ∷
    codes "fourth zone HV feeder rate,4.03\n" ∷
    codes "fourth zone zone substation rate,4.04\n" ∷
    codes "fourth zone sub-transmission rate,4.05\n" ∷
    codes "fifth zone number,50\n" ∷
    codes "fifth zone LV mains rate,5.01\n" ∷
    codes "fifth zone distribution substation rate,5.02\n" ∷
    codes "fifth zone HV feeder rate,5.03\n" ∷
    codes "fifth zone zone substation rate,5.04\n" ∷
    codes "fifth zone sub-transmission rate,5.05\n" ∷
    codes "sixth zone number,60\n" ∷
    codes "sixth zone LV mains rate,6.01\n" ∷
    codes "sixth zone distribution substation rate,6.02\n" ∷
    codes "sixth zone HV feeder rate,6.03\n" ∷
    codes "sixth zone zone substation rate,6.04\n" ∷
    codes "sixth zone sub-transmission rate,6.05\n" ∷
    codes "seventh zone number,70\n" ∷
    codes "seventh zone LV mains rate,7.01\n" ∷
    codes "seventh zone distribution substation rate,7.02\n" ∷
    codes "seventh zone HV feeder rate,7.03\n" ∷
    codes "seventh zone zone substation rate,7.04\n" ∷
    codes "seventh zone sub-transmission rate,7.05\n" ∷
    codes "eighth zone number,80\n" ∷
    codes "eighth zone LV mains rate,8.01\n" ∷
    codes "eighth zone distribution substation rate,8.02\n" ∷
    codes "eighth zone HV feeder rate,8.03\n" ∷
    codes "eighth zone zone substation rate,8.04\n" ∷
    codes "eighth zone sub-transmission rate,8.05\n" ∷
    [])
unfolding book_fields request_fields book_rows request_rows book_names request_names tier_names ordinals value_name from_to only_text sums_text allowed_text described names_text note_line field_notes decimal_from grouped_from last_digits each number fields_from first_with rounds number_in value_number value_line round_lines all_small form_line field_text head_text file_text flatten
full_book_shown = refl

abbrev full_request_fields : List ℕ
full_request_fields =
    1 ∷ 0 ∷ 4 ∷ 67 ∷ 79 ∷ 78 ∷ 78 ∷
    2 ∷ 0 ∷ 4 ∷ 0 ∷ 0 ∷ 18 ∷ 103 ∷
    3 ∷ 0 ∷ 1 ∷ 2 ∷
    4 ∷ 0 ∷ 1 ∷ 30 ∷
    5 ∷ 0 ∷ 24 ∷ 0 ∷ 0 ∷ 0 ∷ 101 ∷ 0 ∷ 0 ∷ 0 ∷ 202 ∷ 0 ∷ 0 ∷ 1 ∷ 47 ∷ 0 ∷ 0 ∷ 1 ∷ 148 ∷ 0 ∷ 0 ∷ 1 ∷ 249 ∷ 0 ∷ 0 ∷ 2 ∷ 94 ∷
    6 ∷ 0 ∷ 45 ∷ 0 ∷ 0 ∷ 0 ∷ 3 ∷ 233 ∷ 0 ∷ 0 ∷ 0 ∷ 11 ∷ 1 ∷ 0 ∷ 0 ∷ 3 ∷ 234 ∷ 0 ∷ 0 ∷ 0 ∷ 12 ∷ 2 ∷ 0 ∷ 0 ∷ 3 ∷ 235 ∷ 0 ∷ 0 ∷ 0 ∷ 13 ∷ 0 ∷ 0 ∷ 0 ∷ 3 ∷ 236 ∷ 0 ∷ 0 ∷ 0 ∷ 14 ∷ 1 ∷ 0 ∷ 0 ∷ 3 ∷ 237 ∷ 0 ∷ 0 ∷ 0 ∷ 15 ∷
    7 ∷ 0 ∷ 20 ∷ 0 ∷ 0 ∷ 7 ∷ 209 ∷ 0 ∷ 0 ∷ 7 ∷ 210 ∷ 0 ∷ 0 ∷ 7 ∷ 211 ∷ 0 ∷ 0 ∷ 7 ∷ 212 ∷ 0 ∷ 0 ∷ 7 ∷ 213 ∷
    8 ∷ 0 ∷ 8 ∷ 0 ∷ 10 ∷ 201 ∷ 254 ∷ 0 ∷ 1 ∷ 59 ∷ 168 ∷
    9 ∷ 0 ∷ 16 ∷ 19 ∷ 137 ∷ 19 ∷ 138 ∷ 19 ∷ 139 ∷ 19 ∷ 140 ∷ 19 ∷ 141 ∷ 19 ∷ 142 ∷ 19 ∷ 143 ∷ 19 ∷ 144 ∷
    10 ∷ 0 ∷ 16 ∷ 23 ∷ 113 ∷ 23 ∷ 114 ∷ 23 ∷ 115 ∷ 23 ∷ 116 ∷ 23 ∷ 117 ∷ 23 ∷ 118 ∷ 23 ∷ 119 ∷ 23 ∷ 120 ∷
    11 ∷ 0 ∷ 16 ∷ 27 ∷ 89 ∷ 27 ∷ 90 ∷ 27 ∷ 91 ∷ 27 ∷ 92 ∷ 27 ∷ 93 ∷ 27 ∷ 94 ∷ 27 ∷ 95 ∷ 27 ∷ 96 ∷
    12 ∷ 0 ∷ 9 ∷ 94 ∷ 251 ∷ 0 ∷ 0 ∷ 58 ∷ 153 ∷ 0 ∷ 9 ∷ 2 ∷
    []

pub full_request_shown :
    file_text Request full_request_fields ≡
    flatten
    (
    codes "# A request: a name and its value on each line.\n" ∷
    codes "file,request\n" ∷
    codes "# person number: 0 to 4294967295\n" ∷
    codes "person number,4711\n" ∷
    codes "# class: residential, non-residential or special pricing\n" ∷
    codes "class,special pricing\n" ∷
    codes "# zone number: 0 to 65535\n" ∷
    codes "# zone number bytes: 1 or 2, may be left out: then 1 where every zone number is at most 255, otherwise 2\n" ∷
    codes "zone number,30\n" ∷
    codes "# minimum scheme extension ME to historical cost recovery HR: dollars, 0.00 to 10,000,000.00, at most 2 decimals\n" ∷
    codes "# operating loading OL: dollars, 0.00 to 10,000,000.00 where class is special pricing, otherwise 0.00, at most 2 decimals\n" ∷
    codes "minimum scheme extension ME,1.01\n" ∷
    codes "customer enhancement extension CE,2.02\n" ∷
    codes "distributor enhancement DE,3.03\n" ∷
    codes "transmission works TW,4.04\n" ∷
    codes "historical cost recovery HR,5.05\n" ∷
    codes "operating loading OL,6.06\n" ∷
    codes "# mode: posted, extension-like or bespoke\n" ∷
    codes "# demand: kVA, 0.00 to 10,000.00, at most 2 decimals\n" ∷
    codes "# bespoke rate: dollars per kVA, 0.00 to 100,000.00, at most 2 decimals, used in mode bespoke alone\n" ∷
    codes "LV mains mode,posted\n" ∷
    codes "LV mains demand,10.01\n" ∷
    codes "LV mains bespoke rate,0.11\n" ∷
    codes "distribution substation mode,extension-like\n" ∷
    codes "distribution substation demand,10.02\n" ∷
    codes "distribution substation bespoke rate,0.12\n" ∷
    codes "HV feeder mode,bespoke\n" ∷
    codes "HV feeder demand,10.03\n" ∷
    codes "HV feeder bespoke rate,0.13\n" ∷
    codes "zone substation mode,posted\n" ∷
    codes "zone substation demand,10.04\n" ∷
    codes "zone substation bespoke rate,0.14\n" ∷
    codes "sub-transmission mode,extension-like\n" ∷
    codes "sub-transmission demand,10.05\n" ∷
    codes "sub-transmission bespoke rate,0.15\n" ∷
    codes "# added demand: kVA, 0.00 to 10,000.00, at most 2 decimals\n" ∷
    codes "LV mains added demand,20.01\n" ∷
    codes "distribution substation added demand,20.02\n" ∷
    codes "HV feeder added demand,20.03\n" ∷
    codes "zone substation added demand,20.04\n" ∷
    codes "sub-transmission added demand,20.05\n" ∷
    codes "# year-one distribution revenue to year-one transmission revenue: dollars, 0.00 to 10,000,000.00, at most 2 decimals\n" ∷
    codes "year-one distribution revenue,7070.70\n" ∷
    codes "year-one transmission revenue,808.08\n" ∷
    codes "# part-year factor: 0.0000 to 4.0000, at most 4 decimals\n" ∷
    codes "# up to year 7; the last given holds for all later years\n" ∷
    codes "part-year factor year 0,0.5001\n" ∷
    codes "part-year factor year 1,0.5002\n" ∷
    codes "part-year factor year 2,0.5003\n" ∷
    codes "part-year factor year 3,0.5004\n" ∷
    codes "part-year factor year 4,0.5005\n" ∷
    codes "part-year factor year 5,0.5006\n" ∷
    codes "part-year factor year 6,0.5007\n" ∷
    codes "part-year factor year 7,0.5008\n" ∷
    codes "# distribution tariff factor: 0.0000 to 4.0000, at most 4 decimals\n" ∷
    codes "# up to year 7; the last given holds for all later years\n" ∷
    codes "distribution tariff factor year 0,0.6001\n" ∷
    codes "distribution tariff factor year 1,0.6002\n" ∷
    codes "distribution tariff factor year 2,0.6003\n" ∷
    codes "distribution tariff factor year 3,0.6004\n" ∷
    codes "distribution tariff factor year 4,0.6005\n" ∷
    codes "distribution tariff factor year 5,0.6006\n" ∷
    codes "distribution tariff factor year 6,0.6007\n" ∷
    codes "distribution tariff factor year 7,0.6008\n" ∷
    codes "# transmission tariff factor: 0.0000 to 4.0000, at most 4 decimals\n" ∷
    codes "# up to year 7; the last given holds for all later years\n" ∷
    codes "transmission tariff factor year 0,0.7001\n" ∷
    codes "transmission tariff factor year 1,0.7002\n" ∷
    codes "transmission tariff factor year 2,0.7003\n" ∷
    codes "transmission tariff factor year 3,0.7004\n" ∷
    codes "transmission tariff factor year 4,0.7005\n" ∷
    codes "transmission tariff factor year 5,0.7006\n" ∷
    codes "transmission tariff factor year 6,0.7007\n" ∷
    codes "transmission tariff factor year 7,0.7008\n" ∷
    codes "# month: 0000-01 to 5461-04\n" ∷
    codes "# capacity: kVA, 0.01 to 10,000.00, at most 2 decimals\n" ∷
    codes "# scheme joined: 0 to 65535, 0 for none\n" ∷
    codes "# mark: none, opted out in writing or real estate\n" ∷
    codes "month,2026-04\n" ∷
    codes "capacity,150.01\n" ∷
    codes "scheme joined,9\n" ∷
    codes "mark,real estate\n" ∷
    [])
unfolding book_fields request_fields book_rows request_rows book_names request_names tier_names ordinals value_name from_to only_text sums_text allowed_text described names_text note_line field_notes decimal_from grouped_from last_digits each number fields_from first_with rounds number_in value_number value_line round_lines all_small form_line field_text head_text file_text flatten
full_request_shown = refl

abbrev three_zones_fields : List ℕ
three_zones_fields =
    1 ∷ 0 ∷ 4 ∷ 82 ∷ 65 ∷ 84 ∷ 69 ∷
    2 ∷ 0 ∷ 2 ∷ 0 ∷ 0 ∷
    3 ∷ 0 ∷ 40 ∷ 0 ∷ 0 ∷ 0 ∷ 0 ∷ 0 ∷ 0 ∷ 0 ∷ 1 ∷ 0 ∷ 0 ∷ 0 ∷ 0 ∷ 0 ∷ 0 ∷ 0 ∷ 1 ∷ 0 ∷ 0 ∷ 0 ∷ 0 ∷ 0 ∷ 0 ∷ 0 ∷ 1 ∷ 0 ∷ 0 ∷ 0 ∷ 0 ∷ 0 ∷ 0 ∷ 0 ∷ 1 ∷ 0 ∷ 0 ∷ 0 ∷ 0 ∷ 0 ∷ 0 ∷ 0 ∷ 1 ∷
    4 ∷ 0 ∷ 2 ∷ 39 ∷ 16 ∷
    5 ∷ 0 ∷ 2 ∷ 39 ∷ 16 ∷
    6 ∷ 0 ∷ 14 ∷ 0 ∷ 76 ∷ 75 ∷ 64 ∷ 0 ∷ 0 ∷ 78 ∷ 32 ∷ 0 ∷ 0 ∷ 78 ∷ 32 ∷ 0 ∷ 84 ∷
    7 ∷ 0 ∷ 3 ∷ 1 ∷ 25 ∷ 100 ∷
    9 ∷ 0 ∷ 22 ∷ 0 ∷ 1 ∷ 0 ∷ 0 ∷ 0 ∷ 0 ∷ 0 ∷ 0 ∷ 0 ∷ 0 ∷ 0 ∷ 0 ∷ 33 ∷ 52 ∷ 0 ∷ 0 ∷ 148 ∷ 112 ∷ 0 ∷ 0 ∷ 39 ∷ 16 ∷
    9 ∷ 0 ∷ 22 ∷ 1 ∷ 0 ∷ 0 ∷ 0 ∷ 1 ∷ 144 ∷ 0 ∷ 0 ∷ 1 ∷ 145 ∷ 0 ∷ 0 ∷ 1 ∷ 146 ∷ 0 ∷ 0 ∷ 1 ∷ 147 ∷ 0 ∷ 0 ∷ 1 ∷ 148 ∷
    9 ∷ 0 ∷ 22 ∷ 255 ∷ 255 ∷ 0 ∷ 0 ∷ 0 ∷ 100 ∷ 0 ∷ 0 ∷ 0 ∷ 101 ∷ 0 ∷ 0 ∷ 0 ∷ 102 ∷ 0 ∷ 0 ∷ 0 ∷ 103 ∷ 0 ∷ 0 ∷ 0 ∷ 104 ∷
    []

pub three_zones_shown :
    file_text Book three_zones_fields ≡
    flatten
    (
    codes "# A rate book: a name and its value on each line.\n" ∷
    codes "file,rate book\n" ∷
    codes "# discount rate: percent, 0.00 to 100.00, at most 2 decimals\n" ∷
    codes "discount rate,0.00\n" ∷
    codes "# selected opex: thousand dollars, 0 to 4294967295, together at most the distribution revenue together, which isn't 0\n" ∷
    codes "# distribution revenue: thousand dollars, 0 to 4294967295\n" ∷
    codes "selected opex 1,0\n" ∷
    codes "distribution revenue 1,1\n" ∷
    codes "selected opex 2,0\n" ∷
    codes "distribution revenue 2,1\n" ∷
    codes "selected opex 3,0\n" ∷
    codes "distribution revenue 3,1\n" ∷
    codes "selected opex 4,0\n" ∷
    codes "distribution revenue 4,1\n" ∷
    codes "selected opex 5,0\n" ∷
    codes "distribution revenue 5,1\n" ∷
    codes "# distribution revenue factor: 0.0000 to 4.0000, at most 4 decimals\n" ∷
    codes "# up to year 7; the last given holds for all later years\n" ∷
    codes "distribution revenue factor year 0,1.0000\n" ∷
    codes "# transmission revenue factor: 0.0000 to 4.0000, at most 4 decimals\n" ∷
    codes "# up to year 7; the last given holds for all later years\n" ∷
    codes "transmission revenue factor year 0,1.0000\n" ∷
    codes "# threshold: dollars, 0.00 to 50,000.00, at most 2 decimals\n" ∷
    codes "# fee: dollars, 0.00 to the minimum, at most 2 decimals\n" ∷
    codes "# minimum: dollars, 0.00 to 10,000,000.00, at most 2 decimals\n" ∷
    codes "# term months: 84 to 65535\n" ∷
    codes "threshold,50000.00\n" ∷
    codes "fee,200.00\n" ∷
    codes "minimum,200.00\n" ∷
    codes "term months,84\n" ∷
    codes "# capacity charged: no or yes\n" ∷
    codes "# credit share: percent, 0.00 to 100.00, at most 2 decimals\n" ∷
    codes "capacity charged,yes\n" ∷
    codes "credit share,65.00\n" ∷
    codes "# number: 0 to 65535, above that of the zone before\n" ∷
    codes "# LV mains rate to sub-transmission rate: dollars per kVA, 0.00 to 100,000.00, at most 2 decimals\n" ∷
    codes "# up to the eighth zone\n" ∷
    codes "# zone number bytes: 1 or 2, may be left out: then 1 where every zone number is at most 255, otherwise 2\n" ∷
    codes "first zone number,1\n" ∷
    codes "first zone LV mains rate,0.00\n" ∷
    codes "first zone distribution substation rate,0.00\n" ∷
    codes "first zone HV feeder rate,85.00\n" ∷
    codes "first zone zone substation rate,380.00\n" ∷
    codes "first zone sub-transmission rate,100.00\n" ∷
    codes "second zone number,256\n" ∷
    codes "second zone LV mains rate,4.00\n" ∷
    codes "second zone distribution substation rate,4.01\n" ∷
    codes "second zone HV feeder rate,4.02\n" ∷
    codes "second zone zone substation rate,4.03\n" ∷
    codes "second zone sub-transmission rate,4.04\n" ∷
    codes "third zone number,65535\n" ∷
    codes "third zone LV mains rate,1.00\n" ∷
    codes "third zone distribution substation rate,1.01\n" ∷
    codes "third zone HV feeder rate,1.02\n" ∷
    codes "third zone zone substation rate,1.03\n" ∷
    codes "third zone sub-transmission rate,1.04\n" ∷
    [])
unfolding book_fields request_fields book_rows request_rows book_names request_names tier_names ordinals value_name from_to only_text sums_text allowed_text described names_text note_line field_notes decimal_from grouped_from last_digits each number fields_from first_with rounds number_in value_number value_line round_lines all_small form_line field_text head_text file_text flatten
three_zones_shown = refl

abbrev small_zone_in_two_bytes_fields : List ℕ
small_zone_in_two_bytes_fields =
    1 ∷ 0 ∷ 4 ∷ 82 ∷ 65 ∷ 84 ∷ 69 ∷
    2 ∷ 0 ∷ 2 ∷ 0 ∷ 0 ∷
    3 ∷ 0 ∷ 40 ∷ 0 ∷ 0 ∷ 0 ∷ 0 ∷ 0 ∷ 0 ∷ 0 ∷ 1 ∷ 0 ∷ 0 ∷ 0 ∷ 0 ∷ 0 ∷ 0 ∷ 0 ∷ 1 ∷ 0 ∷ 0 ∷ 0 ∷ 0 ∷ 0 ∷ 0 ∷ 0 ∷ 1 ∷ 0 ∷ 0 ∷ 0 ∷ 0 ∷ 0 ∷ 0 ∷ 0 ∷ 1 ∷ 0 ∷ 0 ∷ 0 ∷ 0 ∷ 0 ∷ 0 ∷ 0 ∷ 1 ∷
    4 ∷ 0 ∷ 2 ∷ 39 ∷ 16 ∷
    5 ∷ 0 ∷ 2 ∷ 39 ∷ 16 ∷
    6 ∷ 0 ∷ 14 ∷ 0 ∷ 76 ∷ 75 ∷ 64 ∷ 0 ∷ 0 ∷ 78 ∷ 32 ∷ 0 ∷ 0 ∷ 78 ∷ 32 ∷ 0 ∷ 84 ∷
    7 ∷ 0 ∷ 3 ∷ 1 ∷ 25 ∷ 100 ∷
    9 ∷ 0 ∷ 22 ∷ 0 ∷ 1 ∷ 0 ∷ 0 ∷ 0 ∷ 0 ∷ 0 ∷ 0 ∷ 0 ∷ 0 ∷ 0 ∷ 0 ∷ 33 ∷ 52 ∷ 0 ∷ 0 ∷ 148 ∷ 112 ∷ 0 ∷ 0 ∷ 39 ∷ 16 ∷
    []

pub small_zone_in_two_bytes_shown :
    file_text Book small_zone_in_two_bytes_fields ≡
    flatten
    (
    codes "# A rate book: a name and its value on each line.\n" ∷
    codes "file,rate book\n" ∷
    codes "# discount rate: percent, 0.00 to 100.00, at most 2 decimals\n" ∷
    codes "discount rate,0.00\n" ∷
    codes "# selected opex: thousand dollars, 0 to 4294967295, together at most the distribution revenue together, which isn't 0\n" ∷
    codes "# distribution revenue: thousand dollars, 0 to 4294967295\n" ∷
    codes "selected opex 1,0\n" ∷
    codes "distribution revenue 1,1\n" ∷
    codes "selected opex 2,0\n" ∷
    codes "distribution revenue 2,1\n" ∷
    codes "selected opex 3,0\n" ∷
    codes "distribution revenue 3,1\n" ∷
    codes "selected opex 4,0\n" ∷
    codes "distribution revenue 4,1\n" ∷
    codes "selected opex 5,0\n" ∷
    codes "distribution revenue 5,1\n" ∷
    codes "# distribution revenue factor: 0.0000 to 4.0000, at most 4 decimals\n" ∷
    codes "# up to year 7; the last given holds for all later years\n" ∷
    codes "distribution revenue factor year 0,1.0000\n" ∷
    codes "# transmission revenue factor: 0.0000 to 4.0000, at most 4 decimals\n" ∷
    codes "# up to year 7; the last given holds for all later years\n" ∷
    codes "transmission revenue factor year 0,1.0000\n" ∷
    codes "# threshold: dollars, 0.00 to 50,000.00, at most 2 decimals\n" ∷
    codes "# fee: dollars, 0.00 to the minimum, at most 2 decimals\n" ∷
    codes "# minimum: dollars, 0.00 to 10,000,000.00, at most 2 decimals\n" ∷
    codes "# term months: 84 to 65535\n" ∷
    codes "threshold,50000.00\n" ∷
    codes "fee,200.00\n" ∷
    codes "minimum,200.00\n" ∷
    codes "term months,84\n" ∷
    codes "# capacity charged: no or yes\n" ∷
    codes "# credit share: percent, 0.00 to 100.00, at most 2 decimals\n" ∷
    codes "capacity charged,yes\n" ∷
    codes "credit share,65.00\n" ∷
    codes "# number: 0 to 65535, above that of the zone before\n" ∷
    codes "# LV mains rate to sub-transmission rate: dollars per kVA, 0.00 to 100,000.00, at most 2 decimals\n" ∷
    codes "# up to the eighth zone\n" ∷
    codes "# zone number bytes: 1 or 2, may be left out: then 1 where every zone number is at most 255, otherwise 2\n" ∷
    codes "zone number bytes,2\n" ∷
    codes "first zone number,1\n" ∷
    codes "first zone LV mains rate,0.00\n" ∷
    codes "first zone distribution substation rate,0.00\n" ∷
    codes "first zone HV feeder rate,85.00\n" ∷
    codes "first zone zone substation rate,380.00\n" ∷
    codes "first zone sub-transmission rate,100.00\n" ∷
    [])
unfolding book_fields request_fields book_rows request_rows book_names request_names tier_names ordinals value_name from_to only_text sums_text allowed_text described names_text note_line field_notes decimal_from grouped_from last_digits each number fields_from first_with rounds number_in value_number value_line round_lines all_small form_line field_text head_text file_text flatten
small_zone_in_two_bytes_shown = refl

abbrev zone_300_fields : List ℕ
zone_300_fields =
    1 ∷ 0 ∷ 4 ∷ 67 ∷ 79 ∷ 78 ∷ 78 ∷
    2 ∷ 0 ∷ 4 ∷ 0 ∷ 0 ∷ 18 ∷ 103 ∷
    3 ∷ 0 ∷ 1 ∷ 1 ∷
    5 ∷ 0 ∷ 24 ∷ 0 ∷ 24 ∷ 100 ∷ 36 ∷ 0 ∷ 0 ∷ 0 ∷ 0 ∷ 0 ∷ 0 ∷ 0 ∷ 0 ∷ 0 ∷ 0 ∷ 0 ∷ 0 ∷ 0 ∷ 0 ∷ 0 ∷ 0 ∷ 0 ∷ 0 ∷ 0 ∷ 0 ∷
    6 ∷ 0 ∷ 45 ∷ 0 ∷ 0 ∷ 0 ∷ 1 ∷ 144 ∷ 0 ∷ 0 ∷ 0 ∷ 0 ∷ 0 ∷ 0 ∷ 0 ∷ 1 ∷ 144 ∷ 0 ∷ 0 ∷ 0 ∷ 0 ∷ 0 ∷ 0 ∷ 0 ∷ 0 ∷ 200 ∷ 0 ∷ 0 ∷ 0 ∷ 0 ∷ 0 ∷ 0 ∷ 0 ∷ 0 ∷ 200 ∷ 0 ∷ 0 ∷ 0 ∷ 0 ∷ 0 ∷ 0 ∷ 0 ∷ 0 ∷ 150 ∷ 0 ∷ 0 ∷ 0 ∷ 0 ∷
    7 ∷ 0 ∷ 20 ∷ 0 ∷ 0 ∷ 0 ∷ 0 ∷ 0 ∷ 0 ∷ 0 ∷ 0 ∷ 0 ∷ 0 ∷ 0 ∷ 0 ∷ 0 ∷ 0 ∷ 0 ∷ 0 ∷ 0 ∷ 0 ∷ 0 ∷ 0 ∷
    8 ∷ 0 ∷ 8 ∷ 0 ∷ 0 ∷ 223 ∷ 232 ∷ 0 ∷ 0 ∷ 0 ∷ 0 ∷
    9 ∷ 0 ∷ 4 ∷ 0 ∷ 0 ∷ 39 ∷ 16 ∷
    10 ∷ 0 ∷ 2 ∷ 39 ∷ 16 ∷
    11 ∷ 0 ∷ 2 ∷ 39 ∷ 16 ∷
    12 ∷ 0 ∷ 9 ∷ 94 ∷ 251 ∷ 0 ∷ 0 ∷ 58 ∷ 152 ∷ 0 ∷ 0 ∷ 0 ∷
    13 ∷ 0 ∷ 2 ∷ 1 ∷ 44 ∷
    []

pub zone_300_shown :
    file_text Request zone_300_fields ≡
    flatten
    (
    codes "# A request: a name and its value on each line.\n" ∷
    codes "file,request\n" ∷
    codes "# person number: 0 to 4294967295\n" ∷
    codes "person number,4711\n" ∷
    codes "# class: residential, non-residential or special pricing\n" ∷
    codes "class,non-residential\n" ∷
    codes "# zone number: 0 to 65535\n" ∷
    codes "# zone number bytes: 1 or 2, may be left out: then 1 where every zone number is at most 255, otherwise 2\n" ∷
    codes "zone number,300\n" ∷
    codes "# minimum scheme extension ME to historical cost recovery HR: dollars, 0.00 to 10,000,000.00, at most 2 decimals\n" ∷
    codes "# operating loading OL: dollars, 0.00 to 10,000,000.00 where class is special pricing, otherwise 0.00, at most 2 decimals\n" ∷
    codes "minimum scheme extension ME,15985.00\n" ∷
    codes "customer enhancement extension CE,0.00\n" ∷
    codes "distributor enhancement DE,0.00\n" ∷
    codes "transmission works TW,0.00\n" ∷
    codes "historical cost recovery HR,0.00\n" ∷
    codes "operating loading OL,0.00\n" ∷
    codes "# mode: posted, extension-like or bespoke\n" ∷
    codes "# demand: kVA, 0.00 to 10,000.00, at most 2 decimals\n" ∷
    codes "# bespoke rate: dollars per kVA, 0.00 to 100,000.00, at most 2 decimals, used in mode bespoke alone\n" ∷
    codes "LV mains mode,posted\n" ∷
    codes "LV mains demand,4.00\n" ∷
    codes "LV mains bespoke rate,0.00\n" ∷
    codes "distribution substation mode,posted\n" ∷
    codes "distribution substation demand,4.00\n" ∷
    codes "distribution substation bespoke rate,0.00\n" ∷
    codes "HV feeder mode,posted\n" ∷
    codes "HV feeder demand,2.00\n" ∷
    codes "HV feeder bespoke rate,0.00\n" ∷
    codes "zone substation mode,posted\n" ∷
    codes "zone substation demand,2.00\n" ∷
    codes "zone substation bespoke rate,0.00\n" ∷
    codes "sub-transmission mode,posted\n" ∷
    codes "sub-transmission demand,1.50\n" ∷
    codes "sub-transmission bespoke rate,0.00\n" ∷
    codes "# added demand: kVA, 0.00 to 10,000.00, at most 2 decimals\n" ∷
    codes "LV mains added demand,0.00\n" ∷
    codes "distribution substation added demand,0.00\n" ∷
    codes "HV feeder added demand,0.00\n" ∷
    codes "zone substation added demand,0.00\n" ∷
    codes "sub-transmission added demand,0.00\n" ∷
    codes "# year-one distribution revenue to year-one transmission revenue: dollars, 0.00 to 10,000,000.00, at most 2 decimals\n" ∷
    codes "year-one distribution revenue,573.20\n" ∷
    codes "year-one transmission revenue,0.00\n" ∷
    codes "# part-year factor: 0.0000 to 4.0000, at most 4 decimals\n" ∷
    codes "# up to year 7; the last given holds for all later years\n" ∷
    codes "part-year factor year 0,0.0000\n" ∷
    codes "part-year factor year 1,1.0000\n" ∷
    codes "# distribution tariff factor: 0.0000 to 4.0000, at most 4 decimals\n" ∷
    codes "# up to year 7; the last given holds for all later years\n" ∷
    codes "distribution tariff factor year 0,1.0000\n" ∷
    codes "# transmission tariff factor: 0.0000 to 4.0000, at most 4 decimals\n" ∷
    codes "# up to year 7; the last given holds for all later years\n" ∷
    codes "transmission tariff factor year 0,1.0000\n" ∷
    codes "# month: 0000-01 to 5461-04\n" ∷
    codes "# capacity: kVA, 0.01 to 10,000.00, at most 2 decimals\n" ∷
    codes "# scheme joined: 0 to 65535, 0 for none\n" ∷
    codes "# mark: none, opted out in writing or real estate\n" ∷
    codes "month,2026-04\n" ∷
    codes "capacity,150.00\n" ∷
    codes "scheme joined,0\n" ∷
    codes "mark,none\n" ∷
    [])
unfolding book_fields request_fields book_rows request_rows book_names request_names tier_names ordinals value_name from_to only_text sums_text allowed_text described names_text note_line field_notes decimal_from grouped_from last_digits each number fields_from first_with rounds number_in value_number value_line round_lines all_small form_line field_text head_text file_text flatten
zone_300_shown = refl

abbrev zone_1_in_two_bytes_fields : List ℕ
zone_1_in_two_bytes_fields =
    1 ∷ 0 ∷ 4 ∷ 67 ∷ 79 ∷ 78 ∷ 78 ∷
    2 ∷ 0 ∷ 4 ∷ 0 ∷ 0 ∷ 18 ∷ 103 ∷
    3 ∷ 0 ∷ 1 ∷ 1 ∷
    5 ∷ 0 ∷ 24 ∷ 0 ∷ 24 ∷ 100 ∷ 36 ∷ 0 ∷ 0 ∷ 0 ∷ 0 ∷ 0 ∷ 0 ∷ 0 ∷ 0 ∷ 0 ∷ 0 ∷ 0 ∷ 0 ∷ 0 ∷ 0 ∷ 0 ∷ 0 ∷ 0 ∷ 0 ∷ 0 ∷ 0 ∷
    6 ∷ 0 ∷ 45 ∷ 0 ∷ 0 ∷ 0 ∷ 1 ∷ 144 ∷ 0 ∷ 0 ∷ 0 ∷ 0 ∷ 0 ∷ 0 ∷ 0 ∷ 1 ∷ 144 ∷ 0 ∷ 0 ∷ 0 ∷ 0 ∷ 0 ∷ 0 ∷ 0 ∷ 0 ∷ 200 ∷ 0 ∷ 0 ∷ 0 ∷ 0 ∷ 0 ∷ 0 ∷ 0 ∷ 0 ∷ 200 ∷ 0 ∷ 0 ∷ 0 ∷ 0 ∷ 0 ∷ 0 ∷ 0 ∷ 0 ∷ 150 ∷ 0 ∷ 0 ∷ 0 ∷ 0 ∷
    7 ∷ 0 ∷ 20 ∷ 0 ∷ 0 ∷ 0 ∷ 0 ∷ 0 ∷ 0 ∷ 0 ∷ 0 ∷ 0 ∷ 0 ∷ 0 ∷ 0 ∷ 0 ∷ 0 ∷ 0 ∷ 0 ∷ 0 ∷ 0 ∷ 0 ∷ 0 ∷
    8 ∷ 0 ∷ 8 ∷ 0 ∷ 0 ∷ 223 ∷ 232 ∷ 0 ∷ 0 ∷ 0 ∷ 0 ∷
    9 ∷ 0 ∷ 4 ∷ 0 ∷ 0 ∷ 39 ∷ 16 ∷
    10 ∷ 0 ∷ 2 ∷ 39 ∷ 16 ∷
    11 ∷ 0 ∷ 2 ∷ 39 ∷ 16 ∷
    12 ∷ 0 ∷ 9 ∷ 94 ∷ 251 ∷ 0 ∷ 0 ∷ 58 ∷ 152 ∷ 0 ∷ 0 ∷ 0 ∷
    13 ∷ 0 ∷ 2 ∷ 0 ∷ 1 ∷
    []

pub zone_1_in_two_bytes_shown :
    file_text Request zone_1_in_two_bytes_fields ≡
    flatten
    (
    codes "# A request: a name and its value on each line.\n" ∷
    codes "file,request\n" ∷
    codes "# person number: 0 to 4294967295\n" ∷
    codes "person number,4711\n" ∷
    codes "# class: residential, non-residential or special pricing\n" ∷
    codes "class,non-residential\n" ∷
    codes "# zone number: 0 to 65535\n" ∷
    codes "# zone number bytes: 1 or 2, may be left out: then 1 where every zone number is at most 255, otherwise 2\n" ∷
    codes "zone number bytes,2\n" ∷
    codes "zone number,1\n" ∷
    codes "# minimum scheme extension ME to historical cost recovery HR: dollars, 0.00 to 10,000,000.00, at most 2 decimals\n" ∷
    codes "# operating loading OL: dollars, 0.00 to 10,000,000.00 where class is special pricing, otherwise 0.00, at most 2 decimals\n" ∷
    codes "minimum scheme extension ME,15985.00\n" ∷
    codes "customer enhancement extension CE,0.00\n" ∷
    codes "distributor enhancement DE,0.00\n" ∷
    codes "transmission works TW,0.00\n" ∷
    codes "historical cost recovery HR,0.00\n" ∷
    codes "operating loading OL,0.00\n" ∷
    codes "# mode: posted, extension-like or bespoke\n" ∷
    codes "# demand: kVA, 0.00 to 10,000.00, at most 2 decimals\n" ∷
    codes "# bespoke rate: dollars per kVA, 0.00 to 100,000.00, at most 2 decimals, used in mode bespoke alone\n" ∷
    codes "LV mains mode,posted\n" ∷
    codes "LV mains demand,4.00\n" ∷
    codes "LV mains bespoke rate,0.00\n" ∷
    codes "distribution substation mode,posted\n" ∷
    codes "distribution substation demand,4.00\n" ∷
    codes "distribution substation bespoke rate,0.00\n" ∷
    codes "HV feeder mode,posted\n" ∷
    codes "HV feeder demand,2.00\n" ∷
    codes "HV feeder bespoke rate,0.00\n" ∷
    codes "zone substation mode,posted\n" ∷
    codes "zone substation demand,2.00\n" ∷
    codes "zone substation bespoke rate,0.00\n" ∷
    codes "sub-transmission mode,posted\n" ∷
    codes "sub-transmission demand,1.50\n" ∷
    codes "sub-transmission bespoke rate,0.00\n" ∷
    codes "# added demand: kVA, 0.00 to 10,000.00, at most 2 decimals\n" ∷
    codes "LV mains added demand,0.00\n" ∷
    codes "distribution substation added demand,0.00\n" ∷
    codes "HV feeder added demand,0.00\n" ∷
    codes "zone substation added demand,0.00\n" ∷
    codes "sub-transmission added demand,0.00\n" ∷
    codes "# year-one distribution revenue to year-one transmission revenue: dollars, 0.00 to 10,000,000.00, at most 2 decimals\n" ∷
    codes "year-one distribution revenue,573.20\n" ∷
    codes "year-one transmission revenue,0.00\n" ∷
    codes "# part-year factor: 0.0000 to 4.0000, at most 4 decimals\n" ∷
    codes "# up to year 7; the last given holds for all later years\n" ∷
    codes "part-year factor year 0,0.0000\n" ∷
    codes "part-year factor year 1,1.0000\n" ∷
    codes "# distribution tariff factor: 0.0000 to 4.0000, at most 4 decimals\n" ∷
    codes "# up to year 7; the last given holds for all later years\n" ∷
    codes "distribution tariff factor year 0,1.0000\n" ∷
    codes "# transmission tariff factor: 0.0000 to 4.0000, at most 4 decimals\n" ∷
    codes "# up to year 7; the last given holds for all later years\n" ∷
    codes "transmission tariff factor year 0,1.0000\n" ∷
    codes "# month: 0000-01 to 5461-04\n" ∷
    codes "# capacity: kVA, 0.01 to 10,000.00, at most 2 decimals\n" ∷
    codes "# scheme joined: 0 to 65535, 0 for none\n" ∷
    codes "# mark: none, opted out in writing or real estate\n" ∷
    codes "month,2026-04\n" ∷
    codes "capacity,150.00\n" ∷
    codes "scheme joined,0\n" ∷
    codes "mark,none\n" ∷
    [])
unfolding book_fields request_fields book_rows request_rows book_names request_names tier_names ordinals value_name from_to only_text sums_text allowed_text described names_text note_line field_notes decimal_from grouped_from last_digits each number fields_from first_with rounds number_in value_number value_line round_lines all_small form_line field_text head_text file_text flatten
zone_1_in_two_bytes_shown = refl
