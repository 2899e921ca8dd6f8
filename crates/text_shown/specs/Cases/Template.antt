-- The two templates in literals.
use Rattle.std.specs.Prelude.{◌≡◌, refl, codes}
use mathlib.Core.List.{[], ◌∷◌, flatten}
use Rattle.text_names.specs.declared.table.Kind.TheVariants.{Book, Request}
use Rattle.text_names.specs.Table.{book_fields, request_fields, book_rows, request_rows}
use Rattle.text_names.specs.Names.{book_names, request_names, tier_names, ordinals, value_name}
use Rattle.text_names.specs.Notes.{from_to, only_text, sums_text, allowed_text, described, names_text, note_line, field_notes}
use Rattle.text_output.specs.Digits.{decimal_from, grouped_from, last_digits}
use Rattle.text_output.specs.Pieces.{each}
use Rattle.numbers.specs.BigEndian.{number}
use Rattle.tagged.specs.Find.{fields_from, first_with}
use Rattle.text_shown.specs.Values.{rounds, number_in, value_number}
use Rattle.text_shown.specs.Lines.{value_line, round_lines, all_small, form_line, field_text, head_text, file_text}
use Rattle.text_shown.specs.Template.{template_book, template_request, template_fields}

pub book_template :
    file_text Book (template_fields Book) ≡
    flatten
    (
    codes "# A rate book: a name and its value on each line.\n" ∷
    codes "file,rate book\n" ∷
    codes "# discount rate: percent, 0.00 to 100.00, at most 2 decimals\n" ∷
    codes "discount rate,0.00\n" ∷
    codes "# selected opex: thousand dollars, 0 to 4294967295, together at most the distribution revenue together, which isn't 0\n" ∷
    codes "# distribution revenue: thousand dollars, 0 to 4294967295\n" ∷
    codes "selected opex 1,0\n" ∷
    codes "distribution revenue 1,1\n" ∷
    codes "selected opex 2,0\n" ∷
    codes "distribution revenue 2,1\n" ∷
    codes "selected opex 3,0\n" ∷
    codes "distribution revenue 3,1\n" ∷
    codes "selected opex 4,0\n" ∷
    codes "distribution revenue 4,1\n" ∷
    codes "selected opex 5,0\n" ∷
    codes "distribution revenue 5,1\n" ∷
    codes "# distribution revenue factor: 0.0000 to 4.0000, at most 4 decimals\n" ∷
    codes "# up to year 7; the last given holds for all later years\n" ∷
    codes "distribution revenue factor year 0,1.0000\n" ∷
    codes "# transmission revenue factor: 0.0000 to 4.0000, at most 4 decimals\n" ∷
    codes "# up to year 7; the last given holds for all later years\n" ∷
    codes "transmission revenue factor year 0,1.0000\n" ∷
    codes "# threshold: dollars, 0.00 to 50,000.00, at most 2 decimals\n" ∷
    codes "# fee: dollars, 0.00 to the minimum, at most 2 decimals\n" ∷
    codes "# minimum: dollars, 0.00 to 10,000,000.00, at most 2 decimals\n" ∷
    codes "# term months: 84 to 65535\n" ∷
    codes "threshold,50000.00\n" ∷
    codes "fee,200.00\n" ∷
    codes "minimum,200.00\n" ∷
    codes "term months,84\n" ∷
    codes "# capacity charged: no or yes\n" ∷
    codes "# credit share: percent, 0.00 to 100.00, at most 2 decimals\n" ∷
    codes "capacity charged,yes\n" ∷
    codes "credit share,65.00\n" ∷
    codes "# number: 0 to 65535, above that of the zone before\n" ∷
    codes "# LV mains rate to sub-transmission rate: dollars per kVA, 0.00 to 100,000.00, at most 2 decimals\n" ∷
    codes "# up to the eighth zone\n" ∷
    codes "# zone number bytes: 1 or 2, may be left out: then 1 where every zone number is at most 255, otherwise 2\n" ∷
    codes "first zone number,1\n" ∷
    codes "first zone LV mains rate,0.00\n" ∷
    codes "first zone distribution substation rate,0.00\n" ∷
    codes "first zone HV feeder rate,85.00\n" ∷
    codes "first zone zone substation rate,380.00\n" ∷
    codes "first zone sub-transmission rate,100.00\n" ∷
    [])
unfolding book_fields request_fields book_rows request_rows book_names request_names tier_names ordinals value_name from_to only_text sums_text allowed_text described names_text note_line field_notes decimal_from grouped_from last_digits each number fields_from first_with rounds number_in value_number value_line round_lines all_small form_line field_text head_text file_text template_book template_request flatten
book_template = refl

pub request_template :
    file_text Request (template_fields Request) ≡
    flatten
    (
    codes "# A request: a name and its value on each line.\n" ∷
    codes "file,request\n" ∷
    codes "# person number: 0 to 4294967295\n" ∷
    codes "person number,4711\n" ∷
    codes "# class: residential, non-residential or special pricing\n" ∷
    codes "class,non-residential\n" ∷
    codes "# zone number: 0 to 65535\n" ∷
    codes "# zone number bytes: 1 or 2, may be left out: then 1 where every zone number is at most 255, otherwise 2\n" ∷
    codes "zone number,1\n" ∷
    codes "# minimum scheme extension ME to historical cost recovery HR: dollars, 0.00 to 10,000,000.00, at most 2 decimals\n" ∷
    codes "# operating loading OL: dollars, 0.00 to 10,000,000.00 where class is special pricing, otherwise 0.00, at most 2 decimals\n" ∷
    codes "minimum scheme extension ME,15985.00\n" ∷
    codes "customer enhancement extension CE,0.00\n" ∷
    codes "distributor enhancement DE,0.00\n" ∷
    codes "transmission works TW,0.00\n" ∷
    codes "historical cost recovery HR,0.00\n" ∷
    codes "operating loading OL,0.00\n" ∷
    codes "# mode: posted, extension-like or bespoke\n" ∷
    codes "# demand: kVA, 0.00 to 10,000.00, at most 2 decimals\n" ∷
    codes "# bespoke rate: dollars per kVA, 0.00 to 100,000.00, at most 2 decimals, used in mode bespoke alone\n" ∷
    codes "LV mains mode,posted\n" ∷
    codes "LV mains demand,4.00\n" ∷
    codes "LV mains bespoke rate,0.00\n" ∷
    codes "distribution substation mode,posted\n" ∷
    codes "distribution substation demand,4.00\n" ∷
    codes "distribution substation bespoke rate,0.00\n" ∷
    codes "HV feeder mode,posted\n" ∷
    codes "HV feeder demand,2.00\n" ∷
    codes "HV feeder bespoke rate,0.00\n" ∷
    codes "zone substation mode,posted\n" ∷
    codes "zone substation demand,2.00\n" ∷
    codes "zone substation bespoke rate,0.00\n" ∷
    codes "sub-transmission mode,posted\n" ∷
    codes "sub-transmission demand,1.50\n" ∷
    codes "sub-transmission bespoke rate,0.00\n" ∷
    codes "# added demand: kVA, 0.00 to 10,000.00, at most 2 decimals\n" ∷
    codes "LV mains added demand,0.00\n" ∷
    codes "distribution substation added demand,0.00\n" ∷
    codes "HV feeder added demand,0.00\n" ∷
    codes "zone substation added demand,0.00\n" ∷
    codes "sub-transmission added demand,0.00\n" ∷
    codes "# year-one distribution revenue to year-one transmission revenue: dollars, 0.00 to 10,000,000.00, at most 2 decimals\n" ∷
    codes "year-one distribution revenue,573.20\n" ∷
    codes "year-one transmission revenue,0.00\n" ∷
    codes "# part-year factor: 0.0000 to 4.0000, at most 4 decimals\n" ∷
    codes "# up to year 7; the last given holds for all later years\n" ∷
    codes "part-year factor year 0,0.0000\n" ∷
    codes "part-year factor year 1,1.0000\n" ∷
    codes "# distribution tariff factor: 0.0000 to 4.0000, at most 4 decimals\n" ∷
    codes "# up to year 7; the last given holds for all later years\n" ∷
    codes "distribution tariff factor year 0,1.0000\n" ∷
    codes "# transmission tariff factor: 0.0000 to 4.0000, at most 4 decimals\n" ∷
    codes "# up to year 7; the last given holds for all later years\n" ∷
    codes "transmission tariff factor year 0,1.0000\n" ∷
    codes "# month: 0000-01 to 5461-04\n" ∷
    codes "# capacity: kVA, 0.01 to 10,000.00, at most 2 decimals\n" ∷
    codes "# scheme joined: 0 to 65535, 0 for none\n" ∷
    codes "# mark: none, opted out in writing or real estate\n" ∷
    codes "month,2026-04\n" ∷
    codes "capacity,150.00\n" ∷
    codes "scheme joined,0\n" ∷
    codes "mark,none\n" ∷
    [])
unfolding book_fields request_fields book_rows request_rows book_names request_names tier_names ordinals value_name from_to only_text sums_text allowed_text described names_text note_line field_notes decimal_from grouped_from last_digits each number fields_from first_with rounds number_in value_number value_line round_lines all_small form_line field_text head_text file_text template_book template_request flatten
request_template = refl
