-- The new form's bytes, and how small files read: each refusal of reading and of writing, at its limit and one past it.
use Rattle.std.specs.Prelude.{ℕ, ◌-◌, ◌≡◌, refl, length, take, drop, replicate, Err, Ok}
use mathlib.Core.List.{List, [], ◌∷◌, ◌++◌, map, flat_map}
use Rattle.numbers.specs.BigEndian.{number, bytes_of}
use Rattle.numbers.specs.Check.{check_from}
use Rattle.field_walk.specs.Walk.{due_from, all_had, front_of, walk_from}
use Rattle.tagged.specs.Find.{fields_from, first_with, fields_with}
use Rattle.tagged.specs.File.{refusal, FileAnswer}
use Rattle.field_values.specs.Judged.{same_bytes}
use Rattle.ledger.specs.Lists.{at_start}
use Rattle.ledger.specs.Records.{no_scheme, no_party, no_parties, new_ledger}
use Rattle.ledger.specs.Columns.{sum_over, first_put_in}
use Rattle.ledger.specs.Sound.{parties_sound, schemes_sound, all_zero, rise_to, sound_numbers, sound_figures, sound}
use Rattle.ledger.specs.Lookup.{place_of}
use Rattle.ledger.specs.declared.records.Party.{Party}
use Rattle.ledger.specs.declared.records.Ledger.{Ledger}
use Rattle.stored.specs.Layout.{record_bytes, values_at}
use Rattle.stored.specs.Form.{scheme_parts, party_parts, stored_form, stored_schemes, stored_entries, no_schemes, stored_ledger}
use Rattle.stored.specs.Writing.{written_answer, write_of}
use Rattle.stored.specs.FormOutput.{form_end}
use Rattle.stored.specs.Reading.{table_answer, read_answer, read_back, of_reading, read_of}
use Rattle.stored.specs.declared.form.Form.TheVariants.{Pio2}

-- a ledger of one scheme and its first entry
abbrev pub one_scheme : Ledger
one_scheme =
    record {
      month = 12;
      connections = 1;
      charged = 300;
      borne = 7;
      next_scheme = 2;
      next_entry = 2;
      cleared_collected = 0;
      cleared_paid_out = 0;
      cleared_fees = 0;
      entries = 1;
      count = 1;
      schemes = record { number = 1; cost = 5; fee = 1; minimum = 2; opening = 6; term = 84; fees = 0 } ∷ replicate 63 no_scheme;
    }

abbrev pub one_party : Party
one_party = record { number = 1; scheme = 1; person = 70000; capacity = 3; put_in = 5; credited = 0; paid_out = 0 }

-- a ledger of one scheme that was joined, with a part of the credit paid out
abbrev pub joined_scheme : Ledger
joined_scheme =
    record {
      month = 12;
      connections = 2;
      charged = 300;
      borne = 7;
      next_scheme = 2;
      next_entry = 3;
      cleared_collected = 0;
      cleared_paid_out = 0;
      cleared_fees = 0;
      entries = 2;
      count = 1;
      schemes = record { number = 1; cost = 50; fee = 1; minimum = 2; opening = 6; term = 84; fees = 1 } ∷ replicate 63 no_scheme;
    }

abbrev pub joined_parties : List Party
joined_parties =
    record { number = 1; scheme = 1; person = 70000; capacity = 3; put_in = 50; credited = 24; paid_out = 7 } ∷
    record { number = 2; scheme = 1; person = 9; capacity = 3; put_in = 25; credited = 0; paid_out = 0 } ∷
    []

abbrev pub new_form : List ℕ
new_form =
    1 ∷ 0 ∷ 4 ∷ 80 ∷ 73 ∷ 79 ∷ 50 ∷ 2 ∷ 0 ∷ 54 ∷ 0 ∷ 0 ∷ 0 ∷ 0 ∷ 0 ∷ 0 ∷ 0 ∷ 0 ∷ 0 ∷ 0 ∷ 0 ∷ 0 ∷ 0 ∷ 0 ∷ 0 ∷ 0 ∷ 0 ∷ 0 ∷ 0 ∷ 0 ∷ 0 ∷ 0 ∷ 0 ∷ 0 ∷ 0 ∷ 1 ∷ 0 ∷ 0 ∷ 0 ∷ 1 ∷ 0 ∷ 0 ∷ 0 ∷ 0 ∷ 0 ∷ 0 ∷ 0 ∷ 0 ∷ 0 ∷ 0 ∷ 0 ∷ 0 ∷ 0 ∷ 0 ∷ 0 ∷ 0 ∷ 0 ∷ 0 ∷ 0 ∷ 0 ∷ 0 ∷ 0 ∷ 0 ∷ 0 ∷ 255 ∷ 0 ∷ 2 ∷ 184 ∷ 16 ∷ []

abbrev pub one_form : List ℕ
one_form =
    1 ∷ 0 ∷ 4 ∷ 80 ∷ 73 ∷ 79 ∷ 50 ∷ 2 ∷ 0 ∷ 54 ∷ 0 ∷ 12 ∷ 0 ∷ 0 ∷ 0 ∷ 1 ∷ 0 ∷ 0 ∷ 0 ∷ 0 ∷ 0 ∷ 0 ∷ 1 ∷ 44 ∷ 0 ∷ 0 ∷ 0 ∷ 0 ∷ 0 ∷ 0 ∷ 0 ∷ 7 ∷ 0 ∷ 0 ∷ 0 ∷ 2 ∷ 0 ∷ 0 ∷ 0 ∷ 2 ∷ 0 ∷ 0 ∷ 0 ∷ 0 ∷ 0 ∷ 0 ∷ 0 ∷ 0 ∷ 0 ∷ 0 ∷ 0 ∷ 0 ∷ 0 ∷ 0 ∷ 0 ∷ 0 ∷ 0 ∷ 0 ∷ 0 ∷ 0 ∷ 0 ∷ 0 ∷ 0 ∷ 0 ∷ 3 ∷ 0 ∷ 28 ∷ 0 ∷ 0 ∷ 0 ∷ 1 ∷ 0 ∷ 0 ∷ 0 ∷ 5 ∷ 0 ∷ 0 ∷ 0 ∷ 1 ∷ 0 ∷ 0 ∷ 0 ∷ 2 ∷ 0 ∷ 6 ∷ 0 ∷ 84 ∷ 0 ∷ 0 ∷ 0 ∷ 0 ∷ 0 ∷ 0 ∷ 0 ∷ 0 ∷ 4 ∷ 0 ∷ 34 ∷ 0 ∷ 0 ∷ 0 ∷ 1 ∷ 0 ∷ 1 ∷ 0 ∷ 1 ∷ 17 ∷ 112 ∷ 0 ∷ 0 ∷ 0 ∷ 3 ∷ 0 ∷ 0 ∷ 0 ∷ 5 ∷ 0 ∷ 0 ∷ 0 ∷ 0 ∷ 0 ∷ 0 ∷ 0 ∷ 0 ∷ 0 ∷ 0 ∷ 0 ∷ 0 ∷ 0 ∷ 0 ∷ 0 ∷ 0 ∷ 255 ∷ 0 ∷ 2 ∷ 14 ∷ 39 ∷ []

abbrev pub joined_form : List ℕ
joined_form =
    1 ∷ 0 ∷ 4 ∷ 80 ∷ 73 ∷ 79 ∷ 50 ∷ 2 ∷ 0 ∷ 54 ∷ 0 ∷ 12 ∷ 0 ∷ 0 ∷ 0 ∷ 2 ∷ 0 ∷ 0 ∷ 0 ∷ 0 ∷ 0 ∷ 0 ∷ 1 ∷ 44 ∷ 0 ∷ 0 ∷ 0 ∷ 0 ∷ 0 ∷ 0 ∷ 0 ∷ 7 ∷ 0 ∷ 0 ∷ 0 ∷ 2 ∷ 0 ∷ 0 ∷ 0 ∷ 3 ∷ 0 ∷ 0 ∷ 0 ∷ 0 ∷ 0 ∷ 0 ∷ 0 ∷ 0 ∷ 0 ∷ 0 ∷ 0 ∷ 0 ∷ 0 ∷ 0 ∷ 0 ∷ 0 ∷ 0 ∷ 0 ∷ 0 ∷ 0 ∷ 0 ∷ 0 ∷ 0 ∷ 0 ∷ 3 ∷ 0 ∷ 28 ∷ 0 ∷ 0 ∷ 0 ∷ 1 ∷ 0 ∷ 0 ∷ 0 ∷ 50 ∷ 0 ∷ 0 ∷ 0 ∷ 1 ∷ 0 ∷ 0 ∷ 0 ∷ 2 ∷ 0 ∷ 6 ∷ 0 ∷ 84 ∷ 0 ∷ 0 ∷ 0 ∷ 0 ∷ 0 ∷ 0 ∷ 0 ∷ 1 ∷ 4 ∷ 0 ∷ 34 ∷ 0 ∷ 0 ∷ 0 ∷ 1 ∷ 0 ∷ 1 ∷ 0 ∷ 1 ∷ 17 ∷ 112 ∷ 0 ∷ 0 ∷ 0 ∷ 3 ∷ 0 ∷ 0 ∷ 0 ∷ 50 ∷ 0 ∷ 0 ∷ 0 ∷ 0 ∷ 0 ∷ 0 ∷ 0 ∷ 24 ∷ 0 ∷ 0 ∷ 0 ∷ 0 ∷ 0 ∷ 0 ∷ 0 ∷ 7 ∷ 4 ∷ 0 ∷ 34 ∷ 0 ∷ 0 ∷ 0 ∷ 2 ∷ 0 ∷ 1 ∷ 0 ∷ 0 ∷ 0 ∷ 9 ∷ 0 ∷ 0 ∷ 0 ∷ 3 ∷ 0 ∷ 0 ∷ 0 ∷ 25 ∷ 0 ∷ 0 ∷ 0 ∷ 0 ∷ 0 ∷ 0 ∷ 0 ∷ 0 ∷ 0 ∷ 0 ∷ 0 ∷ 0 ∷ 0 ∷ 0 ∷ 0 ∷ 0 ∷ 255 ∷ 0 ∷ 2 ∷ 213 ∷ 227 ∷ []

-- a form with other bytes from a place on, and with this check
abbrev pub form_with : List ℕ → ℕ → List ℕ → List ℕ → List ℕ
form_with form at bytes check = take (length form - 2) (at_start (take at form ++ bytes) form) ++ check

-- put in 6, not the cost
abbrev pub unsound_form : List ℕ
unsound_form = form_with one_form 115 (6 ∷ []) (4 ∷ 47 ∷ [])

-- the next entry is the entry's own number
abbrev unsound_numbers : List ℕ
unsound_numbers = form_with one_form 39 (1 ∷ []) (63 ∷ 239 ∷ [])

pub forms :
    (stored_form Pio2 new_ledger [] ≡ new_form) ×
    (stored_form Pio2 one_scheme (one_party ∷ no_party ∷ []) ≡ one_form) ×
    (stored_form Pio2 joined_scheme joined_parties ≡ joined_form)
unfolding stored_form scheme_parts party_parts record_bytes bytes_of check_from flat_map
forms = (refl, refl, refl)

-- a ledger of two schemes and three entries, sound or not, whose values have the bytes 1 to 212 in the form's order
abbrev every_byte : Ledger
every_byte =
    record {
      month = 258;
      connections = 50595078;
      charged = 506664896818842894;
      borne = 1085386279523456278;
      next_scheme = 387455258;
      next_entry = 454827294;
      cleared_collected = 2242829044932683046;
      cleared_paid_out = 2821550427637296430;
      cleared_fees = 3400271810341909814;
      entries = 3;
      count = 2;
      schemes =
          record { number = 926431546; cost = 993803582; fee = 1061175618; minimum = 1128547654; opening = 18248; term = 18762; fees = 5425796649808056658 } ∷
          record { number = 1398035798; cost = 1465407834; fee = 1532779870; minimum = 1600151906; opening = 25444; term = 25958; fees = 7451321489274203502 } ∷
          replicate 62 no_scheme;
    }

abbrev every_byte_parties : List Party
every_byte_parties =
    record { number = 1869640050; scheme = 29556; person = 1970698104; capacity = 2038070140; put_in = 2105442176; credited = 9332165983064197000; paid_out = 9910887365768810384 } ∷
    record { number = 2442302356; scheme = 38294; person = 2543360410; capacity = 2610732446; put_in = 2678104482; credited = 11791731859558803882; paid_out = 12370453242263417266 } ∷
    record { number = 3014964662; scheme = 47032; person = 3116022716; capacity = 3183394752; put_in = 3250766788; credited = 14251297736053410764; paid_out = 14830019118758024148 } ∷
    []

abbrev every_byte_fields : List ℕ
every_byte_fields =
    1 ∷ 0 ∷ 4 ∷ 80 ∷ 73 ∷ 79 ∷ 50 ∷ 2 ∷ 0 ∷ 54 ∷ 1 ∷ 2 ∷ 3 ∷ 4 ∷ 5 ∷ 6 ∷ 7 ∷ 8 ∷ 9 ∷ 10 ∷ 11 ∷ 12 ∷ 13 ∷ 14 ∷ 15 ∷ 16 ∷ 17 ∷ 18 ∷ 19 ∷ 20 ∷ 21 ∷ 22 ∷ 23 ∷ 24 ∷ 25 ∷ 26 ∷ 27 ∷ 28 ∷ 29 ∷ 30 ∷ 31 ∷ 32 ∷ 33 ∷ 34 ∷ 35 ∷ 36 ∷ 37 ∷ 38 ∷ 39 ∷ 40 ∷ 41 ∷ 42 ∷ 43 ∷ 44 ∷ 45 ∷ 46 ∷ 47 ∷ 48 ∷ 49 ∷ 50 ∷ 51 ∷ 52 ∷ 53 ∷ 54 ∷ 3 ∷ 0 ∷ 28 ∷ 55 ∷ 56 ∷ 57 ∷ 58 ∷ 59 ∷ 60 ∷ 61 ∷ 62 ∷ 63 ∷ 64 ∷ 65 ∷ 66 ∷ 67 ∷ 68 ∷ 69 ∷ 70 ∷ 71 ∷ 72 ∷ 73 ∷ 74 ∷ 75 ∷ 76 ∷ 77 ∷ 78 ∷ 79 ∷ 80 ∷ 81 ∷ 82 ∷ 3 ∷ 0 ∷ 28 ∷ 83 ∷ 84 ∷ 85 ∷ 86 ∷ 87 ∷ 88 ∷ 89 ∷ 90 ∷ 91 ∷ 92 ∷ 93 ∷ 94 ∷ 95 ∷ 96 ∷ 97 ∷ 98 ∷ 99 ∷ 100 ∷ 101 ∷ 102 ∷ 103 ∷ 104 ∷ 105 ∷ 106 ∷ 107 ∷ 108 ∷ 109 ∷ 110 ∷ 4 ∷ 0 ∷ 34 ∷ 111 ∷ 112 ∷ 113 ∷ 114 ∷ 115 ∷ 116 ∷ 117 ∷ 118 ∷ 119 ∷ 120 ∷ 121 ∷ 122 ∷ 123 ∷ 124 ∷ 125 ∷ 126 ∷ 127 ∷ 128 ∷ 129 ∷ 130 ∷ 131 ∷ 132 ∷ 133 ∷ 134 ∷ 135 ∷ 136 ∷ 137 ∷ 138 ∷ 139 ∷ 140 ∷ 141 ∷ 142 ∷ 143 ∷ 144 ∷ 4 ∷ 0 ∷ 34 ∷ 145 ∷ 146 ∷ 147 ∷ 148 ∷ 149 ∷ 150 ∷ 151 ∷ 152 ∷ 153 ∷ 154 ∷ 155 ∷ 156 ∷ 157 ∷ 158 ∷ 159 ∷ 160 ∷ 161 ∷ 162 ∷ 163 ∷ 164 ∷ 165 ∷ 166 ∷ 167 ∷ 168 ∷ 169 ∷ 170 ∷ 171 ∷ 172 ∷ 173 ∷ 174 ∷ 175 ∷ 176 ∷ 177 ∷ 178 ∷ 4 ∷ 0 ∷ 34 ∷ 179 ∷ 180 ∷ 181 ∷ 182 ∷ 183 ∷ 184 ∷ 185 ∷ 186 ∷ 187 ∷ 188 ∷ 189 ∷ 190 ∷ 191 ∷ 192 ∷ 193 ∷ 194 ∷ 195 ∷ 196 ∷ 197 ∷ 198 ∷ 199 ∷ 200 ∷ 201 ∷ 202 ∷ 203 ∷ 204 ∷ 205 ∷ 206 ∷ 207 ∷ 208 ∷ 209 ∷ 210 ∷ 211 ∷ 212 ∷ []

pub every_byte_written : stored_form Pio2 every_byte (every_byte_parties ++ (no_party ∷ [])) ≡ every_byte_fields ++ (255 ∷ 0 ∷ 2 ∷ 55 ∷ 240 ∷ [])
unfolding stored_form scheme_parts party_parts record_bytes bytes_of check_from flat_map
every_byte_written = refl

pub every_byte_read : (stored_ledger Pio2 every_byte_fields ≡ every_byte) × (stored_entries Pio2 every_byte_fields ≡ every_byte_parties)
unfolding stored_entries stored_schemes stored_ledger no_schemes values_at number fields_from first_with fields_with
every_byte_read = (refl, refl)

-- wrong letters, and a field 02 of one byte less
abbrev pub two_faults_form : List ℕ
two_faults_form = 1 ∷ 0 ∷ 4 ∷ 80 ∷ 73 ∷ 79 ∷ 77 ∷ 2 ∷ 0 ∷ 53 ∷ replicate 53 0 ++ (255 ∷ 0 ∷ 2 ∷ 149 ∷ 95 ∷ [])

abbrev refused : ℕ → ℕ → ℕ → FileAnswer
refused n file place = Err (refusal n file place)

-- a file, the table's length, and the answer
abbrev pub read_cases : List ((ℕ × List ℕ) × FileAnswer)
read_cases =
    ((0, []), refused 1 1 0) ∷
    ((0, form_with new_form 0 [] (184 ∷ 17 ∷ [])), refused 2 1 67) ∷
    ((0, form_with new_form 6 (77 ∷ []) (170 ∷ 142 ∷ [])), refused 3 1 3) ∷
    -- the old form's letters, with the new lengths
    ((0, form_with new_form 6 (78 ∷ []) (103 ∷ 179 ∷ [])), refused 3 1 3) ∷
    ((0, new_form), Ok tt) ∷
    ((1, one_form), Ok tt) ∷
    ((0, one_form), refused 9 0 0) ∷
    ((2, joined_form), Ok tt) ∷
    ((1, joined_form), refused 9 0 0) ∷
    ((1, unsound_form), refused 13 0 0) ∷
    ((1, unsound_numbers), refused 13 0 0) ∷
    -- 1 for the rest before 3, 3 before 9, and 9 before 13
    ((0, two_faults_form), refused 1 1 7) ∷
    ((0, form_with one_form 6 (77 ∷ []) (159 ∷ 222 ∷ [])), refused 3 1 3) ∷
    ((0, unsound_form), refused 9 0 0) ∷
    []

pub read_cases_hold : map (λ row. read_answer Pio2 row.0.0 row.0.1) read_cases ≡ map (λ row. row.1) read_cases
unfolding read_answer table_answer stored_entries stored_schemes stored_ledger no_schemes values_at number check_from due_from all_had front_of walk_from fields_from first_with fields_with same_bytes sound sound_figures sound_numbers rise_to parties_sound schemes_sound all_zero sum_over first_put_in place_of
read_cases_hold = refl

-- what is read, with a table of two records: the second, past the last entry, stays
pub read_case_holds : read_of new_ledger (no_party ∷ one_party ∷ []) one_form ≡ record { answer = Ok tt; ledger = one_scheme; table = one_party ∷ one_party ∷ [] }
unfolding read_answer table_answer stored_entries stored_schemes stored_ledger no_schemes values_at number check_from due_from all_had front_of walk_from fields_from first_with fields_with same_bytes sound sound_figures sound_numbers rise_to parties_sound schemes_sound all_zero sum_over first_put_in place_of
read_case_holds = refl

-- a refused reading leaves ledger and table as they are
pub refused_case_holds :
    read_of one_scheme (one_party ∷ no_party ∷ []) unsound_form
    ≡ record { answer = refused 13 0 0; ledger = one_scheme; table = one_party ∷ no_party ∷ [] }
unfolding read_answer table_answer stored_entries stored_schemes stored_ledger no_schemes values_at number check_from due_from all_had front_of walk_from fields_from first_with fields_with same_bytes sound sound_figures sound_numbers rise_to parties_sound schemes_sound all_zero sum_over first_put_in place_of
refused_case_holds = refl

-- the same with the entries by value: 512 of them, of which those past the last hold zeros
pub read_back_cases_hold :
    (read_back Pio2 new_ledger 1 one_form ≡ record { answer = Ok tt; ledger = one_scheme; parties = one_party ∷ replicate 511 no_party }) ×
    (read_back Pio2 new_ledger 2 joined_form ≡ record { answer = Ok tt; ledger = joined_scheme; parties = joined_parties ++ replicate 510 no_party }) ×
    (read_back Pio2 one_scheme 0 one_form ≡ record { answer = refused 9 0 0; ledger = one_scheme; parties = replicate 512 no_party })
unfolding read_answer table_answer stored_entries stored_schemes stored_ledger no_schemes values_at number check_from due_from all_had front_of walk_from fields_from first_with fields_with same_bytes sound sound_figures sound_numbers rise_to parties_sound schemes_sound all_zero sum_over first_put_in place_of no_parties
read_back_cases_hold = (refl, refl, refl)

-- a ledger whose last field is its own, and one whose last is a scheme's
pub ledgers_read :
    (stored_ledger Pio2 (take 64 every_byte_fields) ≡ record every_byte { entries = 0; count = 0; schemes = replicate 64 no_scheme }) ×
    (stored_ledger Pio2 (take 126 every_byte_fields) ≡ record every_byte { entries = 0 })
unfolding stored_entries stored_schemes stored_ledger no_schemes values_at number fields_from first_with fields_with
ledgers_read = (refl, refl)

-- what a reading hands back: the entries as they were read, or none
pub readings_told :
    (of_reading (Ok tt) one_scheme joined_parties ≡ record { answer = Ok tt; ledger = one_scheme; parties = joined_parties }) ×
    (of_reading (refused 9 0 0) one_scheme joined_parties ≡ record { answer = refused 9 0 0; ledger = one_scheme; parties = replicate 512 no_party })
unfolding no_parties
readings_told = (refl, refl)

-- schemes alone, without an entry after them
pub schemes_read :
    (stored_schemes Pio2 (take 126 every_byte_fields) ≡ take 2 every_byte.schemes) × (stored_entries Pio2 (take 126 every_byte_fields) ≡ [])
unfolding stored_schemes stored_entries values_at number fields_from fields_with
schemes_read = (refl, refl)

-- the last of 64 schemes has its field
pub last_scheme_written :
    drop 63 (scheme_parts Pio2 (record every_byte { count = 64; schemes = replicate 63 no_scheme ++ take 1 every_byte.schemes }))
    ≡ (3, 55 ∷ 56 ∷ 57 ∷ 58 ∷ 59 ∷ 60 ∷ 61 ∷ 62 ∷ 63 ∷ 64 ∷ 65 ∷ 66 ∷ 67 ∷ 68 ∷ 69 ∷ 70 ∷ 71 ∷ 72 ∷ 73 ∷ 74 ∷ 75 ∷ 76 ∷ 77 ∷ 78 ∷ 79 ∷ 80 ∷ 81 ∷ 82 ∷ []) ∷ []
unfolding scheme_parts record_bytes bytes_of
last_scheme_written = refl

-- written without the soundness test
pub form_cases_hold :
    (form_end Pio2 one_scheme (one_party ∷ []) (replicate 138 7) ≡ record { answer = Ok 137; output = one_form ++ (7 ∷ []) }) ×
    (form_end Pio2 one_scheme (one_party ∷ no_party ∷ []) (replicate 136 7) ≡ record { answer = Err (refusal 14 0 0); output = replicate 136 7 }) ×
    (form_end Pio2 joined_scheme joined_parties (replicate 174 7) ≡ record { answer = Ok 174; output = joined_form }) ×
    (form_end Pio2 joined_scheme joined_parties (replicate 173 7) ≡ record { answer = Err (refusal 14 0 0); output = replicate 173 7 })
unfolding stored_form scheme_parts party_parts record_bytes bytes_of check_from flat_map
form_cases_hold = (refl, refl, refl, refl)

-- an output as long as the form, one byte longer and one byte shorter; a table shorter than the entries
pub write_cases_hold :
    (write_of one_scheme (one_party ∷ []) (replicate 137 7) ≡ record { answer = Ok 137; output = one_form }) ×
    (write_of one_scheme (one_party ∷ []) (replicate 138 7) ≡ record { answer = Ok 137; output = one_form ++ (7 ∷ []) }) ×
    (write_of one_scheme (one_party ∷ []) (replicate 136 7) ≡ record { answer = Err (refusal 14 0 0); output = replicate 136 7 }) ×
    (write_of new_ledger [] (replicate 69 7) ≡ record { answer = Ok 69; output = new_form }) ×
    (write_of new_ledger [] (replicate 68 7) ≡ record { answer = Err (refusal 14 0 0); output = replicate 68 7 }) ×
    (write_of one_scheme [] (replicate 137 7) ≡ record { answer = Err (refusal 13 0 0); output = replicate 137 7 }) ×
    -- 13 before 14
    (write_of one_scheme [] [] ≡ record { answer = Err (refusal 13 0 0); output = [] }) ×
    (write_of one_scheme (no_party ∷ []) (replicate 136 7) ≡ record { answer = Err (refusal 13 0 0); output = replicate 136 7 })
unfolding written_answer stored_form scheme_parts party_parts record_bytes bytes_of check_from flat_map sound sound_figures sound_numbers rise_to parties_sound schemes_sound all_zero sum_over first_put_in place_of
write_cases_hold = (refl, refl, refl, refl, refl, refl, refl, refl)
