-- The moves between the forms, in literals: a new ledger, a ledger with one scheme, one with two of which the first was joined, and the same after the first
-- was cleared. Each refusal at its limit and one past it, and in its order.
use Rattle.std.specs.Prelude.{ℕ, ◌≡◌, refl, length, replicate, true, false, Err, Ok}
use mathlib.Core.List.{List, [], ◌∷◌, ◌++◌, map, flat_map}
use Rattle.numbers.specs.BigEndian.{number, bytes_of}
use Rattle.numbers.specs.Check.{check_from}
use Rattle.field_walk.specs.Walk.{due_from, all_had, front_of, walk_from}
use Rattle.tagged.specs.Find.{fields_from, first_with, fields_with}
use Rattle.tagged.specs.File.{refusal}
use Rattle.field_values.specs.Judged.{same_bytes}
use Rattle.ledger.specs.Columns.{sum_over, first_put_in}
use Rattle.ledger.specs.Records.{no_scheme, no_party, new_ledger}
use Rattle.ledger.specs.Sound.{parties_sound, schemes_sound, all_zero, rise_to, sound_numbers, sound_figures, sound}
use Rattle.ledger.specs.Lookup.{place_of}
use Rattle.ledger.specs.declared.records.Party.{Party}
use Rattle.ledger.specs.declared.records.Ledger.{Ledger}
use Rattle.stored.specs.Layout.{record_bytes, values_at}
use Rattle.stored.specs.Form.{scheme_parts, party_parts, stored_form, stored_schemes, stored_entries, no_schemes, stored_ledger}
use Rattle.stored.specs.Writing.{WriteEnd}
use Rattle.stored.specs.Reading.{table_answer, read_answer}
use Rattle.stored.specs.Moves.{numbers_are_counts, move_to_new, move_back}
use Rattle.stored.specs.Cases.Stored.{new_form, form_with}
use Rattle.stored.specs.declared.form.Form.TheVariants.{Pion, Pio2}

-- a new ledger as PION, and the three others in both forms
abbrev pub old_new_form : List ℕ
old_new_form =
    1 ∷ 0 ∷ 4 ∷ 80 ∷ 73 ∷ 79 ∷ 78 ∷ 2 ∷ 0 ∷ 22 ∷ 0 ∷ 0 ∷ 0 ∷ 0 ∷ 0 ∷ 0 ∷ 0 ∷ 0 ∷ 0 ∷ 0 ∷ 0 ∷ 0 ∷ 0 ∷ 0 ∷ 0 ∷ 0 ∷ 0 ∷ 0 ∷ 0 ∷ 0 ∷ 0 ∷ 0 ∷ 255 ∷ 0 ∷ 2 ∷ 90 ∷ 114 ∷ []

abbrev pub opened : Ledger
opened =
    record {
      month = 24315;
      connections = 1;
      charged = 6000000;
      borne = 0;
      next_scheme = 2;
      next_entry = 2;
      cleared_collected = 0;
      cleared_paid_out = 0;
      cleared_fees = 0;
      entries = 1;
      count = 1;
      schemes = record { number = 1; cost = 6000000; fee = 20000; minimum = 20000; opening = 24315; term = 84; fees = 0 } ∷ replicate 63 no_scheme;
    }

abbrev pub opened_parties : List Party
opened_parties =
    record { number = 1; scheme = 1; person = 1; capacity = 10000; put_in = 6000000; credited = 0; paid_out = 0 } ∷
    []

abbrev pub opened_form : List ℕ
opened_form =
    1 ∷ 0 ∷ 4 ∷ 80 ∷ 73 ∷ 79 ∷ 50 ∷ 2 ∷ 0 ∷ 54 ∷ 94 ∷ 251 ∷ 0 ∷ 0 ∷ 0 ∷ 1 ∷ 0 ∷ 0 ∷ 0 ∷ 0 ∷ 0 ∷ 91 ∷ 141 ∷ 128 ∷ 0 ∷ 0 ∷ 0 ∷ 0 ∷ 0 ∷ 0 ∷ 0 ∷ 0 ∷ 0 ∷ 0 ∷ 0 ∷ 2 ∷ 0 ∷ 0 ∷ 0 ∷ 2 ∷ 0 ∷ 0 ∷ 0 ∷ 0 ∷ 0 ∷ 0 ∷ 0 ∷ 0 ∷ 0 ∷ 0 ∷ 0 ∷ 0 ∷ 0 ∷ 0 ∷ 0 ∷ 0 ∷ 0 ∷ 0 ∷ 0 ∷ 0 ∷ 0 ∷ 0 ∷ 0 ∷ 0 ∷ 3 ∷ 0 ∷ 28 ∷ 0 ∷ 0 ∷ 0 ∷ 1 ∷ 0 ∷ 91 ∷ 141 ∷ 128 ∷ 0 ∷ 0 ∷ 78 ∷ 32 ∷ 0 ∷ 0 ∷ 78 ∷ 32 ∷ 94 ∷ 251 ∷ 0 ∷ 84 ∷ 0 ∷ 0 ∷ 0 ∷ 0 ∷ 0 ∷ 0 ∷ 0 ∷ 0 ∷ 4 ∷ 0 ∷ 34 ∷ 0 ∷ 0 ∷ 0 ∷ 1 ∷ 0 ∷ 1 ∷ 0 ∷ 0 ∷ 0 ∷ 1 ∷ 0 ∷ 0 ∷ 39 ∷ 16 ∷ 0 ∷ 91 ∷ 141 ∷ 128 ∷ 0 ∷ 0 ∷ 0 ∷ 0 ∷ 0 ∷ 0 ∷ 0 ∷ 0 ∷ 0 ∷ 0 ∷ 0 ∷ 0 ∷ 0 ∷ 0 ∷ 0 ∷ 0 ∷ 255 ∷ 0 ∷ 2 ∷ 140 ∷ 200 ∷ []

abbrev pub old_opened_form : List ℕ
old_opened_form =
    1 ∷ 0 ∷ 4 ∷ 80 ∷ 73 ∷ 79 ∷ 78 ∷ 2 ∷ 0 ∷ 22 ∷ 94 ∷ 251 ∷ 0 ∷ 0 ∷ 0 ∷ 1 ∷ 0 ∷ 0 ∷ 0 ∷ 0 ∷ 0 ∷ 91 ∷ 141 ∷ 128 ∷ 0 ∷ 0 ∷ 0 ∷ 0 ∷ 0 ∷ 0 ∷ 0 ∷ 0 ∷ 3 ∷ 0 ∷ 24 ∷ 0 ∷ 91 ∷ 141 ∷ 128 ∷ 0 ∷ 0 ∷ 78 ∷ 32 ∷ 0 ∷ 0 ∷ 78 ∷ 32 ∷ 94 ∷ 251 ∷ 0 ∷ 84 ∷ 0 ∷ 0 ∷ 0 ∷ 0 ∷ 0 ∷ 0 ∷ 0 ∷ 0 ∷ 4 ∷ 0 ∷ 30 ∷ 0 ∷ 1 ∷ 0 ∷ 0 ∷ 0 ∷ 1 ∷ 0 ∷ 0 ∷ 39 ∷ 16 ∷ 0 ∷ 91 ∷ 141 ∷ 128 ∷ 0 ∷ 0 ∷ 0 ∷ 0 ∷ 0 ∷ 0 ∷ 0 ∷ 0 ∷ 0 ∷ 0 ∷ 0 ∷ 0 ∷ 0 ∷ 0 ∷ 0 ∷ 0 ∷ 255 ∷ 0 ∷ 2 ∷ 163 ∷ 120 ∷ []

abbrev pub two_schemes : Ledger
two_schemes =
    record {
      month = 24315;
      connections = 2;
      charged = 11000001;
      borne = 0;
      next_scheme = 3;
      next_entry = 4;
      cleared_collected = 0;
      cleared_paid_out = 0;
      cleared_fees = 0;
      entries = 3;
      count = 2;
      schemes =
          record { number = 1; cost = 6000000; fee = 20000; minimum = 20000; opening = 24315; term = 84; fees = 20000 } ∷
          record { number = 2; cost = 5000001; fee = 7; minimum = 9; opening = 24315; term = 100; fees = 0 } ∷
          replicate 62 no_scheme;
    }

abbrev pub two_schemes_parties : List Party
two_schemes_parties =
    record { number = 1; scheme = 1; person = 1; capacity = 10000; put_in = 6000000; credited = 1980000; paid_out = 0 } ∷
    record { number = 2; scheme = 1; person = 1; capacity = 5000; put_in = 2000000; credited = 0; paid_out = 0 } ∷
    record { number = 3; scheme = 2; person = 1; capacity = 5000; put_in = 5000001; credited = 0; paid_out = 0 } ∷
    []

abbrev pub two_schemes_form : List ℕ
two_schemes_form =
    1 ∷ 0 ∷ 4 ∷ 80 ∷ 73 ∷ 79 ∷ 50 ∷ 2 ∷ 0 ∷ 54 ∷ 94 ∷ 251 ∷ 0 ∷ 0 ∷ 0 ∷ 2 ∷ 0 ∷ 0 ∷ 0 ∷ 0 ∷ 0 ∷ 167 ∷ 216 ∷ 193 ∷ 0 ∷ 0 ∷ 0 ∷ 0 ∷ 0 ∷ 0 ∷ 0 ∷ 0 ∷ 0 ∷ 0 ∷ 0 ∷ 3 ∷ 0 ∷ 0 ∷ 0 ∷ 4 ∷ 0 ∷ 0 ∷ 0 ∷ 0 ∷ 0 ∷ 0 ∷ 0 ∷ 0 ∷ 0 ∷ 0 ∷ 0 ∷ 0 ∷ 0 ∷ 0 ∷ 0 ∷ 0 ∷ 0 ∷ 0 ∷ 0 ∷ 0 ∷ 0 ∷ 0 ∷ 0 ∷ 0 ∷ 3 ∷ 0 ∷ 28 ∷ 0 ∷ 0 ∷ 0 ∷ 1 ∷ 0 ∷ 91 ∷ 141 ∷ 128 ∷ 0 ∷ 0 ∷ 78 ∷ 32 ∷ 0 ∷ 0 ∷ 78 ∷ 32 ∷ 94 ∷ 251 ∷ 0 ∷ 84 ∷ 0 ∷ 0 ∷ 0 ∷ 0 ∷ 0 ∷ 0 ∷ 78 ∷ 32 ∷ 3 ∷ 0 ∷ 28 ∷ 0 ∷ 0 ∷ 0 ∷ 2 ∷ 0 ∷ 76 ∷ 75 ∷ 65 ∷ 0 ∷ 0 ∷ 0 ∷ 7 ∷ 0 ∷ 0 ∷ 0 ∷ 9 ∷ 94 ∷ 251 ∷ 0 ∷ 100 ∷ 0 ∷ 0 ∷ 0 ∷ 0 ∷ 0 ∷ 0 ∷ 0 ∷ 0 ∷ 4 ∷ 0 ∷ 34 ∷ 0 ∷ 0 ∷ 0 ∷ 1 ∷ 0 ∷ 1 ∷ 0 ∷ 0 ∷ 0 ∷ 1 ∷ 0 ∷ 0 ∷ 39 ∷ 16 ∷ 0 ∷ 91 ∷ 141 ∷ 128 ∷ 0 ∷ 0 ∷ 0 ∷ 0 ∷ 0 ∷ 30 ∷ 54 ∷ 96 ∷ 0 ∷ 0 ∷ 0 ∷ 0 ∷ 0 ∷ 0 ∷ 0 ∷ 0 ∷ 4 ∷ 0 ∷ 34 ∷ 0 ∷ 0 ∷ 0 ∷ 2 ∷ 0 ∷ 1 ∷ 0 ∷ 0 ∷ 0 ∷ 1 ∷ 0 ∷ 0 ∷ 19 ∷ 136 ∷ 0 ∷ 30 ∷ 132 ∷ 128 ∷ 0 ∷ 0 ∷ 0 ∷ 0 ∷ 0 ∷ 0 ∷ 0 ∷ 0 ∷ 0 ∷ 0 ∷ 0 ∷ 0 ∷ 0 ∷ 0 ∷ 0 ∷ 0 ∷ 4 ∷ 0 ∷ 34 ∷ 0 ∷ 0 ∷ 0 ∷ 3 ∷ 0 ∷ 2 ∷ 0 ∷ 0 ∷ 0 ∷ 1 ∷ 0 ∷ 0 ∷ 19 ∷ 136 ∷ 0 ∷ 76 ∷ 75 ∷ 65 ∷ 0 ∷ 0 ∷ 0 ∷ 0 ∷ 0 ∷ 0 ∷ 0 ∷ 0 ∷ 0 ∷ 0 ∷ 0 ∷ 0 ∷ 0 ∷ 0 ∷ 0 ∷ 0 ∷ 255 ∷ 0 ∷ 2 ∷ 84 ∷ 53 ∷ []

abbrev pub old_two_schemes_form : List ℕ
old_two_schemes_form =
    1 ∷ 0 ∷ 4 ∷ 80 ∷ 73 ∷ 79 ∷ 78 ∷ 2 ∷ 0 ∷ 22 ∷ 94 ∷ 251 ∷ 0 ∷ 0 ∷ 0 ∷ 2 ∷ 0 ∷ 0 ∷ 0 ∷ 0 ∷ 0 ∷ 167 ∷ 216 ∷ 193 ∷ 0 ∷ 0 ∷ 0 ∷ 0 ∷ 0 ∷ 0 ∷ 0 ∷ 0 ∷ 3 ∷ 0 ∷ 24 ∷ 0 ∷ 91 ∷ 141 ∷ 128 ∷ 0 ∷ 0 ∷ 78 ∷ 32 ∷ 0 ∷ 0 ∷ 78 ∷ 32 ∷ 94 ∷ 251 ∷ 0 ∷ 84 ∷ 0 ∷ 0 ∷ 0 ∷ 0 ∷ 0 ∷ 0 ∷ 78 ∷ 32 ∷ 3 ∷ 0 ∷ 24 ∷ 0 ∷ 76 ∷ 75 ∷ 65 ∷ 0 ∷ 0 ∷ 0 ∷ 7 ∷ 0 ∷ 0 ∷ 0 ∷ 9 ∷ 94 ∷ 251 ∷ 0 ∷ 100 ∷ 0 ∷ 0 ∷ 0 ∷ 0 ∷ 0 ∷ 0 ∷ 0 ∷ 0 ∷ 4 ∷ 0 ∷ 30 ∷ 0 ∷ 1 ∷ 0 ∷ 0 ∷ 0 ∷ 1 ∷ 0 ∷ 0 ∷ 39 ∷ 16 ∷ 0 ∷ 91 ∷ 141 ∷ 128 ∷ 0 ∷ 0 ∷ 0 ∷ 0 ∷ 0 ∷ 30 ∷ 54 ∷ 96 ∷ 0 ∷ 0 ∷ 0 ∷ 0 ∷ 0 ∷ 0 ∷ 0 ∷ 0 ∷ 4 ∷ 0 ∷ 30 ∷ 0 ∷ 1 ∷ 0 ∷ 0 ∷ 0 ∷ 1 ∷ 0 ∷ 0 ∷ 19 ∷ 136 ∷ 0 ∷ 30 ∷ 132 ∷ 128 ∷ 0 ∷ 0 ∷ 0 ∷ 0 ∷ 0 ∷ 0 ∷ 0 ∷ 0 ∷ 0 ∷ 0 ∷ 0 ∷ 0 ∷ 0 ∷ 0 ∷ 0 ∷ 0 ∷ 4 ∷ 0 ∷ 30 ∷ 0 ∷ 2 ∷ 0 ∷ 0 ∷ 0 ∷ 1 ∷ 0 ∷ 0 ∷ 19 ∷ 136 ∷ 0 ∷ 76 ∷ 75 ∷ 65 ∷ 0 ∷ 0 ∷ 0 ∷ 0 ∷ 0 ∷ 0 ∷ 0 ∷ 0 ∷ 0 ∷ 0 ∷ 0 ∷ 0 ∷ 0 ∷ 0 ∷ 0 ∷ 0 ∷ 255 ∷ 0 ∷ 2 ∷ 220 ∷ 38 ∷ []

-- the first scheme cleared with its two entries
abbrev pub cleared : Ledger
cleared =
    record {
      month = 24399;
      connections = 2;
      charged = 11000001;
      borne = 0;
      next_scheme = 3;
      next_entry = 4;
      cleared_collected = 2000000;
      cleared_paid_out = 1980000;
      cleared_fees = 20000;
      entries = 1;
      count = 1;
      schemes = record { number = 2; cost = 5000001; fee = 7; minimum = 9; opening = 24315; term = 100; fees = 0 } ∷ replicate 63 no_scheme;
    }

abbrev pub cleared_parties : List Party
cleared_parties =
    record { number = 3; scheme = 2; person = 1; capacity = 5000; put_in = 5000001; credited = 0; paid_out = 0 } ∷
    []

abbrev pub cleared_form : List ℕ
cleared_form =
    1 ∷ 0 ∷ 4 ∷ 80 ∷ 73 ∷ 79 ∷ 50 ∷ 2 ∷ 0 ∷ 54 ∷ 95 ∷ 79 ∷ 0 ∷ 0 ∷ 0 ∷ 2 ∷ 0 ∷ 0 ∷ 0 ∷ 0 ∷ 0 ∷ 167 ∷ 216 ∷ 193 ∷ 0 ∷ 0 ∷ 0 ∷ 0 ∷ 0 ∷ 0 ∷ 0 ∷ 0 ∷ 0 ∷ 0 ∷ 0 ∷ 3 ∷ 0 ∷ 0 ∷ 0 ∷ 4 ∷ 0 ∷ 0 ∷ 0 ∷ 0 ∷ 0 ∷ 30 ∷ 132 ∷ 128 ∷ 0 ∷ 0 ∷ 0 ∷ 0 ∷ 0 ∷ 30 ∷ 54 ∷ 96 ∷ 0 ∷ 0 ∷ 0 ∷ 0 ∷ 0 ∷ 0 ∷ 78 ∷ 32 ∷ 3 ∷ 0 ∷ 28 ∷ 0 ∷ 0 ∷ 0 ∷ 2 ∷ 0 ∷ 76 ∷ 75 ∷ 65 ∷ 0 ∷ 0 ∷ 0 ∷ 7 ∷ 0 ∷ 0 ∷ 0 ∷ 9 ∷ 94 ∷ 251 ∷ 0 ∷ 100 ∷ 0 ∷ 0 ∷ 0 ∷ 0 ∷ 0 ∷ 0 ∷ 0 ∷ 0 ∷ 4 ∷ 0 ∷ 34 ∷ 0 ∷ 0 ∷ 0 ∷ 3 ∷ 0 ∷ 2 ∷ 0 ∷ 0 ∷ 0 ∷ 1 ∷ 0 ∷ 0 ∷ 19 ∷ 136 ∷ 0 ∷ 76 ∷ 75 ∷ 65 ∷ 0 ∷ 0 ∷ 0 ∷ 0 ∷ 0 ∷ 0 ∷ 0 ∷ 0 ∷ 0 ∷ 0 ∷ 0 ∷ 0 ∷ 0 ∷ 0 ∷ 0 ∷ 0 ∷ 255 ∷ 0 ∷ 2 ∷ 162 ∷ 81 ∷ []

pub both_forms :
    (stored_form Pion new_ledger [] ≡ old_new_form) ×
    (stored_form Pio2 opened opened_parties ≡ opened_form) ×
    (stored_form Pion opened opened_parties ≡ old_opened_form) ×
    (stored_form Pio2 two_schemes two_schemes_parties ≡ two_schemes_form) ×
    (stored_form Pion two_schemes two_schemes_parties ≡ old_two_schemes_form) ×
    (stored_form Pio2 cleared cleared_parties ≡ cleared_form)
unfolding stored_form scheme_parts party_parts record_bytes bytes_of check_from flat_map
both_forms = (refl, refl, refl, refl, refl, refl)

-- a PION ledger of two schemes and three entries, sound or not, whose values have the bytes 1 to 160 in the form's order
abbrev every_byte : Ledger
every_byte =
    record {
      month = 258;
      connections = 50595078;
      charged = 506664896818842894;
      borne = 1085386279523456278;
      next_scheme = 3;
      next_entry = 4;
      cleared_collected = 0;
      cleared_paid_out = 0;
      cleared_fees = 0;
      entries = 3;
      count = 2;
      schemes =
          record { number = 1; cost = 387455258; fee = 454827294; minimum = 522199330; opening = 8996; term = 9510; fees = 2821550427637296430 } ∷
          record { number = 2; cost = 791687474; fee = 859059510; minimum = 926431546; opening = 15164; term = 15678; fees = 4557714575751136582 } ∷
          replicate 62 no_scheme;
    }

abbrev every_byte_parties : List Party
every_byte_parties =
    record { number = 1; scheme = 18248; person = 1229605708; capacity = 1296977744; put_in = 1364349780; credited = 6149198378188823388; paid_out = 6727919760893436772 } ∷
    record { number = 2; scheme = 25958; person = 1734895978; capacity = 1802268014; put_in = 1869640050; credited = 8319403563331123578; paid_out = 8898124946035736962 } ∷
    record { number = 3; scheme = 33668; person = 2240186248; capacity = 2307558284; put_in = 2374930320; credited = 10489608748473423768; paid_out = 11068330131178037152 } ∷
    []

abbrev every_byte_fields : List ℕ
every_byte_fields =
    1 ∷ 0 ∷ 4 ∷ 80 ∷ 73 ∷ 79 ∷ 78 ∷ 2 ∷ 0 ∷ 22 ∷ 1 ∷ 2 ∷ 3 ∷ 4 ∷ 5 ∷ 6 ∷ 7 ∷ 8 ∷ 9 ∷ 10 ∷ 11 ∷ 12 ∷ 13 ∷ 14 ∷ 15 ∷ 16 ∷ 17 ∷ 18 ∷ 19 ∷ 20 ∷ 21 ∷ 22 ∷ 3 ∷ 0 ∷ 24 ∷ 23 ∷ 24 ∷ 25 ∷ 26 ∷ 27 ∷ 28 ∷ 29 ∷ 30 ∷ 31 ∷ 32 ∷ 33 ∷ 34 ∷ 35 ∷ 36 ∷ 37 ∷ 38 ∷ 39 ∷ 40 ∷ 41 ∷ 42 ∷ 43 ∷ 44 ∷ 45 ∷ 46 ∷ 3 ∷ 0 ∷ 24 ∷ 47 ∷ 48 ∷ 49 ∷ 50 ∷ 51 ∷ 52 ∷ 53 ∷ 54 ∷ 55 ∷ 56 ∷ 57 ∷ 58 ∷ 59 ∷ 60 ∷ 61 ∷ 62 ∷ 63 ∷ 64 ∷ 65 ∷ 66 ∷ 67 ∷ 68 ∷ 69 ∷ 70 ∷ 4 ∷ 0 ∷ 30 ∷ 71 ∷ 72 ∷ 73 ∷ 74 ∷ 75 ∷ 76 ∷ 77 ∷ 78 ∷ 79 ∷ 80 ∷ 81 ∷ 82 ∷ 83 ∷ 84 ∷ 85 ∷ 86 ∷ 87 ∷ 88 ∷ 89 ∷ 90 ∷ 91 ∷ 92 ∷ 93 ∷ 94 ∷ 95 ∷ 96 ∷ 97 ∷ 98 ∷ 99 ∷ 100 ∷ 4 ∷ 0 ∷ 30 ∷ 101 ∷ 102 ∷ 103 ∷ 104 ∷ 105 ∷ 106 ∷ 107 ∷ 108 ∷ 109 ∷ 110 ∷ 111 ∷ 112 ∷ 113 ∷ 114 ∷ 115 ∷ 116 ∷ 117 ∷ 118 ∷ 119 ∷ 120 ∷ 121 ∷ 122 ∷ 123 ∷ 124 ∷ 125 ∷ 126 ∷ 127 ∷ 128 ∷ 129 ∷ 130 ∷ 4 ∷ 0 ∷ 30 ∷ 131 ∷ 132 ∷ 133 ∷ 134 ∷ 135 ∷ 136 ∷ 137 ∷ 138 ∷ 139 ∷ 140 ∷ 141 ∷ 142 ∷ 143 ∷ 144 ∷ 145 ∷ 146 ∷ 147 ∷ 148 ∷ 149 ∷ 150 ∷ 151 ∷ 152 ∷ 153 ∷ 154 ∷ 155 ∷ 156 ∷ 157 ∷ 158 ∷ 159 ∷ 160 ∷ []

pub every_byte_written : stored_form Pion every_byte (every_byte_parties ++ (no_party ∷ [])) ≡ every_byte_fields ++ (255 ∷ 0 ∷ 2 ∷ 11 ∷ 2 ∷ [])
unfolding stored_form scheme_parts party_parts record_bytes bytes_of check_from flat_map
every_byte_written = refl

-- "places become numbers, next numbers the counts plus one, cleared sums 0"
pub every_byte_read : (stored_ledger Pion every_byte_fields ≡ every_byte) × (stored_entries Pion every_byte_fields ≡ every_byte_parties)
unfolding stored_entries stored_schemes stored_ledger no_schemes values_at number fields_from first_with fields_with
every_byte_read = (refl, refl)

abbrev moved : List ℕ → List ℕ → WriteEnd
moved form rest = record { answer = Ok (length form); output = form ++ rest }

abbrev refused : ℕ → ℕ → ℕ → List ℕ → WriteEnd
refused n file place out = record { answer = Err (refusal n file place); output = out }

-- an old file, an output, and what the move to the new form leaves
abbrev pub to_new_cases : List (List ℕ × List ℕ × WriteEnd)
to_new_cases =
    (old_new_form, replicate 69 7, moved new_form []) ∷
    (old_new_form, replicate 70 7, moved new_form (7 ∷ [])) ∷
    (old_new_form, replicate 68 7, refused 14 0 0 (replicate 68 7)) ∷
    (old_opened_form, replicate 137 7, moved opened_form []) ∷
    (old_two_schemes_form, replicate 242 7, moved two_schemes_form []) ∷
    (old_two_schemes_form, replicate 241 7, refused 14 0 0 (replicate 241 7)) ∷
    ([], [], refused 1 1 0 []) ∷
    (form_with old_new_form 0 [] (90 ∷ 115 ∷ []), [], refused 2 1 35 []) ∷
    -- a new file is none of these: its walk comes before its letters
    (new_form, [], refused 1 1 7 []) ∷
    (form_with old_new_form 6 (50 ∷ []) (52 ∷ 52 ∷ []), [], refused 3 1 3 []) ∷
    (1 ∷ 0 ∷ 4 ∷ 80 ∷ 73 ∷ 79 ∷ 77 ∷ 2 ∷ 0 ∷ 21 ∷ replicate 21 0 ++ (255 ∷ 0 ∷ 2 ∷ 239 ∷ 206 ∷ []), [], refused 1 1 7 []) ∷
    -- put in one cent more than the cost: 13 before 14
    (form_with old_opened_form 75 (129 ∷ []) (153 ∷ 128 ∷ []), [], refused 13 0 0 []) ∷
    (form_with old_opened_form 75 (129 ∷ []) (153 ∷ 128 ∷ []), replicate 137 7, refused 13 0 0 (replicate 137 7)) ∷
    -- and the new form's letters: 3 before 13
    (form_with (form_with old_opened_form 6 (50 ∷ []) (0 ∷ 0 ∷ [])) 75 (129 ∷ []) (226 ∷ 93 ∷ []), [], refused 3 1 3 []) ∷
    []

pub to_new_cases_hold : map (λ row. move_to_new row.0 row.1) to_new_cases ≡ map (λ row. row.2) to_new_cases
unfolding read_answer table_answer stored_entries stored_schemes stored_ledger no_schemes values_at number check_from due_from all_had front_of walk_from fields_from first_with fields_with same_bytes sound sound_figures sound_numbers rise_to parties_sound schemes_sound all_zero sum_over first_put_in place_of stored_form scheme_parts party_parts record_bytes bytes_of flat_map
to_new_cases_hold = refl

-- a new file, an output, and what the move back leaves
abbrev pub back_cases : List (List ℕ × List ℕ × WriteEnd)
back_cases =
    (new_form, replicate 37 7, moved old_new_form []) ∷
    (new_form, replicate 38 7, moved old_new_form (7 ∷ [])) ∷
    (new_form, replicate 36 7, refused 14 0 0 (replicate 36 7)) ∷
    (opened_form, replicate 97 7, moved old_opened_form []) ∷
    (two_schemes_form, replicate 190 7, moved old_two_schemes_form []) ∷
    (two_schemes_form, replicate 189 7, refused 14 0 0 (replicate 189 7)) ∷
    ([], [], refused 1 1 0 []) ∷
    (form_with new_form 0 [] (184 ∷ 17 ∷ []), [], refused 2 1 67 []) ∷
    -- an old file is none of these: its walk comes before its letters
    (old_new_form, [], refused 1 1 7 []) ∷
    (form_with new_form 6 (78 ∷ []) (103 ∷ 179 ∷ []), [], refused 3 1 3 []) ∷
    -- a scheme was cleared: 16, before 14
    (cleared_form, replicate 137 7, refused 16 0 0 (replicate 137 7)) ∷
    (cleared_form, [], refused 16 0 0 []) ∷
    -- 13 before it: put in one cent more than the cost, and a next scheme that isn't the count plus one
    (form_with opened_form 115 (129 ∷ []) (130 ∷ 208 ∷ []), [], refused 13 0 0 []) ∷
    (form_with (form_with opened_form 35 (3 ∷ []) (0 ∷ 0 ∷ [])) 115 (129 ∷ []) (81 ∷ 160 ∷ []), [], refused 13 0 0 []) ∷
    -- put in one cent more than the cost, and the old form's letters: 3 before 13
    (form_with (form_with opened_form 6 (78 ∷ []) (0 ∷ 0 ∷ [])) 115 (129 ∷ []) (44 ∷ 241 ∷ []), [], refused 3 1 3 []) ∷
    -- the next scheme alone, and the next entry alone
    (form_with opened_form 35 (3 ∷ []) (91 ∷ 152 ∷ []), [], refused 16 0 0 []) ∷
    (form_with opened_form 39 (3 ∷ []) (91 ∷ 0 ∷ []), [], refused 16 0 0 []) ∷
    []

pub back_cases_hold : map (λ row. move_back row.0 row.1) back_cases ≡ map (λ row. row.2) back_cases
unfolding read_answer table_answer stored_entries stored_schemes stored_ledger no_schemes values_at number check_from due_from all_had front_of walk_from fields_from first_with fields_with same_bytes sound sound_figures sound_numbers rise_to parties_sound schemes_sound all_zero sum_over first_put_in place_of stored_form scheme_parts party_parts record_bytes bytes_of flat_map
back_cases_hold = refl

-- "both next numbers are the counts plus one", as numbers: 65,537 is no 1
pub numbers_told :
    (map (λ next. numbers_are_counts (record opened { next_scheme = next })) (0 ∷ 1 ∷ 2 ∷ 3 ∷ 65538 ∷ [])
    ≡ (false ∷ true ∷ []) ∷ (false ∷ true ∷ []) ∷ (true ∷ true ∷ []) ∷ (false ∷ true ∷ []) ∷ (false ∷ true ∷ []) ∷ [])
    × (map (λ next. numbers_are_counts (record opened { next_entry = next })) (0 ∷ 1 ∷ 2 ∷ 3 ∷ 65538 ∷ [])
    ≡ (true ∷ false ∷ []) ∷ (true ∷ false ∷ []) ∷ (true ∷ true ∷ []) ∷ (true ∷ false ∷ []) ∷ (true ∷ false ∷ []) ∷ [])
numbers_told = (refl, refl)
