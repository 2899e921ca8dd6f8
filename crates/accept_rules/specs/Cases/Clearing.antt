-- Document 02, E8: schemes opened, joined, paid out and cleared, one call after the other from a new ledger; accept by pricing's answer. Every expected side is
-- a literal.
use Rattle.std.specs.Prelude.{ℕ, zero, suc, ◌≡◌, refl, List, [], ◌∷◌, map, replicate, true, None, Ok, Some}
use Rattle.tagged.specs.File.{refusal}
use Rattle.reconciliation.specs.Reconciliation.{reconciliation_of}
use Rattle.charge.specs.declared.Bill.{Bill}
use Rattle.ledger.specs.Records.{scheme_of, party_of, no_scheme, new_ledger}
use Rattle.ledger.specs.Lookup.{place_of}
use Rattle.ledger.specs.Columns.{sum_over, first_put_in}
use Rattle.ledger.specs.Sound.{parties_sound, schemes_sound, all_zero, sound_figures, rise_to, sound_numbers, sound}
use Rattle.ledger.specs.declared.records.Scheme.{Scheme}
use Rattle.ledger.specs.declared.records.Party.{Party}
use Rattle.calls.specs.Verdict.{verdict}
use Rattle.calls.specs.Decision.{Call, pay_out, clear, CallAnswer, is_done, is_refused}
use Rattle.calls.specs.Carried.{State}
use Rattle.calls.specs.Calls.{state_of, answered, leaves}
use Rattle.calls.specs.Answers.{accepted_as, joined_as}
use Rattle.calls.specs.declared.answers.JoiningAnswer.TheVariants.{NotAsked, Ended}
use Rattle.accept_rules.specs.Laws.{answered_by, leaves_by}

-- an accept of this bill, or another call
pub data Made : Type 0 where
  accepting : Bill → Made
  calling : Call → Made

abbrev pub answer_of : State → Made → CallAnswer
answer_of state (accepting bill) = answered_by state (Ok bill)
answer_of state (calling call) = answered state call

abbrev pub after : State → Made → State
after state (accepting bill) = leaves_by state (Ok bill)
after state (calling call) = leaves state call

abbrev pub answers : State → List Made → List CallAnswer
answers state [] = []
answers state (made ∷ later) = answer_of state made ∷ answers (after state made) later

abbrev pub after_all : State → List Made → State
after_all state [] = state
after_all state (made ∷ later) = after_all (after state made) later

-- a book's threshold, fee, minimum and term
abbrev pub Book : Type 0
Book = ℕ × ℕ × ℕ × ℕ

-- person 1, with this ME, which is X; month, capacity and scheme joined
abbrev pub bill : Book → ℕ → ℕ → ℕ → ℕ → Bill
bill book me month capacity scheme =
    record {
      reconciliation = reconciliation_of (record { me = me; mc = 0; ce = 0; cc2 = 0; de = 0; tw = 0; hr = 0; ol = 0 }) 0 1 0;
      terms = record { threshold = book.0; fee = book.1; minimum = book.2; term = book.3 };
      applicant = record { person = 1; month = month; capacity = capacity; scheme = scheme; mark = 0 };
    }

-- so many records, every value 9
abbrev pub nines : ℕ → List Party
nines n = replicate n (party_of 9 9 9 9 9 9 9)

-- ---- a scheme, and a joiner who builds on
abbrev pub first_book : Book
first_book = (5000000, 20000, 20000, 84)

abbrev pub second_book : Book
second_book = (5000000, 7, 9, 100)

abbrev pub opening : Bill
opening = bill first_book 6000000 24315 10000 0

abbrev pub building_on : Bill
building_on = bill second_book 5000001 24315 5000 1

abbrev pub start : State
start = state_of new_ledger (nines 4)

abbrev pub two_schemes : ℕ → List Scheme
two_schemes fees = scheme_of 1 6000000 20000 20000 24315 84 fees ∷ scheme_of 2 5000001 7 9 24315 100 0 ∷ replicate 62 no_scheme

abbrev pub not_cleared : ℕ → ℕ → State
not_cleared month paid =
    record {
      ledger =
          record new_ledger {
            month = month;
            connections = 2;
            charged = 11000001;
            next_scheme = 3;
            next_entry = 4;
            entries = 3;
            count = 2;
            schemes = two_schemes 20000;
          };
      table = party_of 1 1 1 10000 6000000 1980000 paid ∷ party_of 2 1 1 5000 2000000 0 0 ∷ party_of 3 2 1 5000 5000001 0 0 ∷ nines 1;
    }

-- scheme 2 in place 1 and entry 3 in record 1; records 2 and 3 still hold entries 2 and 3
abbrev pub first_cleared : State
first_cleared =
    record {
      ledger =
          record new_ledger {
            month = 24399;
            connections = 2;
            charged = 11000001;
            next_scheme = 3;
            next_entry = 4;
            cleared_collected = 2000000;
            cleared_paid_out = 1980000;
            cleared_fees = 20000;
            entries = 1;
            count = 1;
            schemes = scheme_of 2 5000001 7 9 24315 100 0 ∷ replicate 63 no_scheme;
          };
      table = party_of 3 2 1 5000 5000001 0 0 ∷ party_of 2 1 1 5000 2000000 0 0 ∷ party_of 3 2 1 5000 5000001 0 0 ∷ nines 1;
    }

-- one cent of entry 1's credit stands, and then none
abbrev pub a_cent_left : List Made
a_cent_left = accepting opening ∷ accepting building_on ∷ calling (pay_out 1 1979999) ∷ []

abbrev pub none_left : List Made
none_left =
    accepting opening ∷ accepting building_on ∷ calling (pay_out 1 1979999) ∷ calling (clear 24398) ∷ calling (clear 24399) ∷ calling (pay_out 1 1) ∷ calling (clear 24399) ∷ []

-- joining the scheme that was cleared, with X above the threshold: scheme 3 opens with entry 4, in record 2
abbrev pub reopening : Bill
reopening = bill first_book 6000000 24399 5000 1

abbrev pub third_opened : State
third_opened =
    record {
      ledger =
          record first_cleared.ledger {
            connections = 3;
            charged = 17000001;
            next_scheme = 4;
            next_entry = 5;
            entries = 2;
            count = 2;
            schemes = scheme_of 2 5000001 7 9 24315 100 0 ∷ scheme_of 3 6000000 20000 20000 24399 84 0 ∷ replicate 62 no_scheme;
          };
      table = party_of 3 2 1 5000 5000001 0 0 ∷ party_of 4 3 1 5000 6000000 0 0 ∷ party_of 3 2 1 5000 5000001 0 0 ∷ nines 1;
    }

pub record BuildingOnCleared : Type 0 where
  pub all_answers :
      answers start none_left
      ≡ accepted_as opening NotAsked (Some 1) ∷ accepted_as building_on (joined_as 2 2000000) (Some 2) ∷ is_done ∷ is_done ∷ is_done ∷ is_done ∷ is_done ∷ []
  -- nothing goes, and the month is set: an accept in 24,398 is 7
  pub months_set : map (λ month. after (not_cleared 24315 1979999) (calling (clear month))) (24398 ∷ 24399 ∷ []) ≡ not_cleared 24398 1979999 ∷ not_cleared 24399 1979999 ∷ []
  pub a_cent : after_all start a_cent_left ≡ not_cleared 24315 1979999
  pub month_before : answer_of (not_cleared 24399 1979999) (accepting (bill first_book 0 24398 5000 0)) ≡ is_refused (refusal 7 0 0)
  pub cleared : after_all start none_left ≡ first_cleared
  pub entries_gone :
      map (λ e. answered first_cleared (pay_out e 0)) (1 ∷ 2 ∷ 3 ∷ 4 ∷ [])
      ≡ is_refused (refusal 11 0 0) ∷ is_refused (refusal 11 0 0) ∷ is_done ∷ is_refused (refusal 11 0 0) ∷ []
  pub never_opened : answer_of first_cleared (accepting (bill first_book 0 24399 5000 3)) ≡ is_refused (refusal 6 0 0)
  pub ended : answer_of first_cleared (accepting (bill first_book 0 24399 5000 1)) ≡ accepted_as (bill first_book 0 24399 5000 1) Ended None
  pub ended_and_opened : answer_of first_cleared (accepting reopening) ≡ accepted_as reopening Ended (Some 3)
  pub opened_again : after first_cleared (accepting reopening) ≡ third_opened

pub building_on_cleared : BuildingOnCleared
unfolding answered leaves verdict sound sound_figures sound_numbers rise_to parties_sound schemes_sound all_zero sum_over first_put_in place_of
building_on_cleared =
    record {
      all_answers = refl;
      months_set = refl;
      a_cent = refl;
      month_before = refl;
      cleared = refl;
      entries_gone = refl;
      never_opened = refl;
      ended = refl;
      ended_and_opened = refl;
      opened_again = refl;
    }

-- ---- three schemes of cost 100, and a joiner of the second and of the first
abbrev pub free_book : ℕ → Book
free_book term = (0, 0, 0, term)

abbrev pub hundred : ℕ → Bill
hundred term = bill (free_book term) 100 24315 1 0

abbrev pub joiner : ℕ → Bill
joiner scheme = bill (free_book 84) 0 24315 1 scheme

abbrev pub three_opened : List Made
three_opened =
    accepting (hundred 100) ∷
    accepting (hundred 84) ∷
    accepting (hundred 100) ∷
    accepting (joiner 2) ∷
    accepting (joiner 1) ∷
    calling (pay_out 2 50) ∷
    calling (clear 24399) ∷
    []

-- entry 1 by what it was paid out
abbrev pub one_left : ℕ → State
one_left paid =
    record {
      ledger =
          record new_ledger {
            month = 24399;
            connections = 5;
            charged = 300;
            next_scheme = 4;
            next_entry = 6;
            cleared_collected = 50;
            cleared_paid_out = 50;
            entries = 3;
            count = 2;
            schemes = scheme_of 1 100 0 0 24315 100 0 ∷ scheme_of 3 100 0 0 24315 100 0 ∷ replicate 62 no_scheme;
          };
      table =
          party_of 1 1 1 1 100 50 paid ∷ party_of 3 3 1 1 100 0 0 ∷ party_of 5 1 1 1 50 0 0 ∷ party_of 4 2 1 1 50 0 0 ∷ party_of 5 1 1 1 50 0 0 ∷ [];
    }

abbrev pub none_stands : State
none_stands =
    record {
      ledger =
          record new_ledger { month = 24415; connections = 5; charged = 300; next_scheme = 4; next_entry = 6; cleared_collected = 100; cleared_paid_out = 100 };
      table = (one_left 50).table;
    }

pub record ThreeCleared : Type 0 where
  pub second : after_all (state_of new_ledger (nines 5)) three_opened ≡ one_left 0
  pub all : after_all (one_left 0) (calling (pay_out 1 50) ∷ calling (clear 24415) ∷ []) ≡ none_stands
  pub joined : answers (state_of new_ledger (nines 5)) three_opened
      ≡ accepted_as (hundred 100) NotAsked (Some 1) ∷
      accepted_as (hundred 84) NotAsked (Some 2) ∷
      accepted_as (hundred 100) NotAsked (Some 3) ∷
      accepted_as (joiner 2) (joined_as 4 50) None ∷
      accepted_as (joiner 1) (joined_as 5 50) None ∷
      is_done ∷
      is_done ∷
      []

pub three_cleared : ThreeCleared
unfolding answered leaves verdict sound sound_figures sound_numbers rise_to parties_sound schemes_sound all_zero sum_over first_put_in place_of
three_cleared = record { second = refl; all = refl; joined = refl }

-- ---- 64 schemes stand, of which the first went: the next opens as 65
abbrev pub each_from : {A : Type 0} → ℕ → ℕ → (ℕ → A) → List A
each_from number zero each = []
each_from number (suc many) each = each number ∷ each_from (suc number) many each

abbrev pub full : State
full =
    record {
      ledger =
          record new_ledger {
            month = 24315;
            connections = 64;
            charged = 6400;
            next_scheme = 65;
            next_entry = 65;
            entries = 64;
            count = 64;
            schemes = scheme_of 1 100 0 0 24315 84 0 ∷ each_from 2 63 (λ number. scheme_of number 100 0 0 24315 100 0);
          };
      table = each_from 1 64 (λ number. party_of number number 1 1 100 0 0);
    }

pub record FullCleared : Type 0 where
  pub no_place : answer_of full (accepting (hundred 84)) ≡ is_refused (refusal 8 0 0)
  pub next_opened :
      let opening = bill (free_book 84) 100 24399 1 0 in
      answer_of (after full (calling (clear 24399))) (accepting opening) ≡ accepted_as opening NotAsked (Some 65)

pub full_cleared : FullCleared
unfolding answered leaves verdict sound sound_figures sound_numbers rise_to parties_sound schemes_sound all_zero sum_over first_put_in place_of
full_cleared = record { no_place = refl; next_opened = refl }

-- ---- the 65,535th scheme opens, and the 65,536th is refused, also where none stands any more
abbrev pub last_left : State
last_left = state_of (record new_ledger { month = 24315; next_scheme = 65535 }) (nines 2)

abbrev pub last_given : State
last_given =
    record {
      ledger =
          record new_ledger {
            month = 24315;
            connections = 1;
            charged = 100;
            next_scheme = 65536;
            next_entry = 2;
            entries = 1;
            count = 1;
            schemes = scheme_of 65535 100 0 0 24315 84 0 ∷ replicate 63 no_scheme;
          };
      table = party_of 1 65535 1 1 100 0 0 ∷ nines 1;
    }

-- in the month in which it is cleared: an opening, and a joiner of it
abbrev pub hundred_later : Bill
hundred_later = bill (free_book 84) 100 24399 1 0

abbrev pub joiner_later : Bill
joiner_later = bill (free_book 84) 0 24399 1 65535

pub record LastNumberGiven : Type 0 where
  pub left : after last_left (accepting (hundred 84)) ≡ last_given
  pub stays_sound : sound last_given.ledger last_given.table 2 ≡ true
  pub all_answers :
      answers last_left
      (accepting (hundred 84) ∷ accepting (hundred 84) ∷ calling (clear 24399) ∷ accepting hundred_later ∷ accepting joiner_later ∷ [])
      ≡ accepted_as (hundred 84) NotAsked (Some 65535) ∷
      is_refused (refusal 8 0 0) ∷
      is_done ∷
      is_refused (refusal 8 0 0) ∷
      accepted_as joiner_later Ended None ∷
      []

pub last_number_given : LastNumberGiven
unfolding answered leaves verdict sound sound_figures sound_numbers rise_to parties_sound schemes_sound all_zero sum_over first_put_in place_of
last_number_given = record { left = refl; stays_sound = refl; all_answers = refl }

abbrev pub ClearingCasesHold : Type 0
ClearingCasesHold = BuildingOnCleared × ThreeCleared × FullCleared × LastNumberGiven

pub clearing_cases_hold : ClearingCasesHold
clearing_cases_hold = (building_on_cleared, three_cleared, full_cleared, last_number_given)
