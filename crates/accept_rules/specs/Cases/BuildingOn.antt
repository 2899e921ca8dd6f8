-- Document 02, E4: a joiner who builds on, on a table with two records, of which the scheme's first entry has one; by its own book of fee 7, minimum 9 and term
-- 100. "(8 and 9 are judged for joining and opening together, before either is booked.)" Every expected side is a literal.
use Rattle.std.specs.Prelude.{ℕ, ◌≡◌, refl, List, [], ◌∷◌, map, replicate, None, Ok, Some}
use Rattle.tagged.specs.File.{refusal}
use Rattle.reconciliation.specs.Reconciliation.{reconciliation_of}
use Rattle.charge.specs.declared.Bill.{Bill}
use Rattle.ledger.specs.Records.{scheme_of, no_scheme}
use Rattle.ledger.specs.Lookup.{place_of}
use Rattle.ledger.specs.Columns.{sum_over, first_put_in}
use Rattle.ledger.specs.Sound.{parties_sound, schemes_sound, all_zero, sound_figures, rise_to, sound_numbers, sound}
use Rattle.ledger.specs.declared.records.Scheme.{Scheme}
use Rattle.ledger.specs.declared.records.Party.{Party}
use Rattle.calls.specs.Verdict.{verdict}
use Rattle.calls.specs.Decision.{CallAnswer, is_refused}
use Rattle.calls.specs.Carried.{State}
use Rattle.calls.specs.Calls.{state_of}
use Rattle.calls.specs.Cases.Verdict.{party, ledger, past}
use Rattle.calls.specs.Answers.{accepted_as, joined_as}
use Rattle.calls.specs.declared.answers.JoiningAnswer.TheVariants.{Ended, Small}
use Rattle.accept_rules.specs.Laws.{answered_by, leaves_by}

-- person 9 joins scheme 1, with this ME, which is X; month and capacity
abbrev bill : ℕ → ℕ → ℕ → Bill
bill me month capacity =
    record {
      reconciliation = reconciliation_of (record { me = me; mc = 0; ce = 0; cc2 = 0; de = 0; tw = 0; hr = 0; ol = 0 }) 0 1 0;
      terms = record { threshold = 5000000; fee = 7; minimum = 9; term = 100 };
      applicant = record { person = 9; month = month; capacity = capacity; scheme = 1; mark = 0 };
    }

-- scheme 1 with these fees, and the one that opens in this month
abbrev first : ℕ → Scheme
first fees = scheme_of 1 6000000 20000 20000 24315 84 fees

abbrev second : ℕ → Scheme
second month = scheme_of 2 5000001 7 9 month 100 0

-- the first entry, and what it is credited
abbrev opener : ℕ → Party
opener credited = party 1 1 7 10000 6000000 credited 0

-- after the opening
abbrev opened : State
opened = state_of (ledger 24315 1 6000000 0 1 1 (first 0 ∷ replicate 63 no_scheme)) (opener 0 ∷ past ∷ [])

-- the bill, the answer, and what is left
abbrev short_table_cases : List (Bill × CallAnswer × State)
short_table_cases =
    -- joined and opened takes two entries; with X the threshold it is joined alone
    (bill 5000001 24315 5000, is_refused (refusal 9 0 0), opened) ∷
    (let joiner = bill 5000000 24315 5000 in (
      joiner,
      accepted_as joiner (joined_as 2 2000000) None,
      state_of (ledger 24315 2 11000000 0 2 1 (first 20000 ∷ replicate 63 no_scheme)) (opener 1980000 ∷ party 2 1 9 5000 2000000 0 0 ∷ []),
    )) ∷
    -- G 19,734 is small, and the one entry goes to the opening; 20,330 isn't
    (let joiner = bill 5000001 24315 33 in (
      joiner,
      accepted_as joiner Small (Some 2),
      state_of (ledger 24315 2 11000001 0 2 2 (first 0 ∷ second 24315 ∷ replicate 62 no_scheme)) (opener 0 ∷ party 2 2 9 33 5000001 0 0 ∷ []),
    )) ∷
    (bill 5000001 24315 34, is_refused (refusal 9 0 0), opened) ∷
    -- ended, and the last month in force
    (let joiner = bill 5000001 24399 5000 in (
      joiner,
      accepted_as joiner Ended (Some 2),
      state_of (ledger 24399 2 11000001 0 2 2 (first 0 ∷ second 24399 ∷ replicate 62 no_scheme)) (opener 0 ∷ party 2 2 9 5000 5000001 0 0 ∷ []),
    )) ∷
    (bill 5000001 24398 5000, is_refused (refusal 9 0 0), opened) ∷
    []

abbrev pub ShortTableCasesHold : Type 0
ShortTableCasesHold =
    map {B = CallAnswer × State} (λ row. (answered_by opened (Ok row.0), leaves_by opened (Ok row.0))) short_table_cases
    ≡ map (λ row. (row.1, row.2)) short_table_cases

pub short_table_cases_hold : ShortTableCasesHold
unfolding verdict sound sound_figures sound_numbers rise_to parties_sound schemes_sound all_zero sum_over first_put_in place_of
short_table_cases_hold = refl
