-- Pay-out and hand-over at their boundaries, over literal books and on a literal ledger; a joining and an opening of one request; 13 before the rest. Every
-- expected side is a literal.
use Rattle.std.specs.Prelude.{ℕ, ◌≡◌, refl, List, [], ◌∷◌, ◌++◌, map, Some}
use Rattle.tagged.specs.File.{refusal}
use Rattle.ledger.specs.Books.{SchemeParticulars, EntryParticulars, Books}
use Rattle.ledger.specs.Lookup.{place_of}
use Rattle.ledger.specs.Columns.{sum_over, first_put_in}
use Rattle.ledger.specs.Sound.{parties_sound, schemes_sound, all_zero, sound_figures, rise_to, sound_numbers, sound}
use Rattle.ledger.specs.declared.records.Party.{Party}
use Rattle.calls.specs.Decision.{Call, pay_out, hand_over, Decision, accepted, paid_out, handed_over, refused, decided, CallAnswer, is_done, is_refused, answer_to}
use Rattle.calls.specs.Carried.{State, books_on, carried_out}
use Rattle.calls.specs.Calls.{answered, leaves}
use Rattle.calls.specs.Cases.Verdict.{other_book, bill_of, with_month, in_scheme, joins, and_opens, scheme, party, ledger, places, past, three, first_three}
use Rattle.calls.specs.Answers.{accepted_as, joined_as}

-- two schemes and three entries, with room for two more
abbrev state : State
state = record { ledger = three; table = first_three ++ (past ∷ past ∷ []) }

abbrev scheme_with : ℕ → ℕ → SchemeParticulars
scheme_with number cost = record { number = number; cost = cost; fee = 100; minimum = 500; opening = 24315; term = 84 }

abbrev entry_with : ℕ → ℕ → ℕ → ℕ → ℕ → EntryParticulars
entry_with number of capacity credited paid = record { number = number; scheme = of; capacity = capacity; credited = credited; paid_out = paid }

-- its books
abbrev books : Books
books =
    record {
      connections = 3;
      month = 24316;
      next_scheme = 3;
      next_entry = 4;
      room = 5;
      schemes = scheme_with 1 3000 ∷ scheme_with 2 1800 ∷ [];
      entries = entry_with 1 1 20 900 300 ∷ entry_with 2 2 30 0 0 ∷ entry_with 3 1 10 0 0 ∷ [];
    }

pub books_shown : books_on state ≡ books
books_shown = refl

-- ---- the decision, and its answer
abbrev decision_cases : List (Call × Decision × CallAnswer)
decision_cases =
    -- entry 1 has a standing credit of 600: all of it, a cent more, and nothing
    (pay_out 1 600, paid_out 1 1 600, is_done) ∷
    (pay_out 1 601, refused (refusal 12 0 0), is_refused (refusal 12 0 0)) ∷
    (pay_out 1 0, paid_out 1 1 0, is_done) ∷
    -- entry 0, the last entry, and the number after it
    (pay_out 0 0, refused (refusal 11 0 0), is_refused (refusal 11 0 0)) ∷
    (pay_out 3 0, paid_out 1 3 0, is_done) ∷
    (pay_out 3 1, refused (refusal 12 0 0), is_refused (refusal 12 0 0)) ∷
    (pay_out 4 0, refused (refusal 11 0 0), is_refused (refusal 11 0 0)) ∷
    -- with the entry's own scheme
    (pay_out 2 0, paid_out 2 2 0, is_done) ∷
    (hand_over 0 5, refused (refusal 11 0 0), is_refused (refusal 11 0 0)) ∷
    (hand_over 1 5, handed_over 1 5, is_done) ∷
    (hand_over 3 5, handed_over 3 5, is_done) ∷
    (hand_over 4 5, refused (refusal 11 0 0), is_refused (refusal 11 0 0)) ∷
    []

pub entry_call_cases_hold :
    map {B = Decision × CallAnswer} (λ row. let decision = decided books row.0 in (decision, answer_to books decision)) decision_cases
    ≡ map (λ row. (row.1, row.2)) decision_cases
entry_call_cases_hold = refl

-- standing credits above 16 and 32 bits, and the highest there is: all of it, and a cent more
abbrev high_books : Books
high_books =
    record {
      connections = 3;
      month = 24316;
      next_scheme = 2;
      next_entry = 4;
      room = 3;
      schemes = scheme_with 1 3000 ∷ [];
      entries =
          entry_with 1 1 20 66000 60000 ∷ entry_with 2 1 30 4294967300 4294967000 ∷ entry_with 3 1 10 2000000000000 1 ∷ [];
    }

abbrev high_decision_cases : List (Call × Decision)
high_decision_cases =
    (pay_out 1 6000, paid_out 1 1 6000) ∷
    (pay_out 1 6001, refused (refusal 12 0 0)) ∷
    (pay_out 2 300, paid_out 1 2 300) ∷
    (pay_out 2 301, refused (refusal 12 0 0)) ∷
    (pay_out 3 1999999999999, paid_out 1 3 1999999999999) ∷
    (pay_out 3 2000000000000, refused (refusal 12 0 0)) ∷
    (pay_out 3 18446744073709551615, refused (refusal 12 0 0)) ∷
    []

pub high_decision_cases_hold : map (λ row. decided high_books row.0) high_decision_cases ≡ map (λ row. row.1) high_decision_cases
high_decision_cases_hold = refl

-- ---- what it makes of the ledger and its table
abbrev table_of : List Party → State
table_of entries = record { ledger = three; table = entries ++ (past ∷ past ∷ []) }

-- all of entry 1's standing credit paid out
abbrev all_paid : State
all_paid = table_of (party 1 1 7 20 3000 900 900 ∷ party 2 2 8 30 1800 0 0 ∷ party 3 1 9 10 1000 0 0 ∷ [])

abbrev paid_cases : List (Decision × State)
paid_cases =
    (paid_out 1 1 600, all_paid) ∷
    (paid_out 1 1 0, table_of (party 1 1 7 20 3000 900 300 ∷ party 2 2 8 30 1800 0 0 ∷ party 3 1 9 10 1000 0 0 ∷ [])) ∷
    (handed_over 1 5, table_of (party 1 1 5 20 3000 900 300 ∷ party 2 2 8 30 1800 0 0 ∷ party 3 1 9 10 1000 0 0 ∷ [])) ∷
    (handed_over 3 5, table_of (party 1 1 7 20 3000 900 300 ∷ party 2 2 8 30 1800 0 0 ∷ party 3 1 5 10 1000 0 0 ∷ [])) ∷
    []

pub paid_cases_hold : map (λ row. carried_out state row.0) paid_cases ≡ map (λ row. row.1) paid_cases
paid_cases_hold = refl

-- ---- joined and opened: the joiner is entry 4, the scheme that opens has the next
abbrev both : Decision
both =
    accepted (with_month 24317 (in_scheme 1 (bill_of other_book 7001))) (and_opens (joins 500 100 30))
    (record { entry = 1; amount = 266 } ∷ record { entry = 3; amount = 134 } ∷ [])

pub both_answered : answer_to books both ≡ accepted_as (bill_of other_book 7001) (joined_as 4 500) (Some 3)
both_answered = refl

pub both_carried_out : carried_out state both ≡
    record {
      ledger =
          ledger 24317 4 16006 470 5 3
          (scheme 1 3000 200 ∷
          scheme 2 1800 0 ∷
          record { number = 3; cost = 7001; fee = 400; minimum = 2000; opening = 24317; term = 120; fees = 0 } ∷
          places 61);
      table =
          party 1 1 7 20 3000 1166 300 ∷
          party 2 2 8 30 1800 0 0 ∷
          party 3 1 9 10 1000 134 0 ∷
          party 4 1 9 6 500 0 0 ∷
          party 5 3 9 6 7001 0 0 ∷
          [];
    }
both_carried_out = refl

-- ---- 13 before everything else: a table shorter than its entries, and an account that doesn't balance on a table long enough
abbrev short : State
short = record { ledger = three; table = party 1 1 7 20 3000 900 300 ∷ party 2 2 8 30 1800 0 0 ∷ [] }

-- a cent more put in by the last entry, so that the account alone is unsound
abbrev unbalanced : State
unbalanced = table_of (party 1 1 7 20 3000 900 300 ∷ party 2 2 8 30 1800 0 0 ∷ party 3 1 9 10 1001 0 0 ∷ [])

abbrev call_cases : List ((State × Call) × CallAnswer × State)
call_cases =
    ((state, pay_out 1 600), is_done, all_paid) ∷
    ((state, pay_out 0 0), is_refused (refusal 11 0 0), state) ∷
    ((short, pay_out 1 600), is_refused (refusal 13 0 0), short) ∷
    ((short, pay_out 0 0), is_refused (refusal 13 0 0), short) ∷
    ((short, hand_over 1 5), is_refused (refusal 13 0 0), short) ∷
    ((unbalanced, pay_out 1 600), is_refused (refusal 13 0 0), unbalanced) ∷
    ((unbalanced, hand_over 1 5), is_refused (refusal 13 0 0), unbalanced) ∷
    []

pub call_cases_hold :
    map {B = CallAnswer × State} (λ row. (answered row.0.0 row.0.1, leaves row.0.0 row.0.1)) call_cases
    ≡ map (λ row. (row.1, row.2)) call_cases
unfolding answered leaves sound sound_figures sound_numbers rise_to parties_sound schemes_sound all_zero sum_over first_put_in place_of
call_cases_hold = refl
