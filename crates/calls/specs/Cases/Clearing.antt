-- Document 02, E8: clearing over literal books and on a literal ledger, and accept where schemes were cleared. Every expected side is a literal.
use Rattle.std.specs.Prelude.{ℕ, ◌≡◌, refl, List, [], ◌∷◌, map, replicate, Err, Ok}
use Rattle.tagged.specs.File.{refusal}
use Rattle.ledger.specs.Records.{no_scheme}
use Rattle.ledger.specs.Lookup.{place_of}
use Rattle.ledger.specs.Columns.{sum_over, first_put_in}
use Rattle.ledger.specs.Books.{SchemeParticulars, EntryParticulars, Books}
use Rattle.ledger.specs.Sound.{parties_sound, schemes_sound, all_zero, sound_figures, rise_to, sound_numbers, sound}
use Rattle.ledger.specs.declared.records.Scheme.{Scheme}
use Rattle.ledger.specs.declared.records.Ledger.{Ledger}
use Rattle.charge.specs.declared.Bill.{Bill}
use Rattle.calls.specs.Verdict.{verdict, Verdict}
use Rattle.calls.specs.Decision.{Call, pay_out, hand_over, clear, Decision, cleared, refused, decided, CallAnswer, is_done, is_refused, answer_to}
use Rattle.calls.specs.Carried.{State, carried_out}
use Rattle.calls.specs.Calls.{answered, leaves}
use Rattle.calls.specs.Cases.Verdict.{book, bill_of, with_month, in_scheme, numbered, and_opens, ended, opens, joins, plain, scheme, party, past}

-- ---- which schemes go

-- opened in month 24,315 for 84 months, so that 24,399 is the month by which they ended
abbrev row : ℕ → SchemeParticulars
row number = record { number = number; cost = 100; fee = 0; minimum = 0; opening = 24315; term = 84 }

-- an entry's number and scheme, what it was credited and what of it paid out
abbrev entry : ℕ → ℕ → ℕ → ℕ → EntryParticulars
entry number of credited paid = record { number = number; scheme = of; capacity = 1; credited = credited; paid_out = paid }

abbrev books : List SchemeParticulars → List EntryParticulars → Books
books schemes entries =
    record { connections = 9; month = 24316; next_scheme = 40; next_entry = 50; room = 9; schemes = schemes; entries = entries }

abbrev opened_in : ℕ → ℕ → SchemeParticulars
opened_in opening term = record { number = 6; cost = 100; fee = 0; minimum = 0; opening = opening; term = term }

-- schemes 3, 7 and 9 with entries among one another's: credited nothing, all paid out, and one of two with a cent left
abbrev three_books : Books
three_books = books (row 3 ∷ row 7 ∷ row 9 ∷ []) (entry 4 7 50 50 ∷ entry 5 3 0 0 ∷ entry 6 9 60 60 ∷ entry 8 7 0 0 ∷ entry 11 9 40 39 ∷ [])

abbrev going_cases : List ((Books × ℕ) × Decision)
going_cases =
    -- "A month before the last is 7", also where a scheme must go
    ((three_books, 24315), refused (refusal 7 0 0)) ∷
    ((three_books, 24316), cleared 24316 []) ∷
    -- the last month in force, and the one after it
    ((three_books, 24398), cleared 24398 []) ∷
    ((three_books, 24399), cleared 24399 (3 ∷ 7 ∷ [])) ∷
    ((three_books, 65535), cleared 65535 (3 ∷ 7 ∷ [])) ∷
    -- a month is set also where there is no scheme
    ((books [] [], 24317), cleared 24317 []) ∷
    -- by its own entries: a credit of a cent that stands at the first, at the last, and at another scheme's
    ((books (row 3 ∷ []) (entry 4 3 1 0 ∷ entry 5 3 7 7 ∷ []), 24399), cleared 24399 []) ∷
    ((books (row 3 ∷ []) (entry 4 3 7 7 ∷ entry 5 3 1 0 ∷ []), 24399), cleared 24399 []) ∷
    ((books (row 3 ∷ []) (entry 4 3 7 7 ∷ entry 5 8 1 0 ∷ []), 24399), cleared 24399 (3 ∷ [])) ∷
    -- opening + term past sixteen bits: 65,451 + 84 is the last month there is, 65,452 + 84 is past it, and 0 in sixteen bits
    ((books (opened_in 65451 84 ∷ []) [], 65535), cleared 65535 (6 ∷ [])) ∷
    ((books (opened_in 65452 84 ∷ []) [], 65535), cleared 65535 []) ∷
    ((books (opened_in 24315 41221 ∷ []) [], 65535), cleared 65535 []) ∷
    []

pub going_cases_hold : map (λ case. decided case.0.0 (clear case.0.1)) going_cases ≡ map (λ case. case.1) going_cases
going_cases_hold = refl

-- it answers "done"
pub going_answered :
    map (λ case. answer_to case.0.0 (decided case.0.0 (clear case.0.1))) going_cases
    ≡ is_refused (refusal 7 0 0) ∷ replicate 11 is_done
going_answered = refl

-- ---- what is left

-- of 64 places, with the numbers that come next and what was cleared before
abbrev ledger_with : ℕ → ℕ → List Scheme → ℕ → ℕ → ℕ → ℕ → Ledger
ledger_with month count schemes entries collected paid fees =
    record {
      month = month;
      connections = 12;
      charged = 9000;
      borne = 400;
      next_scheme = 20;
      next_entry = 30;
      cleared_collected = collected;
      cleared_paid_out = paid;
      cleared_fees = fees;
      entries = entries;
      count = count;
      schemes = schemes;
    }

abbrev places : ℕ → List Scheme
places n = replicate n no_scheme

-- schemes 4, 7 and 15: the first was joined twice, the others never. Record 6 still holds an entry that was cleared.
abbrev before : State
before =
    record {
      ledger = ledger_with 24316 3 (scheme 4 3000 200 ∷ scheme 7 1800 0 ∷ scheme 15 5 0 ∷ places 61) 5 5000 4000 1000;
      table =
          party 2 4 7 20 3000 1166 1166 ∷
          party 9 7 8 30 1800 0 0 ∷
          party 10 4 9 10 1000 134 134 ∷
          party 11 4 9 6 500 0 0 ∷
          party 28 15 6 5 5 0 0 ∷
          party 29 4 6 5 5 77 0 ∷
          past ∷
          [];
    }

abbrev left_cases : List (Decision × State)
left_cases =
    -- nothing goes, and the month is set
    (cleared 24320 [], record before { ledger = ledger_with 24320 3 (scheme 4 3000 200 ∷ scheme 7 1800 0 ∷ scheme 15 5 0 ∷ places 61) 5 5000 4000 1000 }) ∷
    -- the first: 1,500 collected, 1,300 paid out and 200 of fees; the rest close up, and records 3 to 7 are as they were
    (
      cleared 24399 (4 ∷ []),
      record {
        ledger = ledger_with 24399 2 (scheme 7 1800 0 ∷ scheme 15 5 0 ∷ places 62) 2 6500 5300 1200;
        table =
            party 9 7 8 30 1800 0 0 ∷
            party 28 15 6 5 5 0 0 ∷
            party 10 4 9 10 1000 134 134 ∷
            party 11 4 9 6 500 0 0 ∷
            party 28 15 6 5 5 0 0 ∷
            party 29 4 6 5 5 77 0 ∷
            past ∷
            [];
      },
    ) ∷
    -- the one between, the last, and all
    (
      cleared 24399 (7 ∷ []),
      record {
        ledger = ledger_with 24399 2 (scheme 4 3000 200 ∷ scheme 15 5 0 ∷ places 62) 4 5000 4000 1000;
        table =
            party 2 4 7 20 3000 1166 1166 ∷
            party 10 4 9 10 1000 134 134 ∷
            party 11 4 9 6 500 0 0 ∷
            party 28 15 6 5 5 0 0 ∷
            party 28 15 6 5 5 0 0 ∷
            party 29 4 6 5 5 77 0 ∷
            past ∷
            [];
      },
    ) ∷ (
      cleared 24399 (15 ∷ []),
      record {
        ledger = ledger_with 24399 2 (scheme 4 3000 200 ∷ scheme 7 1800 0 ∷ places 62) 4 5000 4000 1000;
        table = before.table;
      },
    ) ∷ (
      cleared 65535 (4 ∷ 7 ∷ 15 ∷ []),
      record { ledger = ledger_with 65535 0 (places 64) 0 6500 5300 1200; table = before.table },
    ) ∷
    []

pub left_cases_hold : map (λ case. carried_out before case.0) left_cases ≡ map (λ case. case.1) left_cases
left_cases_hold = refl

-- ---- the call
abbrev after_first : State
after_first =
    record {
      ledger = ledger_with 24399 2 (scheme 7 1800 0 ∷ scheme 15 5 0 ∷ places 62) 2 6500 5300 1200;
      table =
          party 9 7 8 30 1800 0 0 ∷
          party 28 15 6 5 5 0 0 ∷
          party 10 4 9 10 1000 134 134 ∷
          party 11 4 9 6 500 0 0 ∷
          party 28 15 6 5 5 0 0 ∷
          party 29 4 6 5 5 77 0 ∷
          past ∷
          [];
    }

-- a record past the last entry holds no entry, whatever its number
abbrev called_cases : List ((State × Call) × CallAnswer × State)
called_cases =
    ((before, clear 24315), is_refused (refusal 7 0 0), before) ∷
    ((before, clear 24398), is_done, record before { ledger = ledger_with 24398 3 (scheme 4 3000 200 ∷ scheme 7 1800 0 ∷ scheme 15 5 0 ∷ places 61) 5 5000 4000 1000 }) ∷
    ((before, clear 24399), is_done, record { ledger = ledger_with 24399 0 (places 64) 0 6500 5300 1200; table = before.table }) ∷
    ((before, pay_out 29 0), is_refused (refusal 11 0 0), before) ∷
    ((before, hand_over 1 5), is_refused (refusal 11 0 0), before) ∷
    ((after_first, pay_out 10 0), is_refused (refusal 11 0 0), after_first) ∷
    ((after_first, pay_out 2 0), is_refused (refusal 11 0 0), after_first) ∷
    ((after_first, pay_out 28 0), is_done, after_first) ∷
    -- 13 before 7
    ((record { ledger = before.ledger; table = [] }, clear 24315), is_refused (refusal 13 0 0), record { ledger = before.ledger; table = [] }) ∷
    []

pub called_cases_hold :
    map {B = CallAnswer × State} (λ case. (answered case.0.0 case.0.1, leaves case.0.0 case.0.1)) called_cases
    ≡ map (λ case. (case.1, case.2)) called_cases
unfolding answered leaves sound sound_figures sound_numbers rise_to parties_sound schemes_sound all_zero sum_over first_put_in place_of
called_cases_hold = refl

-- ---- accept where schemes were cleared

-- of the schemes whose numbers are below the next one, 3 alone stands, with entry 17
abbrev some_cleared : ℕ → Books
some_cleared next_scheme =
    record {
      connections = 9;
      month = 24316;
      next_scheme = next_scheme;
      next_entry = 50;
      room = 9;
      schemes = record { number = 3; cost = 3000; fee = 100; minimum = 500; opening = 24315; term = 84 } ∷ [];
      entries = record { number = 17; scheme = 3; capacity = 30; credited = 0; paid_out = 0 } ∷ [];
    }

-- so many schemes stand, numbered from 1 on, of 70 that were opened
abbrev standing : ℕ → Books
standing count = record (some_cleared 71) { schemes = numbered {A = SchemeParticulars} 1 (λ number scheme. record scheme { number = number }) (replicate count (row 1)) }

abbrev cleared_cases : List ((Books × Bill) × Verdict)
cleared_cases =
    let joining : ℕ → Bill = λ number. with_month 24317 (in_scheme number (bill_of book 1000)) in
    let building : ℕ → Bill = λ number. with_month 24317 (in_scheme number (bill_of book 1001)) in
    -- the last number that was given, and the next one
    ((some_cleared 9, joining 3), Ok (joins 500 100 30)) ∷
    ((some_cleared 9, joining 8), Ok ended) ∷
    ((some_cleared 9, joining 9), Err (refusal 6 0 0)) ∷
    ((some_cleared 9, joining 1), Ok ended) ∷
    ((some_cleared 4, joining 4), Err (refusal 6 0 0)) ∷
    -- a scheme may open beside it, by mark 0 and X above the threshold
    ((some_cleared 9, building 1), Ok (and_opens ended)) ∷
    ((some_cleared 9, building 9), Err (refusal 6 0 0)) ∷
    -- the last number that a scheme gets: it was given, and stands for no scheme
    ((some_cleared 65536, joining 65535), Ok ended) ∷
    -- the 65,535th scheme, and the 65,536th, which is refused where one must open alone
    ((some_cleared 65535, with_month 24317 (bill_of book 1001)), Ok opens) ∷
    ((some_cleared 65536, with_month 24317 (bill_of book 1001)), Err (refusal 8 0 0)) ∷
    ((some_cleared 65536, building 1), Err (refusal 8 0 0)) ∷
    ((some_cleared 65536, with_month 24317 (bill_of book 1000)), Ok plain) ∷
    ((some_cleared 65536, joining 1), Ok ended) ∷
    -- 64 stand, and 63 of more that were opened
    ((standing 64, with_month 24317 (bill_of book 1001)), Err (refusal 8 0 0)) ∷
    ((standing 63, with_month 24317 (bill_of book 1001)), Ok opens) ∷
    []

pub cleared_cases_hold : map (λ case. verdict case.0.0 case.0.1) cleared_cases ≡ map (λ case. case.1) cleared_cases
unfolding verdict
cleared_cases_hold = refl
