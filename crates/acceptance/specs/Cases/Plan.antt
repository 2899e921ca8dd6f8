-- Accept on a literal ledger and its entries: what it answers, the ledger after it, what each entry is credited, and the entries that are added. Every
-- expected side is a literal.
use Rattle.std.specs.Prelude.{ℕ, ◌≡◌, refl, List, [], ◌∷◌, ◌++◌, map, replicate, Err, None, Ok, Option, Some}
use Rattle.tagged.specs.File.{refusal}
use Rattle.charge.specs.declared.Bill.{Bill}
use Rattle.ledger.specs.Records.{scheme_of}
use Rattle.ledger.specs.Columns.{sum_over, first_put_in}
use Rattle.ledger.specs.Lookup.{place_of}
use Rattle.ledger.specs.Sound.{parties_sound, schemes_sound, all_zero, sound_figures, rise_to, sound_numbers, sound}
use Rattle.ledger.specs.declared.records.Party.{Party}
use Rattle.ledger.specs.declared.records.Ledger.{Ledger}
use Rattle.calls.specs.CreditColumns.{weights, shares}
use Rattle.calls.specs.Verdict.{verdict}
use Rattle.calls.specs.Cases.Verdict.{book, other_book, bill_of, with_month, with_capacity, in_scheme, scheme, party, ledger, places, past, three, first_three}
use Rattle.calls.specs.Answers.{joined_as}
use Rattle.calls.specs.Decision.{AcceptAnswer}
use Rattle.calls.specs.declared.answers.JoiningAnswer.{JoiningAnswer}
use Rattle.calls.specs.declared.answers.JoiningAnswer.TheVariants.{NotAsked, Ended, Small}
use Rattle.acceptance.specs.Plan.{bill_plan, plan_of}
use Rattle.acceptance.specs.PlanCarried.{Plan}

abbrev accepted_as : Bill → JoiningAnswer → Option ℕ → AcceptAnswer
accepted_as bill joining opening = Ok (record { reconciliation = bill.reconciliation; joining = joining; opening = opening })

abbrev none : Party
none = party 0 0 0 0 0 0 0

-- an answer, the ledger after it, the first three entries' credits and the entry that is added
abbrev adding : AcceptAnswer → Ledger → ℕ → ℕ → ℕ → Party → Plan
adding answer after first second third added =
    record {
      answer = answer;
      ledger = after;
      credits = first ∷ second ∷ third ∷ replicate 509 0;
      added = added ∷ none ∷ [];
      added_count = 1;
    }

abbrev nothing : AcceptAnswer → Ledger → Plan
nothing answer after = record { answer = answer; ledger = after; credits = replicate 512 0; added = none ∷ none ∷ []; added_count = 0 }

-- a ledger in which five schemes and eight entries got their numbers
abbrev later : Ledger → Ledger
later before = record before { next_scheme = 6; next_entry = 9 }

abbrev later_three : List Party
later_three = party 3 2 8 30 1800 0 0 ∷ party 6 4 7 20 3000 900 300 ∷ party 8 4 9 10 1000 0 0 ∷ []

-- the ledger, its entries, the table's length and the bill
abbrev accepted_cases : List ((Ledger × List Party × ℕ × Bill) × Plan)
accepted_cases =
    -- the first joining of scheme 1, under another book: G 1,000, of which the scheme's fee is 100
    (let bill = with_month 24317 (with_capacity 10 (in_scheme 1 (bill_of other_book 7000))) in (
      (
        ledger 24316 2 9000 400 2 2 (scheme 1 3000 0 ∷ scheme 2 1800 0 ∷ places 62),
        party 1 1 7 20 3000 0 0 ∷ party 2 2 8 30 1800 0 0 ∷ past ∷ [],
        3,
        bill,
      ),
      adding (accepted_as bill (joined_as 3 1000) None) (ledger 24317 3 16005 470 3 2 (scheme 1 3000 100 ∷ scheme 2 1800 0 ∷ places 62)) 900 0 0
          (party 3 1 9 10 1000 0 0),
    )) ∷
    -- the second: G 500, of which 400 are credited to its two entries by their capacities 20 and 10; G is no part of what is charged
    (let bill = with_month 24317 (in_scheme 1 (bill_of other_book 0)) in (
      (three, first_three ++ (past ∷ past ∷ []), 5, bill),
      adding (accepted_as bill (joined_as 4 500) None) (ledger 24317 4 9005 470 4 2 (scheme 1 3000 200 ∷ scheme 2 1800 0 ∷ places 62)) 266 0 134
          (party 4 1 9 6 500 0 0),
    )) ∷
    -- opened by the book's fee, minimum and term
    (let bill = with_month 24317 (bill_of other_book 7001) in (
      (three, first_three ++ (past ∷ past ∷ []), 5, bill),
      adding (accepted_as bill NotAsked (Some 3))
          (ledger 24317 4 16006 470 4 3 (scheme 1 3000 100 ∷ scheme 2 1800 0 ∷ scheme_of 3 7001 400 2000 24317 120 0 ∷ places 61)) 0 0 0 (party 4 3 9 6 7001 0 0),
    )) ∷
    -- joined and opened: the joiner's record comes first, the new scheme's after it; the new scheme has its own book's fee, and one connection is counted
    (let bill = with_month 24317 (in_scheme 1 (bill_of other_book 7001)) in (
      (three, first_three ++ (past ∷ past ∷ []), 5, bill),
      record {
        answer = accepted_as bill (joined_as 4 500) (Some 3);
        ledger = ledger 24317 4 16006 470 5 3 (scheme 1 3000 200 ∷ scheme 2 1800 0 ∷ scheme_of 3 7001 400 2000 24317 120 0 ∷ places 61);
        credits = 266 ∷ 0 ∷ 134 ∷ replicate 509 0;
        added = party 4 1 9 6 500 0 0 ∷ party 5 3 9 6 7001 0 0 ∷ [];
        added_count = 2;
      },
    )) ∷
    -- others were cleared: the joiner's entry gets the next number, the new scheme's the one after it, and no number is a place and one
    (let bill = with_month 24317 (in_scheme 4 (bill_of other_book 7001)) in (
      (later (ledger 24316 3 9000 400 3 2 (scheme 2 1800 0 ∷ scheme 4 3000 100 ∷ places 62)), later_three ++ (past ∷ past ∷ []), 5, bill),
      record {
        answer = accepted_as bill (joined_as 9 500) (Some 6);
        ledger =
            record (ledger 24317 4 16006 470 5 3 (scheme 2 1800 0 ∷ scheme 4 3000 200 ∷ scheme_of 6 7001 400 2000 24317 120 0 ∷ places 61)) {
              next_scheme = 7;
              next_entry = 11;
            };
        credits = 0 ∷ 266 ∷ 134 ∷ replicate 509 0;
        added = party 9 4 9 6 500 0 0 ∷ party 10 6 9 6 7001 0 0 ∷ [];
        added_count = 2;
      },
    )) ∷
    -- one that was cleared is "ended", and the next number is 6
    (let bill = with_month 24317 (in_scheme 3 (bill_of other_book 0)) in (
      (later (ledger 24316 3 9000 400 3 2 (scheme 2 1800 0 ∷ scheme 4 3000 100 ∷ places 62)), later_three, 3, bill),
      nothing (accepted_as bill Ended None) (later (ledger 24317 4 9005 470 3 2 (scheme 2 1800 0 ∷ scheme 4 3000 100 ∷ places 62))),
    )) ∷
    (let before = later (ledger 24316 3 9000 400 3 2 (scheme 2 1800 0 ∷ scheme 4 3000 100 ∷ places 62)) in
    ((before, later_three, 3, with_month 24317 (in_scheme 6 (bill_of other_book 0))), nothing (Err (refusal 6 0 0)) before)) ∷
    -- with one record left that is 9; "small" and "ended" that open need no more
    ((three, first_three ++ (past ∷ []), 4, with_month 24317 (in_scheme 1 (bill_of other_book 7001))), nothing (Err (refusal 9 0 0)) three) ∷
    (let bill = with_month 24317 (with_capacity 5 (in_scheme 1 (bill_of other_book 7001))) in (
      (three, first_three ++ (past ∷ []), 4, bill),
      adding (accepted_as bill Small (Some 3))
          (ledger 24317 4 16006 470 4 3 (scheme 1 3000 100 ∷ scheme 2 1800 0 ∷ scheme_of 3 7001 400 2000 24317 120 0 ∷ places 61)) 0 0 0 (party 4 3 9 5 7001 0 0),
    )) ∷
    (let bill = with_month 24399 (in_scheme 1 (bill_of other_book 7001)) in (
      (three, first_three ++ (past ∷ []), 4, bill),
      adding (accepted_as bill Ended (Some 3))
          (ledger 24399 4 16006 470 4 3 (scheme 1 3000 100 ∷ scheme 2 1800 0 ∷ scheme_of 3 7001 400 2000 24399 120 0 ∷ places 61)) 0 0 0 (party 4 3 9 6 7001 0 0),
    )) ∷
    -- small; no entry left; a table shorter than its entries
    (let bill = with_month 24317 (with_capacity 5 (in_scheme 1 (bill_of book 0))) in (
      (three, first_three, 3, bill),
      nothing (accepted_as bill Small None) (ledger 24317 4 9005 470 3 2 (scheme 1 3000 100 ∷ scheme 2 1800 0 ∷ places 62)),
    )) ∷
    ((three, first_three, 3, with_month 24317 (in_scheme 1 (bill_of book 0))), nothing (Err (refusal 9 0 0)) three) ∷
    ((three, first_three, 2, with_month 24317 (bill_of book 0)), nothing (Err (refusal 13 0 0)) three) ∷
    []

pub accepted_cases_hold :
    map (λ row. plan_of row.0.0 row.0.1 row.0.2 (Ok row.0.3)) accepted_cases ≡ map (λ row. row.1) accepted_cases
unfolding plan_of bill_plan verdict sound sound_figures sound_numbers rise_to parties_sound schemes_sound all_zero sum_over first_put_in place_of weights shares
accepted_cases_hold = refl
