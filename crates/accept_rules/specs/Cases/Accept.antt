-- The whole call on small tables, by pricing's answer. The verdict's own cases, each condition at its limit and one past it, stand in `calls`.
use Rattle.std.specs.Prelude.{ℕ, ◌≡◌, refl, List, [], ◌∷◌, ◌++◌, map, Err, None, Ok, Some}
use Rattle.tagged.specs.File.{refusal}
use Rattle.tagged.specs.declared.file.Refusal.{Refusal}
use Rattle.charge.specs.Price.{Pricing}
use Rattle.ledger.specs.Records.{scheme_of, new_ledger}
use Rattle.ledger.specs.Lookup.{place_of}
use Rattle.ledger.specs.Columns.{sum_over, first_put_in}
use Rattle.ledger.specs.Sound.{parties_sound, schemes_sound, all_zero, sound_figures, rise_to, sound_numbers, sound}
use Rattle.ledger.specs.declared.records.Party.{Party}
use Rattle.ledger.specs.declared.records.Ledger.{Ledger}
use Rattle.calls.specs.Verdict.{verdict}
use Rattle.calls.specs.Decision.{CallAnswer, is_refused}
use Rattle.calls.specs.Carried.{State}
use Rattle.calls.specs.Calls.{state_of}
use Rattle.calls.specs.Cases.Verdict.{book, other_book, bill_of, with_month, with_capacity, in_scheme, opening, scheme, party, ledger, places, past, three, first_three}
use Rattle.calls.specs.Answers.{accepted_as, joined_as}
use Rattle.calls.specs.declared.answers.JoiningAnswer.TheVariants.{NotAsked, Ended, Small}
use Rattle.accept_rules.specs.Laws.{answered_by, leaves_by}

-- two schemes, each with its first entry alone
abbrev two : ℕ → Ledger
two connections = ledger 24316 connections 9000 400 2 2 (scheme 1 3000 0 ∷ scheme 2 1800 0 ∷ places 62)

abbrev first_two : List Party
first_two = party 1 1 7 20 3000 0 0 ∷ party 2 2 8 30 1800 0 0 ∷ []

-- what is handed over, what is answered, and what is left
abbrev AcceptCase : Type 0
AcceptCase = (State × Pricing) × CallAnswer × State

-- a refusal leaves what it was handed
abbrev refused_case : Ledger → List Party → Pricing → Refusal → AcceptCase
refused_case before table pricing r = ((state_of before table, pricing), is_refused r, state_of before table)

abbrev pub accept_cases : List AcceptCase
accept_cases =
    -- plain: one connection more, CC, the borne sum and the month
    (let bill = with_month 24317 (bill_of book 1000) in (
      (state_of (two 2) first_two, Ok bill),
      accepted_as bill NotAsked None,
      state_of (ledger 24317 3 10005 470 2 2 (scheme 1 3000 0 ∷ scheme 2 1800 0 ∷ places 62)) first_two,
    )) ∷
    -- opened by the book's fee, minimum and term; the first of all schemes, and the third
    (let bill = with_month 24317 opening in (
      (state_of new_ledger (past ∷ []), Ok bill),
      accepted_as bill NotAsked (Some 1),
      state_of
          (ledger 24317 1 1006 70 1 1 (scheme_of 1 1001 100 500 24317 84 0 ∷ places 63))
          (party 1 1 9 6 1001 0 0 ∷ []),
    )) ∷
    (let bill = with_month 24317 (bill_of other_book 7001) in (
      (state_of (two 2) (first_two ++ (past ∷ [])), Ok bill),
      accepted_as bill NotAsked (Some 3),
      state_of
          (ledger 24317 3 16006 470 3 3
          (scheme 1 3000 0 ∷ scheme 2 1800 0 ∷ scheme_of 3 7001 400 2000 24317 120 0 ∷ places 61))
          (first_two ++ (party 3 3 9 6 7001 0 0 ∷ [])),
    )) ∷
    -- joined: G 1,000, of which the scheme's fee is 100; the entry of the other scheme is credited nothing
    (let bill = with_month 24317 (with_capacity 10 (in_scheme 1 (bill_of other_book 7000))) in (
      (state_of (two 2) (first_two ++ (past ∷ [])), Ok bill),
      accepted_as bill (joined_as 3 1000) None,
      state_of (ledger 24317 3 16005 470 3 2 (scheme 1 3000 100 ∷ scheme 2 1800 0 ∷ places 62))
          (party 1 1 7 20 3000 900 0 ∷ party 2 2 8 30 1800 0 0 ∷ party 3 1 9 10 1000 0 0 ∷ []),
    )) ∷
    -- G 500, of which 400 are credited: 266 and 134; the record past the new entry stays as it is
    (let bill = with_month 24317 (in_scheme 1 (bill_of book 0)) in (
      (state_of three (first_three ++ (past ∷ past ∷ [])), Ok bill),
      accepted_as bill (joined_as 4 500) None,
      state_of (ledger 24317 4 9005 470 4 2 (scheme 1 3000 200 ∷ scheme 2 1800 0 ∷ places 62))
          (party 1 1 7 20 3000 1166 300 ∷ party 2 2 8 30 1800 0 0 ∷ party 3 1 9 10 1000 134 0 ∷ party 4 1 9 6 500 0 0 ∷ past ∷ []),
    )) ∷
    -- the other scheme joined
    (let bill = with_month 24317 (with_capacity 15 (in_scheme 2 (bill_of book 0))) in (
      (state_of three (first_three ++ (past ∷ [])), Ok bill),
      accepted_as bill (joined_as 4 600) None,
      state_of (ledger 24317 4 9005 470 4 2 (scheme 1 3000 100 ∷ scheme 2 1800 100 ∷ places 62))
          (party 1 1 7 20 3000 900 300 ∷ party 2 2 8 30 1800 500 0 ∷ party 3 1 9 10 1000 0 0 ∷ party 4 2 9 15 600 0 0 ∷ []),
    )) ∷
    -- small and ended, on a full table
    (let bill = with_month 24317 (with_capacity 5 (in_scheme 1 (bill_of book 0))) in (
      (state_of three first_three, Ok bill),
      accepted_as bill Small None,
      state_of (ledger 24317 4 9005 470 3 2 (scheme 1 3000 100 ∷ scheme 2 1800 0 ∷ places 62)) first_three,
    )) ∷
    (let bill = with_month 24399 (in_scheme 1 (bill_of book 0)) in (
      (state_of three first_three, Ok bill),
      accepted_as bill Ended None,
      state_of (ledger 24399 4 9005 470 3 2 (scheme 1 3000 100 ∷ scheme 2 1800 0 ∷ places 62)) first_three,
    )) ∷
    -- a joiner that builds on, by its own book's threshold, fee, minimum and term: joined with entry 3, and then scheme 3 opens with entry 4
    (let bill = with_month 24317 (with_capacity 10 (in_scheme 1 (bill_of other_book 7001))) in (
      (state_of (two 2) (first_two ++ (past ∷ past ∷ past ∷ [])), Ok bill),
      accepted_as bill (joined_as 3 1000) (Some 3),
      state_of (ledger 24317 3 16006 470 4 3 (scheme 1 3000 100 ∷ scheme 2 1800 0 ∷ scheme_of 3 7001 400 2000 24317 120 0 ∷ places 61))
          (party 1 1 7 20 3000 900 0 ∷ party 2 2 8 30 1800 0 0 ∷ party 3 1 9 10 1000 0 0 ∷ party 4 3 9 10 7001 0 0 ∷ past ∷ []),
    )) ∷
    -- with one record left it is 9; "small" and "ended" that open need no more
    (let bill = with_month 24317 (with_capacity 10 (in_scheme 1 (bill_of other_book 7001))) in
    refused_case (two 2) (first_two ++ (past ∷ [])) (Ok bill) (refusal 9 0 0)) ∷
    (let bill = with_month 24317 (with_capacity 3 (in_scheme 1 (bill_of other_book 7001))) in (
      (state_of (two 2) (first_two ++ (past ∷ [])), Ok bill),
      accepted_as bill Small (Some 3),
      state_of (ledger 24317 3 16006 470 3 3 (scheme 1 3000 0 ∷ scheme 2 1800 0 ∷ scheme_of 3 7001 400 2000 24317 120 0 ∷ places 61))
          (first_two ++ (party 3 3 9 3 7001 0 0 ∷ [])),
    )) ∷
    (let bill = with_month 24399 (with_capacity 10 (in_scheme 1 (bill_of other_book 7001))) in (
      (state_of (two 2) (first_two ++ (past ∷ [])), Ok bill),
      accepted_as bill Ended (Some 3),
      state_of (ledger 24399 3 16006 470 3 3 (scheme 1 3000 0 ∷ scheme 2 1800 0 ∷ scheme_of 3 7001 400 2000 24399 120 0 ∷ places 61))
          (first_two ++ (party 3 3 9 10 7001 0 0 ∷ [])),
    )) ∷
    -- refusals: 13, for a table shorter than its entries too, before pricing's own, that before 10, and each of the others
    refused_case (two 1000001) first_two (Err (refusal 2 1 9)) (refusal 13 0 0) ∷
    refused_case (ledger 24316 2 9000 400 2 1 (scheme 1 3000 0 ∷ places 63)) (party 1 1 7 20 3000 0 0 ∷ []) (Ok (with_month 24316 (bill_of book 0)))
    (refusal 13 0 0) ∷
    refused_case (two 1000001) first_two (Ok opening) (refusal 13 0 0) ∷
    refused_case (two 1000000) first_two (Err (refusal 5 2 4)) (refusal 5 2 4) ∷
    refused_case (two 1000000) first_two (Ok opening) (refusal 10 0 0) ∷
    refused_case (two 2) first_two (Ok (in_scheme 1 (bill_of book 0))) (refusal 7 0 0) ∷
    refused_case (two 2) first_two (Ok (with_month 24316 (in_scheme 3 (bill_of book 0)))) (refusal 6 0 0) ∷
    refused_case (two 2) (first_two ++ (past ∷ past ∷ [])) (Ok (with_month 24316 (in_scheme 3 opening))) (refusal 6 0 0) ∷
    refused_case (two 2) first_two (Ok (with_month 24316 opening)) (refusal 9 0 0) ∷
    refused_case (two 2) first_two (Ok (with_month 24316 (with_capacity 10 (in_scheme 1 (bill_of book 0))))) (refusal 9 0 0) ∷
    refused_case new_ledger [] (Ok opening) (refusal 9 0 0) ∷
    []

abbrev pub AcceptCasesHold : Type 0
AcceptCasesHold =
    map {B = CallAnswer × State} (λ row. (answered_by row.0.0 row.0.1, leaves_by row.0.0 row.0.1)) accept_cases
    ≡ map (λ row. (row.1, row.2)) accept_cases

pub accept_cases_hold : AcceptCasesHold
unfolding verdict sound sound_figures sound_numbers rise_to parties_sound schemes_sound all_zero sum_over first_put_in place_of
accept_cases_hold = refl
