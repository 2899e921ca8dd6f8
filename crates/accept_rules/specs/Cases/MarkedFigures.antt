-- Document 01, 'Marked figures': M1 to M9 over the definitions, as one result. M6 to M8 are told by accept, from the bytes of book and requests. The
-- slip's book has threshold 5,000,000, fee and minimum 20,000 and a term of 84 months.
use Rattle.std.specs.Prelude.{ℕ, ◌≡◌, List, [], ◌∷◌, map, replicate, None, Option, Some}
use Rattle.std.proofs.Common.{ap, ap₂}
use Rattle.charge.specs.Cases.MarkedFigures.{slip_book, scheme_request, scheme_bills, MarkedFigures as PricingFigures, marked_figures as pricing_figures}
use Rattle.charge.specs.Price.{Pricing}
use Rattle.ledger.specs.Records.{no_party, new_ledger}
use Rattle.ledger.specs.Lookup.{place_of}
use Rattle.ledger.specs.Columns.{sum_over, first_put_in}
use Rattle.ledger.specs.Sound.{parties_sound, schemes_sound, all_zero, sound_figures, rise_to, sound_numbers, sound}
use Rattle.ledger.specs.declared.records.Party.{Party}
use Rattle.calls.specs.Verdict.{verdict}
use Rattle.calls.specs.Decision.{Call, accept, CallAnswer, is_accepted, is_done, is_refused}
use Rattle.calls.specs.Carried.{State}
use Rattle.calls.specs.Calls.{state_of, answered, leaves}
use Rattle.calls.specs.Cases.Verdict.{party}
use Rattle.calls.specs.Answers.{joined_as}
use Rattle.calls.specs.declared.answers.JoiningAnswer.{JoiningAnswer}
use Rattle.calls.specs.declared.answers.JoiningAnswer.TheVariants.{NotAsked, Ended, Small}
use Rattle.accept_rules.specs.Laws.{answered_by, leaves_by}

-- what accept answers of joining and opening; nothing where it refuses
abbrev pub AnswerParts : Type 0
AnswerParts = List (JoiningAnswer × Option ℕ)

abbrev pub parts_of : CallAnswer → AnswerParts
parts_of (is_accepted acceptance) = (acceptance.joining, acceptance.opening) ∷ []
parts_of is_done = []
parts_of (is_refused r) = []

-- calls one after the other, each on the ledger and the table that the last one left: after each, its answer and the table
unfoldable pub in_turn : State → List Call → List (AnswerParts × List Party)
in_turn state [] = []
in_turn state (call ∷ calls) = (parts_of (answered state call), (leaves state call).table) ∷ in_turn (leaves state call) calls

-- an accept by the slip's book: X, month, capacity and scheme joined; a joiner's X is below the threshold
abbrev pub accepting : ℕ → ℕ → ℕ → ℕ → Call
accepting x month capacity scheme = accept slip_book (scheme_request x month capacity scheme)

-- a new ledger and a table of three records
abbrev pub start : State
start = state_of new_ledger (replicate 3 no_party)

-- the answers alone
abbrev pub answers_to : List Call → List AnswerParts
answers_to calls = map (λ after. after.0) (in_turn start calls)

abbrev pub plain : AnswerParts
plain = (NotAsked, None) ∷ []

abbrev pub opened : ℕ → AnswerParts
opened number = (NotAsked, Some number) ∷ []

abbrev pub joined : ℕ → ℕ → AnswerParts
joined entry G = (joined_as entry G, None) ∷ []

abbrev pub small : AnswerParts
small = (Small, None) ∷ []

abbrev pub ended : AnswerParts
ended = (Ended, None) ∷ []

pub record MarkedFigures : Type 0 where
  -- M1 to M5 and M9
  pub pricing : PricingFigures
  -- "threshold 5,000,000: X 5,000,000 opens nothing, 5,000,001 does"
  pub m6 :
      (answers_to (accepting 5000000 24315 10000 0 ∷ []) ≡ plain ∷ []) × (answers_to (accepting 5000001 24315 10000 0 ∷ []) ≡ opened 1 ∷ [])
  -- "cost 6,000,000, fee and minimum 20,000, capacities 10,000, 5,000, 5,000: collected 2,000,000 and 1,500,000; credits 1,980,000, then 986,666 and
  -- 493,334"
  pub m7 :
      let first = party 1 1 4711 10000 6000000 in
      let second = party 2 1 4711 5000 2000000 in
      let third = party 3 1 4711 5000 1500000 in
      in_turn start (accepting 6000000 24315 10000 0 ∷ accepting 1039630 24315 5000 1 ∷ accepting 1039630 24315 5000 1 ∷ [])
      ≡ (opened 1, first 0 0 ∷ no_party ∷ no_party ∷ []) ∷
      (joined 2 2000000, first 1980000 0 ∷ second 0 0 ∷ no_party ∷ []) ∷
      (joined 3 1500000, first 2966666 0 ∷ second 493334 0 ∷ third 0 0 ∷ []) ∷
      []
  -- "G equal to the minimum is collected; one cent less isn't. Opening + term − 1 is in force."
  pub m8 :
      (answers_to (accepting 6000000 24315 299000 0 ∷ accepting 1039630 24315 1000 1 ∷ []) ≡ opened 1 ∷ joined 2 20000 ∷ [])
      × (answers_to (accepting 5999999 24315 299000 0 ∷ accepting 1039630 24315 1000 1 ∷ []) ≡ opened 1 ∷ small ∷ [])
      × (answers_to (accepting 6000000 24315 299000 0 ∷ accepting 1039630 24398 1000 1 ∷ []) ≡ opened 1 ∷ joined 2 20000 ∷ [])
      × (answers_to (accepting 6000000 24315 299000 0 ∷ accepting 1039630 24399 1000 1 ∷ []) ≡ opened 1 ∷ ended ∷ [])

-- ---- by the bills that the bytes come to
unfoldable in_turn_by : State → List Pricing → List (AnswerParts × List Party)
in_turn_by state [] = []
in_turn_by state (pricing ∷ pricings) =
    (parts_of (answered_by state pricing), (leaves_by state pricing).table) ∷ in_turn_by (leaves_by state pricing) pricings

abbrev answers_by : List Pricing → List AnswerParts
answers_by pricings = map (λ after. after.0) (in_turn_by start pricings)

pub marked_figures : MarkedFigures
unfolding in_turn in_turn_by answered leaves verdict sound sound_figures sound_numbers rise_to parties_sound schemes_sound all_zero sum_over first_put_in place_of
marked_figures =
    record {
      pricing = pricing_figures;
      m6 = (
        ap (λ opening. answers_by (opening ∷ [])) scheme_bills.at_threshold,
        ap (λ opening. answers_by (opening ∷ [])) scheme_bills.above_threshold,
      );
      m7 = ap₂ (λ opening joining. in_turn_by start (opening ∷ joining ∷ joining ∷ [])) scheme_bills.opening scheme_bills.joining;
      m8 = (
        ap₂ (λ opening joining. answers_by (opening ∷ joining ∷ [])) scheme_bills.wide_opening scheme_bills.small_joining,
        ap₂ (λ opening joining. answers_by (opening ∷ joining ∷ [])) scheme_bills.less_opening scheme_bills.small_joining,
        ap₂ (λ opening joining. answers_by (opening ∷ joining ∷ [])) scheme_bills.wide_opening scheme_bills.last_joining,
        ap₂ (λ opening joining. answers_by (opening ∷ joining ∷ [])) scheme_bills.wide_opening scheme_bills.late_joining,
      );
    }
