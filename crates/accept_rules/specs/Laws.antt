-- The laws that the functions of src/ are there for, one statement each; the proofs stand in specs/. The first: what accept answers and leaves, and when,
-- in document 01's order of refusals, 13, pricing's own, 10, 7, 6, 8, 9, each case with the tests that lead to it; where none refuses, what becomes of the
-- joining, and then of the opening.
use Rattle.std.specs.Prelude.{ℕ, ◌<◌, ◌≡◌, List, length, get_or, set, Ok, cond, ◌+◌, [], ◌∷◌, ◌++◌, true, ◌⊎◌, Err, ◌-◌, ◌≤◌, false, None, Option, Some}
use Rattle.tagged.specs.declared.file.Refusal.{Refusal}
use Rattle.charge.specs.Price.{price_of, Pricing}
use Rattle.charge.specs.declared.Bill.{Bill}
use Rattle.ledger.specs.Limits.{most_schemes, most_entries, most_connections, highest_next_scheme}
use Rattle.calls.specs.Decision.{accept, CallAnswer, is_refused, Decision, refused, accept_by, answer_to, is_accepted, is_done, Call}
use Rattle.calls.specs.Carried.{State, books_on, carried_out, booked, joined, opened}
use Rattle.calls.specs.Calls.{answered, leaves}
use Rattle.numbers.specs.BigEndian.{Bytes}
use Rattle.tagged.specs.File.{refusal}
use Rattle.tagged.specs.Refusals.{ledger_unsound, scheme_never_opened, month_before_last, no_scheme_left, no_entry_left, no_connection_left}
use Rattle.ledger.specs.Sound.{sound}
use Rattle.ledger.specs.RefusalNumbers.{one_of}
use Rattle.calls.specs.VerdictConditions.{verdict_numbers}
use Rattle.ledger.specs.Books.{SchemeParticulars, scheme_at}
use Rattle.calls.specs.Rules.{parties_of, capacity_of, contribution, shared}
use Rattle.calls.specs.Answers.{accepted_as, joined_as}
use Rattle.calls.specs.declared.courses.Joining.{Joining}
use Rattle.calls.specs.declared.answers.JoiningAnswer.{JoiningAnswer}

-- ---- what is read off the books

-- K, the capacity of all parties of the scheme that a request joins
abbrev pub earlier_capacity : State → Bill → ℕ
earlier_capacity state bill = capacity_of (parties_of bill.applicant.scheme (books_on state))

-- G: k is the joiner's capacity, X0 the scheme's cost
abbrev pub contribution_of : State → Bill → SchemeParticulars → ℕ
contribution_of state bill scheme = contribution scheme.cost bill.applicant.capacity (earlier_capacity state bill)

-- "Otherwise G is collected and the fee taken": by the scheme's fee, G less the fee shared among its parties
abbrev pub joined_with : State → Bill → SchemeParticulars → ℕ → State
joined_with state bill scheme G =
    joined (Joining.Pays (record { collected = G; fee = scheme.fee; capacity = earlier_capacity state bill }))
    (shared (G - scheme.fee) (parties_of bill.applicant.scheme (books_on state))) bill (booked bill state)

-- ---- the conditions, each on those before it
module _ (state : State) where
  -- 9: entries are "at most 512 and at most the table's length"
  pub record EntriesLeft (needed : ℕ) : Type 0 where
    pub limit : state.ledger.entries + needed ≤ most_entries
    pub room : state.ledger.entries + needed ≤ length state.table

  -- 8: "64 schemes" stand, or the one that must open would be the 65,536th
  pub record SchemesLeft (needed : ℕ) : Type 0 where
    pub place : state.ledger.count + needed ≤ most_schemes
    pub number : state.ledger.next_scheme + needed ≤ highest_next_scheme

  abbrev pub SchemesLacking : ℕ → Type 0
  SchemesLacking needed = (most_schemes < state.ledger.count + needed) ⊎ (highest_next_scheme < state.ledger.next_scheme + needed)

  abbrev pub EntriesLacking : ℕ → Type 0
  EntriesLacking needed = (most_entries < state.ledger.entries + needed) ⊎ (length state.table < state.ledger.entries + needed)

  module _ (pricing : Pricing) (bill : Bill) where
    -- neither 13 nor refused by pricing
    pub record Billed : Type 0 where
      pub stands : sound state.ledger state.table (length state.table) ≡ true
      pub priced : pricing ≡ Ok bill

    -- neither 10 nor 7
    pub record MayConnect : Type 0 where
      pub billed : Billed
      pub connections : state.ledger.connections < most_connections
      pub month : state.ledger.month ≤ bill.applicant.month

  module _ (bill : Bill) where
    -- a scheme that was opened is joined: not 6; it stands, or it was cleared
    pub record MayJoin (scheme : Option SchemeParticulars) : Type 0 where
      pub numbered : 1 ≤ bill.applicant.scheme
      pub opened : bill.applicant.scheme < state.ledger.next_scheme
      pub is : scheme_at (books_on state) bill.applicant.scheme ≡ scheme

    -- "Joined, in force"
    pub record InForce (scheme : SchemeParticulars) : Type 0 where
      pub joins : MayJoin (Some scheme)
      pub not_ended : bill.applicant.month < scheme.opening + scheme.term

    -- what becomes of the joining: its answer, how many entries it needs, and what it leaves
    pub data JoiningAnswers : JoiningAnswer → ℕ → State → Type 0 where
      -- no scheme joined
      not_asked : bill.applicant.scheme ≡ 0 → JoiningAnswers JoiningAnswer.NotAsked 0 (booked bill state)
      -- "month ≥ opening + term: nothing is collected"
      ended : {scheme : SchemeParticulars} → MayJoin (Some scheme) → scheme.opening + scheme.term ≤ bill.applicant.month →
          JoiningAnswers JoiningAnswer.Ended 0 (booked bill state)
      -- "Joining a cleared scheme gives "ended"" (document 02, E8)
      cleared : MayJoin None → JoiningAnswers JoiningAnswer.Ended 0 (booked bill state)
      -- "Below the minimum: nothing collected, no entry"
      small : {scheme : SchemeParticulars} → InForce scheme → contribution_of state bill scheme < scheme.minimum →
          JoiningAnswers JoiningAnswer.Small 0 (booked bill state)
      -- "The joiner becomes an entry with G put in."
      joins : {scheme : SchemeParticulars} {G : ℕ} → InForce scheme → scheme.minimum ≤ contribution_of state bill scheme →
          G ≡ contribution_of state bill scheme → JoiningAnswers (joined_as state.ledger.next_entry G) 1 (joined_with state bill scheme G)

    -- what becomes of the opening, which "comes after its joining is booked": its answer, how many schemes and entries it needs, and what it leaves
    pub data OpeningAnswers (between : State) : Option ℕ → ℕ → State → Type 0 where
      opens_none : (1 ≤ bill.applicant.mark) ⊎ (bill.reconciliation.x ≤ bill.terms.threshold) →
          OpeningAnswers between None 0 between
      -- "mark 0, and X .. above the threshold": "a scheme of cost X opens .., and the applicant is its first entry with X put in"
      opens : bill.applicant.mark ≡ 0 → bill.terms.threshold < bill.reconciliation.x →
          OpeningAnswers between (Some state.ledger.next_scheme) 1 (opened true bill between)

-- ---- what accept answers and leaves, and when
pub data Answers (state : State) (pricing : Pricing) : CallAnswer → State → Type 0 where
  -- 13: ledger unsound, or table shorter than its entries
  refused_13 : sound state.ledger state.table (length state.table) ≡ false → Answers state pricing (is_refused (refusal ledger_unsound 0 0)) state
  -- book, request, 4, 5
  refused_by_pricing : {r : Refusal} → sound state.ledger state.table (length state.table) ≡ true → pricing ≡ Err r →
      Answers state pricing (is_refused r) state
  -- 10: 1,000,000 connections taken
  refused_10 : {bill : Bill} → Billed state pricing bill → most_connections ≤ state.ledger.connections →
      Answers state pricing (is_refused (refusal no_connection_left 0 0)) state
  -- 7: month before the last accepted
  refused_7 : {bill : Bill} → Billed state pricing bill → state.ledger.connections < most_connections → bill.applicant.month < state.ledger.month →
      Answers state pricing (is_refused (refusal month_before_last 0 0)) state
  -- 6: scheme never opened
  refused_6 : {bill : Bill} → MayConnect state pricing bill → state.ledger.next_scheme ≤ bill.applicant.scheme →
      Answers state pricing (is_refused (refusal scheme_never_opened 0 0)) state
  -- "8 and 9 are judged for joining and opening together, before either is booked."
  -- 8: 64 schemes stand, or the next would be the 65,536th, and one must open
  refused_8 : {bill : Bill} {joining : JoiningAnswer} {opening : Option ℕ} {entries new : ℕ} {between after : State} → MayConnect state pricing bill →
      JoiningAnswers state bill joining entries between → OpeningAnswers state bill between opening new after → SchemesLacking state new →
      Answers state pricing (is_refused (refusal no_scheme_left 0 0)) state
  -- 9: the entries that both need aren't left
  refused_9 : {bill : Bill} {joining : JoiningAnswer} {opening : Option ℕ} {entries new : ℕ} {between after : State} → MayConnect state pricing bill →
      JoiningAnswers state bill joining entries between → OpeningAnswers state bill between opening new after → SchemesLeft state new →
      EntriesLacking state (entries + new) → Answers state pricing (is_refused (refusal no_entry_left 0 0)) state
  -- every joining with every opening; "plain" is none of both
  accepts : {bill : Bill} {joining : JoiningAnswer} {opening : Option ℕ} {entries new : ℕ} {between after : State} → MayConnect state pricing bill →
      JoiningAnswers state bill joining entries between → OpeningAnswers state bill between opening new after → SchemesLeft state new →
      EntriesLeft state (entries + new) → Answers state pricing (accepted_as bill joining opening) after

-- it answers and leaves what `Answers` says
abbrev pub AcceptAnswers : Type 0
AcceptAnswers =
    (state : State) (book request : List ℕ) (places : length state.ledger.schemes ≡ most_schemes) → Answers state (price_of book request) (answered state (accept book request)) (leaves state (accept book request))

-- and nothing else
abbrev pub AnswersOnly : Type 0
AnswersOnly =
    (state : State) (book request : List ℕ) (places : length state.ledger.schemes ≡ most_schemes) → (answer : CallAnswer) (after : State) → Answers state (price_of book request) answer after →
    (answer ≡ answered state (accept book request)) × (after ≡ leaves state (accept book request))

-- "A refusal returns number, file .. and place, and changes nothing."
abbrev pub RefusedChangesNothing : Type 0
RefusedChangesNothing =
    (state : State) (book request : List ℕ) (r : Refusal) → answered state (accept book request) ≡ is_refused r →
    leaves state (accept book request) ≡ state

-- the ledger's own numbers
abbrev pub ledger_numbers : List ℕ
ledger_numbers = verdict_numbers ++ (ledger_unsound ∷ [])

-- a refusal is pricing's, or has one of them
abbrev pub AcceptRefuses : Pricing → CallAnswer → Type 0
AcceptRefuses pricing (is_accepted acceptance) = Unit {0}
AcceptRefuses pricing is_done = Unit {0}
AcceptRefuses pricing (is_refused r) = (pricing ≡ Err r) ⊎ (one_of ledger_numbers r.number ≡ true)

abbrev pub RefusalNumbers : Type 0
RefusalNumbers =
    (state : State) (book request : List ℕ) → AcceptRefuses (price_of book request) (answered state (accept book request))

-- a request that accept refuses and that leaves ledger and table
pub record RefusedAndLeft (state : State) (call : Call) : Type 0 where
  pub refused : Refusal
  pub answer : answered state call ≡ is_refused refused
  pub left : leaves state call ≡ state

-- one byte of the book is another byte
abbrev pub AlteredBookNotAccepted : Type 0
AlteredBookNotAccepted =
    (state : State) (book request : List ℕ) (bill : Bill) (priced : price_of book request ≡ Ok bill) (i b : ℕ) (below : b < 256) → Bytes book → i < length book → (get_or book i 0 ≡ b → ⊥) → RefusedAndLeft state (accept (set book i b) request)

-- one byte of the request is another byte
abbrev pub AlteredRequestNotAccepted : Type 0
AlteredRequestNotAccepted =
    (state : State) (book request : List ℕ) (bill : Bill) (priced : price_of book request ≡ Ok bill) (i b : ℕ) (below : b < 256) → Bytes request → i < length request → (get_or request i 0 ≡ b → ⊥) → RefusedAndLeft state (accept book (set request i b))

-- ---- accept by pricing's answer: the call's decision reads no other part of book and request
abbrev pub decided_by : State → Pricing → Decision
decided_by state pricing =
    cond (sound state.ledger state.table (length state.table)) (accept_by (books_on state) pricing) (refused (refusal ledger_unsound 0 0))

abbrev pub answered_by : State → Pricing → CallAnswer
answered_by state pricing = answer_to (books_on state) (decided_by state pricing)

abbrev pub leaves_by : State → Pricing → State
leaves_by state pricing = carried_out state (decided_by state pricing)

-- the answer is by what pricing answers
abbrev pub AnsweredByPricing : Type 0
AnsweredByPricing =
    (state : State) (book request : List ℕ) → answered_by state (price_of book request) ≡ answered state (accept book request)

-- so is what is left
abbrev pub LeavesByPricing : Type 0
LeavesByPricing =
    (state : State) (book request : List ℕ) → leaves_by state (price_of book request) ≡ leaves state (accept book request)
