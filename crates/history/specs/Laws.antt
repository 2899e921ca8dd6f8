-- The laws that the functions of src/ are there for, one statement each; the proofs stand in proofs/.
use Rattle.std.specs.Prelude.{ℕ, ◌≤◌, ◌<◌, ◌≡◌, ◌⊎◌, List, [], length, Ok, ◌+◌, cond, eqb, None, Option, Some, Contains}
use Rattle.ledger.specs.Records.{new_ledger}
use Rattle.ledger.specs.declared.records.Party.{Party}
use Rattle.calls.specs.Decision.{Call, CallAnswer, accept, pay_out, hand_over, clear, is_accepted, is_done, is_refused}
use Rattle.calls.specs.Carried.{State}
use Rattle.calls.specs.Calls.{state_of, Trace, AllFit}
use Rattle.history.specs.History.{History, account_of, books_in, with_call, answer_by, history_from, history_of, credited_to, cost, joinings, collected, connections, charged, borne, cost_entered}
use Rattle.history.specs.JoinedAnswers.{AnswersJoined}
use Rattle.history.specs.DemandThree.{GivenOnce, schemes_given, entries_given}
use Rattle.history.specs.ShownState.{ShownState}
use Rattle.tagged.specs.Refusals.{scheme_never_opened}
use Rattle.ledger.specs.Books.{scheme_at}
use Rattle.charge.specs.Price.{price_of}
use Rattle.charge.specs.declared.Bill.{Bill}
use Rattle.calls.specs.declared.answers.Acceptance.{Acceptance}
use Rattle.calls.specs.declared.answers.JoiningAnswer.{JoiningAnswer}
use Rattle.calls.specs.declared.answers.JoiningAnswer.TheVariants.{NotAsked, Ended, Small, Joined}

-- the joining counts where the bill joins the scheme: one joining, and G collected
abbrev pub joinings_by : JoiningAnswer → ℕ
joinings_by NotAsked = 0
joinings_by Ended = 0
joinings_by Small = 0
joinings_by (Joined paid) = 1

abbrev pub collected_by : JoiningAnswer → ℕ
collected_by NotAsked = 0
collected_by Ended = 0
collected_by Small = 0
collected_by (Joined paid) = paid.contribution

-- the opening counts where the scheme has the number that it opened: its cost is X
abbrev pub cost_by : ℕ → Bill → Option ℕ → ℕ
cost_by s bill None = 0
cost_by s bill (Some number) = cond (eqb number s) bill.reconciliation.x 0

-- for every scheme number s; the connection, its cost entered, charge and borne sum once
pub record CountedByAnswers (before : History) (bill : Bill) (acceptance : Acceptance) (after : History) : Type 0 where
  pub scheme_joinings : (s : ℕ) →
      joinings (account_of s after).entered
      ≡ joinings (account_of s before).entered + cond (eqb bill.applicant.scheme s) (joinings_by acceptance.joining) 0
  pub scheme_collected : (s : ℕ) →
      collected (account_of s after).entered
      ≡ collected (account_of s before).entered + cond (eqb bill.applicant.scheme s) (collected_by acceptance.joining) 0
  pub scheme_cost : (s : ℕ) →
      cost (account_of s after).entered ≡ cost (account_of s before).entered + cost_by s bill acceptance.opening
  pub connection_once : connections after ≡ connections before + 1
  pub entered_once : cost_entered after ≡ cost_entered before + bill.reconciliation.entered
  pub charged_once : charged after ≡ charged before + bill.reconciliation.cc
  pub borne_once : borne after ≡ borne before + bill.reconciliation.borne

-- after every list of calls ledger and table show the history
abbrev pub EveryListShown : Type 0
EveryListShown =
    (start : List Party) (calls : List Call) (answers : List CallAnswer) (after : State) → AllFit calls →
    Trace (state_of new_ledger start) calls answers after → ShownState (length start) (history_of (length start) calls) after

-- every list of calls has a trace, from any ledger and table
abbrev pub TraceExists : Type 0
TraceExists =
    (state : State) (calls : List Call) → (answers : List CallAnswer) × (after : State) × Trace state calls answers after

-- no number is given twice in a list of calls: from 1 up to the next each once
abbrev pub NumbersOnce : Type 0
NumbersOnce =
    (room : ℕ) (calls : List Call) → AllFit calls → let h = history_of room calls in
    GivenOnce h.next_scheme (schemes_given h) × GivenOnce h.next_entry (entries_given h)

-- a scheme that was opened and stands no more was cleared: a joining of it is "ended", or the request is refused for something else
abbrev pub NotJoined : CallAnswer → Type 0
NotJoined (is_accepted acceptance) = acceptance.joining ≡ Ended
NotJoined is_done = ⊥
NotJoined (is_refused r) = r.number ≡ scheme_never_opened → ⊥

abbrev pub ClearedIsEnded : Type 0
ClearedIsEnded =
    (room : ℕ) (calls later : List Call) (book request : List ℕ) (bill : Bill) → AllFit calls → AllFit later → price_of book request ≡ Ok bill →
    let h = history_of room calls in
    1 ≤ bill.applicant.scheme → bill.applicant.scheme < h.next_scheme → scheme_at (books_in room h) bill.applicant.scheme ≡ None →
    NotJoined (answer_by room (history_from room h later) (accept book request))

-- every accept in a list of calls
abbrev pub EveryAcceptCounted : Type 0
EveryAcceptCounted =
    (room : ℕ) (history : History) (book request : List ℕ) (bill : Bill) (acceptance : Acceptance) →
    price_of book request ≡ Ok bill → answer_by room history (accept book request) ≡ is_accepted acceptance →
    CountedByAnswers history bill acceptance (with_call room history (accept book request))

-- a clearing takes accounts whole, to those that were cleared
abbrev pub ClearedWhole : Type 0
ClearedWhole =
    (room : ℕ) (history : History) (month s : ℕ) → let after = with_call room history (clear month) in
    (account_of s after ≡ account_of s history)
    ⊎ ((account_of s after ≡ record { entered = []; paid = [] }) × Contains after.cleared (account_of s history))

abbrev pub NoClearing : Call → Type 0
NoClearing (accept book request) = Unit {0}
NoClearing (pay_out e amount) = Unit {0}
NoClearing (hand_over e person) = Unit {0}
NoClearing (clear month) = ⊥

-- any other call that is not answered "joined" credits no entry of any scheme
abbrev pub CreditedInJoinings : Type 0
CreditedInJoinings =
    (room : ℕ) (history : History) (s e : ℕ) → (call : Call) → NoClearing call → (AnswersJoined (answer_by room history call) → ⊥) →
    credited_to e (account_of s (with_call room history call)).entered ≡ credited_to e (account_of s history).entered
