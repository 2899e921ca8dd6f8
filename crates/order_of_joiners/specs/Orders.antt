-- Lists of calls in which the same parties stand in another order.
use Rattle.std.specs.Prelude.{ℕ, ◌+◌, ◌≡◌, ◌⊎◌, List, [], ◌∷◌, ◌++◌, map, true, cond, length, eqb, filter_map, Err, None, Ok, Option, Some, Contains, IsPermutation, IsSome}
use Rattle.charge.specs.Price.{price_of, Pricing}
use Rattle.charge.specs.declared.Bill.{Bill}
use Rattle.ledger.specs.Records.{new_ledger}
use Rattle.ledger.specs.declared.records.Party.{Party}
use Rattle.calls.specs.Decision.{Call, accept, CallAnswer}
use Rattle.calls.specs.Carried.{State}
use Rattle.calls.specs.Calls.{state_of, Trace, AllFit}
use Rattle.history.specs.History.{Entering, Account, History, account_of, cost, fee, history_of}
use Rattle.history.specs.JoinedAnswers.{AnswersJoined}

-- calls made one after the other from this ledger and table, with what they answered and left
pub record Made (before : State) : Type 0 where
  pub calls : List Call
  pub answers : List CallAnswer
  pub after : State
  pub fit : AllFit calls
  pub trace : Trace before calls answers after

-- from a new ledger on this table
abbrev pub MadeOn : List Party → Type 0
MadeOn start = Made (state_of new_ledger start)

-- what the calls come to, from the calls and the table's length alone
abbrev pub history_after : (start : List Party) → MadeOn start → History
history_after start made = history_of (length start) made.calls

-- an account that the history keeps: of a scheme that stands, or of one that was opened and cleared since
abbrev pub IsKept : History → Account → Type 0
IsKept history account = ((s : ℕ) × (account ≡ account_of s history)) ⊎ Contains history.cleared account

-- ---- two schemes of the same X, by fee 0, whose parties have the same kVA in another order; neither months nor persons are compared
pub record SameParties (one other : Account) : Type 0 where
  pub cost : cost one.entered ≡ cost other.entered
  pub no_fee : fee one.entered ≡ 0
  pub no_other_fee : fee other.entered ≡ 0
  pub capacities : IsPermutation (map (λ e. e.bill.applicant.capacity) one.entered) (map (λ e. e.bill.applicant.capacity) other.entered)

-- ---- "the same joiners with the same capacities, in two orders"

pub record Joiner : Type 0 where
  pub person : ℕ
  pub capacity : ℕ

abbrev pub joiner_of : Bill → Joiner
joiner_of bill = record { person = bill.applicant.person; capacity = bill.applicant.capacity }

abbrev pub joiner_by : ℕ → Pricing → Option Joiner
joiner_by s (Ok bill) = cond (eqb bill.applicant.scheme s) (Some (joiner_of bill)) None
joiner_by s (Err r) = None

-- of an accept that names scheme s
abbrev pub joiner_asking : ℕ → Call → Option Joiner
joiner_asking s (accept book request) = joiner_by s (price_of book request)
joiner_asking s other = None

abbrev pub joiners : ℕ → List Call → List Joiner
joiners s calls = filter_map (joiner_asking s) calls

-- "every joining accepted": each accept that names scheme s is answered "joined"
abbrev pub EachJoins : ℕ → List Call → List CallAnswer → Type 0
EachJoins s [] answers = Unit {0}
EachJoins s (call ∷ calls) [] = Unit {0}
EachJoins s (call ∷ calls) (answer ∷ answers) = (IsSome (joiner_asking s call) → AnswersJoined answer) × EachJoins s calls answers

-- calls on this table that open a scheme, and two lists of calls that go on from them
pub record TwoOrders (start : List Party) : Type 0 where
  pub opening : MadeOn start
  pub one : Made opening.after
  pub other : Made opening.after

abbrev pub history_with : (start : List Party) (opening : MadeOn start) → Made opening.after → History
history_with start opening made = history_of (length start) (opening.calls ++ made.calls)

-- "a scheme with fee 0 and minimum 0 and the same joiners with the same capacities, in two orders": its first party is this one, and so far the only one
pub record SameJoiners (start : List Party) (orders : TwoOrders start) (s : ℕ) (first : Entering) : Type 0 where
  pub opened : (account_of s (history_after start orders.opening)).entered ≡ first ∷ []
  pub opens : first.opens ≡ true
  pub no_fee : first.bill.terms.fee ≡ 0
  pub no_minimum : first.bill.terms.minimum ≡ 0
  pub each_joins : EachJoins s orders.one.calls orders.one.answers
  pub each_joins_other : EachJoins s orders.other.calls orders.other.answers
  -- the first party and every joiner stand at the end of both: nobody withdrew, and the scheme wasn't cleared
  pub stand : length (account_of s (history_with start orders.opening orders.one)).entered ≡ 1 + length (joiners s orders.one.calls)
  pub stand_other : length (account_of s (history_with start orders.opening orders.other)).entered ≡ 1 + length (joiners s orders.other.calls)
  pub same_joiners : IsPermutation (joiners s orders.one.calls) (joiners s orders.other.calls)
