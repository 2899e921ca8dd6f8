-- The history of a list of calls: what they come to by document 01's rules, from the calls and the table's length alone. No ledger and no table is read.
-- One list for each kind of thing, the newest first; schemes and entries go by their numbers.
use Rattle.std.specs.Prelude.{ℕ, ◌+◌, ◌*◌, ◌-◌, List, [], ◌∷◌, ◌++◌, map, Bool, true, false, cond, not, length, eqb, filter}
use Rattle.charge.specs.declared.Bill.{Bill}
use Rattle.ledger.specs.Lists.{oldest_first, sum_by, at_start}
use Rattle.ledger.specs.Records.{new_ledger}
use Rattle.ledger.specs.RefusalNumbers.{one_of}
use Rattle.ledger.specs.Books.{SchemeParticulars, EntryParticulars, Books}
use Rattle.ledger.specs.declared.records.Scheme.{Scheme}
use Rattle.ledger.specs.declared.records.Party.{Party}
use Rattle.ledger.specs.declared.records.Ledger.{Ledger}
use Rattle.calls.specs.Rules.{Credit, credit_to}
use Rattle.calls.specs.Decision.{Call, Decision, accepted, paid_out, handed_over, cleared, refused, decided, CallAnswer, answer_to}
use Rattle.calls.specs.declared.courses.Joining.{Joining}
use Rattle.calls.specs.declared.courses.Joining.TheVariants.{NotAsked, Ended, Small, Pays}

-- an opening or a joining: the party's entry, what it put in by its bill, and what a joining credited earlier entries
pub record Entering : Type 0 where
  pub scheme : ℕ
  pub entry : ℕ
  pub put_in : ℕ
  pub opens : Bool
  pub bill : Bill
  pub credits : List Credit

pub record Payment : Type 0 where
  pub scheme : ℕ
  pub entry : ℕ
  pub amount : ℕ

pub record HandOver : Type 0 where
  pub entry : ℕ
  pub person : ℕ

-- one scheme's enterings and pay-outs: all that its figures, its accounts and its bounds are made of
pub record Account : Type 0 where
  pub entered : List Entering
  pub paid : List Payment

pub record History : Type 0 where
  -- of every accepted request
  pub bills : List Bill
  -- of the schemes that stand
  pub entered : List Entering
  pub paid : List Payment
  pub handed : List HandOver
  -- the accounts of the schemes that were cleared
  pub cleared : List Account
  -- the last month, and the numbers that the next scheme and the next entry get
  pub month : ℕ
  pub next_scheme : ℕ
  pub next_entry : ℕ

abbrev pub enterings_of : ℕ → List Entering → List Entering
enterings_of s entered = filter (λ e. eqb e.scheme s) entered

abbrev pub payments_of : ℕ → List Payment → List Payment
payments_of s paid = filter (λ p. eqb p.scheme s) paid

abbrev pub account_of : ℕ → History → Account
account_of s history = record { entered = enterings_of s history.entered; paid = payments_of s history.paid }

-- ---- the figures of one scheme, each a sum over its own enterings or pay-outs

-- "A scheme's cost is its opening's X, collected the sum of G over its joinings, fees its fee times their number"
abbrev pub cost : List Entering → ℕ
cost entered = sum_by (λ e. cond e.opens e.put_in 0) entered

abbrev pub fee : List Entering → ℕ
fee entered = sum_by (λ e. cond e.opens e.bill.terms.fee 0) entered

abbrev pub joinings : List Entering → ℕ
joinings entered = sum_by (λ e. cond e.opens 0 1) entered

abbrev pub collected : List Entering → ℕ
collected entered = sum_by (λ e. cond e.opens 0 e.put_in) entered

abbrev pub fees : List Entering → ℕ
fees entered = fee entered * joinings entered

-- "paid out the sum of its entries' pay-outs, standing credits all that its joinings credited less paid out"
abbrev pub amounts : List Credit → ℕ
amounts credits = sum_by (λ credit. credit.amount) credits

abbrev pub credited : List Entering → ℕ
credited entered = sum_by (λ e. amounts e.credits) entered

abbrev pub paid_of : List Payment → ℕ
paid_of paid = sum_by (λ p. p.amount) paid

abbrev pub standing_credits : Account → ℕ
standing_credits account = credited account.entered - paid_of account.paid

-- "its kVA the capacity in its request"; all parties' kVA, and what they put in
abbrev pub capacity : List Entering → ℕ
capacity entered = sum_by (λ e. e.bill.applicant.capacity) entered

abbrev pub put_ins : List Entering → ℕ
put_ins entered = sum_by (λ e. e.put_in) entered

-- ---- the figures of one party, which is an entry
abbrev pub credited_to : ℕ → List Entering → ℕ
credited_to number entered = sum_by (λ e. credit_to number e.credits) entered

abbrev pub paid_to : ℕ → List Payment → ℕ
paid_to number paid = sum_by (λ p. cond (eqb p.entry number) p.amount 0) paid

-- the request's person, or the last hand-over's
abbrev pub person_of : ℕ → ℕ → List HandOver → ℕ
person_of number at_first [] = at_first
person_of number at_first (h ∷ older) = let before = person_of number at_first older in cond (eqb h.entry number) h.person before

-- ---- over all accepted requests
abbrev pub connections : History → ℕ
connections history = sum_by (λ bill. 1) history.bills

abbrev pub charged : History → ℕ
charged history = sum_by (λ bill. bill.reconciliation.cc) history.bills

abbrev pub borne : History → ℕ
borne history = sum_by (λ bill. bill.reconciliation.borne) history.bills

abbrev pub cost_entered : History → ℕ
cost_entered history = sum_by (λ bill. bill.reconciliation.entered) history.bills

-- ---- over the schemes that were cleared: what they "collected, paid out and took in fees" (document 02, E8)
abbrev pub cleared_collected : History → ℕ
cleared_collected history = sum_by (λ account. collected account.entered) history.cleared

abbrev pub cleared_paid_out : History → ℕ
cleared_paid_out history = sum_by (λ account. paid_of account.paid) history.cleared

abbrev pub cleared_fees : History → ℕ
cleared_fees history = sum_by (λ account. fees account.entered) history.cleared

-- ---- what the rules read
abbrev pub openings : List Entering → List Entering
openings entered = filter (λ e. e.opens) entered

-- how often this number was given
abbrev pub times : {A : Type 0} → (A → ℕ) → ℕ → List A → ℕ
times number n given = sum_by (λ x. cond (eqb (number x) n) 1 0) given

abbrev pub scheme_particulars_in : Entering → SchemeParticulars
scheme_particulars_in e =
    record {
      number = e.scheme;
      cost = e.put_in;
      fee = e.bill.terms.fee;
      minimum = e.bill.terms.minimum;
      opening = e.bill.applicant.month;
      term = e.bill.terms.term;
    }

-- over its own scheme's account
abbrev pub entry_particulars_by : Account → Entering → EntryParticulars
entry_particulars_by account e =
    record {
      number = e.entry;
      scheme = e.scheme;
      capacity = e.bill.applicant.capacity;
      credited = credited_to e.entry account.entered;
      paid_out = paid_to e.entry account.paid;
    }

abbrev pub entry_particulars_in : History → Entering → EntryParticulars
entry_particulars_in history e = entry_particulars_by (account_of e.scheme history) e

-- on a table of this length
abbrev pub books_in : ℕ → History → Books
books_in room history =
    record {
      connections = connections history;
      month = history.month;
      next_scheme = history.next_scheme;
      next_entry = history.next_entry;
      room = room;
      schemes = map scheme_particulars_in (oldest_first (openings history.entered));
      entries = map (entry_particulars_in history) (oldest_first history.entered);
    }

-- ---- the ledger and the entries that the history comes to
abbrev pub scheme_in : History → Entering → Scheme
scheme_in history e =
    record {
      number = e.scheme;
      cost = e.put_in;
      fee = e.bill.terms.fee;
      minimum = e.bill.terms.minimum;
      opening = e.bill.applicant.month;
      term = e.bill.terms.term;
      fees = fees (enterings_of e.scheme history.entered);
    }

abbrev pub schemes_in : History → List Scheme
schemes_in history = map (scheme_in history) (oldest_first (openings history.entered))

-- the places past the last scheme are those of a new ledger: zeros
abbrev pub ledger_in : History → Ledger
ledger_in history =
    record {
      month = history.month;
      connections = connections history;
      charged = charged history;
      borne = borne history;
      next_scheme = history.next_scheme;
      next_entry = history.next_entry;
      cleared_collected = cleared_collected history;
      cleared_paid_out = cleared_paid_out history;
      cleared_fees = cleared_fees history;
      entries = length history.entered;
      count = length (openings history.entered);
      schemes = at_start (schemes_in history) new_ledger.schemes;
    }

abbrev pub party_by : Account → List HandOver → Entering → Party
party_by account handed e =
    record {
      number = e.entry;
      scheme = e.scheme;
      person = person_of e.entry e.bill.applicant.person handed;
      capacity = e.bill.applicant.capacity;
      put_in = e.put_in;
      credited = credited_to e.entry account.entered;
      paid_out = paid_to e.entry account.paid;
    }

abbrev pub party_in : History → Entering → Party
party_in history e = party_by (account_of e.scheme history) history.handed e

abbrev pub parties_in : History → List Party
parties_in history = map (party_in history) (oldest_first history.entered)

-- ---- one more call: an accept is billed, then joined, then opened; "a call that these refuse adds nothing"
abbrev pub billed_in : Bill → History → History
billed_in bill history = record history { bills = bill ∷ history.bills; month = bill.applicant.month }

abbrev pub enters_in : ℕ → Entering → History → History
enters_in next_scheme e history = record history { entered = e ∷ history.entered; next_scheme = next_scheme; next_entry = history.next_entry + 1 }

abbrev pub joiner : Bill → ℕ → ℕ → List Credit → Entering
joiner bill entry G credits =
    record { scheme = bill.applicant.scheme; entry = entry; put_in = G; opens = false; bill = bill; credits = credits }

abbrev pub opener : Bill → ℕ → ℕ → Entering
opener bill scheme entry =
    record { scheme = scheme; entry = entry; put_in = bill.reconciliation.x; opens = true; bill = bill; credits = [] }

abbrev pub joined_in : Joining → List Credit → Bill → History → History
joined_in NotAsked credits bill history = history
joined_in Ended credits bill history = history
joined_in Small credits bill history = history
joined_in (Pays paid) credits bill history = enters_in history.next_scheme (joiner bill history.next_entry paid.collected credits) history

abbrev pub opened_in : Bool → Bill → History → History
opened_in false bill history = history
opened_in true bill history = enters_in (history.next_scheme + 1) (opener bill history.next_scheme history.next_entry) history

abbrev pub paid_in : Payment → History → History
paid_in payment history = record history { paid = payment ∷ history.paid }

abbrev pub handed_in : HandOver → History → History
handed_in hand_over history = record history { handed = hand_over ∷ history.handed }

-- a clearing: the accounts go whole
abbrev pub cleared_in : ℕ → List ℕ → History → History
cleared_in month gone history =
    record history {
      entered = filter (λ e. not (one_of gone e.scheme)) history.entered;
      paid = filter (λ p. not (one_of gone p.scheme)) history.paid;
      cleared = map (λ s. account_of s history) gone ++ history.cleared;
      month = month;
    }

abbrev pub recorded : History → Decision → History
recorded history (accepted bill course credits) = opened_in course.opens bill (joined_in course.joining credits bill (billed_in bill history))
recorded history (paid_out s e amount) = paid_in (record { scheme = s; entry = e; amount = amount }) history
recorded history (handed_over e person) = handed_in (record { entry = e; person = person }) history
recorded history (cleared month gone) = cleared_in month gone history
recorded history (refused r) = history

abbrev pub with_call : ℕ → History → Call → History
with_call room history call = recorded history (decided (books_in room history) call)

-- the answer that the rules give
abbrev pub answer_by : ℕ → History → Call → CallAnswer
answer_by room history call = answer_to (books_in room history) (decided (books_in room history) call)

-- ---- a list of calls, on a table of this length
unfoldable pub history_from : ℕ → History → List Call → History
history_from room history [] = history
history_from room history (call ∷ calls) = history_from room (with_call room history call) calls

unfoldable pub answers_from : ℕ → History → List Call → List CallAnswer
answers_from room history [] = []
answers_from room history (call ∷ calls) = answer_by room history call ∷ answers_from room (with_call room history call) calls

-- numbers start at 1
abbrev pub no_history : History
no_history = record { bills = []; entered = []; paid = []; handed = []; cleared = []; month = 0; next_scheme = 1; next_entry = 1 }

abbrev pub history_of : ℕ → List Call → History
history_of room calls = history_from room no_history calls

abbrev pub answers_of : ℕ → List Call → List CallAnswer
answers_of room calls = answers_from room no_history calls

-- The lent table, from call to call: "Each call leaves table records past the last entry at its end as they were", and before them the entries that stand.
unfoldable pub table_from : History → List Party → List Call → List Party
table_from history table [] = table
table_from history table (call ∷ calls) =
    let after = with_call (length table) history call in table_from after (at_start (parties_in after) table) calls

abbrev pub table_after : List Party → List Call → List Party
table_after start calls = table_from no_history start calls
