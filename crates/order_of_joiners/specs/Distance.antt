-- Document 02, E14: "what each party put in less what it was credited differs between the two orders by at most 3 cents for each joining". The difference can be
-- negative by cents, so that it stands nowhere: what is compared are sums.
use Rattle.std.specs.Prelude.{ℕ, ◌+◌, ◌*◌, ◌≤◌, ◌≡◌, List, map, eqb, filter}
use Rattle.ledger.specs.Lists.{All}
use Rattle.ledger.specs.declared.records.Party.{Party}
use Rattle.calls.specs.Carried.{State, entries_on}
use Rattle.history.specs.History.{Entering, Account, credited_to}
use Rattle.history.specs.Fair.{BoundFigures}

-- a party: its kVA, what it put in and what it was credited
pub record Part : Type 0 where
  pub capacity : ℕ
  pub put_in : ℕ
  pub credited : ℕ

-- put in less credited of the two differ by at most so many cents
pub record WithinCents (cents : ℕ) (one other : Part) : Type 0 where
  pub not_above : one.put_in + other.credited ≤ other.put_in + one.credited + cents
  pub not_below : other.put_in + one.credited ≤ one.put_in + other.credited + cents

-- "3 cents for each joining"
abbrev pub cents_for : ℕ → ℕ
cents_for joinings = 3 * joinings

-- each party of the one against each of the other that has the same kVA
abbrev pub EachWithin : ℕ → List Part → List Part → Type 0
EachWithin cents ones others = All (λ one. All (λ other. one.capacity ≡ other.capacity → WithinCents cents one other) others) ones

-- ---- the parties of a scheme: by its bound's figures, as its account has them, as ledger and table show them

abbrev pub part_by : BoundFigures → Part
part_by of = record { capacity = of.capacity; put_in = of.put_in; credited = of.credited }

abbrev pub part_of : Account → Entering → Part
part_of account e =
    record { capacity = e.bill.applicant.capacity; put_in = e.put_in; credited = credited_to e.entry account.entered }

-- the newest first
abbrev pub parts_of : Account → List Part
parts_of account = map (part_of account) account.entered

abbrev pub part_shown : Party → Part
part_shown party = record { capacity = party.capacity; put_in = party.put_in; credited = party.credited }

-- the oldest first
abbrev pub parts_on : ℕ → State → List Part
parts_on s state = map part_shown (filter (λ party. eqb party.scheme s) (entries_on state))
