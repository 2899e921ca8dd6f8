-- What narrower bounds would come to, by two histories from bytes: one of a few cents, and M7's. Of both the bounds of `Fair` hold, and less would not: one
-- cent and the fee for each joining above is too little, so is the fee once, and so is no cent below; and a party can be credited more than it put in, so
-- that the bounds have no difference. That the bounds are the least isn't said.
use Rattle.std.specs.Prelude.{ℕ, ◌+◌, ◌*◌, ◌<◌, ◌≡◌, List, [], ◌∷◌, eqb, filter}
use Rattle.ledger.specs.Lists.{sum_by}
use Rattle.calls.specs.Decision.{Call, accept}
use Rattle.history.specs.History.{Entering, Account, account_of, cost, fee, joinings, capacity, credited_to, history_of}
use Rattle.history.specs.Fair.{BoundFigures, Fair}
use Rattle.history.specs.Cases.CentsBook.{cents_book, cents_request}
use Rattle.history.specs.Cases.Accounts.{marked_calls}

-- ---- a history of a few cents: cost 10, fee and minimum 1, capacities 19, 8, 215

-- on a table of three records
abbrev pub cents_calls : List Call
cents_calls =
    accept cents_book (cents_request 10 19 0) ∷ accept cents_book (cents_request 0 8 1) ∷ accept cents_book (cents_request 0 215 1) ∷ []

-- ---- the figures that the bounds are made of

-- a figure of the party with this entry
abbrev of_party : ℕ → (Entering → ℕ) → List Entering → ℕ
of_party number figure entered = sum_by figure (filter (λ e. eqb e.entry number) entered)

abbrev pub figures_of : ℕ → Account → BoundFigures
figures_of number account =
    record {
      cost = cost account.entered;
      fee = fee account.entered;
      joinings = joinings account.entered;
      total_capacity = capacity account.entered;
      capacity = of_party number (λ e. e.bill.applicant.capacity) account.entered;
      put_in = of_party number (λ e. e.put_in) account.entered;
      credited = credited_to number account.entered;
    }

-- put in less credited lies more than so many cents above scheme cost × its kVA / all parties' kVA; and below it at all
abbrev pub Above : BoundFigures → ℕ → Type 0
Above of cents = of.cost * of.capacity + (of.credited + cents) * of.total_capacity < of.put_in * of.total_capacity

abbrev pub Below : BoundFigures → Type 0
Below of = of.put_in * of.total_capacity < of.cost * of.capacity + of.credited * of.total_capacity

-- parties 1 and 2 of the few cents, and M7's first
pub record Tight (first second marked : BoundFigures) : Type 0 where
  pub first_figures : first ≡ record { cost = 10; fee = 1; joinings = 2; total_capacity = 242; capacity = 19; put_in = 10; credited = 5 }
  pub second_figures : second ≡ record { cost = 10; fee = 1; joinings = 2; total_capacity = 242; capacity = 8; put_in = 2; credited = 3 }
  pub marked_figures :
      marked ≡ record { cost = 6000000; fee = 20000; joinings = 2; total_capacity = 20000; capacity = 10000; put_in = 6000000; credited = 2966666 }
  pub first_fair : Fair first
  pub second_fair : Fair second
  pub marked_fair : Fair marked
  -- one cent and the fee for each joining
  pub above_one_cent : Above first ((1 + first.fee) * first.joinings)
  -- two cents for each joining, and the fee once
  pub above_one_fee : Above marked (2 * marked.joinings + marked.fee)
  pub below_share : Below second
  pub credited_above : second.put_in < second.credited

abbrev pub TightIn : (cents marked : Account) → Type 0
TightIn cents marked = Tight (figures_of 1 cents) (figures_of 2 cents) (figures_of 1 marked)

abbrev pub TightBounds : Type 0
TightBounds = TightIn (account_of 1 (history_of 3 cents_calls)) (account_of 1 (history_of 4 marked_calls))
