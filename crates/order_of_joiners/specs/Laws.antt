-- The laws that the functions of src/ are there for, one statement each; the proofs stand in proofs/.
use Rattle.std.specs.Prelude.{ℕ, ◌≤◌, ◌≡◌, List, ◌∷◌, map, length}
use Rattle.ledger.specs.Lists.{oldest_first, All}
use Rattle.ledger.specs.declared.records.Party.{Party}
use Rattle.history.specs.Fair.{BoundFigures, Fair}
use Rattle.history.specs.History.{Entering, Account, History, account_of, joinings}
use Rattle.order_of_joiners.specs.Distance.{Part, WithinCents, cents_for, EachWithin, part_by, part_of, parts_of, parts_on}
use Rattle.order_of_joiners.specs.Orders.{MadeOn, history_after, IsKept, SameParties, Joiner, joiner_of, joiners, TwoOrders, history_with, SameJoiners}

-- what two parties' bounds have in common
pub record SameBounds (one other : BoundFigures) : Type 0 where
  pub cost : one.cost ≡ other.cost
  pub no_fee : one.fee ≡ 0
  pub no_other_fee : other.fee ≡ 0
  pub joinings : one.joinings ≡ other.joinings
  pub total_capacity : one.total_capacity ≡ other.total_capacity
  pub some_capacity : 1 ≤ one.total_capacity
  pub capacity : one.capacity ≡ other.capacity

-- two figures between the same ends
abbrev pub FairTwice : Type 0
FairTwice =
    (one other : BoundFigures) → SameBounds one other → Fair one → Fair other → WithinCents (cents_for one.joinings) (part_by one) (part_by other)

-- the parties of two schemes, those that were cleared among them, as the histories have them
abbrev pub KeptWithin : History → History → Type 0
KeptWithin history history_other =
    (one other : Account) → IsKept history one → IsKept history_other other → SameParties one other →
    EachWithin (cents_for (joinings one.entered)) (parts_of one) (parts_of other)

-- those of two schemes that stand, also as ledgers and tables show them
pub record PartiesWithin (cents : ℕ) (one other : Account) (on_one on_other : List Part) : Type 0 where
  pub by_histories : EachWithin cents (parts_of one) (parts_of other)
  pub by_tables : EachWithin cents on_one on_other
  -- the tables show what the histories have, in order of joining
  pub shown : on_one ≡ oldest_first (parts_of one)
  pub shown_other : on_other ≡ oldest_first (parts_of other)

-- Any two lists of calls, each from a new ledger on a table of its own, and a scheme of each, both of the same X and by fee 0, whose parties have the same kVA in
-- any order: put in less credited of two parties of the same kVA differ by at most 3 cents for each joining of the scheme that stands.
abbrev pub OrderWithinCents : Type 0
OrderWithinCents =
    (start start_other : List Party) (made : MadeOn start) (made_other : MadeOn start_other) →
    let history = history_after start made in
    let history_other = history_after start_other made_other in
    KeptWithin history history_other
    × ((s t : ℕ) →
    let one = account_of s history in
    let other = account_of t history_other in
    SameParties one other → PartiesWithin (cents_for (joinings one.entered)) one other (parts_on s made.after) (parts_on t made_other.after))

-- each joiner in both orders, and the first party
pub record OrdersWithin (cents : ℕ) (first : Entering) (one other : Account) : Type 0 where
  pub first_within : WithinCents cents (part_of one first) (part_of other first)
  pub joiners_within :
      All (λ e. All (λ d. joiner_of e.bill ≡ joiner_of d.bill → WithinCents cents (part_of one e) (part_of other d)) other.entered) one.entered

-- the parties are the first one and the joiners, in order
abbrev pub AreParties : Entering → List Joiner → Account → Type 0
AreParties first joined account = map (λ e. joiner_of e.bill) (oldest_first account.entered) ≡ joiner_of first.bill ∷ joined

-- Document 02's two orders: with other schemes' calls, pay-outs and hand-overs in between, and in months of their own.
abbrev pub TwoOrdersWithin : Type 0
TwoOrdersWithin =
    (start : List Party) (orders : TwoOrders start) (s : ℕ) (first : Entering) → SameJoiners start orders s first →
    let joined = joiners s orders.one.calls in
    let joined_other = joiners s orders.other.calls in
    let one = account_of s (history_with start orders.opening orders.one) in
    let other = account_of s (history_with start orders.opening orders.other) in
    AreParties first joined one × AreParties first joined_other other × OrdersWithin (cents_for (length joined)) first one other
    × PartiesWithin (cents_for (length joined)) one other (parts_on s orders.one.after) (parts_on s orders.other.after)
