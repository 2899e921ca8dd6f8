-- The numbers that a verdict refuses with, and the scheme that a joiner pays into.
use Rattle.std.specs.Prelude.{ℕ, ◌≤◌, ◌≡◌, List, [], ◌∷◌, get_or, Some}
use Rattle.tagged.specs.Refusals.{scheme_never_opened, month_before_last, no_scheme_left, no_entry_left, no_connection_left}
use Rattle.charge.specs.declared.Bill.{Bill}
use Rattle.ledger.specs.Records.{no_scheme}
use Rattle.ledger.specs.Lookup.{scheme_place}
use Rattle.ledger.specs.declared.records.Scheme.{Scheme}
use Rattle.calls.specs.declared.courses.Contribution.{Contribution}

-- the numbers that a verdict refuses with
abbrev pub verdict_numbers : List ℕ
verdict_numbers = scheme_never_opened ∷ month_before_last ∷ no_scheme_left ∷ no_entry_left ∷ no_connection_left ∷ []

-- the scheme's place among those that stand; the fee, at most G, and G at most the cost
pub record PaysAt (schemes : List Scheme) (bill : Bill) (paid : Contribution) : Type 0 where
  pub place : ℕ
  pub at : scheme_place bill.applicant.scheme schemes ≡ Some place
  pub fee : paid.fee ≡ (get_or schemes place no_scheme).fee
  pub minimum : (get_or schemes place no_scheme).minimum ≤ paid.collected
  pub cost : paid.collected ≤ (get_or schemes place no_scheme).cost
