-- A plan that can be carried out on a table: each entry takes its credit, and those that are added have their places.
use Rattle.std.specs.Prelude.{ℕ, ◌+◌, ◌≤◌, List}
use Rattle.ledger.specs.Limits.{most_entries}
use Rattle.ledger.specs.Table.{CreditsFit}
use Rattle.ledger.specs.declared.records.Party.{Party}
use Rattle.acceptance.specs.PlanCarried.{Plan}

-- a plan that can be carried out on a table of `room` records
pub record PlanFits (entries room : ℕ) (parties : List Party) (plan : Plan) : Type 0 where
  pub few : plan.added_count ≤ 2
  pub limit : entries + plan.added_count ≤ most_entries
  pub places : entries + plan.added_count ≤ room
  pub credits : CreditsFit entries parties plan.credits
