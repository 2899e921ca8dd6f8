-- The cases are computed where they are stated, in specs/Cases.
use Rattle.accept_rules.specs.Cases.Accept.{accept_cases_hold}
use Rattle.accept_rules.specs.Cases.BuildingOn.{short_table_cases_hold}
use Rattle.accept_rules.specs.Cases.Clearing.{clearing_cases_hold}
use Rattle.accept_rules.proofs.accept_cases_hold.Goals as goal

pub returns : goal.returns
returns c = record { each = accept_cases_hold; short_tables = short_table_cases_hold; clearing = clearing_cases_hold }
