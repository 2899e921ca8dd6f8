-- What carrying out a plan makes of a table.
use Rattle.std.specs.Prelude.{ℕ, List, take}
use Rattle.std.proofs.lemmas.List.Edits.{sets}
use Rattle.ledger.specs.Table.{credit_each}
use Rattle.ledger.specs.declared.records.Party.{Party}
use Rattle.ledger.specs.declared.records.Ledger.{Ledger}
use Rattle.calls.specs.Decision.{AcceptAnswer}

-- what an accept comes to: the answer, the ledger after it, what each entry is credited, and the entries that are added in order. Where none is credited or
-- added, these hold zeros.
pub record Plan : Type 0 where
  pub answer : AcceptAnswer
  pub ledger : Ledger
  pub credits : List ℕ
  pub added : List Party
  pub added_count : ℕ

-- the table with a plan's credits, and with the entries that it adds
abbrev pub plan_carried_out : ℕ → List Party → Plan → List Party
plan_carried_out entries table plan = sets (credit_each table (take entries plan.credits)) entries (take plan.added_count plan.added)
