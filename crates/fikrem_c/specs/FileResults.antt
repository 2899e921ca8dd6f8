-- The results that the judging of a file can come to: 0 where it stands, and numbers 1 to 3.
use Rattle.std.specs.Prelude.{◌≡◌, Ok}
use Rattle.tagged.specs.Refusals.{value_not_listed}
use Rattle.tagged.specs.File.{FileAnswer}
use Rattle.ledger.specs.RefusalNumbers.{one_to}
use Rattle.quoting_unit.specs.Interface.{answer_result}
use Rattle.quoting_unit.specs.UnitResults.{Results}

-- the result of a reading, by its answer
abbrev pub FileResults : FileAnswer → Type 0
FileResults answer = Results (answer ≡ Ok tt) (one_to value_not_listed) (answer_result answer)
