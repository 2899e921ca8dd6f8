-- What a call that is done with a value or refused promises of its answer: document 01's number and values, as the definition's answer has them. Refusals are
-- numbered from 1, so that an ending with the values of every part of the value tells the answer.
use Rattle.std.specs.Prelude.{◌≡◌, Result}
use Rattle.tagged.specs.Ending.{Ending}
use Rattle.tagged.specs.EndingTests.{Numbered}
use Rattle.tagged.specs.declared.file.Refusal.{Refusal}

pub record AnswerPromised {Value : Type 0} (ending : Result Value Refusal → Ending) (defined answer : Result Value Refusal) : Type 0 where
  pub numbered : Numbered answer
  pub ends : ending answer ≡ ending defined
