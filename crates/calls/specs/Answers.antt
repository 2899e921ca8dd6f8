-- Accept's answers by their parts.
use Rattle.std.specs.Prelude.{ℕ, Option}
use Rattle.charge.specs.declared.Bill.{Bill}
use Rattle.calls.specs.Decision.{CallAnswer, is_accepted}
use Rattle.calls.specs.declared.answers.JoiningAnswer.{JoiningAnswer}

-- an answer in its two parts
abbrev pub accepted_as : Bill → JoiningAnswer → Option ℕ → CallAnswer
accepted_as bill joining opening = is_accepted (record { reconciliation = bill.reconciliation; joining = joining; opening = opening })

-- the joiner's entry number, and G
abbrev pub joined_as : ℕ → ℕ → JoiningAnswer
joined_as entry G = JoiningAnswer.Joined (record { entry = entry; contribution = G })
