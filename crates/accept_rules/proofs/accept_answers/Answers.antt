-- The theorems of AcceptAnswers, which go by the cases of the call's definition.
use Rattle.accept_rules.specs.Theorems.AcceptAnswers.{accept_answers, answers_only, accept_refused_changes_nothing, accept_refusal_numbers}
use Rattle.accept_rules.proofs.accept_answers.Goals as goal

pub returns : goal.returns
returns c = record { answers = accept_answers; nothing_else = λ state book request places answer after. answers_only state book request places {answer = answer} {after = after}; refused = λ state book request r. accept_refused_changes_nothing state book request {r = r}; numbers = accept_refusal_numbers }
