-- The answers "joined".
use Rattle.calls.specs.Decision.{CallAnswer, is_accepted, is_done, is_refused}
use Rattle.calls.specs.declared.answers.JoiningAnswer.{JoiningAnswer}
use Rattle.calls.specs.declared.answers.JoiningAnswer.TheVariants.{NotAsked, Ended, Small, Joined}

abbrev pub IsJoined : JoiningAnswer → Type 0
IsJoined NotAsked = ⊥
IsJoined Ended = ⊥
IsJoined Small = ⊥
IsJoined (Joined collected) = Unit {0}

abbrev pub AnswersJoined : CallAnswer → Type 0
AnswersJoined (is_accepted acceptance) = IsJoined acceptance.joining
AnswersJoined is_done = ⊥
AnswersJoined (is_refused r) = ⊥
