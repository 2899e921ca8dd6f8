-- What the number of a call's ending tells.
use Rattle.std.specs.Prelude.{Bool, true, false}
use Rattle.calls.specs.Decision.{CallAnswer, is_accepted, is_done, is_refused}

-- number 0 exactly where the call is done
abbrev pub not_refused : CallAnswer → Bool
not_refused (is_accepted acceptance) = true
not_refused is_done = true
not_refused (is_refused r) = false
