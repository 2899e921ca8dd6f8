-- How accept, pay-out and hand-over end.
use Rattle.tagged.specs.Ending.{Ending}
use Rattle.calls.specs.Decision.{of_accept, of_entry_call, AcceptAnswer, Answer}
use Rattle.calls.specs.CallEnding.{call_ending}

abbrev pub accept_ending : AcceptAnswer → Ending
accept_ending answer = call_ending (of_accept answer)

-- pay-out's and hand-over's
abbrev pub entry_call_ending : Answer → Ending
entry_call_ending answer = call_ending (of_entry_call answer)
