-- The theorems of EveryListOfCalls, by induction on the list.
use Rattle.history.proofs.Theorems.EveryListOfCalls.{every_list_of_calls, shown_state, trace_exists}
use Rattle.history.proofs.every_list_of_calls.Goals as goal

pub returns : goal.returns
returns c = record { holds = every_list_of_calls; shown = shown_state; exists = trace_exists }
