-- The theorems of EveryListOfStoredCalls, which rest on those of the same calls in memory.
use Rattle.stored_history.proofs.Theorems.EveryListOfStoredCalls.{every_list_of_stored_calls, kept_reads_back, stored_trace_exists, new_stored_kept}
use Rattle.stored_history.proofs.every_list_of_stored_calls.Goals as goal

pub returns : goal.returns
returns c = record { holds = every_list_of_stored_calls; reads_back = kept_reads_back; exists = stored_trace_exists; starts = new_stored_kept }
