-- What is said of each place, after the entries passed.
use Rattle.std.proofs.Common.{take}
use Rattle.clearing.proofs.Going.{Owing}
use Rattle.clearing.proofs.keep_owing.Given as goal

abbrev pub invariant-loop-entry : goal.invariant-loop-entry
invariant-loop-entry l = Owing l.fn.going l.schemes (take l.entry-index l.entries) l.going
