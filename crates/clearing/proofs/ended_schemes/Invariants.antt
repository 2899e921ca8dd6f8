-- Of each scheme passed it is said whether it has ended.
use Rattle.std.proofs.Common.{ℕ, ◌<◌, ◌≡◌, length, get_or, false}
use Rattle.ledger.specs.Limits.{most_schemes}
use Rattle.ledger.specs.Records.{no_scheme}
use Rattle.clearing.specs.Clearing.{ended_by}
use Rattle.clearing.proofs.ended_schemes.Given as goal

abbrev pub invariant-loop-k : goal.invariant-loop-k
invariant-loop-k l =
    record {
      places : length l.going ≡ most_schemes;
      said : (j : ℕ) → j < l.k → get_or l.going j false ≡ ended_by l.month (get_or l.schemes j no_scheme);
    }
