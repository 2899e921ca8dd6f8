-- The schemes before `low` have numbers below the one that is looked for, those from `high` on have it or a higher one.
use Rattle.std.proofs.Common.{ℕ, ◌-◌, ◌<◌, ◌≤◌, length, get_or}
use Rattle.ledger.specs.Records.{no_scheme}
use Rattle.ledger.proofs.sound.rising_scheme_at.Given as goal

abbrev pub invariant-loop-low : goal.invariant-loop-low
invariant-loop-low l =
    record {
      ends : (l.low ≤ l.high) × (l.high ≤ length l.schemes);
      below : (k : ℕ) → k < l.low → (get_or l.schemes k no_scheme).number < l.number;
      above : (k : ℕ) → l.high ≤ k → k < length l.schemes → l.number ≤ (get_or l.schemes k no_scheme).number;
    }

abbrev pub decreases-loop-low : goal.decreases-loop-low
decreases-loop-low l = l.high - l.low
