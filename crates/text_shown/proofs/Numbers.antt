-- No bytes are the number 0.
use Rattle.std.specs.Prelude.{ℕ, ◌-◌, ◌≡◌, List, length}
use Rattle.std.proofs.Common.{arith, le-ltb}
use Rattle.numbers.specs.BigEndian.{number}
use Rattle.text_shown.specs.Values.{number_in}

none : (s : List ℕ) (at : ℕ) → number_in s at 0 ≡ 0
unfolding number_in number
none s at = rw (le-ltb (length s - at) 0 (omega arith))

pub none_in : (s : List ℕ) (at width : ℕ) → width ≡ 0 → number_in s at width ≡ 0
none_in s at width e = rw e (none s at)
