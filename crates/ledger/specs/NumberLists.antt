-- One list of refusals' numbers in another.
use Rattle.std.specs.Prelude.{ℕ, ◌≡◌, List, map, true}
use Rattle.ledger.specs.Sound.{all_hold}
use Rattle.ledger.specs.RefusalNumbers.{one_of}

-- each number of the first list is in the second
abbrev pub Among : List ℕ → List ℕ → Type 0
Among numbers more = all_hold (map (one_of more) numbers) ≡ true
