-- Parties whose numbers fall from the newest on.
use Rattle.std.specs.Prelude.{ℕ, List}
use Rattle.history.specs.History.{Entering}
use Rattle.history.specs.DemandThree.{Falls}

abbrev pub Numbered : ℕ → List Entering → Type 0
Numbered next entered = Falls (λ e. e.entry) next entered
