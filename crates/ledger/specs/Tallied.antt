-- The tallies of the entries passed so far, which the soundness test keeps for each scheme.
use Rattle.std.specs.Prelude.{ℕ, ◌+◌, ◌*◌, ◌<◌, ◌≤◌, ◌≡◌, List, cond, replicate, length, get_or, eqb, Some}
use Rattle.ledger.specs.Limits.{most_schemes, highest_put_in, highest_credited}
use Rattle.ledger.specs.Records.{no_scheme}
use Rattle.ledger.specs.Lookup.{scheme_place}
use Rattle.ledger.specs.Sound.{tally_of}
use Rattle.ledger.specs.declared.records.Scheme.{Scheme}
use Rattle.ledger.specs.declared.records.Party.{Party}
use Rattle.ledger.specs.declared.sound.Tally.{Tally}

abbrev pub no_tally : Tally
no_tally = record { entries = 0; first = 0; credited = 0; put_in = 0 }

unfoldable pub no_tallies : List Tally
no_tallies = replicate most_schemes no_tally

-- with one entry more
abbrev pub tally_with : Tally → Party → Tally
tally_with tally party =
    record {
      entries = tally.entries + 1;
      first = cond (eqb tally.entries 0) party.put_in tally.first;
      credited = tally.credited + party.credited;
      put_in = tally.put_in + party.put_in;
    }

-- each of these schemes has its tally at its place
abbrev pub Tallied : List Scheme → List Tally → List Party → Type 0
Tallied schemes tallies parties = (s k : ℕ) → scheme_place s schemes ≡ Some k → get_or tallies k no_tally ≡ tally_of s parties

-- each scheme is found at its own place: no two have one number
abbrev pub OwnPlaces : List Scheme → Type 0
OwnPlaces schemes = (k : ℕ) → k < length schemes → scheme_place (get_or schemes k no_scheme).number schemes ≡ Some k

-- each scheme's number is above those before it
abbrev pub Rising : List Scheme → Type 0
Rising schemes = (j k : ℕ) → j < k → k < length schemes → (get_or schemes j no_scheme).number < (get_or schemes k no_scheme).number

-- what n entries can come to
pub record TallyWithin (n : ℕ) (tally : Tally) : Type 0 where
  pub many : tally.entries ≤ n
  pub credits : tally.credited ≤ highest_credited * n
  pub put : tally.put_in ≤ highest_put_in * n

abbrev pub TalliesWithin : ℕ → List Tally → Type 0
TalliesWithin n tallies = (k : ℕ) → k < most_schemes → TallyWithin n (get_or tallies k no_tally)
