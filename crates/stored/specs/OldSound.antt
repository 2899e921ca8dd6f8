-- Document 01's soundness as document 01 has it: schemes and entries are "numbered from 1" by their places, and an entry's scheme names a place. What the move
-- from the old form judges by numbers comes to this.
use Rattle.std.specs.Prelude.{ℕ, suc, List, [], ◌∷◌, Bool, true, false, cond, take, drop, leb}
use Rattle.ledger.specs.Sound.{all_hold, counts_sound, sums_sound, figures_within, tally_of, accounts_sound, all_zero}
use Rattle.ledger.specs.declared.records.Scheme.{Scheme}
use Rattle.ledger.specs.declared.records.Party.{Party}
use Rattle.ledger.specs.declared.records.Ledger.{Ledger}

-- "each entry's scheme exists", where there are so many schemes
unfoldable pub old_parties_sound : ℕ → List Party → Bool
old_parties_sound count [] = true
old_parties_sound count (party ∷ parties) =
    cond (all_hold (leb 1 party.scheme ∷ leb party.scheme count ∷ figures_within party)) (old_parties_sound count parties) false

-- the schemes from number s on, each by the entries that name its place
unfoldable pub old_schemes_sound : ℕ → List Party → ℕ → List Scheme → Bool
old_schemes_sound month parties s [] = true
old_schemes_sound month parties s (scheme ∷ schemes) =
    cond (accounts_sound month scheme (tally_of s parties)) (old_schemes_sound month parties (suc s) schemes) false

-- these are the ledger's entries, and the table has so many records
abbrev pub old_sound : Ledger → List Party → ℕ → Bool
old_sound ledger entries room =
    cond (counts_sound ledger room)
    (all_hold
    (sums_sound ledger ∷
    old_parties_sound ledger.count entries ∷
    old_schemes_sound ledger.month entries 1 (take ledger.count ledger.schemes) ∷
    all_zero (drop ledger.count ledger.schemes) ∷
    []))
    false
