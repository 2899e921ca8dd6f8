-- Every value of a ledger and its entries within its width in the stored form.
use Rattle.std.specs.Prelude.{◌≡◌, ◌∷◌, ◌++◌, length, take}
use mathlib.Core.List.{List, Memᴰ}
use Rattle.ledger.specs.Limits.{most_schemes}
use Rattle.ledger.specs.declared.records.Scheme.{Scheme}
use Rattle.ledger.specs.declared.records.Party.{Party}
use Rattle.ledger.specs.declared.records.Ledger.{Ledger}
use Rattle.stored.specs.Layout.{head_widths, head_values, added_widths, added_values, scheme_widths, scheme_values, party_widths, party_values}
use Rattle.stored.specs.Fit.{Fit}

-- A ledger and entries that a call can be handed: 64 places, and each value within its width.
pub record FormFits (ledger : Ledger) (parties : List Party) : Type 0 where
  pub places : length ledger.schemes ≡ most_schemes
  pub head_fits : Fit (head_widths ++ added_widths) (head_values ledger ++ added_values ledger)
  pub schemes_fit : (scheme : Scheme) → Memᴰ scheme ledger.schemes → Fit (4 ∷ scheme_widths) (scheme.number ∷ scheme_values scheme)
  pub parties_fit : (party : Party) → Memᴰ party (take ledger.entries parties) → Fit (4 ∷ party_widths) (party.number ∷ party_values party)
