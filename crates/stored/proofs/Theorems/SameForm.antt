-- What is written is of the ledger and its entries alone.
use Rattle.std.specs.Prelude.{◌≡◌, List, ◌∷◌, ◌++◌, map, take}
use Rattle.std.proofs.Common.{ap₂}
use Rattle.tagged.specs.Encoded.{closed}
use Rattle.ledger.specs.declared.records.Party.{Party}
use Rattle.ledger.specs.declared.records.Ledger.{Ledger}
use Rattle.stored.specs.declared.form.Form.{Form}
use Rattle.stored.specs.Form.{letters_part, head_part, party_part, scheme_parts, party_parts, stored_form}

-- the form is of the ledger and its entries alone
pub same_form : (form : Form) {ledger ledger' : Ledger} (parties parties' : List Party) → ledger ≡ ledger' →
    take ledger.entries parties ≡ take ledger'.entries parties' → stored_form form ledger parties ≡ stored_form form ledger' parties'
unfolding stored_form party_parts
same_form form parties parties' ledgers entries =
    ap₂ (λ ledger kept. closed (letters_part form ∷ head_part form ledger ∷ scheme_parts form ledger ++ map (party_part form) kept)) ledgers entries
