-- What the calls do to the records of the party table.
use Rattle.std.specs.Prelude.{ℕ, ◌+◌, ◌<◌, ◌^◌, List, [], ◌∷◌, get_or}
use Rattle.ledger.specs.Records.{no_party}
use Rattle.ledger.specs.Updates.{with_credited}
use Rattle.ledger.specs.declared.records.Party.{Party}

-- the entry with an amount more credited
abbrev pub credited_more : Party → ℕ → Party
credited_more party amount = with_credited (party.credited + amount) party

-- each entry with its credit; the records past the last credit stay as they are
unfoldable pub credit_each : List Party → List ℕ → List Party
credit_each [] credits = []
credit_each (party ∷ parties) [] = party ∷ parties
credit_each (party ∷ parties) (credit ∷ credits) = credited_more party credit ∷ credit_each parties credits

-- each entry can take its credit
abbrev pub CreditsFit : ℕ → List Party → List ℕ → Type 0
CreditsFit entries table credits = (i : ℕ) → i < entries → (get_or table i no_party).credited + get_or credits i 0 < 2 ^ 64
