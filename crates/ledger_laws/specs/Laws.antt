-- The laws that the functions of src/ are there for, one statement each; the proofs stand beside the definitions that they are of.
use Rattle.std.specs.Prelude.{ℕ, ◌+◌, ◌*◌, ◌<◌, ◌≤◌, ◌≡◌, List, map, true, length, get_or, Some}
use Rattle.tagged.specs.declared.file.Refusal.{Refusal}
use Rattle.ledger.specs.Lists.{sum_by}
use Rattle.ledger.specs.Records.{no_scheme, no_party}
use Rattle.ledger.specs.EntryPlace.{entry_place}
use Rattle.ledger.specs.Lookup.{scheme_place}
use Rattle.ledger.specs.Sound.{rise_to, sound}
use Rattle.ledger.specs.SoundConditions.{SoundLedger}
use Rattle.ledger.specs.declared.records.Scheme.{Scheme}
use Rattle.ledger.specs.declared.records.Party.{Party}
use Rattle.ledger.specs.declared.records.Ledger.{Ledger}
use Rattle.calls.specs.Rules.{Holding, capacity_of, contribution, share, shared}
use Rattle.calls.specs.Decision.{Call, is_refused}
use Rattle.calls.specs.Carried.{State}
use Rattle.calls.specs.Calls.{answered, leaves}
use Rattle.calls.specs.CallRefusals.{call_numbers, Refuses}

-- ---- what soundness means, condition by condition, and back
abbrev pub SoundMeans : Type 0
SoundMeans = (ledger : Ledger) (parties : List Party) (room : ℕ) → sound ledger parties room ≡ true → SoundLedger ledger parties room

abbrev pub MeansSound : Type 0
MeansSound = (ledger : Ledger) (parties : List Party) (room : ℕ) → SoundLedger ledger parties room → sound ledger parties room ≡ true

-- ---- a number's place is that of a record that has it; where numbers rise, each record is found at its own
abbrev pub SchemePlaced : Type 0
SchemePlaced =
    (s k : ℕ) (schemes : List Scheme) → scheme_place s schemes ≡ Some k → (k < length schemes) × ((get_or schemes k no_scheme).number ≡ s)

abbrev pub PlacedScheme : Type 0
PlacedScheme =
    (next k : ℕ) (schemes : List Scheme) → rise_to next 0 (map (λ scheme. scheme.number) schemes) ≡ true → k < length schemes →
    scheme_place (get_or schemes k no_scheme).number schemes ≡ Some k

abbrev pub EntryPlaced : Type 0
EntryPlaced = (e k : ℕ) (entries : List Party) → entry_place e entries ≡ Some k → (k < length entries) × ((get_or entries k no_party).number ≡ e)

abbrev pub PlacedEntry : Type 0
PlacedEntry =
    (next k : ℕ) (entries : List Party) → rise_to next 0 (map (λ entry. entry.number) entries) ≡ true → k < length entries →
    entry_place (get_or entries k no_party).number entries ≡ Some k

-- ---- what a joiner pays, rounded down
abbrev pub ContributionLow : Type 0
ContributionLow = (cost k total : ℕ) → contribution cost k total * (total + k) ≤ cost * k

abbrev pub ContributionHigh : Type 0
ContributionHigh = (cost k total : ℕ) → 0 < total + k → cost * k < (contribution cost k total + 1) * (total + k)

-- a share of it is within a cent of its part, and the shares come to the whole
abbrev pub ShareLow : Type 0
ShareLow = (amount total before capacity : ℕ) → 0 < total → amount * capacity < share amount total before capacity * total + total

abbrev pub ShareHigh : Type 0
ShareHigh = (amount total before capacity : ℕ) → 0 < total → share amount total before capacity * total < amount * capacity + total

abbrev pub SharedWhole : Type 0
SharedWhole = (amount : ℕ) (parties : List Holding) → 0 < capacity_of parties → sum_by (λ credit. credit.amount) (shared amount parties) ≡ amount

-- ---- every call: a refusal has one of its call's numbers and changes nothing
abbrev pub RefusalNumbers : Type 0
RefusalNumbers = (state : State) (call : Call) → Refuses (call_numbers call) (answered state call)

abbrev pub RefusedChangesNothing : Type 0
RefusedChangesNothing = (state : State) (call : Call) (r : Refusal) → answered state call ≡ is_refused r → leaves state call ≡ state
