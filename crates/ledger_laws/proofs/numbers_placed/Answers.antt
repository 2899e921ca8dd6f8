-- The theorems of Lookup, for schemes and for entries.
use Rattle.ledger.specs.Records.{no_scheme, no_party}
use Rattle.ledger.proofs.Theorems.Lookup.{placed, own_place}
use Rattle.ledger_laws.proofs.numbers_placed.Goals as goal

pub returns : goal.returns
returns c =
    record {
      schemes = λ s k schemes at. placed (λ scheme. scheme.number) schemes no_scheme s k at;
      every_scheme = λ next k schemes rise below. own_place (λ scheme. scheme.number) schemes no_scheme next 0 rise k below;
      entries = λ e k entries at. placed (λ entry. entry.number) entries no_party e k at;
      every_entry = λ next k entries rise below. own_place (λ entry. entry.number) entries no_party next 0 rise k below;
    }
