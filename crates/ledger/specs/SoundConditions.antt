-- What a sound ledger has, condition by condition, each by its name.
use Rattle.std.specs.Prelude.{ℕ, ◌+◌, ◌*◌, ◌-◌, ◌<◌, ◌≤◌, ◌≡◌, List, true, length, take, get_or, is_some}
use Rattle.field_values.specs.Limits.{highest_minimum, lowest_term, lowest_capacity, highest_capacity}
use Rattle.ledger.specs.Limits.{most_schemes, most_entries, most_connections, highest_put_in, highest_credited, highest_sum, highest_next_scheme, highest_next_entry}
use Rattle.ledger.specs.Records.{no_scheme, no_party}
use Rattle.ledger.specs.Columns.{scheme_column, put_in_column, credited_column, sum_over, entries_of, first_put_in}
use Rattle.ledger.specs.Lookup.{scheme_place}
use Rattle.ledger.specs.Sound.{schemes_rise, entries_rise}
use Rattle.ledger.specs.declared.records.Scheme.{Scheme}
use Rattle.ledger.specs.declared.records.Party.{Party}
use Rattle.ledger.specs.declared.records.Ledger.{Ledger}

pub record SoundParty (schemes : List Scheme) (party : Party) : Type 0 where
  pub stands : is_some (scheme_place party.scheme schemes) ≡ true
  pub some_capacity : lowest_capacity ≤ party.capacity
  pub capacity : party.capacity ≤ highest_capacity
  pub put_in : party.put_in ≤ highest_put_in
  pub credited : party.credited ≤ highest_credited
  pub paid_out : party.paid_out ≤ party.credited

-- a scheme, by the entries that the table has
pub record SoundScheme (month : ℕ) (parties : List Party) (scheme : Scheme) : Type 0 where
  pub fee : scheme.fee ≤ scheme.minimum
  pub minimum : scheme.minimum ≤ highest_minimum
  pub term : lowest_term ≤ scheme.term
  pub opening : scheme.opening ≤ month
  pub some_entry : 1 ≤ entries_of scheme.number parties
  pub first : first_put_in scheme.number (scheme_column parties) (put_in_column parties) ≡ scheme.cost
  pub fees : scheme.fees ≡ scheme.fee * (entries_of scheme.number parties - 1)
  pub account : scheme.cost + scheme.fees + sum_over scheme.number (scheme_column parties) (credited_column parties) ≡ sum_over scheme.number (scheme_column parties) (put_in_column parties)

-- document 01's
pub record SoundFigures (ledger : Ledger) (parties : List Party) (room : ℕ) : Type 0 where
  pub schemes : ledger.count ≤ most_schemes
  pub entries : ledger.entries ≤ most_entries
  pub in_table : ledger.entries ≤ room
  pub connections : ledger.connections ≤ most_connections
  pub charged : ledger.charged ≤ highest_sum * ledger.connections
  pub borne : ledger.borne ≤ highest_sum * ledger.connections
  pub each_party : (i : ℕ) → i < length (take ledger.entries parties) → SoundParty (take ledger.count ledger.schemes) (get_or (take ledger.entries parties) i no_party)
  pub each_scheme : (k : ℕ) → k < length (take ledger.count ledger.schemes) →
      SoundScheme ledger.month (take ledger.entries parties) (get_or (take ledger.count ledger.schemes) k no_scheme)
  pub rest_zero : (i : ℕ) → ledger.count ≤ i → get_or ledger.schemes i no_scheme ≡ no_scheme

-- document 02's, where these are the entries
pub record SoundNumbers (ledger : Ledger) (entries : List Party) : Type 0 where
  pub schemes_in_order : schemes_rise ledger ≡ true
  pub entries_in_order : entries_rise ledger entries ≡ true
  pub next_scheme : ledger.next_scheme ≤ highest_next_scheme
  pub next_entry : ledger.next_entry ≤ highest_next_entry ledger.connections
  pub cleared_account : ledger.cleared_collected ≡ ledger.cleared_paid_out + ledger.cleared_fees
  pub cleared_limit : ledger.cleared_collected ≤ highest_put_in * (ledger.next_entry - 1 - ledger.entries)

pub record SoundLedger (ledger : Ledger) (parties : List Party) (room : ℕ) : Type 0 where
  pub figures : SoundFigures ledger parties room
  pub numbers : SoundNumbers ledger (take ledger.entries parties)
