-- Whether a ledger is sound, by two lists of conditions. Document 01, 'Soundness': "A ledger is sound if it has at most 64 schemes, 512 entries and 1,000,000 connections; put in is at most 2,000,000,000, credited at most
-- 2,000,000,000,000, each of the two sums at most 1,100,000,000,000 × connections; capacity is as in 0C, fee, minimum and term as in 06; no opening is
-- after the last month; places past the last scheme hold zeros; each entry's scheme exists, each scheme has an entry and its first put in its cost; paid
-- out is at most credited, fees = fee × (entries − 1), and cost + fees = the sum of put in less credited." 13 also where the table is shorter than its entries.
-- "as in 0C" of a request: capacity 1 to 1,000,000; "as in 06" of a rate book: fee at most the minimum, minimum at most 1,000,000,000, term at least 84.
use Rattle.std.specs.Prelude.{ℕ, ◌+◌, ◌*◌, ◌-◌, List, [], ◌∷◌, Bool, true, false, cond, map, take, drop, leb, ltb, eqb, is_some}
use Rattle.field_values.specs.Limits.{highest_minimum, lowest_term, lowest_capacity, highest_capacity}
use Rattle.ledger.specs.Limits.{most_schemes, most_entries, most_connections, highest_put_in, highest_credited, highest_sum, highest_next_scheme, highest_next_entry}
use Rattle.ledger.specs.Columns.{scheme_column, put_in_column, credited_column, sum_over, entries_of, first_put_in}
use Rattle.ledger.specs.Lookup.{scheme_place}
use Rattle.ledger.specs.declared.records.Scheme.{Scheme}
use Rattle.ledger.specs.declared.records.Party.{Party}
use Rattle.ledger.specs.declared.records.Ledger.{Ledger}
use Rattle.ledger.specs.declared.sound.Tally.{Tally}

-- every condition holds
abbrev pub all_hold : List Bool → Bool
all_hold [] = true
all_hold (condition ∷ others) = cond condition (all_hold others) false

-- the counts, before any record is read; whether the entries are within the table
abbrev pub counts_within : Ledger → Bool → List Bool
counts_within ledger in_table = leb ledger.count most_schemes ∷ leb ledger.entries most_entries ∷ in_table ∷ []

abbrev pub counts_sound : Ledger → ℕ → Bool
counts_sound ledger room = all_hold (counts_within ledger (leb ledger.entries room))

abbrev pub sums_within : Ledger → List Bool
sums_within ledger =
    leb ledger.connections most_connections ∷
    leb ledger.charged (highest_sum * ledger.connections) ∷
    leb ledger.borne (highest_sum * ledger.connections) ∷
    []

abbrev pub sums_sound : Ledger → Bool
sums_sound ledger = all_hold (sums_within ledger)

-- an entry's capacity and amounts
abbrev pub figures_within : Party → List Bool
figures_within party =
    leb lowest_capacity party.capacity ∷
    leb party.capacity highest_capacity ∷
    leb party.put_in highest_put_in ∷
    leb party.credited highest_credited ∷
    leb party.paid_out party.credited ∷
    []

-- an entry, where these schemes stand: "each entry's scheme exists", by its number
abbrev pub party_sound : List Scheme → Party → Bool
party_sound schemes party = all_hold (is_some (scheme_place party.scheme schemes) ∷ figures_within party)

unfoldable pub parties_sound : List Scheme → List Party → Bool
parties_sound schemes [] = true
parties_sound schemes (party ∷ parties) = cond (party_sound schemes party) (parties_sound schemes parties) false

-- what the entries of scheme s come to
abbrev pub tally_of : ℕ → List Party → Tally
tally_of s parties =
    record {
      entries = entries_of s parties;
      first = first_put_in s (scheme_column parties) (put_in_column parties);
      credited = sum_over s (scheme_column parties) (credited_column parties);
      put_in = sum_over s (scheme_column parties) (put_in_column parties);
    }

-- a scheme's terms and accounts; no subtraction, since a party's credited can exceed what it put in
abbrev pub accounts_hold : ℕ → Scheme → Tally → List Bool
accounts_hold month scheme tally =
    leb scheme.fee scheme.minimum ∷
    leb scheme.minimum highest_minimum ∷
    leb lowest_term scheme.term ∷
    leb scheme.opening month ∷
    leb 1 tally.entries ∷
    eqb tally.first scheme.cost ∷
    eqb scheme.fees (scheme.fee * (tally.entries - 1)) ∷
    eqb (scheme.cost + scheme.fees + tally.credited) tally.put_in ∷
    []

abbrev pub accounts_sound : ℕ → Scheme → Tally → Bool
accounts_sound month scheme tally = all_hold (accounts_hold month scheme tally)

abbrev pub scheme_sound : ℕ → List Party → Scheme → Bool
scheme_sound month parties scheme = accounts_sound month scheme (tally_of scheme.number parties)

unfoldable pub schemes_sound : ℕ → List Party → List Scheme → Bool
schemes_sound month parties [] = true
schemes_sound month parties (scheme ∷ schemes) = cond (scheme_sound month parties scheme) (schemes_sound month parties schemes) false

abbrev pub zeros : Scheme → List Bool
zeros scheme =
    eqb scheme.number 0 ∷
    eqb scheme.cost 0 ∷
    eqb scheme.fee 0 ∷
    eqb scheme.minimum 0 ∷
    eqb scheme.opening 0 ∷
    eqb scheme.term 0 ∷
    eqb scheme.fees 0 ∷
    []

abbrev pub is_zero : Scheme → Bool
is_zero scheme = all_hold (zeros scheme)

unfoldable pub all_zero : List Scheme → Bool
all_zero [] = true
all_zero (scheme ∷ schemes) = cond (is_zero scheme) (all_zero schemes) false

-- the sums and every record, where these are the entries
abbrev pub records_sound : Ledger → List Party → List Bool
records_sound ledger entries =
    sums_sound ledger ∷
    parties_sound (take ledger.count ledger.schemes) entries ∷
    schemes_sound ledger.month entries (take ledger.count ledger.schemes) ∷
    all_zero (drop ledger.count ledger.schemes) ∷
    []

-- document 01's conditions: `parties` are the table's records, at least as many as there are entries; `room` is the table's length
unfoldable pub sound_figures : Ledger → List Party → ℕ → Bool
sound_figures ledger parties room = cond (counts_sound ledger room) (all_hold (records_sound ledger (take ledger.entries parties))) false

-- ---- document 02, E8: "numbers rise from 1 or more and stay below the next ones, which are above 0, next scheme is at most 65,536, next entry is at most
-- 513 + 2 × connections, cleared collected = cleared paid out + fees, at most 2,000,000,000 × (next entry − 1 − entries)"

-- each above the one before it, and the next one above the last
unfoldable pub rise_to : ℕ → ℕ → List ℕ → Bool
rise_to next before [] = ltb before next
rise_to next before (number ∷ later) = cond (ltb before number) (rise_to next number later) false

abbrev pub schemes_rise : Ledger → Bool
schemes_rise ledger = rise_to ledger.next_scheme 0 (map (λ scheme. scheme.number) (take ledger.count ledger.schemes))

abbrev pub entries_rise : Ledger → List Party → Bool
entries_rise ledger entries = rise_to ledger.next_entry 0 (map (λ entry. entry.number) entries)

abbrev pub cleared_within : Ledger → List Bool
cleared_within ledger =
    leb ledger.next_scheme highest_next_scheme ∷
    leb ledger.next_entry (highest_next_entry ledger.connections) ∷
    eqb ledger.cleared_collected (ledger.cleared_paid_out + ledger.cleared_fees) ∷
    leb ledger.cleared_collected (highest_put_in * (ledger.next_entry - 1 - ledger.entries)) ∷
    []

abbrev pub cleared_sound : Ledger → Bool
cleared_sound ledger = all_hold (cleared_within ledger)

unfoldable pub sound_numbers : Ledger → List Party → Bool
sound_numbers ledger entries = all_hold (schemes_rise ledger ∷ entries_rise ledger entries ∷ cleared_sound ledger ∷ [])

-- both lists
unfoldable pub sound : Ledger → List Party → ℕ → Bool
sound ledger parties room = cond (sound_figures ledger parties room) (sound_numbers ledger (take ledger.entries parties)) false
