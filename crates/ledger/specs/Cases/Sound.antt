-- Document 01, 'Soundness': its conditions, each at its limit and one past it. A row that is refused keeps all conditions but the one that it stands for.
-- "credited at most 2,000,000,000,000" has no such row: the account has credited no more than put in, and 512 entries put in 512 × 2,000,000,000 at most.
use Rattle.std.specs.Prelude.{ℕ, zero, suc, ◌+◌, ◌≡◌, refl, List, [], ◌∷◌, ◌++◌, map, Bool, true, false, take, replicate}
use Rattle.ledger.specs.Records.{scheme_of, party_of, no_scheme, new_ledger}
use Rattle.ledger.specs.Columns.{sum_over, first_put_in}
use Rattle.ledger.specs.Lookup.{place_of}
use Rattle.ledger.specs.Sound.{party_sound, parties_sound, schemes_sound, all_zero, sound_figures, rise_to, sound_numbers, sound}
use Rattle.ledger.specs.declared.records.Scheme.{Scheme}
use Rattle.ledger.specs.declared.records.Party.{Party}
use Rattle.ledger.specs.declared.records.Ledger.{Ledger}

-- an entry of person 7, and a scheme; both are numbered below
abbrev party : ℕ → ℕ → ℕ → ℕ → ℕ → Party
party scheme capacity put_in credited paid_out = party_of 0 scheme 7 capacity put_in credited paid_out

abbrev scheme : ℕ → ℕ → ℕ → ℕ → ℕ → ℕ → Scheme
scheme cost fee minimum opening term fees = scheme_of 0 cost fee minimum opening term fees

-- the first so many schemes numbered from this number on, the others as they are; and all these entries
abbrev numbered_schemes : ℕ → ℕ → List Scheme → List Scheme
numbered_schemes number zero schemes = schemes
numbered_schemes number (suc count) [] = []
numbered_schemes number (suc count) (first ∷ schemes) = record first { number = number } ∷ numbered_schemes (suc number) count schemes

abbrev numbered_entries : ℕ → List Party → List Party
numbered_entries number [] = []
numbered_entries number (first ∷ entries) = record first { number = number } ∷ numbered_entries (suc number) entries

-- month 12; connections, charged and borne; counts of entries and schemes; the first of the 64 places, and the others zeros. Numbers are places, from 1 on.
abbrev ledger : ℕ → ℕ → ℕ → ℕ → ℕ → List Scheme → Ledger
ledger connections charged borne entries count schemes =
    record new_ledger {
      month = 12;
      connections = connections;
      charged = charged;
      borne = borne;
      next_scheme = count + 1;
      next_entry = entries + 1;
      entries = entries;
      count = count;
      schemes = numbered_schemes 1 count (take 64 (schemes ++ replicate 64 no_scheme));
    }

-- one scheme, its first party and a joiner that paid 1,000, of which 100 are fees
abbrev joined : Scheme
joined = scheme 3000 100 500 6 84 100

abbrev two : List Party
two = party 1 20 3000 900 300 ∷ party 1 10 1000 0 0 ∷ []

-- a ledger with one scheme and its first party alone
abbrev alone : Scheme → Party → Ledger × List Party × ℕ
alone only first = (ledger 1 0 0 1 1 (only ∷ []), first ∷ [], 1)

abbrev with_two : Scheme → List Party → Ledger × List Party × ℕ
with_two only parties = (ledger 2 0 0 2 1 (only ∷ []), parties, 2)

-- one scheme of cost 5 with its first party, and one place more in use
abbrev with_rest : Scheme → Ledger × List Party × ℕ
with_rest past = (ledger 1 0 0 1 1 (scheme 5 0 0 0 84 0 ∷ past ∷ []), party 1 1 5 0 0 ∷ [], 1)

-- three schemes whose entries stand between one another's: the first was joined once, the second twice, the third never
abbrev three_schemes : Scheme → Scheme → List Party → Ledger × List Party × ℕ
three_schemes second third parties = (ledger 6 0 0 6 3 (joined ∷ second ∷ third ∷ []), parties, 6)

abbrev second_joined : Scheme
second_joined = scheme 5000 7 8 12 65535 14

abbrev third_alone : Scheme
third_alone = scheme 70 0 1000000000 0 84 0

-- what the second scheme's first party put in and was credited, and what the third scheme's entry put in and was credited
abbrev six : ℕ → ℕ → ℕ → ℕ → List Party
six second_put second_credit third_put third_credit =
    party 1 20 3000 900 300 ∷
    party 2 5 second_put second_credit 0 ∷
    party 1 10 1000 0 0 ∷
    party 2 6 2500 393 393 ∷
    party 3 1 third_put third_credit 0 ∷
    party 2 1 1000 0 0 ∷
    []

abbrev pub sound_cases : List ((Ledger × List Party × ℕ) × Bool)
sound_cases =
    ((new_ledger, [], 0), true) ∷
    (with_two joined two, true) ∷
    -- the table's length
    ((ledger 2 0 0 2 1 (joined ∷ []), two, 1), false) ∷
    -- connections, charged and borne
    ((ledger 1000000 0 0 2 1 (joined ∷ []), two, 2), true) ∷
    ((ledger 1000001 0 0 2 1 (joined ∷ []), two, 2), false) ∷
    ((ledger 2 2200000000000 2200000000000 2 1 (joined ∷ []), two, 2), true) ∷
    ((ledger 2 2200000000001 0 2 1 (joined ∷ []), two, 2), false) ∷
    ((ledger 2 0 2200000000001 2 1 (joined ∷ []), two, 2), false) ∷
    -- a scheme of cost 0
    (alone (scheme 0 0 0 0 84 0) (party 1 1 0 0 0), true) ∷
    -- put in, which is the cost; capacity
    (alone (scheme 2000000000 0 0 0 84 0) (party 1 1 2000000000 0 0), true) ∷
    (alone (scheme 2000000001 0 0 0 84 0) (party 1 1 2000000001 0 0), false) ∷
    (alone (scheme 5 0 0 0 84 0) (party 1 0 5 0 0), false) ∷
    (alone (scheme 5 0 0 0 84 0) (party 1 1000000 5 0 0), true) ∷
    (alone (scheme 5 0 0 0 84 0) (party 1 1000001 5 0 0), false) ∷
    -- the same of the scheme's second entry, a joiner that paid no fee: the first is credited what it put in
    (with_two (scheme 5 0 0 0 84 0) (party 1 1 5 2000000000 0 ∷ party 1 1 2000000000 0 0 ∷ []), true) ∷
    (with_two (scheme 5 0 0 0 84 0) (party 1 1 5 2000000001 0 ∷ party 1 1 2000000001 0 0 ∷ []), false) ∷
    (with_two (scheme 5 0 0 0 84 0) (party 1 1 5 0 0 ∷ party 1 0 0 0 0 ∷ []), false) ∷
    (with_two (scheme 5 0 0 0 84 0) (party 1 1 5 0 0 ∷ party 1 1 0 0 0 ∷ []), true) ∷
    (with_two (scheme 5 0 0 0 84 0) (party 1 1 5 0 0 ∷ party 1 1000000 0 0 0 ∷ []), true) ∷
    (with_two (scheme 5 0 0 0 84 0) (party 1 1 5 0 0 ∷ party 1 1000001 0 0 0 ∷ []), false) ∷
    -- fee, minimum, term and opening
    (alone (scheme 5 500 500 0 84 0) (party 1 1 5 0 0), true) ∷
    (alone (scheme 5 501 500 0 84 0) (party 1 1 5 0 0), false) ∷
    (alone (scheme 5 0 1000000000 0 84 0) (party 1 1 5 0 0), true) ∷
    (alone (scheme 5 0 1000000001 0 84 0) (party 1 1 5 0 0), false) ∷
    (alone (scheme 5 0 0 0 83 0) (party 1 1 5 0 0), false) ∷
    (alone (scheme 5 0 0 12 84 0) (party 1 1 5 0 0), true) ∷
    (alone (scheme 5 0 0 13 84 0) (party 1 1 5 0 0), false) ∷
    -- beside a complete scheme an entry of scheme 0, and of the scheme after the last; a second scheme of no entry
    (with_two (scheme 5 0 0 0 84 0) (party 1 1 5 0 0 ∷ party 0 1 5 0 0 ∷ []), false) ∷
    (with_two (scheme 5 0 0 0 84 0) (party 1 1 5 0 0 ∷ party 2 1 5 0 0 ∷ []), false) ∷
    ((ledger 1 0 0 1 2 (scheme 5 0 0 0 84 0 ∷ scheme 0 0 0 0 84 0 ∷ []), party 1 1 5 0 0 ∷ [], 1), false) ∷
    -- the places past the last scheme, value by value
    (with_rest no_scheme, true) ∷
    (with_rest (record no_scheme { number = 1 }), false) ∷
    (with_rest (scheme 1 0 0 0 0 0), false) ∷
    (with_rest (scheme 0 1 0 0 0 0), false) ∷
    (with_rest (scheme 0 0 1 0 0 0), false) ∷
    (with_rest (scheme 0 0 0 1 0 0), false) ∷
    (with_rest (scheme 0 0 0 0 1 0), false) ∷
    (with_rest (scheme 0 0 0 0 0 1), false) ∷
    -- paid out at most credited
    (with_two joined (party 1 20 3000 900 900 ∷ party 1 10 1000 0 0 ∷ []), true) ∷
    (with_two joined (party 1 20 3000 900 901 ∷ party 1 10 1000 0 0 ∷ []), false) ∷
    (with_two joined (party 1 20 3000 600 300 ∷ party 1 10 1000 300 300 ∷ []), true) ∷
    (with_two joined (party 1 20 3000 600 300 ∷ party 1 10 1000 300 301 ∷ []), false) ∷
    -- the first put in a cent more or less than the cost, while the account balances: 3,000 + 100 + 901 = 3,001 + 1,000, 3,000 + 100 + 899 = 2,999 + 1,000
    (with_two joined (party 1 20 3001 901 300 ∷ party 1 10 1000 0 0 ∷ []), false) ∷
    (with_two joined (party 1 20 2999 899 300 ∷ party 1 10 1000 0 0 ∷ []), false) ∷
    -- fees a cent less or more, while the account balances: 3,000 + 99 + 901 and 3,000 + 101 + 899 are 3,000 + 1,000
    (with_two (scheme 3000 100 500 6 84 99) (party 1 20 3000 901 300 ∷ party 1 10 1000 0 0 ∷ []), false) ∷
    (with_two (scheme 3000 100 500 6 84 101) (party 1 20 3000 899 300 ∷ party 1 10 1000 0 0 ∷ []), false) ∷
    -- the account
    (with_two joined (party 1 20 3000 899 300 ∷ party 1 10 1000 0 0 ∷ []), false) ∷
    (with_two joined (party 1 20 3000 900 300 ∷ party 1 10 1001 0 0 ∷ []), false) ∷
    -- each condition of the second and of the last scheme
    (three_schemes second_joined third_alone (six 5000 3093 70 0), true) ∷
    (three_schemes (scheme 5000 7 6 12 65535 14) third_alone (six 5000 3093 70 0), false) ∷
    (three_schemes (scheme 5000 7 1000000001 12 65535 14) third_alone (six 5000 3093 70 0), false) ∷
    (three_schemes (scheme 5000 7 8 13 65535 14) third_alone (six 5000 3093 70 0), false) ∷
    (three_schemes (scheme 5000 7 8 12 83 14) third_alone (six 5000 3093 70 0), false) ∷
    (three_schemes (scheme 5000 7 8 12 65535 13) third_alone (six 5000 3094 70 0), false) ∷
    (three_schemes (scheme 5000 7 8 12 65535 15) third_alone (six 5000 3092 70 0), false) ∷
    (three_schemes second_joined third_alone (six 5001 3094 70 0), false) ∷
    (three_schemes second_joined third_alone (six 5000 3094 70 0), false) ∷
    (three_schemes second_joined third_alone (six 5000 3092 70 0), false) ∷
    (three_schemes second_joined (scheme 70 1000000000 1000000000 12 84 0) (six 5000 3093 70 0), true) ∷
    (three_schemes second_joined (scheme 70 5 4 0 84 0) (six 5000 3093 70 0), false) ∷
    (three_schemes second_joined (scheme 70 0 1000000001 0 84 0) (six 5000 3093 70 0), false) ∷
    (three_schemes second_joined (scheme 70 0 1000000000 13 84 0) (six 5000 3093 70 0), false) ∷
    (three_schemes second_joined (scheme 70 0 1000000000 0 83 0) (six 5000 3093 70 0), false) ∷
    (three_schemes second_joined third_alone (six 5000 3093 71 1), false) ∷
    (three_schemes second_joined third_alone (six 5000 3093 70 1), false) ∷
    -- a scheme whose first entry stands before that of the scheme before it
    ((ledger 2 0 0 2 2 (scheme 5 0 0 0 84 0 ∷ scheme 6 0 0 0 84 0 ∷ []), party 2 1 6 0 0 ∷ party 1 1 5 0 0 ∷ [], 2), true) ∷
    -- the places past the last scheme, where there are more entries than schemes; the last of the 64 places
    ((ledger 2 0 0 2 1 (joined ∷ scheme 1 0 0 0 0 0 ∷ []), two, 2), false) ∷
    ((ledger 2 0 0 2 1 (joined ∷ (replicate 62 no_scheme ++ (scheme 0 0 0 0 0 1 ∷ []))), two, 2), false) ∷
    ((ledger 2 0 0 2 1 (joined ∷ no_scheme ∷ scheme 0 0 0 0 0 1 ∷ []), two, 2), false) ∷
    -- the sum borne is limited by the connections, whatever was charged
    ((ledger 2 2200000000000 2200000000001 2 1 (joined ∷ []), two, 2), false) ∷
    ((ledger 2 2200000000001 2200000000000 2 1 (joined ∷ []), two, 2), false) ∷
    -- charged and borne at a million connections, and a scheme's fees past 32 bits
    ((ledger 1000000 1100000000000000000 1100000000000000000 2 1 (joined ∷ []), two, 2), true) ∷
    ((ledger 1000000 1100000000000000001 0 2 1 (joined ∷ []), two, 2), false) ∷
    ((ledger 1000000 0 1100000000000000001 2 1 (joined ∷ []), two, 2), false) ∷
    ((ledger 0 1 0 0 0 [], [], 0), false) ∷
    ((ledger 0 0 1 0 0 [], [], 0), false) ∷ (
      (
        ledger 6 0 0 6 1 (scheme 2000000000 1000000000 1000000000 6 84 5000000000 ∷ []),
        party 1 1 2000000000 5000000000 5000000000 ∷ replicate 5 (party 1 1 2000000000 0 0),
        6,
      ),
      true,
    ) ∷
    -- credited may exceed put in by cents: cost 5, capacities 7, 3, 1,000,000
    ((ledger 3 0 0 3 1 (scheme 5 0 0 0 84 0 ∷ []), party 1 7 5 3 0 ∷ party 1 3 1 2 0 ∷ party 1 1000000 4 0 0 ∷ [], 3), true) ∷
    []

abbrev sound_at : Ledger × List Party × ℕ → Bool
sound_at row = sound row.0 (numbered_entries 1 row.1) row.2

pub sound_cases_hold : map (λ row. sound_at row.0) sound_cases ≡ map (λ row. row.1) sound_cases
unfolding sound sound_figures sound_numbers rise_to parties_sound schemes_sound all_zero sum_over first_put_in place_of
sound_cases_hold = refl

-- so many, each by its number
abbrev each_from : {A : Type 0} → ℕ → ℕ → (ℕ → A) → List A
each_from number zero each = []
each_from number (suc many) each = each number ∷ each_from (suc number) many each

-- 64 schemes, each with the cost of its number and its first party; all other entries joined the last one
abbrev full : ℕ → ℕ → Ledger × List Party × ℕ
full count joiners = (
  ledger 1 0 0 (64 + joiners) count (each_from 1 64 (λ number. scheme number 0 0 0 84 0)),
  each_from 1 64 (λ number. party number 1 number 0 0) ++ replicate joiners (party 64 1 0 0 0),
  64 + joiners,
)

-- 64 schemes with an entry each, the last of this term
abbrev last_term : ℕ → Ledger × List Party × ℕ
last_term term = (
  ledger 1 0 0 64 64 (each_from 1 63 (λ number. scheme number 0 0 0 84 0) ++ (scheme 64 0 0 0 term 0 ∷ [])),
  each_from 1 64 (λ number. party number 1 number 0 0),
  64,
)

pub last_term_cases_hold : (sound_at (last_term 84) ≡ true) × (sound_at (last_term 83) ≡ false)
unfolding sound sound_figures sound_numbers rise_to parties_sound schemes_sound all_zero sum_over first_put_in place_of
last_term_cases_hold = (refl, refl)

-- what an entry is credited, at its limit and one past it: no ledger breaks this condition alone
pub credited_cases_hold :
    (party_sound (scheme_of 1 5 0 0 0 84 0 ∷ []) (party 1 1 5 2000000000000 2000000000000) ≡ true)
    × (party_sound (scheme_of 1 5 0 0 0 84 0 ∷ []) (party 1 1 5 2000000000001 0) ≡ false)
unfolding place_of
credited_cases_hold = (refl, refl)

-- 64 schemes with 512 entries; a count of 65; 513 entries
pub full_cases_hold : (sound_at (full 64 448) ≡ true) × (sound_at (full 65 0) ≡ false) × (sound_at (full 64 449) ≡ false)
unfolding sound sound_figures sound_numbers rise_to parties_sound schemes_sound all_zero sum_over first_put_in place_of
full_cases_hold = (refl, refl, refl)

-- one scheme with 512 entries, of which this one is the last
abbrev with_last : Party → Ledger × List Party × ℕ
with_last last = (ledger 1 0 0 512 1 (scheme 5 0 0 0 84 0 ∷ []), party 1 1 5 0 0 ∷ (replicate 510 (party 1 1 0 0 0) ++ (last ∷ [])), 512)

-- the limits of an entry at the 512th, with its credit as high as what it put in, so that the account balances
abbrev last_entry_cases : List (Party × Bool)
last_entry_cases =
    (party 1 1 5 5 5, true) ∷
    (party 1 1 5 5 6, false) ∷
    (party 1 0 0 0 0, false) ∷
    (party 1 1000000 0 0 0, true) ∷
    (party 1 1000001 0 0 0, false) ∷
    (party 1 1 2000000000 2000000000 0, true) ∷
    (party 1 1 2000000001 2000000001 0, false) ∷
    (party 1 1 1 0 0, false) ∷
    (party 2 1 0 0 0, false) ∷
    (party 0 1 0 0 0, false) ∷
    []

pub last_entry_cases_hold : map (λ row. sound_at (with_last row.0)) last_entry_cases ≡ map (λ row. row.1) last_entry_cases
unfolding sound sound_figures sound_numbers rise_to parties_sound schemes_sound all_zero sum_over first_put_in place_of
last_entry_cases_hold = refl

-- ---- document 02's conditions, each at its limit and one past it

-- an empty ledger: connections, next scheme, next entry, and what was cleared: collected, paid out, fees
abbrev empty : ℕ → ℕ → ℕ → ℕ → ℕ → ℕ → Ledger
empty connections next_scheme next_entry collected paid_out fees =
    record new_ledger {
      connections = connections;
      next_scheme = next_scheme;
      next_entry = next_entry;
      cleared_collected = collected;
      cleared_paid_out = paid_out;
      cleared_fees = fees;
    }

abbrev empty_cases : List (Ledger × Bool)
empty_cases =
    (empty 0 1 513 0 0 0, true) ∷
    (empty 0 1 514 0 0 0, false) ∷
    (empty 1 1 515 0 0 0, true) ∷
    (empty 1 1 516 0 0 0, false) ∷
    (empty 0 65536 1 0 0 0, true) ∷
    (empty 0 65537 1 0 0 0, false) ∷
    (empty 0 0 1 0 0 0, false) ∷
    (empty 0 1 0 0 0 0, false) ∷
    (empty 0 1 2 2000000000 2000000000 0, true) ∷
    (empty 0 1 2 2000000001 2000000001 0, false) ∷
    (empty 0 1 1 1 1 0, false) ∷
    (empty 0 1 2 5 3 2, true) ∷
    (empty 0 1 2 5 3 3, false) ∷
    -- in sixty-four bits 0 too
    (empty 0 1 2 0 9223372036854775808 9223372036854775808, false) ∷
    []

pub empty_cases_hold : map (λ row. sound row.0 [] 0) empty_cases ≡ map (λ row. row.1) empty_cases
unfolding sound sound_figures sound_numbers rise_to parties_sound schemes_sound all_zero
empty_cases_hold = refl

-- two schemes with an entry each, by their numbers; the numbers that come next, and what was cleared with paid out the same
abbrev two_numbered : ℕ → ℕ → ℕ → ℕ → ℕ → ℕ → ℕ → Ledger × List Party
two_numbered first_scheme second_scheme next_scheme first_entry second_entry next_entry cleared = (
  record new_ledger {
    month = 12;
    connections = 1;
    next_scheme = next_scheme;
    next_entry = next_entry;
    cleared_collected = cleared;
    cleared_paid_out = cleared;
    entries = 2;
    count = 2;
    schemes = scheme_of first_scheme 5 0 0 0 84 0 ∷ scheme_of second_scheme 6 0 0 0 84 0 ∷ replicate 62 no_scheme;
  },
  party_of first_entry first_scheme 7 1 5 0 0 ∷ party_of second_entry second_scheme 7 1 6 0 0 ∷ [],
)

abbrev numbered_cases : List ((Ledger × List Party) × Bool)
numbered_cases =
    (two_numbered 1 2 3 1 2 3 0, true) ∷
    -- with gaps, and both above their places
    (two_numbered 3 9 65536 4 8 515 1024000000000, true) ∷
    (two_numbered 3 9 65536 4 8 515 1024000000001, false) ∷
    -- numbers fall, one is 0, two entries have one number, the last is the next one
    (two_numbered 2 1 3 1 2 3 0, false) ∷
    (two_numbered 1 2 3 2 1 3 0, false) ∷
    (two_numbered 0 2 3 1 2 3 0, false) ∷
    (two_numbered 1 2 3 0 2 3 0, false) ∷
    (two_numbered 1 2 3 2 2 3 0, false) ∷
    (two_numbered 1 2 2 1 2 3 0, false) ∷
    (two_numbered 1 2 3 1 2 2 0, false) ∷
    (two_numbered 1 3 2 1 2 3 0, false) ∷
    []

pub numbered_cases_hold : map (λ row. sound row.0.0 row.0.1 2) numbered_cases ≡ map (λ row. row.1) numbered_cases
unfolding sound sound_figures sound_numbers rise_to parties_sound schemes_sound all_zero sum_over first_put_in place_of
numbered_cases_hold = refl

-- two schemes with one number, and an entry by which both accounts are right: the numbers alone are unsound
abbrev of_one_number : Ledger
of_one_number =
    record new_ledger {
      month = 12;
      connections = 1;
      next_scheme = 3;
      next_entry = 2;
      entries = 1;
      count = 2;
      schemes = scheme_of 1 5 0 0 0 84 0 ∷ scheme_of 1 5 0 0 0 84 0 ∷ replicate 62 no_scheme;
    }

abbrev entry_of_both : List Party
entry_of_both = party_of 1 1 7 1 5 0 0 ∷ []

pub one_number_cases_hold : (sound_figures of_one_number entry_of_both 1 ≡ true) × (sound of_one_number entry_of_both 1 ≡ false)
unfolding sound sound_figures sound_numbers rise_to parties_sound schemes_sound all_zero sum_over first_put_in place_of
one_number_cases_hold = (refl, refl)

-- document 01's conditions alone: any numbers will do, by which an entry's scheme is found; 65,537 isn't 1, and a place is no number
abbrev by_number : ℕ → ℕ → Ledger × List Party
by_number number named = (
  record new_ledger { month = 12; next_scheme = 0; next_entry = 0; cleared_fees = 7; entries = 1; count = 1; schemes = scheme_of number 5 0 0 0 84 0 ∷ replicate 63 no_scheme },
  party_of 0 named 7 1 5 0 0 ∷ [],
)

abbrev figures_cases : List ((Ledger × List Party) × Bool)
figures_cases = (by_number 7 7, true) ∷ (by_number 0 0, true) ∷ (by_number 7 1, false) ∷ (by_number 7 0, false) ∷ (by_number 65537 1, false) ∷ []

pub figures_cases_hold : map (λ row. sound_figures row.0.0 row.0.1 1) figures_cases ≡ map (λ row. row.1) figures_cases
unfolding sound_figures parties_sound schemes_sound all_zero sum_over first_put_in place_of
figures_cases_hold = refl
