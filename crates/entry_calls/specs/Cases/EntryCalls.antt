-- Pay-out and hand-over at their boundaries: one scheme, two entries, the first with a standing credit of 600. Others were cleared, so that no number is a
-- place and one. Every expected side is a literal.
use Rattle.std.specs.Prelude.{ℕ, ◌≡◌, refl, List, [], ◌∷◌, ◌++◌, map, replicate, Err, Ok}
use Rattle.ledger.specs.Records.{scheme_of, party_of, no_scheme, new_ledger}
use Rattle.ledger.specs.Columns.{sum_over, first_put_in}
use Rattle.ledger.specs.Lookup.{place_of}
use Rattle.ledger.specs.Sound.{parties_sound, schemes_sound, all_zero, sound_figures, rise_to, sound_numbers, sound}
use Rattle.ledger.specs.declared.records.Party.{Party}
use Rattle.ledger.specs.declared.records.Ledger.{Ledger}
use Rattle.entry_calls.specs.EntryCalls.{EntryChange, entry_change, pay_out_change, hand_over_change}

-- cost 3000 borne by the first entry; the joiner paid 1000, of which 100 are fees and 900 credited to the first
abbrev ledger : Ledger
ledger =
    record new_ledger {
      month = 12;
      connections = 5;
      charged = 4000;
      borne = 3000;
      next_scheme = 5;
      next_entry = 9;
      entries = 2;
      count = 1;
      schemes = scheme_of 3 3000 100 500 6 84 100 ∷ replicate 63 no_scheme;
    }

abbrev parties : List Party
parties = party_of 4 3 7 20 3000 900 300 ∷ party_of 7 3 8 10 1000 0 0 ∷ []

-- the same with a record past the last entry, which still holds a number
abbrev with_past : List Party
with_past = parties ++ (party_of 8 3 9 10 1000 500 0 ∷ [])

-- the place and its record
abbrev done : ℕ → Party → EntryChange
done place party = record { answer = Ok tt; place = place; party = party }

abbrev refused : ℕ → EntryChange
refused number = record { answer = Err (record { number = number; file = 0; place = 0 }); place = 0; party = party_of 0 0 0 0 0 0 0 }

-- the table's length, entry and amount, and the change
abbrev pay_outs : List ((ℕ × ℕ × ℕ) × EntryChange)
pay_outs =
    -- the standing credit, one above it, and nothing
    ((3, 4, 600), done 0 (party_of 4 3 7 20 3000 900 900)) ∷
    ((3, 4, 601), refused 12) ∷
    ((3, 4, 0), done 0 (party_of 4 3 7 20 3000 900 300)) ∷
    -- entry 0; the places' own numbers, which were cleared; the last entry, and the numbers on both sides of it
    ((3, 0, 0), refused 11) ∷
    ((3, 1, 0), refused 11) ∷
    ((3, 2, 0), refused 11) ∷
    ((3, 6, 0), refused 11) ∷
    ((3, 7, 0), done 1 (party_of 7 3 8 10 1000 0 0)) ∷
    ((3, 7, 1), refused 12) ∷
    -- the number of a record past the last entry, and the next number
    ((3, 8, 0), refused 11) ∷
    ((3, 9, 0), refused 11) ∷
    -- a table shorter than its entries
    ((1, 4, 0), refused 13) ∷
    []

pub pay_outs_hold : map (λ row. pay_out_change ledger with_past row.0.0 row.0.1 row.0.2) pay_outs ≡ map (λ row. row.1) pay_outs
unfolding pay_out_change entry_change place_of sound sound_figures sound_numbers rise_to parties_sound schemes_sound all_zero sum_over first_put_in
pay_outs_hold = refl

-- the table's length, entry and person, and the change
abbrev hand_overs : List ((ℕ × ℕ × ℕ) × EntryChange)
hand_overs =
    ((3, 0, 9), refused 11) ∷
    ((3, 1, 9), refused 11) ∷
    ((3, 4, 9), done 0 (party_of 4 3 9 20 3000 900 300)) ∷
    ((3, 7, 9), done 1 (party_of 7 3 9 10 1000 0 0)) ∷
    ((3, 8, 9), refused 11) ∷
    ((1, 4, 9), refused 13) ∷
    []

pub hand_overs_hold : map (λ row. hand_over_change ledger with_past row.0.0 row.0.1 row.0.2) hand_overs ≡ map (λ row. row.1) hand_overs
unfolding hand_over_change entry_change place_of sound sound_figures sound_numbers rise_to parties_sound schemes_sound all_zero sum_over first_put_in
hand_overs_hold = refl
