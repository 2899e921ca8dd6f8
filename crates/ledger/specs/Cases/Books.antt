-- The books of a ledger and its table, and a scheme's and an entry's particulars by number.
use Rattle.std.specs.Prelude.{ℕ, ◌≡◌, refl, List, [], ◌∷◌, map, None, Some}
use Rattle.ledger.specs.Records.{scheme_of, party_of, new_ledger}
use Rattle.ledger.specs.Books.{SchemeParticulars, EntryParticulars, Books, scheme_at, entry_at, of_scheme, books_of}
use Rattle.ledger.specs.declared.records.Scheme.{Scheme}
use Rattle.ledger.specs.declared.records.Ledger.{Ledger}

abbrev scheme_row : ℕ → ℕ → ℕ → ℕ → ℕ → ℕ → SchemeParticulars
scheme_row number cost fee minimum opening term =
    record { number = number; cost = cost; fee = fee; minimum = minimum; opening = opening; term = term }

abbrev entry_row : ℕ → ℕ → ℕ → ℕ → ℕ → EntryParticulars
entry_row number scheme capacity credited paid_out =
    record { number = number; scheme = scheme; capacity = capacity; credited = credited; paid_out = paid_out }

-- so many entries and schemes, these schemes at their places, and the next numbers of both
abbrev ledger : ℕ → ℕ → List Scheme → ℕ → ℕ → Ledger
ledger entries count schemes next_scheme next_entry =
    record new_ledger {
      month = 1;
      connections = 2;
      charged = 3;
      borne = 4;
      next_scheme = next_scheme;
      next_entry = next_entry;
      entries = entries;
      count = count;
      schemes = schemes;
    }

-- three entries of two schemes, the fourth record is past the last entry and still holds a number that stands, and so does the third place of a scheme
abbrev shown : Books
shown =
    books_of
    (ledger 3 2 (scheme_of 4 31 32 33 34 35 36 ∷ scheme_of 9 41 42 43 44 45 46 ∷ scheme_of 9 51 52 53 54 55 56 ∷ []) 65536 4000000000)
    (party_of 2 9 61 62 63 64 65 ∷ party_of 5 4 71 72 73 74 75 ∷ party_of 6 9 81 82 83 84 85 ∷ party_of 7 4 91 92 93 94 95 ∷ [])

pub books_shown : shown ≡
    record {
      connections = 2;
      month = 1;
      next_scheme = 65536;
      next_entry = 4000000000;
      room = 4;
      schemes = scheme_row 4 31 32 33 34 35 ∷ scheme_row 9 41 42 43 44 45 ∷ [];
      entries = entry_row 2 9 62 64 65 ∷ entry_row 5 4 72 74 75 ∷ entry_row 6 9 82 84 85 ∷ [];
    }
books_shown = refl

-- as many places as schemes, and as many records as entries
pub full_shown :
    books_of (ledger 1 1 (scheme_of 8 31 32 33 34 35 36 ∷ []) 9 5) (party_of 4 8 61 62 63 64 65 ∷ [])
    ≡ record {
      connections = 2;
      month = 1;
      next_scheme = 9;
      next_entry = 5;
      room = 1;
      schemes = scheme_row 8 31 32 33 34 35 ∷ [];
      entries = entry_row 4 8 62 64 65 ∷ [];
    }
full_shown = refl

pub by_number :
    (map (scheme_at shown) (0 ∷ 1 ∷ 4 ∷ 9 ∷ 10 ∷ []) ≡ None ∷ None ∷ Some (scheme_row 4 31 32 33 34 35) ∷ Some (scheme_row 9 41 42 43 44 45) ∷ None ∷ [])
    × (map (entry_at shown) (0 ∷ 1 ∷ 2 ∷ 6 ∷ 7 ∷ []) ≡ None ∷ None ∷ Some (entry_row 2 9 62 64 65) ∷ Some (entry_row 6 9 82 84 85) ∷ None ∷ [])
    × (of_scheme 9 shown.entries ≡ entry_row 2 9 62 64 65 ∷ entry_row 6 9 82 84 85 ∷ [])
    × (of_scheme 4 shown.entries ≡ entry_row 5 4 72 74 75 ∷ [])
by_number = (refl, refl, refl, refl)
