-- Records as numbers of given widths, one after the other, each big endian. A layout is its list of widths. What both stored forms have in a record stands
-- once here, with what the form after document 01's has more.
use Rattle.std.specs.Prelude.{ℕ, ◌+◌, List, [], ◌∷◌, ◌++◌, drop, get_or}
use Rattle.numbers.specs.BigEndian.{number_at, bytes_of}
use Rattle.ledger.specs.declared.records.Scheme.{Scheme}
use Rattle.ledger.specs.declared.records.Party.{Party}
use Rattle.ledger.specs.declared.records.Ledger.{Ledger}
use Rattle.stored.specs.declared.form.Form.{Form}
use Rattle.stored.specs.declared.form.Form.TheVariants.{Pion, Pio2}

-- the bytes of a record's values
unfoldable pub record_bytes : List ℕ → List ℕ → List ℕ
record_bytes [] values = []
record_bytes (width ∷ widths) [] = []
record_bytes (width ∷ widths) (value ∷ values) = bytes_of width value ++ record_bytes widths values

-- the values of a record that starts at a place, and of one that is the whole list
unfoldable pub values_at : List ℕ → ℕ → List ℕ → List ℕ
values_at [] at bytes = []
values_at (width ∷ widths) at bytes = number_at bytes at width ∷ values_at widths (at + width) bytes

abbrev pub record_values : List ℕ → List ℕ → List ℕ
record_values widths bytes = values_at widths 0 bytes

-- ---- the number that a scheme or an entry begins with

-- document 02, E9: "each scheme and entry begins with its 4-byte number"
abbrev pub number_first : Form → ℕ → List ℕ → List ℕ
number_first Pion number others = others
number_first Pio2 number others = number ∷ others

-- the number in a record's bytes, and the bytes after it; where the form has none, it is that of the record's place: "places become numbers"
abbrev pub number_in : Form → ℕ → List ℕ → ℕ
number_in Pion place bytes = place
number_in Pio2 place bytes = number_at bytes 0 4

abbrev pub past_number : Form → List ℕ → List ℕ
past_number Pion bytes = bytes
past_number Pio2 bytes = drop 4 bytes

-- ---- field 02

-- "02 (22): month (2), connections (4), charged (8), borne (8)."
abbrev pub head_widths : List ℕ
head_widths = 2 ∷ 4 ∷ 8 ∷ 8 ∷ []

abbrev pub head_values : Ledger → List ℕ
head_values ledger = ledger.month ∷ ledger.connections ∷ ledger.charged ∷ ledger.borne ∷ []

-- document 02, E9: "Its field 02 adds at the end the next scheme and entry numbers, 4 bytes each, and the three cleared sums, 8 each"
abbrev pub added_widths : List ℕ
added_widths = 4 ∷ 4 ∷ 8 ∷ 8 ∷ 8 ∷ []

abbrev pub added_values : Ledger → List ℕ
added_values ledger =
    ledger.next_scheme ∷ ledger.next_entry ∷ ledger.cleared_collected ∷ ledger.cleared_paid_out ∷ ledger.cleared_fees ∷ []

abbrev pub added_last : Form → List ℕ → List ℕ → List ℕ
added_last Pion values added = values
added_last Pio2 values added = values ++ added

-- the values added, as a head's bytes have them; where the form has none, "the counts plus one", and sums of 0
abbrev pub added_in : Form → ℕ → ℕ → List ℕ → List ℕ
added_in Pion count entries bytes = (count + 1) ∷ (entries + 1) ∷ 0 ∷ 0 ∷ 0 ∷ []
added_in Pio2 count entries bytes = values_at added_widths 22 bytes

-- the ledger of these values, with so many entries and schemes
abbrev pub ledger_from : List ℕ → List ℕ → ℕ → ℕ → List Scheme → Ledger
ledger_from values added entries count schemes =
    record {
      month = get_or values 0 0;
      connections = get_or values 1 0;
      charged = get_or values 2 0;
      borne = get_or values 3 0;
      next_scheme = get_or added 0 0;
      next_entry = get_or added 1 0;
      cleared_collected = get_or added 2 0;
      cleared_paid_out = get_or added 3 0;
      cleared_fees = get_or added 4 0;
      entries = entries;
      count = count;
      schemes = schemes;
    }

-- ---- field 03

-- "03 (24), 0 to 64 times: cost, fee, minimum (4 each), opening, term (2 each), fees (8)."
abbrev pub scheme_widths : List ℕ
scheme_widths = 4 ∷ 4 ∷ 4 ∷ 2 ∷ 2 ∷ 8 ∷ []

abbrev pub scheme_values : Scheme → List ℕ
scheme_values scheme = scheme.cost ∷ scheme.fee ∷ scheme.minimum ∷ scheme.opening ∷ scheme.term ∷ scheme.fees ∷ []

abbrev pub scheme_from : ℕ → List ℕ → Scheme
scheme_from number values =
    record {
      number = number;
      cost = get_or values 0 0;
      fee = get_or values 1 0;
      minimum = get_or values 2 0;
      opening = get_or values 3 0;
      term = get_or values 4 0;
      fees = get_or values 5 0;
    }

-- ---- field 04

-- "04 (30), 0 to 512 times: scheme (2), person, capacity, put in (4 each), credited, paid out (8 each)."
abbrev pub party_widths : List ℕ
party_widths = 2 ∷ 4 ∷ 4 ∷ 4 ∷ 8 ∷ 8 ∷ []

abbrev pub party_values : Party → List ℕ
party_values party = party.scheme ∷ party.person ∷ party.capacity ∷ party.put_in ∷ party.credited ∷ party.paid_out ∷ []

abbrev pub party_from : ℕ → List ℕ → Party
party_from number values =
    record {
      number = number;
      scheme = get_or values 0 0;
      person = get_or values 1 0;
      capacity = get_or values 2 0;
      put_in = get_or values 3 0;
      credited = get_or values 4 0;
      paid_out = get_or values 5 0;
    }
