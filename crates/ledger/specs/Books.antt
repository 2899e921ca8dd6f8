-- What every rule reads, wherever it is kept: a ledger and its table give it, and so does the history of the calls. Schemes and entries go by their
-- numbers. A figure of a scheme is taken over that scheme's own rows: restrict first, then compute.
use Rattle.std.specs.Prelude.{ℕ, List, length, map, take, eqb, find, Option, filter}
use Rattle.ledger.specs.declared.records.Scheme.{Scheme}
use Rattle.ledger.specs.declared.records.Party.{Party}
use Rattle.ledger.specs.declared.records.Ledger.{Ledger}

-- what a scheme was opened with
pub record SchemeParticulars : Type 0 where
  pub number : ℕ
  pub cost : ℕ
  pub fee : ℕ
  pub minimum : ℕ
  -- month of opening, and term in months
  pub opening : ℕ
  pub term : ℕ

pub record EntryParticulars : Type 0 where
  pub number : ℕ
  pub scheme : ℕ
  pub capacity : ℕ
  pub credited : ℕ
  pub paid_out : ℕ

pub record Books : Type 0 where
  pub connections : ℕ
  -- the last accepted month
  pub month : ℕ
  -- the numbers that the next scheme and the next entry get
  pub next_scheme : ℕ
  pub next_entry : ℕ
  -- the length of the party table
  pub room : ℕ
  -- in the order of their numbers
  pub schemes : List SchemeParticulars
  pub entries : List EntryParticulars

-- ---- by number
abbrev pub scheme_at : Books → ℕ → Option SchemeParticulars
scheme_at books s = find (λ row. eqb row.number s) books.schemes

abbrev pub entry_at : Books → ℕ → Option EntryParticulars
entry_at books e = find (λ row. eqb e row.number) books.entries

-- the entries of scheme s
abbrev pub of_scheme : ℕ → List EntryParticulars → List EntryParticulars
of_scheme s rows = filter (λ row. eqb row.scheme s) rows

-- ---- as a ledger and its table show them: "Schemes and entries keep a lasting number" (document 02, E8)
abbrev pub scheme_particulars : Scheme → SchemeParticulars
scheme_particulars scheme =
    record {
      number = scheme.number;
      cost = scheme.cost;
      fee = scheme.fee;
      minimum = scheme.minimum;
      opening = scheme.opening;
      term = scheme.term;
    }

abbrev pub entry_particulars : Party → EntryParticulars
entry_particulars party =
    record {
      number = party.number;
      scheme = party.scheme;
      capacity = party.capacity;
      credited = party.credited;
      paid_out = party.paid_out;
    }

abbrev pub books_of : Ledger → List Party → Books
books_of ledger table =
    record {
      connections = ledger.connections;
      month = ledger.month;
      next_scheme = ledger.next_scheme;
      next_entry = ledger.next_entry;
      room = length table;
      schemes = map scheme_particulars (take ledger.count ledger.schemes);
      entries = map entry_particulars (take ledger.entries table);
    }
