-- The books that the records of a party table give, with the table's length beside them.
use Rattle.std.specs.Prelude.{ℕ, ◌≡◌, List, length}
use Rattle.ledger.specs.Books.{Books, books_of}
use Rattle.ledger.specs.declared.records.Party.{Party}
use Rattle.ledger.specs.declared.records.Ledger.{Ledger}

abbrev pub with_room : ℕ → Books → Books
with_room room books =
    record {
      connections = books.connections;
      month = books.month;
      next_scheme = books.next_scheme;
      next_entry = books.next_entry;
      room = room;
      schemes = books.schemes;
      entries = books.entries;
    }

abbrev pub snapshot_books : Ledger → List Party → ℕ → Books
snapshot_books ledger parties room = with_room room (books_of ledger parties)

-- books with so many schemes and entries
pub record Counted (books : Books) (count many table_length : ℕ) : Type 0 where
  pub schemes : length books.schemes ≡ count
  pub entries : length books.entries ≡ many
  pub room : books.room ≡ table_length
