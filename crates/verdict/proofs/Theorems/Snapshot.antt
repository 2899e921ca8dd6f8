-- A snapshot of the entries gives the same books as the table.
use Rattle.std.specs.Prelude.{ℕ, ◌≤◌, ◌≡◌, refl, List, length, take}
use Rattle.ledger.specs.Books.{books_of}
use Rattle.ledger.specs.declared.records.Party.{Party}
use Rattle.ledger.specs.declared.records.Ledger.{Ledger}
use Rattle.calls.proofs.Theorems.ByPlace.{schemes_shown, entries_shown}
use Rattle.verdict.specs.Snapshot.{snapshot_books, Counted}

-- a snapshot has the table's entries, and so the table's books
pub snapshot_books_lem : (ledger : Ledger) (table parties : List Party) → take ledger.entries parties ≡ take ledger.entries table →
    snapshot_books ledger parties (length table) ≡ books_of ledger table
snapshot_books_lem ledger table parties snapshot = rw snapshot

pub snapshot_counted : (ledger : Ledger) (parties : List Party) (room : ℕ) → ledger.count ≤ length ledger.schemes → ledger.entries ≤ length parties →
    Counted (snapshot_books ledger parties room) ledger.count ledger.entries room
snapshot_counted ledger parties room schemes entries =
    record { schemes = schemes_shown ledger parties schemes; entries = entries_shown ledger parties entries; room = refl }
