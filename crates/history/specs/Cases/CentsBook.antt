-- A book of a few cents and its requests, and what pricing is to make of them.
use Rattle.std.specs.Prelude.{ℕ, ◌≡◌, replicate, Ok}
use mathlib.Core.List.{List, [], ◌∷◌, ◌++◌, flat_map}
use Rattle.numbers.specs.BigEndian.{bytes_of}
use Rattle.tagged.specs.Encoded.{closed}
use Rattle.rate_book.specs.Book.{book_letters}
use Rattle.reconciliation.specs.Reconciliation.{reconciliation_of}
use Rattle.charge.specs.Price.{price_of}
use Rattle.charge.specs.Cases.MarkedFigures.{slip_tiers, connection, request_by}
use Rattle.charge.specs.declared.Bill.{Bill}

-- the slip's book but for threshold, fee, minimum, term and credit share
abbrev pub book_with : ℕ → ℕ → ℕ → ℕ → ℕ → List ℕ
book_with threshold fee minimum term share =
    closed
    ((1, book_letters) ∷
    (2, bytes_of 2 0) ∷
    (3, flat_map (bytes_of 4) (0 ∷ 1 ∷ 0 ∷ 1 ∷ 0 ∷ 1 ∷ 0 ∷ 1 ∷ 0 ∷ 1 ∷ [])) ∷
    (4, bytes_of 2 10000) ∷
    (5, bytes_of 2 10000) ∷
    (6, flat_map (bytes_of 4) (threshold ∷ fee ∷ minimum ∷ []) ++ bytes_of 2 term) ∷
    (7, 1 ∷ bytes_of 2 share) ∷
    (8, 1 ∷ flat_map (bytes_of 4) (0 ∷ 0 ∷ 8500 ∷ 38000 ∷ 10000 ∷ [])) ∷
    [])

-- threshold 0, fee and minimum 1
abbrev pub cents_book : List ℕ
cents_book = book_with 0 1 1 84 6500

-- the slip's request with no other amount than CE, which is then X; its capacity and the scheme joined; and what that book makes of it
abbrev pub cents_request : ℕ → ℕ → ℕ → List ℕ
cents_request x capacity scheme = request_by 1 (0 ∷ x ∷ replicate 4 0) slip_tiers (connection 24315 capacity scheme 0)

abbrev pub cents_bill : ℕ → ℕ → ℕ → Bill
cents_bill x capacity scheme =
    record {
      reconciliation = reconciliation_of (record { me = 0; mc = 108000; ce = x; cc2 = 0; de = 0; tw = 0; hr = 0; ol = 0 }) 859800 1 6500;
      terms = record { threshold = 0; fee = 1; minimum = 1; term = 84 };
      applicant = record { person = 4711; month = 24315; capacity = capacity; scheme = scheme; mark = 0 };
    }

abbrev pub CentsBilled : ℕ → ℕ → ℕ → Type 0
CentsBilled x capacity scheme = price_of cents_book (cents_request x capacity scheme) ≡ Ok (cents_bill x capacity scheme)
