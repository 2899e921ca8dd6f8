-- The slip of a book and a request that were priced, with exactly one byte of either altered: the one line `REFUSED 1 file 0` or `REFUSED 2 file place`, where
-- the place is the size − 2.
use Rattle.std.specs.Prelude.{ℕ, ◌-◌, ◌<◌, ◌≡◌, List, ◌++◌, ◌⊎◌, length, get_or, set, Ok}
use Rattle.std.proofs.Common.{ap}
use Rattle.std.proofs.Math.Logic.{inl, inr, ⊎_elim}
use Rattle.charge.specs.Price.{price_of}
use Rattle.numbers.specs.BigEndian.{Bytes}
use Rattle.charge.proofs.Theorems.Bill.{altered_book_not_priced, altered_request_not_priced}
use Rattle.charge.specs.declared.Bill.{Bill}
use Rattle.slip_text.specs.Slip.{decimal_from, decimal, slip_of}
use Rattle.slip_text.specs.SlipReading.{ascii}

module _ (book_file request_file : List ℕ) (bill : Bill) (priced : price_of book_file request_file ≡ Ok bill) (i b : ℕ) (below : b < 256) where
  pub altered_book_slip : Bytes book_file → i < length book_file → (get_or book_file i 0 ≡ b → ⊥) →
      (slip_of (price_of (set book_file i b) request_file) ≡ ascii "REFUSED 1 1 0\n")
      ⊎ (slip_of (price_of (set book_file i b) request_file) ≡ ascii "REFUSED 2 1 " ++ (decimal (length book_file - 2) ++ ascii "\n"))
  unfolding slip_of decimal_from
  altered_book_slip bytes within other =
      ⊎_elim (λ e. inl (ap slip_of e)) (λ e. inr (ap slip_of e)) (altered_book_not_priced book_file request_file bill priced i b below bytes within other)

  pub altered_request_slip : Bytes request_file → i < length request_file → (get_or request_file i 0 ≡ b → ⊥) →
      (slip_of (price_of book_file (set request_file i b)) ≡ ascii "REFUSED 1 2 0\n")
      ⊎ (slip_of (price_of book_file (set request_file i b)) ≡ ascii "REFUSED 2 2 " ++ (decimal (length request_file - 2) ++ ascii "\n"))
  unfolding slip_of decimal_from
  altered_request_slip bytes within other =
      ⊎_elim (λ e. inl (ap slip_of e)) (λ e. inr (ap slip_of e)) (altered_request_not_priced book_file request_file bill priced i b below bytes within other)
