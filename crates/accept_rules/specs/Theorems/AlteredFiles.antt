-- With exactly one byte of the book or the request altered, accept refuses and leaves ledger and table: what was priced is priced no longer.
use Rattle.std.specs.Prelude.{ℕ, ◌<◌, ◌≡◌, refl, List, Bool, true, false, length, get_or, set, Err, Ok}
use Rattle.std.proofs.Common.{⊎_elim}
use Rattle.numbers.specs.BigEndian.{Bytes}
use Rattle.tagged.specs.File.{refusal}
use Rattle.tagged.specs.Refusals.{ledger_unsound}
use Rattle.tagged.specs.declared.file.Refusal.{Refusal}
use Rattle.charge.specs.Price.{price_of}
use Rattle.charge.proofs.Theorems.Bill.{altered_book_not_priced, altered_request_not_priced}
use Rattle.charge.specs.declared.Bill.{Bill}
use Rattle.ledger.specs.Sound.{sound}
use Rattle.calls.specs.Decision.{accept}
use Rattle.calls.specs.Carried.{State}
use Rattle.calls.specs.Calls.{answered, leaves}
use Rattle.accept_rules.specs.Laws.{RefusedAndLeft}

-- a request that isn't priced: 13, or pricing's own refusal
not_priced_left : (state : State) (book request : List ℕ) (r : Refusal) → price_of book request ≡ Err r → RefusedAndLeft state (accept book request)
unfolding answered leaves
not_priced_left state book request r e = by (sound state.ledger state.table (length state.table)) refl
  where
    by : (test : Bool) → sound state.ledger state.table (length state.table) ≡ test → RefusedAndLeft state (accept book request)
    by true t = record { refused = r; answer = rw (t, e); left = rw (t, e) }
    by false t = record { refused = refusal ledger_unsound 0 0; answer = rw t; left = rw t }

module _ (state : State) (book request : List ℕ) (bill : Bill) (priced : price_of book request ≡ Ok bill) (i b : ℕ) (below : b < 256) where
  pub altered_book_not_accepted : Bytes book → i < length book → (get_or book i 0 ≡ b → ⊥) → RefusedAndLeft state (accept (set book i b) request)
  altered_book_not_accepted bytes within other =
      ⊎_elim (not_priced_left state (set book i b) request _) (not_priced_left state (set book i b) request _)
      (altered_book_not_priced book request bill priced i b below bytes within other)

  pub altered_request_not_accepted : Bytes request → i < length request → (get_or request i 0 ≡ b → ⊥) → RefusedAndLeft state (accept book (set request i b))
  altered_request_not_accepted bytes within other =
      ⊎_elim (not_priced_left state book (set request i b) _) (not_priced_left state book (set request i b) _)
      (altered_request_not_priced book request bill priced i b below bytes within other)
