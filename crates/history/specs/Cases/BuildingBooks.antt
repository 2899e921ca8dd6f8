-- Two books of share 0 and threshold 5,000,000, and requests of ME alone, which is then X; and what pricing is to make of them.
use Rattle.std.specs.Prelude.{ℕ, ◌≡◌, List, ◌∷◌, replicate, Ok}
use Rattle.reconciliation.specs.Reconciliation.{reconciliation_of}
use Rattle.charge.specs.Price.{price_of}
use Rattle.charge.specs.Cases.MarkedFigures.{tier, connection, request_by}
use Rattle.rate_book.specs.declared.fields.Terms.{Terms}
use Rattle.charge.specs.declared.Bill.{Bill}
use Rattle.history.specs.Cases.CentsBook.{book_with}

-- the first extension's terms, and those of the joiner who builds on
abbrev pub first_terms : Terms
first_terms = record { threshold = 5000000; fee = 20000; minimum = 20000; term = 84 }

abbrev pub second_terms : Terms
second_terms = record { threshold = 5000000; fee = 7; minimum = 9; term = 100 }

abbrev pub book_of : Terms → List ℕ
book_of terms = book_with terms.threshold terms.fee terms.minimum terms.term 0

-- ME, capacity and scheme joined, without demands; by share 0 the slip's revenue counts for nothing
abbrev pub building_request : ℕ → ℕ → ℕ → List ℕ
building_request me capacity scheme = request_by 1 (me ∷ replicate 5 0) (replicate 5 (tier 0 0 0)) (connection 24315 capacity scheme 0)

abbrev pub building_bill : Terms → ℕ → ℕ → ℕ → Bill
building_bill terms me capacity scheme =
    record {
      reconciliation = reconciliation_of (record { me = me; mc = 0; ce = 0; cc2 = 0; de = 0; tw = 0; hr = 0; ol = 0 }) 859800 1 0;
      terms = terms;
      applicant = record { person = 4711; month = 24315; capacity = capacity; scheme = scheme; mark = 0 };
    }

abbrev pub BuildingBilled : Terms → ℕ → ℕ → ℕ → Type 0
BuildingBilled terms me capacity scheme = price_of (book_of terms) (building_request me capacity scheme) ≡ Ok (building_bill terms me capacity scheme)
