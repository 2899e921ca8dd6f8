-- Pricing's ending tells its answer: done or refused by the number, and two different answers never end alike. So what pricing promises tells its answer.
use Rattle.std.specs.Prelude.{ℕ, ◌≤◌, ◌≡◌, refl, List, pos, nat_abs, get_or, take, is_ok, Err, Ok}
use Rattle.std.proofs.Common.{ap}
use Rattle.tagged.specs.File.{answer_of}
use Rattle.tagged.specs.EndingTests.{number_is_0, Numbered}
use Rattle.tagged.specs.AnswerPromised.{AnswerPromised}
use Rattle.tagged.specs.FileEnding.{file_ending}
use Rattle.tagged.proofs.Theorems.Ending.{numbered_to, file_answer_by_number, answer_by_number, answer_by_ending, promised_by_ending, answer_promise}
use Rattle.tagged.specs.Refusals.{value_not_listed}
use Rattle.tagged.specs.declared.file.Refusal.{Refusal}
use Rattle.rate_book.specs.Book.{book_of}
use Rattle.rate_book.proofs.Theorems.Book.{book_refusal_numbers}
use Rattle.request.specs.Request.{request_of}
use Rattle.request.proofs.Theorems.Request.{request_refusal_numbers}
use Rattle.reconciliation.proofs.Theorems.Figures.{reconciliation_by_figures}
use Rattle.charge.specs.Price.{price_of, Pricing}
use Rattle.charge.proofs.Theorems.PriceRefusals.{pricing_refusal_numbers}
use Rattle.charge.specs.PriceEnding.{bill_values, pricing_ending}
use Rattle.charge.specs.declared.Bill.{Bill}

-- ---- number 0 exactly where the file is read, and where the request is priced
module _ (file : ℕ) (s : List ℕ) where
  pub book_by_number : number_is_0 (file_ending (answer_of (book_of file s))) ≡ is_ok (answer_of (book_of file s))
  book_by_number = file_answer_by_number (answer_of (book_of file s)) (numbered_to value_not_listed file (answer_of (book_of file s)) (book_refusal_numbers file s))

  pub request_by_number : number_is_0 (file_ending (answer_of (request_of file s))) ≡ is_ok (answer_of (request_of file s))
  request_by_number = file_answer_by_number (answer_of (request_of file s)) (numbered_to value_not_listed file (answer_of (request_of file s)) (request_refusal_numbers file s))

pub price_numbered : (book request : List ℕ) → Numbered (price_of book request)
price_numbered book request = by (price_of book request) (λ r refused. (pricing_refusal_numbers book request r refused).0)
  where
    by : (pricing : Pricing) → ((r : Refusal) → pricing ≡ Err r → 1 ≤ r.number) → Numbered pricing
    by (Ok bill) numbers = tt
    by (Err r) numbers = numbers r refl

pub pricing_by_number : (book request : List ℕ) → number_is_0 (pricing_ending (price_of book request)) ≡ is_ok (price_of book request)
pricing_by_number book request = answer_by_number bill_values (price_of book request) (price_numbered book request)

-- ---- the ending tells the answer
bill_by_values : (bill other : Bill) → bill_values bill ≡ bill_values other → bill ≡ other
bill_by_values bill other e =
    let reconciliations = reconciliation_by_figures bill.reconciliation other.reconciliation (ap (take 27) e) in
    let value : (place : ℕ) → get_or (bill_values bill) place (pos 0) ≡ get_or (bill_values other) place (pos 0) = λ place. ap (λ values. get_or values place (pos 0)) e in
    λ i.
    record {
      reconciliation = reconciliations i;
      terms = record { threshold = nat_abs (value 27 i); fee = nat_abs (value 28 i); minimum = nat_abs (value 29 i); term = nat_abs (value 30 i) };
      applicant =
          record {
            person = nat_abs (value 31 i);
            month = nat_abs (value 32 i);
            capacity = nat_abs (value 33 i);
            scheme = nat_abs (value 34 i);
            mark = nat_abs (value 35 i);
          };
    }

pub pricing_by_ending : (book request other_book other_request : List ℕ) →
    pricing_ending (price_of book request) ≡ pricing_ending (price_of other_book other_request) → price_of book request ≡ price_of other_book other_request
pricing_by_ending book request other_book other_request =
    answer_by_ending bill_values bill_by_values _ _ (price_numbered book request) (price_numbered other_book other_request)

module _ (book request : List ℕ) where
  pub price_promise : {pricing : Pricing} → pricing ≡ price_of book request → AnswerPromised pricing_ending (price_of book request) pricing
  price_promise = answer_promise pricing_ending (price_numbered book request)

  pub promised_price : (pricing : Pricing) → AnswerPromised pricing_ending (price_of book request) pricing → pricing ≡ price_of book request
  promised_price pricing = promised_by_ending bill_values bill_by_values _ _ (price_numbered book request)
