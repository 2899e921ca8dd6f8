-- The ending tells the answer: written or refused by the number, and two different answers never end alike. So what is promised of the ending tells the answer.
use Rattle.std.specs.Prelude.{ℕ, ◌≡◌, List, [], cond, length, is_ok, Err, Ok}
use Rattle.std.proofs.Math.Path.{refl}
use Rattle.std.proofs.Common.{arith}
use Rattle.std.proofs.Math.Bool.{Bool, true, false}
use Rattle.std.proofs.Math.Dec.{ltb}
use Rattle.tagged.specs.File.{refusal}
use Rattle.tagged.specs.Refusals.{output_too_short}
use Rattle.tagged.specs.EndingTests.{number_is_0, Numbered}
use Rattle.tagged.specs.AnswerPromised.{AnswerPromised}
use Rattle.tagged.proofs.Theorems.Ending.{answer_by_number, answer_by_ending, promised_by_ending, answer_promise}
use Rattle.charge.specs.Price.{price_of, Pricing}
use Rattle.charge.proofs.Theorems.PriceEnding.{price_numbered}
use Rattle.page_text.specs.Page.{page_size, page_written, PageWritten}
use Rattle.page_text.specs.PageEnding.{page_ending}

module _ (book request out : List ℕ) where
  pub page_numbered : Numbered (page_written (price_of book request) out)
  unfolding page_written
  page_numbered = by (price_of book request) (price_numbered book request)
    where
      of_length : (short : Bool) → Numbered {Value = Unit {0}} (cond short (Err (refusal output_too_short 0 0)) (Ok tt))
      of_length true = omega arith
      of_length false = tt

      by : (pricing : Pricing) → Numbered pricing → Numbered (page_written pricing out)
      by (Err r) numbered = numbered
      by (Ok bill) numbered = of_length (ltb (length out) page_size)

  -- number 0 exactly where the page is written
  pub page_by_number : number_is_0 (page_ending (page_written (price_of book request) out)) ≡ is_ok (page_written (price_of book request) out)
  page_by_number = answer_by_number (λ _. []) (page_written (price_of book request) out) page_numbered

-- ---- the ending tells the answer
pub page_by_ending : (book request other_book other_request out other_out : List ℕ) →
    page_ending (page_written (price_of book request) out) ≡ page_ending (page_written (price_of other_book other_request) other_out) →
    page_written (price_of book request) out ≡ page_written (price_of other_book other_request) other_out
page_by_ending book request other_book other_request out other_out =
    answer_by_ending (λ _. []) (λ _ _ _. refl) _ _ (page_numbered book request out) (page_numbered other_book other_request other_out)

module _ (book request out : List ℕ) where
  pub page_promise : {written : PageWritten} → written ≡ page_written (price_of book request) out → AnswerPromised page_ending (page_written (price_of book request) out) written
  page_promise = answer_promise page_ending (page_numbered book request out)

  pub promised_page : (written : PageWritten) → AnswerPromised page_ending (page_written (price_of book request) out) written → written ≡ page_written (price_of book request) out
  promised_page written = promised_by_ending (λ _. []) (λ _ _ _. refl) _ _ (page_numbered book request out)
