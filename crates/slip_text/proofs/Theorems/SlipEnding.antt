-- The ending tells the answer: written or refused by the number, and two different answers never end alike. So what is promised of the ending tells the answer.
use Rattle.std.specs.Prelude.{ℕ, ◌≡◌, List, [], ◌∷◌, Bool, true, false, cond, ltb, pos, nat_abs, length, get_or, is_ok, Err, Ok}
use Rattle.std.proofs.Common.{ap, arith}
use Rattle.tagged.specs.EndingTests.{number_is_0, Numbered}
use Rattle.tagged.specs.AnswerPromised.{AnswerPromised}
use Rattle.tagged.proofs.Theorems.Ending.{answer_by_number, answer_by_ending, promised_by_ending, answer_promise}
use Rattle.tagged.specs.File.{refusal}
use Rattle.tagged.specs.Refusals.{output_too_short}
use Rattle.charge.specs.Price.{Pricing}
use Rattle.slip_text.specs.Slip.{slip_of, slip_written, SlipWritten}
use Rattle.slip_text.specs.SlipEnding.{slip_ending}

pub slip_numbered : (pricing : Pricing) (out : List ℕ) → Numbered (slip_written pricing out)
slip_numbered pricing out = by (ltb (length out) (length (slip_of pricing)))
  where
    by : (short : Bool) → Numbered (cond short (Err (refusal output_too_short 0 0)) (Ok (length (slip_of pricing))))
    by true = omega arith
    by false = tt

pub slip_by_number : (pricing : Pricing) (out : List ℕ) → number_is_0 (slip_ending (slip_written pricing out)) ≡ is_ok (slip_written pricing out)
slip_by_number pricing out = answer_by_number (λ size. pos size ∷ []) (slip_written pricing out) (slip_numbered pricing out)

-- ---- the ending tells the answer
size_told : (size other : ℕ) → pos size ∷ [] ≡ pos other ∷ [] → size ≡ other
size_told size other e = ap (λ values. nat_abs (get_or values 0 (pos 0))) e

pub slip_by_ending : (pricing other_pricing : Pricing) (out other_out : List ℕ) →
    slip_ending (slip_written pricing out) ≡ slip_ending (slip_written other_pricing other_out) → slip_written pricing out ≡ slip_written other_pricing other_out
slip_by_ending pricing other_pricing out other_out =
    answer_by_ending (λ size. pos size ∷ []) size_told _ _ (slip_numbered pricing out) (slip_numbered other_pricing other_out)

module _ (pricing : Pricing) (out : List ℕ) where
  pub slip_promise : {written : SlipWritten} → written ≡ slip_written pricing out → AnswerPromised slip_ending (slip_written pricing out) written
  slip_promise = answer_promise slip_ending (slip_numbered pricing out)

  pub promised_slip : (written : SlipWritten) → AnswerPromised slip_ending (slip_written pricing out) written → written ≡ slip_written pricing out
  promised_slip written = promised_by_ending (λ size. pos size ∷ []) size_told _ _ (slip_numbered pricing out)
