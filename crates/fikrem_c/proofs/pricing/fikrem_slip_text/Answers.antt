-- The endings that are promised tell the pricing and what was written of its slip (`promised_price`, `promised_slip`), and there is room for the answer.
use Rattle.std.specs.Prelude.{◌≡◌, false, ltb, length}
use Rattle.std.proofs.Common.{ap, ◌∙◌, rules}
use Rattle.charge.proofs.Theorems.PriceEnding.{promised_price}
use Rattle.slip_text.specs.Slip.{slip_written, slip_buffer}
use Rattle.slip_text.proofs.Theorems.SlipEnding.{promised_slip}
use Rattle.quoting_unit.specs.Interface.{outcome_of, answer_after}
use Rattle.quoting_unit.specs.Unit.{unit_slip_ending}
use Rattle.fikrem_c.proofs.pricing.fikrem_slip_text.Goals as goal

pub returns : goal.returns
returns c =
    let text = c.args.text.now in
    let priced = promised_price _ _ _ c.price-pricing.ensures in
    let written = promised_slip _ _ _ c.slip_text-written.ensures.answer ∙ ap (λ pricing. slip_written pricing text) priced in
    let outcome = c.slip_outcome.ensures ∙ ap (λ written. outcome_of (unit_slip_ending written)) written in
    let long : ltb (length c.args.answer.now) 5 ≡ false = search rules in
    rw long (
      c.write_answer.ensures.value ∙ ap (λ outcome. outcome.result) outcome,
      c.slip_text-written.ensures.out_after ∙ ap (λ pricing. slip_buffer pricing text) priced,
      c.write_answer.ensures.answer_after ∙ ap (λ outcome. answer_after outcome c.args.answer.now) outcome,
    )
