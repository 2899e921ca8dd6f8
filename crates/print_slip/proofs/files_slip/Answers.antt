-- What pricing promises tells the pricing that the slip is of.
use Rattle.std.proofs.Common.{ap, ap₂, subst, ◌∙◌}
use Rattle.tagged.specs.AnswerPromised.{AnswerPromised}
use Rattle.charge.specs.Price.{price_of}
use Rattle.charge.proofs.Theorems.PriceEnding.{promised_price}
use Rattle.slip_text.specs.Slip.{slip_written, slip_buffer}
use Rattle.slip_text.specs.SlipEnding.{slip_ending}
use Rattle.print_slip.specs.Counted.{counted}
use Rattle.print_slip.proofs.files_slip.Goals as goal

pub returns-clause-answer : goal.returns-clause-answer
returns-clause-answer c =
    let priced = promised_price _ _ _ c.price.ensures ∙ ap₂ price_of c.counted.ensures.0 c.counted-2.ensures.0 in
    subst (λ pricing. AnswerPromised slip_ending (slip_written pricing c.args.text.now) c.slip_text.result) priced c.slip_text.ensures.answer

pub returns-clause-text_after : goal.returns-clause-text_after
returns-clause-text_after c =
    let priced = promised_price _ _ _ c.price.ensures ∙ ap₂ price_of c.counted.ensures.0 c.counted-2.ensures.0 in
    c.slip_text.ensures.out_after ∙ ap (λ pricing. slip_buffer pricing c.args.text.now) priced
