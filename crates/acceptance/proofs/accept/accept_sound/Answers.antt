-- What pricing promises tells the bill (promised_price), and what is priced is within the limits, as book and request are bytes (priced_within).
use Rattle.std.proofs.Common.{sym, ap, ◌∙◌}
use Rattle.charge.proofs.Theorems.Bill.{priced_within}
use Rattle.charge.proofs.Theorems.PriceEnding.{promised_price}
use Rattle.acceptance.specs.Plan.{plan_table}
use Rattle.acceptance.proofs.Theorems.Plan.{plan_priced}
use Rattle.acceptance.proofs.accept.accept_sound.Goals as goal

pub accept_bill-requires-clause-within : goal.accept_bill-requires-clause-within
accept_bill-requires-clause-within c =
    priced_within _ _ _ (λ k. (c.type_inv.book k).fits) (λ k. (c.type_inv.request k).fits) (sym (promised_price _ _ _ c.in_ok-bill.ensures))

pub returns-clause-answer : goal.returns-clause-answer
returns-clause-answer c =
    let is = plan_priced _ _ _ c.requires (sym (promised_price c.args.book.now c.args.request.now _ c.in_ok-bill.ensures)) in
    c.accept_bill.ensures.answer ∙ sym (ap (λ plan. plan.answer) is)

pub returns-clause-ledger : goal.returns-clause-ledger
returns-clause-ledger c =
    let is = plan_priced _ _ _ c.requires (sym (promised_price c.args.book.now c.args.request.now _ c.in_ok-bill.ensures)) in
    c.accept_bill.ensures.ledger ∙ sym (ap (λ plan. plan.ledger) is)

pub returns-clause-table : goal.returns-clause-table
returns-clause-table c =
    let is = plan_priced _ _ _ c.requires (sym (promised_price c.args.book.now c.args.request.now _ c.in_ok-bill.ensures)) in
    c.accept_bill.ensures.table ∙ sym (ap (plan_table c.args.ledger.now c.args.table.now) is)
