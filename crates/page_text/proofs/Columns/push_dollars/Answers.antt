-- The commas that are left: 5 at most before the loop, one fewer each time, and none once the dollars are below 1,000.
use Rattle.std.proofs.Common.{List, ap, arith, refl, suc, sym, ℕ, ◌/◌, ◌∙◌, ◌∷◌, ◌≡◌, length}
use Rattle.page_text.specs.Page.{dollars_text}
use Rattle.page_text.proofs.Theorems.Page.{dollars_end, dollars_on}
use Rattle.page_text.proofs.Columns.push_dollars.Goals as goal

pub loop-thousands-init : goal.loop-thousands-init
loop-thousands-init c = (5, omega arith, refl, omega arith)

pub loop-thousands-preserved : goal.loop-thousands-preserved
loop-thousands-preserved c =
    let thousands = c.loop-thousands.thousands in
    let inv = c.loop-thousands.invariant in
    let on = dollars_on inv.0 thousands c.loop-thousands.self (omega arith) inv.1 in
    let commas : inv.0 ≡ suc on.0 = on.1 in
    let before = c.push_front.ensures ∙ ap (λ (l : List ℕ). 44 ∷ l) c.push_three_digits.ensures in (
      on.0,
      rw commas at on.2,
      inv.2 ∙ on.3 ∙ ap (dollars_text on.0 (thousands / 1000)) (sym before),
      omega (arith, ap length before),
    )

pub returns-clause-value : goal.returns-clause-value
returns-clause-value c =
    let inv = c.loop-thousands.invariant in
    c.push_first_group.ensures.value ∙ sym (inv.2 ∙ dollars_end inv.0 c.loop-thousands.thousands c.loop-thousands.self (omega arith))
