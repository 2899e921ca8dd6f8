-- A priced request's figures are bounded (`priced_within`), and there is room for them; the ending that is promised tells the bill (`promised_price`).
use Rattle.std.proofs.Common.{arith, sym, ◌∙◌}
use Rattle.numbers.specs.BigEndian.{Bytes}
use Rattle.charge.proofs.Theorems.Bill.{priced_within}
use Rattle.charge.proofs.Theorems.PriceEnding.{promised_price}
use Rattle.fikrem_c.proofs.pricing.fikrem_price.Goals as goal

pub write_figures-requires : goal.write_figures-requires
write_figures-requires c =
    let args = c.args in
    let book : Bytes args.book.now = λ k. (c.type_inv.book k).fits in
    let request : Bytes args.request.now = λ k. (c.type_inv.request k).fits in (
      (priced_within _ _ _ book request (sym (promised_price _ _ _ c.price.ensures) ∙ c.in-Ok.is)).figures,
      omega arith,
    )
