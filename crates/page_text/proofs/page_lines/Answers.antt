-- Each line is the definition's, in its order: by the contract of `unsigned_line`, or by that of `line` at a signed amount.
use Rattle.std.proofs.Common.{rules}
use mir.Syntax.{w64}
use mir.Val.{SFits}
use mir.ValLaws.{to_z-of_z}
use Rattle.page_text.specs.Page.{amount_text}
use Rattle.page_text.proofs.page_lines.Goals as goal

pub returns : goal.returns
returns c =
    let r = c.args.r.now in
    let nic : SFits w64 r.nic = search rules in
    let nc : SFits w64 r.nc = search rules in
    rw (
      c.line.ensures (amount_text r.nic) (rw (to_z-of_z w64 r.nic nic) at c.signed_amount.ensures.value),
      c.line-2.ensures (amount_text r.nc) (rw (to_z-of_z w64 r.nc nc) at c.signed_amount-2.ensures.value),
      c.unsigned_line.ensures,
      c.unsigned_line-2.ensures,
      c.unsigned_line-3.ensures,
      c.unsigned_line-4.ensures,
      c.unsigned_line-5.ensures,
      c.unsigned_line-6.ensures,
      c.unsigned_line-7.ensures,
      c.unsigned_line-8.ensures,
      c.unsigned_line-9.ensures,
      c.unsigned_line-10.ensures,
    )
