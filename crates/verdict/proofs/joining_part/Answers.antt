-- The scheme at its place is the one of that number in the books, and K of the entries is K of the books (joining_placed, given what joining_of ensures).
use Rattle.std.proofs.Common.{sym, ◌∙◌}
use Rattle.verdict.proofs.Deciding.{joining_placed}
use Rattle.verdict.proofs.joining_part.Goals as goal

pub returns-in-Some : goal.returns-in-Some
returns-in-Some c room =
    joining_placed c.args.ledger.now c.args.table.now room c.args.bill.now c.if-bill-eq0.false _ (rw c.from.ensures at (sym c.scheme_at.ensures ∙ c.in-Some.is)) _
    c.joining_of.ensures
