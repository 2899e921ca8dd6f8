-- The fee is due where the joining pays and its scheme has a place: the clause speaks of every payment and place.
use Rattle.std.proofs.Common.{sym, ◌∙◌}
use Rattle.acceptance.proofs.accept.join.Goals as goal

pub take_fee-requires : goal.take_fee-requires
take_fee-requires c = c.requires.fees _ _ c.in-Pays.is (rw c.from.ensures at (sym c.scheme_at.ensures ∙ c.in-Some.is))
