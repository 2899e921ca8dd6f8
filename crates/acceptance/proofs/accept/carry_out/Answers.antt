-- A verdict that accepts gives what the answer, booking and joining need (due).
use Rattle.acceptance.proofs.Carrying.{due}
use Rattle.acceptance.proofs.accept.carry_out.Goals as goal

pub acceptance_of-acceptance-requires : goal.acceptance_of-acceptance-requires
acceptance_of-acceptance-requires c opens =
    ((due _ _ _ _ c.requires.stands c.requires.places c.requires.accepts c.requires.within).opening opens).1

pub book-requires : goal.book-requires
book-requires c = ((due _ _ _ _ c.requires.stands c.requires.places c.requires.accepts c.requires.within).bookable, c.requires.within)

pub join-requires-clause-fees : goal.join-requires-clause-fees
join-requires-clause-fees c = rw c.book.ensures (due _ _ _ _ c.requires.stands c.requires.places c.requires.accepts c.requires.within).fees

pub join-requires-clause-credits : goal.join-requires-clause-credits
join-requires-clause-credits c = rw c.book.ensures (due _ _ _ _ c.requires.stands c.requires.places c.requires.accepts c.requires.within).credits
