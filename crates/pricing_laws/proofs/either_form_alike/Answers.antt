-- Theorems that say several things at once.
use Rattle.pricing_laws.proofs.Theorems.Counterparts.{book_in_two_bytes, request_in_two_bytes}
use Rattle.pricing_laws.proofs.Theorems.ZoneForms.{either_form_accepted}
use Rattle.pricing_laws.proofs.either_form_alike.Goals as goal

pub returns-clause-accepted : goal.returns-clause-accepted
returns-clause-accepted c = either_form_accepted

pub returns-clause-book : goal.returns-clause-book
returns-clause-book c = book_in_two_bytes

pub returns-clause-request : goal.returns-clause-request
returns-clause-request c = request_in_two_bytes
