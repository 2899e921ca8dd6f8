-- The laws of a refused slip and of the ending are theorems beside them.
use Rattle.slip_text.proofs.Theorems.Slip.{refused_slip_changes_nothing}
use Rattle.slip_text.proofs.Theorems.SlipEnding.{slip_by_number, slip_by_ending, promised_slip}
use Rattle.pricing_laws.proofs.slip_ends.Goals as goal

pub returns-clause-refused : goal.returns-clause-refused
returns-clause-refused c = refused_slip_changes_nothing

pub returns-clause-number : goal.returns-clause-number
returns-clause-number c = slip_by_number

pub returns-clause-ending : goal.returns-clause-ending
returns-clause-ending c = slip_by_ending

pub returns-clause-promised : goal.returns-clause-promised
returns-clause-promised c = promised_slip
