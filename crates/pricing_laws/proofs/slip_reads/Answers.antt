-- Theorems that say several things at once.
use Rattle.slip_text.proofs.Theorems.ExactLines.{decimal_one_way, signed_one_way, slip_says_exact}
use Rattle.pricing_laws.proofs.slip_reads.Goals as goal

pub returns-clause-exact : goal.returns-clause-exact
returns-clause-exact c = slip_says_exact

pub returns-clause-unsigned : goal.returns-clause-unsigned
returns-clause-unsigned c = decimal_one_way

pub returns-clause-signed : goal.returns-clause-signed
returns-clause-signed c = signed_one_way
