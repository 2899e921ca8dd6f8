-- No bytes are the number 0.
use Rattle.std.proofs.Common.{sym}
use Rattle.text_shown.proofs.Numbers.{none_in}
use Rattle.text_shown.proofs.values.number_in.Goals as goal

pub returns-in-0 : goal.returns-in-0
returns-in-0 c = sym (none_in c.args.fields.now c.args.at c.args.width c.in-0.is)
