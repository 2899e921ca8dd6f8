-- Document 01, 'How calls end': the file of a refusal is "1 book or a file read alone; 2 request, and for 4 and 5".
use Rattle.std.specs.Prelude.{◌⊎◌}
use Rattle.tagged.specs.FileStands.{RefusalTo}
use Rattle.tagged.specs.Refusals.{value_not_listed, bespoke_not_allowed}
use Rattle.tagged.specs.declared.file.Refusal.{Refusal}

abbrev pub PricingRefusal : Refusal → Type 0
PricingRefusal r = RefusalTo value_not_listed 1 r ⊎ RefusalTo bespoke_not_allowed 2 r
