-- The line of a refusal.
use Rattle.std.specs.Prelude.{ℕ, List, ◌++◌, codes, decimal}
use Rattle.tagged.specs.declared.file.Refusal.{Refusal}

-- `REFUSED n file place`
abbrev pub refused_text : Refusal → List ℕ
refused_text r = codes "REFUSED " ++ decimal r.number ++ codes " " ++ decimal r.file ++ codes " " ++ decimal r.place
