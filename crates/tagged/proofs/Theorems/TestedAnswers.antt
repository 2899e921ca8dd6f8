-- What an answer that is tested says of the definition that it equals.
use Rattle.std.specs.Prelude.{◌≡◌, Bool, true, false, not}
use Rattle.std.proofs.Common.{sym, ◌∙◌}
use Rattle.std.proofs.lemmas.Bool.{not-true, not-false}

pub passes : {answer defined : Bool} → answer ≡ defined → not answer ≡ false → defined ≡ true
passes e t = sym e ∙ not-false _ t

pub fails : {answer defined : Bool} → answer ≡ defined → not answer ≡ true → defined ≡ false
fails e t = sym e ∙ not-true _ t
