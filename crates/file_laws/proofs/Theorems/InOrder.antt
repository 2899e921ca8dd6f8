-- Values that are judged one after the other.
use Rattle.std.specs.Prelude.{◌≡◌}
use Rattle.std.proofs.Common.{ap₂, ◌∙◌}
use Rattle.field_values.specs.Judged.{in_order, Judged}

pub in_order_same : {judged first second first' second' : Judged} → judged ≡ in_order first second → first ≡ first' → second ≡ second' →
    judged ≡ in_order first' second'
in_order_same e f g = e ∙ ap₂ in_order f g
