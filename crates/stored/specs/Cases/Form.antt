-- Lengths of the shortest and the longest stored form, and of its parts.
use Rattle.std.specs.Prelude.{◌≡◌, refl}
use Rattle.stored.specs.Form.{shortest_form, form_length, longest_form}
use Rattle.stored.specs.declared.form.Form.TheVariants.{Pion, Pio2}

pub form_lengths :
    (shortest_form Pion ≡ 37) × (form_length Pion 1 2 ≡ 130) × (longest_form Pion ≡ 18661)
    × (shortest_form Pio2 ≡ 69) × (form_length Pio2 1 2 ≡ 174) × (longest_form Pio2 ≡ 20997)
form_lengths = (refl, refl, refl, refl, refl, refl)
