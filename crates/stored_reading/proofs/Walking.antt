-- Of fields of a stored ledger, that they walk, in the form that `StoredFields` keeps; and so how long the head is, and how many entries there may be.
use Rattle.std.specs.Prelude.{ℕ, List, Ok, true, length, ◌≡◌, ◌≤◌}
use Rattle.std.proofs.Math.Path.{refl}
use Rattle.field_walk.specs.Walk.{Walk, fields, stops, walk}
use Rattle.field_walk.specs.Walked.{walked}
use Rattle.field_walk.specs.FieldsWalk.{FieldsWalk}
use Rattle.tagged.specs.Find.{field_value, fields_of}
use Rattle.ledger.specs.Limits.{most_schemes, most_entries}
use Rattle.stored.specs.StoredRows.{head_size, stored_rows}
use Rattle.stored.specs.Form.{scheme_of_bytes, party_of_bytes, each_with}
use Rattle.stored.proofs.Theorems.StoredFields.{head_found, few_schemes_collected, few_entries_collected}
use Rattle.std.proofs.Common.{ap, ◌∙◌}
use Rattle.ledger.specs.Sound.{schemes_rise}
use Rattle.stored.specs.Form.{stored_ledger}
use Rattle.stored.proofs.Theorems.Places.{schemes_rise_read}
use Rattle.stored.specs.declared.form.Form.{Form}
use Rattle.stored.specs.declared.form.Form.TheVariants.{Pion}

walks_when : (rows : List (List ℕ)) (s : List ℕ) (w : Walk) → walk rows s ≡ w → walked w ≡ Ok tt → FieldsWalk rows s
walks_when rows s (fields fs) e h = (fs, e)
walks_when rows s (stops at) e h = absurd (cc)

module _ (form : Form) (s : List ℕ) (h : walked (walk (stored_rows form) s) ≡ Ok tt) where
  pub fields_walk : FieldsWalk (stored_rows form) s
  fields_walk = walks_when (stored_rows form) s (walk (stored_rows form) s) refl h

  pub head_long : length (field_value 2 s) ≡ head_size form
  head_long = head_found form s fields_walk

  pub few_entries_walked : length (each_with (party_of_bytes form) 1 4 s (fields_of s)) ≤ most_entries
  few_entries_walked = few_entries_collected form s fields_walk

  pub few_schemes_walked : length (each_with (scheme_of_bytes form) 1 3 s (fields_of s)) ≤ most_schemes
  few_schemes_walked = few_schemes_collected form s fields_walk

-- the schemes of an old file are numbered by their places
pub schemes_rise_when : (form : Form) (s : List ℕ) → form ≡ Pion → schemes_rise (stored_ledger form s) ≡ true
schemes_rise_when form s old = ap (λ one. schemes_rise (stored_ledger one s)) old ∙ schemes_rise_read s
