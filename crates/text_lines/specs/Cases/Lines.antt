-- Texts in literals: no line, lines with each end and without one, a mark, a separator that is said, and what is no text.
use Rattle.std.specs.Prelude.{◌≡◌, ◌++◌, refl, codes, [], ◌∷◌}
use Rattle.text_lines.specs.declared.lines.Form.TheVariants.{Utf8, Utf16, Zip, Binary}
use Rattle.text_lines.specs.Lines.{form_of, without_mark, first_line, behind_line, separator_said}
use Rattle.text_lines.specs.TextLines.{lines_from, lines_of}

pub texts_in_lines :
    (lines_of [] ≡ [])
    × (lines_of (codes "a") ≡ codes "a" ∷ [])
    × (lines_of (codes "a\n") ≡ codes "a" ∷ [])
    × (lines_of (codes "\n") ≡ [] ∷ [])
    × (lines_of (codes "a\n\nb") ≡ codes "a" ∷ [] ∷ codes "b" ∷ [])
    × (lines_of (codes "a" ++ (13 ∷ 10 ∷ codes "b" ++ (13 ∷ []))) ≡ codes "a" ∷ codes "b" ∷ [])
    × (lines_of (13 ∷ 13 ∷ 10 ∷ []) ≡ (13 ∷ []) ∷ [])
unfolding first_line behind_line lines_from
texts_in_lines = (refl, refl, refl, refl, refl, refl, refl)

pub marks_left_out : (without_mark (239 ∷ 187 ∷ 191 ∷ codes "a") ≡ codes "a") × (without_mark (239 ∷ 187 ∷ []) ≡ 239 ∷ 187 ∷ []) × (without_mark (codes "a") ≡ codes "a")
unfolding without_mark
marks_left_out = (refl, refl, refl)

pub separators_said :
    (separator_said (codes "sep=;") ≡ 59)
    × (separator_said (codes "SEP=,") ≡ 44)
    × (separator_said (codes "sep=\t") ≡ 9)
    × (separator_said (codes "sep=x") ≡ 0)
    × (separator_said (codes "sep=") ≡ 0)
    × (separator_said (codes "sep=;;") ≡ 0)
    × (separator_said (codes "sap=;") ≡ 0)
unfolding separator_said
separators_said = (refl, refl, refl, refl, refl, refl, refl)

pub forms_told :
    (form_of [] ≡ Utf8)
    × (form_of (codes "a") ≡ Utf8)
    × (form_of (239 ∷ 187 ∷ 191 ∷ []) ≡ Utf8)
    × (form_of (255 ∷ 254 ∷ 97 ∷ 0 ∷ []) ≡ Utf16)
    × (form_of (254 ∷ 255 ∷ []) ≡ Utf16)
    × (form_of (255 ∷ []) ≡ Utf8)
    × (form_of (80 ∷ 75 ∷ 3 ∷ 4 ∷ 0 ∷ []) ≡ Zip)
    × (form_of (codes "PK") ≡ Utf8)
    × (form_of (97 ∷ 0 ∷ []) ≡ Binary)
    × (form_of (0 ∷ []) ≡ Binary)
unfolding form_of
forms_told = (refl, refl, refl, refl, refl, refl, refl, refl, refl, refl)
