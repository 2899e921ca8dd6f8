-- The bytes of fields, and of the file that they make up.
use Rattle.std.specs.Prelude.{ℕ, length}
use mathlib.Core.List.{List, [], ◌∷◌, ◌++◌, flat_map}
use Rattle.numbers.specs.BigEndian.{bytes_of}
use Rattle.numbers.specs.Check.{check}

-- "A field is a one-byte tag, a two-byte length, then the value": its bytes.
abbrev pub encoded : ℕ → List ℕ → List ℕ
encoded tag value = tag ∷ bytes_of 2 (length value) ++ value

-- the bytes of tags and values, field after field
abbrev pub encoded_parts : List (ℕ × List ℕ) → List ℕ
encoded_parts parts = flat_map (λ part. encoded part.0 part.1) parts

-- the file of these fields: after them FF, the length 2 and the check
abbrev pub closed : List (ℕ × List ℕ) → List ℕ
closed parts = let checked = encoded_parts parts ++ (255 ∷ 0 ∷ 2 ∷ []) in checked ++ bytes_of 2 (check checked)
