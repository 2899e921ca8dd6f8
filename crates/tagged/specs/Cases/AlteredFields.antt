-- Files with one field altered, as tags and values: the rows of each kind of file's own table.
use Rattle.std.specs.Prelude.{ℕ, suc, ◌+◌, List, [], ◌∷◌, ◌++◌, map, get_or, set, take, drop, replicate, Err}
use Rattle.tagged.specs.File.{refusal, FileAnswer}

-- fields with these tags and lengths, of zeros
abbrev pub zeros : List (ℕ × ℕ) → List (ℕ × List ℕ)
zeros lengths = map (λ field. (field.0, replicate field.1 0)) lengths

-- another value for the field at an index of the list
abbrev pub put : ℕ → List ℕ → List (ℕ × List ℕ) → List (ℕ × List ℕ)
put k value parts = set parts k ((get_or parts k (0, [])).0, value)

-- the field at an index left out, twice, a byte longer and a byte shorter
abbrev pub without : ℕ → List (ℕ × List ℕ) → List (ℕ × List ℕ)
without k parts = take k parts ++ drop (k + 1) parts

abbrev pub twice : ℕ → List (ℕ × List ℕ) → List (ℕ × List ℕ)
twice k parts = take (k + 1) parts ++ drop k parts

abbrev pub longer : ℕ → List (ℕ × List ℕ) → List (ℕ × List ℕ)
longer k parts = put k (0 ∷ (get_or parts k (0, [])).1) parts

abbrev pub shorter : ℕ → List (ℕ × List ℕ) → List (ℕ × List ℕ)
shorter k parts = put k (drop 1 (get_or parts k (0, [])).1) parts

-- with so many bytes
abbrev pub sized : ℕ → ℕ → List (ℕ × List ℕ) → List (ℕ × List ℕ)
sized size k parts = put k (replicate size 0) parts

-- the file's fields altered at the index k, then at the next ones, each with the place of its refusal with 1
abbrev pub stopping : ℕ → (ℕ → List (ℕ × List ℕ) → List (ℕ × List ℕ)) → List (ℕ × List ℕ) → ℕ → List ℕ → List (List (ℕ × List ℕ) × FileAnswer)
stopping file altered parts k [] = []
stopping file altered parts k (place ∷ places) = (altered k parts, Err (refusal 1 file place)) ∷ stopping file altered parts (suc k) places
