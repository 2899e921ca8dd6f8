-- Document 01, 'How things are counted': "Files are big endian." Numbers in a file.
use Rattle.std.specs.Prelude.{ℕ, zero, suc, ◌+◌, ◌*◌, ◌/◌, ◌%◌, ◌^◌, ◌<◌, take, drop, slice_index}
use mathlib.Core.List.{List, [], ◌∷◌, foldl}

-- every element of the list is a byte
abbrev pub Bytes : List ℕ → Type 0
Bytes s = (k : ℕ) → slice_index s k < 256

-- the number that bytes spell, the first byte highest
unfoldable pub number : List ℕ → ℕ
number bytes = foldl (λ n byte. n * 256 + byte) 0 bytes

-- the number that the `width` bytes from a place on spell
abbrev pub number_at : List ℕ → ℕ → ℕ → ℕ
number_at s at width = number (take width (drop at s))

-- a number as `width` bytes
unfoldable pub bytes_of : ℕ → ℕ → List ℕ
bytes_of zero n = []
bytes_of (suc width) n = n / 256 ^ width ∷ bytes_of width (n % 256 ^ width)
