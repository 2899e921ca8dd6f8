-- Document 02, E2: the check, "a word of eight bytes at a time". A word takes one division.
use Rattle.std.specs.Prelude.{ℕ, ◌+◌, ◌*◌, List, slice_index}

-- what the first four bytes of the word at a place add to its check, and the last four: a byte is multiplied by 257 for each byte of
-- the word after it, modulo 65,521
abbrev pub first_four : List ℕ → ℕ → ℕ
first_four s at = slice_index s at * 13894 + slice_index s (at + 1) * 37786 + slice_index s (at + 2) * 33035 + slice_index s (at + 3) * 16700

abbrev pub last_four : List ℕ → ℕ → ℕ
last_four s at = slice_index s (at + 4) * 4654 + slice_index s (at + 5) * 528 + slice_index s (at + 6) * 257 + slice_index s (at + 7)

-- the number whose remainder is the check h after that word: h is multiplied by 257 to the eighth, and the 1 that comes with each byte
-- by the power that its byte is multiplied by, which makes the eight powers' sum
abbrev pub word_sum : ℕ → List ℕ → ℕ → ℕ
word_sum h s at = h * 32624 + (first_four s at + last_four s at) + 106855
