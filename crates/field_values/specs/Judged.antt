-- Document 01, 'How calls end': 3, "value or letters not as listed" under 'Rate book' or 'Request', at "the value's first byte", "in byte order".
use Rattle.std.specs.Prelude.{ℕ, ◌+◌, List, [], ◌∷◌, Bool, true, false, length, take, drop, Err, Ok, Result, if◌then◌else◌, ◌==◌, nat_lt, nat_le, slice_index}
use Rattle.numbers.specs.BigEndian.{number}
use Rattle.tagged.specs.Find.{field_start, field_value}

-- the value passes, or the place of what fails
abbrev pub Judged : Type 0
Judged = Result (Unit {0}) ℕ

abbrev pub judge : Bool → ℕ → Judged
judge true at = Ok tt
judge false at = Err at

abbrev pub in_order : Judged → Judged → Judged
in_order (Ok _) second = second
in_order (Err at) second = Err at

-- of judgements in byte order, the first that fails
abbrev pub first_failure : List Judged → Judged
first_failure [] = Ok tt
first_failure (judged ∷ later) = in_order judged (first_failure later)

-- A limit: the width of a number, its lowest and its highest value.
abbrev pub width_of : List ℕ → ℕ
width_of limit = slice_index limit 0

abbrev pub within : List ℕ → ℕ → Bool
within limit n = if nat_lt n (slice_index limit 1) then false else nat_le n (slice_index limit 2)

-- the numbers of a value that starts at the offset `at`, one after the other, against a limit each; the value may end before the limits do
unfoldable pub judge_numbers : List (List ℕ) → ℕ → List ℕ → Judged
judge_numbers [] at value = Ok tt
judge_numbers (limit ∷ limits) at value =
    let later = judge_numbers limits (at + width_of limit) (drop (width_of limit) value) in
    if nat_lt (length value) (width_of limit) then Ok tt
    else if within limit (number (take (width_of limit) value)) then later else Err at

-- the numbers of the field with this tag
abbrev pub judge_field : List (List ℕ) → ℕ → List ℕ → Judged
judge_field limits tag s = judge_numbers limits (field_start tag s) (field_value tag s)

unfoldable pub same_bytes : List ℕ → List ℕ → Bool
same_bytes [] [] = true
same_bytes [] (b ∷ bs) = false
same_bytes (a ∷ as') [] = false
same_bytes (a ∷ as') (b ∷ bs) = if a == b then same_bytes as' bs else false

-- the letters in field 01
abbrev pub judge_letters : List ℕ → List ℕ → Judged
judge_letters letters s = judge (same_bytes (field_value 1 s) letters) (field_start 1 s)
