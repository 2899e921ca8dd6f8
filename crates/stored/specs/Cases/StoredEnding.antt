-- How reading and writing end, in literals.
use Rattle.std.specs.Prelude.{◌≡◌, refl, [], ◌∷◌, pos, Err, Ok}
use Rattle.tagged.specs.FileEnding.{file_ending}
use Rattle.tagged.specs.File.{refusal}
use Rattle.stored.specs.StoredEnding.{written_ending}

-- ---- reading: the ledger stands beside this answer
pub read_ending_cases_hold :
    (file_ending (Ok tt) ≡ record { number = 0; file = 0; place = 0; values = [] }) ×
    (file_ending (Err (refusal 2 1 35)) ≡ record { number = 2; file = 1; place = 35; values = [] })
read_ending_cases_hold = (refl, refl)

pub write_ending_cases_hold :
    (written_ending (Ok 97) ≡ record { number = 0; file = 0; place = 0; values = pos 97 ∷ [] }) ×
    (written_ending (Err (refusal 14 0 0)) ≡ record { number = 14; file = 0; place = 0; values = [] })
write_ending_cases_hold = (refl, refl)
