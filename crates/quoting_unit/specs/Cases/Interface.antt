-- Results, buffers and answers in literals: each part of a result in its place, and what is written of an answer.
use Rattle.std.specs.Prelude.{ℕ, ◌≡◌, refl, [], ◌∷◌, map, pos, replicate}
use Rattle.tagged.specs.File.{refusal}
use Rattle.reconciliation.specs.Figures.{figure_values}
use Rattle.reconciliation.specs.SlipReconciliation.{slip_reconciliation}
use Rattle.quoting_unit.specs.Interface.{result_of, number_in, file_in, of_ledger_in, place_in, is_done, is_refused, outcome_of, answer_after}

-- number, file, place and whether of the stored ledger: numbers that a call can come to, and what else there is room for; places to 2^56 − 1 and the next
pub results_told :
    map (λ (t : ℕ × ℕ × ℕ × ℕ). result_of (refusal t.0 t.1 t.2) t.3)
    ((1, 1, 0, 0) ∷ (2, 1, 134, 0) ∷ (3, 2, 123, 0) ∷ (4, 2, 0, 0) ∷ (5, 2, 5, 0) ∷ (6, 0, 0, 0) ∷ (7, 0, 0, 0) ∷ (8, 0, 0, 0) ∷ (9, 0, 0, 0) ∷ (10, 0, 0, 0) ∷
    (11, 0, 0, 0) ∷ (12, 0, 0, 0) ∷ (13, 0, 0, 0) ∷ (14, 0, 0, 0) ∷ (15, 0, 0, 0) ∷ (16, 0, 0, 0) ∷ (31, 3, 0, 1) ∷ [])
    ≡ 33 ∷ 34338 ∷ 31555 ∷ 68 ∷ 1349 ∷ 6 ∷ 7 ∷ 8 ∷ 9 ∷ 10 ∷ 11 ∷ 12 ∷ 13 ∷ 14 ∷ 15 ∷ 16 ∷ 255 ∷ []
results_told = refl

pub ledger_results_told :
    map (λ (t : ℕ × ℕ × ℕ). result_of (refusal t.0 t.1 t.2) 1)
    ((1, 1, 7) ∷ (2, 1, 128) ∷ (3, 1, 3) ∷ (9, 0, 0) ∷ (13, 0, 0) ∷ (1, 1, 72057594037927935) ∷ (1, 1, 72057594037927936) ∷ [])
    ≡ 1953 ∷ 32930 ∷ 931 ∷ 137 ∷ 141 ∷ 18446744073709551521 ∷ 18446744073709551521 ∷ []
ledger_results_told = refl

-- a value of the request at 123, of the stored ledger a check at 128, and the highest of each part, taken apart
pub results_apart :
    (map number_in (31555 ∷ 32930 ∷ 255 ∷ []) ≡ 3 ∷ 2 ∷ 31 ∷ [])
    × (map file_in (31555 ∷ 32930 ∷ 255 ∷ []) ≡ 2 ∷ 1 ∷ 3 ∷ [])
    × (map of_ledger_in (31555 ∷ 32930 ∷ 255 ∷ []) ≡ 0 ∷ 1 ∷ 1 ∷ [])
    × (map place_in (31555 ∷ 32930 ∷ 255 ∷ []) ≡ 123 ∷ 128 ∷ 0 ∷ [])
results_apart = (refl, refl, refl, refl)

-- ---- the figures

-- ME MC CE CC2 TW HR OL IC IR CC NIC NC X entered borne, then reliance, upfront and NC ratio, then the quotient and remainder of each
pub slip_placed :
    figure_values slip_reconciliation
    ≡ pos 1598500 ∷ pos 108000 ∷ pos 0 ∷ pos 0 ∷ pos 0 ∷ pos 0 ∷ pos 0 ∷ pos 1706500 ∷ pos 859800 ∷ pos 1147630 ∷ pos 846700 ∷ pos 300930 ∷ pos 1039630 ∷
    pos 1706500 ∷ pos 558870 ∷ pos 1 ∷ pos 67 ∷ pos 1 ∷ pos 57 ∷ pos 1 ∷ pos 15 ∷ pos 67 ∷ pos 427500 ∷ pos 57 ∷ pos 339490 ∷ pos 14 ∷ pos 1988980 ∷ []
slip_placed = refl

pub answers_written :
    (answer_after (outcome_of (is_done (1 ∷ 2 ∷ 3 ∷ 4 ∷ 5 ∷ []))) (replicate 6 7) ≡ 1 ∷ 2 ∷ 3 ∷ 4 ∷ 5 ∷ 7 ∷ [])
    × (answer_after (outcome_of (is_refused (refusal 3 1 87) 1)) (replicate 6 7) ≡ replicate 6 7)
    × (answer_after (outcome_of (is_refused (refusal 14 0 0) 0)) (replicate 6 7) ≡ replicate 6 7)
answers_written = (refl, refl, refl)
