-- A word taken with one division gives the check of its eight steps.
use Rattle.std.specs.Prelude.{ℕ, suc, ◌+◌, ◌*◌, ◌/◌, ◌%◌, ◌<◌, ◌≤◌, ◌≡◌, refl, length, take, drop}
use Rattle.std.proofs.Common.{ap, ◌∙◌, drop-cons}
use Rattle.std.proofs.Math.Path.{sym}
use mathlib.Core.List.{List, [], ◌∷◌, foldl}
use Rattle.std.proofs.Math.Nat.{mul-add-mod_self_right}
use native.Mathlib.Omega.{arith}
use Rattle.std.proofs.Math.ListN.{get_or}
use Rattle.numbers.specs.Check.{check_step, check_from}
use Rattle.numbers.specs.CheckWords.{word_sum}

-- a step without its division
abbrev undivided : ℕ → ℕ → ℕ
undivided n byte = n * 257 + byte + 1

same_remainder : (n quotient rest : ℕ) → n ≡ quotient * 65521 + rest → n % 65521 ≡ rest % 65521
same_remainder n quotient rest e = ap (λ (m : ℕ). m % 65521) e ∙ mul-add-mod_self_right quotient 65521 rest

-- a step from a remainder has the remainder of the step from the number itself, so that one division after all steps is enough
check_undivided : (n : ℕ) (s : List ℕ) → check_from (n % 65521) s ≡ foldl undivided n s % 65521
unfolding check_from
check_undivided n [] = refl
check_undivided n (byte ∷ s) =
    let step : check_step (n % 65521) byte ≡ undivided n byte % 65521 = sym (same_remainder _ (n / 65521 * 257) _ (omega arith)) in
    ap (λ (h : ℕ). check_from h s) step ∙ check_undivided (undivided n byte) s

bytes_on : (s : List ℕ) (i next width : ℕ) → i < length s → next ≡ suc i → take (suc width) (drop i s) ≡ get_or s i 0 ∷ take width (drop next s)
bytes_on s i next width l e = rw (e, drop-cons s i 0 l)

module _ (s : List ℕ) (at : ℕ) (within : at + 8 ≤ length s) where
  abbrev pub byte : ℕ → ℕ
  byte i = get_or s (at + i) 0

  pub word_bytes : take 8 (drop at s) ≡ get_or s at 0 ∷ byte 1 ∷ byte 2 ∷ byte 3 ∷ byte 4 ∷ byte 5 ∷ byte 6 ∷ byte 7 ∷ []
  word_bytes =
      rw (
        bytes_on s at (at + 1) 7 (omega arith) (omega arith),
        bytes_on s (at + 1) (at + 2) 6 (omega arith) (omega arith),
        bytes_on s (at + 2) (at + 3) 5 (omega arith) (omega arith),
        bytes_on s (at + 3) (at + 4) 4 (omega arith) (omega arith),
        bytes_on s (at + 4) (at + 5) 3 (omega arith) (omega arith),
        bytes_on s (at + 5) (at + 6) 2 (omega arith) (omega arith),
        bytes_on s (at + 6) (at + 7) 1 (omega arith) (omega arith),
        bytes_on s (at + 7) (at + 8) 0 (omega arith) (omega arith),
      )

  -- The powers of 257 hold 65,521 as often as the quotient's factors say, and the eight lower ones together 1,134,604,506,545 times.
  pub check_word : (h : ℕ) → word_sum h s at % 65521 ≡ check_from h (take 8 (drop at s))
  unfolding check_from
  check_word h =
      let first = undivided h (get_or s at 0) in
      let later = byte 1 ∷ byte 2 ∷ byte 3 ∷ byte 4 ∷ byte 5 ∷ byte 6 ∷ byte 7 ∷ [] in
      let high = h * 290458753675937 + get_or s at 0 * 1130189703019 + byte 1 * 4397625303 + byte 2 * 17111382 in
      let quotient = high + byte 3 * 66581 + byte 4 * 259 + byte 5 + 1134604506545 in
      let whole : foldl undivided first later ≡ quotient * 65521 + word_sum h s at = omega arith in
      sym (ap (check_from h) word_bytes ∙ check_undivided first later ∙ same_remainder _ quotient _ whole)
