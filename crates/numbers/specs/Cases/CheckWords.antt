-- The check by computed cases: one byte less than a word, a word and one byte more, of one word and of two; and a word's sum at its highest.
use Rattle.std.specs.Prelude.{ℕ, ◌≡◌, refl, List, [], ◌∷◌, ◌++◌, map, replicate, take}
use Rattle.numbers.specs.Check.{check_from, check}
use Rattle.numbers.specs.CheckWords.{word_sum}

abbrev counting : List ℕ
counting = 0 ∷ 1 ∷ 2 ∷ 3 ∷ 4 ∷ 5 ∷ 6 ∷ 7 ∷ 8 ∷ 9 ∷ 10 ∷ 11 ∷ 12 ∷ 13 ∷ 14 ∷ 15 ∷ 16 ∷ []

abbrev lengths : List ℕ
lengths = 7 ∷ 8 ∷ 9 ∷ 15 ∷ 16 ∷ 17 ∷ []

pub check_cases :
    (map (λ (n : ℕ). check (replicate n 255)) lengths ≡ 13893 ∷ 32623 ∷ 63200 ∷ 3577 ∷ 2251 ∷ 54595 ∷ [])
    × (map (λ (n : ℕ). check (take n counting)) lengths ≡ 45719 ∷ 21532 ∷ 29969 ∷ 65398 ∷ 33926 ∷ 4706 ∷ [])
unfolding check_from
check_cases = (refl, refl)

-- a word that comes to the highest check, 65,520; from there a word of FF has the highest sum, and comes to 65,520 again
abbrev highest : List ℕ
highest = 0 ∷ 0 ∷ 0 ∷ 0 ∷ 0 ∷ 0 ∷ 94 ∷ 28 ∷ []

pub highest_cases : (check highest ≡ 65520) × (word_sum 65520 (replicate 8 255) 0 ≡ 2164879360) × (check (highest ++ replicate 8 255) ≡ 65520)
unfolding check_from
highest_cases = (refl, refl, refl)
