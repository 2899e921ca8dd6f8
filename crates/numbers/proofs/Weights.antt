-- The eight bytes of a word, each times its weight, come to what the definition's halves do.
use Rattle.std.specs.Prelude.{ℕ, ◌+◌, ◌*◌, ◌<◌, ◌≤◌, ◌≡◌, length, get_or, map}
use Rattle.std.specs.List.{sum, zip}
use Rattle.std.proofs.Common.{ap, sym, ◌∙◌, arith, take_all}
use mathlib.Core.List.{List, [], ◌∷◌}
use Rattle.numbers.specs.CheckWords.{first_four, last_four}
use Rattle.numbers.proofs.Theorems.CheckWords.{word_bytes}

abbrev pub weights : List ℕ
weights = 13894 ∷ 37786 ∷ 33035 ∷ 16700 ∷ 4654 ∷ 528 ∷ 257 ∷ 1 ∷ []

abbrev pub product : ℕ × ℕ → ℕ
product p = p.0 * p.1

pub weighed : (word : List ℕ) → length word ≡ 8 → sum (map product (zip word weights)) ≡ first_four word 0 + last_four word 0
weighed word long =
    let bytes = sym (take_all 8 word (omega arith)) ∙ word_bytes word 0 (omega arith) in
    ap (λ (s : List ℕ). sum (map product (zip s weights))) bytes ∙ omega arith

pub weighed_below : (word : List ℕ) → ((k : ℕ) → get_or word k 0 < 256) → first_four word 0 + last_four word 0 ≤ 27248025
weighed_below word h = omega (arith, h 0, h 1, h 2, h 3, h 4, h 5, h 6, h 7)
