-- Numbers of a short list and beside it.
use Rattle.std.specs.Prelude.{◌≡◌, refl, [], ◌∷◌, map, true, false}
use Rattle.ledger.specs.RefusalNumbers.{one_of, one_to}

pub numbers_found :
    (map (one_of (9 ∷ 3 ∷ 13 ∷ [])) (2 ∷ 3 ∷ 4 ∷ 9 ∷ 10 ∷ 13 ∷ 14 ∷ []) ≡ false ∷ true ∷ false ∷ true ∷ false ∷ true ∷ false ∷ [])
    × (one_of [] 0 ≡ false)
    × (one_to 0 ≡ [])
    × (one_to 4 ≡ 4 ∷ 3 ∷ 2 ∷ 1 ∷ [])
numbers_found = (refl, refl, refl, refl)
