-- Short lists put at the start of others, turned round and summed.
use Rattle.std.specs.Prelude.{ℕ, ◌≡◌, refl, [], ◌∷◌}
use Rattle.ledger.specs.Lists.{at_start, oldest_first, sum_by}

pub put_at_start :
    (at_start {A = ℕ} [] (7 ∷ 8 ∷ []) ≡ 7 ∷ 8 ∷ [])
    × (at_start {A = ℕ} (1 ∷ 2 ∷ []) (7 ∷ 8 ∷ 9 ∷ 10 ∷ []) ≡ 1 ∷ 2 ∷ 9 ∷ 10 ∷ [])
    × (at_start {A = ℕ} (1 ∷ 2 ∷ []) (7 ∷ 8 ∷ []) ≡ 1 ∷ 2 ∷ [])
    × (at_start {A = ℕ} (1 ∷ 2 ∷ []) (7 ∷ []) ≡ 1 ∷ 2 ∷ [])
put_at_start = (refl, refl, refl, refl)

pub turned_round : (oldest_first {A = ℕ} [] ≡ []) × (oldest_first {A = ℕ} (3 ∷ 2 ∷ 1 ∷ []) ≡ 1 ∷ 2 ∷ 3 ∷ [])
turned_round = (refl, refl)

pub summed : (sum_by (λ n. n) [] ≡ 0) × (sum_by (λ n. n) (5000000000 ∷ 70000 ∷ 3 ∷ []) ≡ 5000070003)
summed = (refl, refl)
