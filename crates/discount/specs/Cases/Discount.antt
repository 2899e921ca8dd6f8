-- Discount factors in literals: document 01's M2, the limits of the rate, and the factors that planning staff compare.
use Rattle.std.specs.Prelude.{ℕ, zero, suc, ◌+◌, ◌*◌, ◌≡◌, refl, List, [], ◌∷◌, map}
use Rattle.discount.specs.Discount.{discount}

-- M2: "b 463: F(1) 95,574,882; F(2) 91,345,581."
pub marked_factors : (discount 463 1 ≡ 95574882) × (discount 463 2 ≡ 91345581)
unfolding discount
marked_factors = (refl, refl)

-- the rate's limits, 0 and 10,000
pub discounts_at_limits : (discount 0 30 ≡ 100000000) × (discount 10000 1 ≡ 50000000) × (discount 10000 26 ≡ 1) × (discount 10000 27 ≡ 0)
unfolding discount
discounts_at_limits = (refl, refl, refl, refl)

-- rate, year and factor. Few of these are the exact value rounded down: each year's rounding stays in the later ones.
abbrev pub compared_factors : List (ℕ × ℕ × ℕ)
compared_factors =
    (300, 0, 100000000) ∷
    (300, 1, 97087378) ∷
    (300, 2, 94259590) ∷
    (300, 29, 42434627) ∷
    (300, 30, 41198666) ∷
    (450, 15, 51672040) ∷
    (600, 1, 94339622) ∷
    (600, 2, 88999643) ∷
    (600, 29, 18455666) ∷
    (600, 30, 17411005) ∷
    []

pub compared_factors_lem : map (λ t. discount t.0 t.1) compared_factors ≡ map (λ t. t.2) compared_factors
unfolding discount
compared_factors_lem = refl

-- year 30 of the rates 300 to 600 in steps of 25
abbrev pub last_factors : List (ℕ × ℕ)
last_factors =
    (300, 41198666) ∷
    (325, 38308758) ∷
    (350, 35627832) ∷
    (375, 33140322) ∷
    (400, 30831858) ∷
    (425, 28689169) ∷
    (450, 26699995) ∷
    (475, 24853006) ∷
    (500, 23137736) ∷
    (525, 21544514) ∷
    (550, 20064394) ∷
    (575, 18689107) ∷
    (600, 17411005) ∷
    []

pub last_factors_lem : map (λ t. discount t.0 30) last_factors ≡ map (λ t. t.1) last_factors
unfolding discount
last_factors_lem = refl

-- all 403 factors of these rates
abbrev pub sum_of_years : ℕ → ℕ → ℕ
sum_of_years b zero = 0
sum_of_years b (suc n) = sum_of_years b n + discount b n

abbrev pub sum_of_rates : ℕ → ℕ
sum_of_rates zero = 0
sum_of_rates (suc k) = sum_of_rates k + sum_of_years (300 + 25 * k) 31

pub sum_of_factors : sum_of_rates 13 ≡ 22673993779
unfolding discount
sum_of_factors = refl
