-- Document 01, 'Marked figures', M4 and M5, for the tiers, and the rows on either side of each limit.
use Rattle.std.specs.Prelude.{ℕ, ◌≡◌, refl, true, false, List, [], ◌∷◌, replicate, None, Some}
use Rattle.capacity.specs.Capacity.{bespoke_allowed, first_not_allowed, tier_cost, cost_at, capacity_cost}
use Rattle.capacity.specs.declared.Tiers.{Tiers}

-- M5: "posted 8,500: 12,751 and 6,799 allowed; 12,750 and 6,800 not", and "only where the posted rate isn't 0"
pub bespoke_marked_figures :
    (bespoke_allowed 8500 12751 ≡ true)
    × (bespoke_allowed 8500 6799 ≡ true)
    × (bespoke_allowed 8500 12750 ≡ false)
    × (bespoke_allowed 8500 6800 ≡ false)
    × ((bespoke : ℕ) → bespoke_allowed 0 bespoke ≡ false)
bespoke_marked_figures = (refl, refl, refl, refl, λ bespoke. refl)

-- "A tier costs ⌊rate × demand / 100⌋; 0 in mode 1"
pub tier_cost_cases :
    (tier_cost 0 1 99 ≡ 0)
    × (tier_cost 0 1 100 ≡ 1)
    × (tier_cost 0 1 199 ≡ 1)
    × (tier_cost 2 1 100 ≡ 1)
    × ((rate demand : ℕ) → tier_cost 1 rate demand ≡ 0)
tier_cost_cases = (refl, refl, refl, refl, λ rate demand. refl)

abbrev pub tiers_of : List ℕ → List ℕ → List ℕ → Tiers
tiers_of modes posted bespoke = record { modes = modes; posted = posted; bespoke = bespoke }

-- posted 100 in each tier, so that 150 and 80 are not allowed, and 151 and 79 are
abbrev pub rates_against_100 : List ℕ → List ℕ → Tiers
rates_against_100 modes bespoke = tiers_of modes (replicate 5 100) bespoke

-- modes 0, 1 and 2 at posted 100 and bespoke 151
abbrev pub three_modes : Tiers
three_modes = rates_against_100 (0 ∷ 1 ∷ 2 ∷ 0 ∷ 0 ∷ []) (replicate 5 151)

-- mode 0 is at the posted rate, mode 1 costs nothing, mode 2 is at the bespoke rate
pub mode_cases :
    (cost_at three_modes (replicate 5 100) 0 ≡ 100)
    × (cost_at three_modes (replicate 5 100) 1 ≡ 0)
    × (cost_at three_modes (replicate 5 100) 2 ≡ 151)
mode_cases = (refl, refl, refl)

-- the place of refusal 5 is the first tier whose bespoke rate isn't allowed, 1 to 5
pub first_not_allowed_cases :
    (first_not_allowed (rates_against_100 (replicate 5 2) (replicate 5 151)) ≡ None)
    × (first_not_allowed (rates_against_100 (replicate 5 2) (150 ∷ 151 ∷ 151 ∷ 151 ∷ 151 ∷ [])) ≡ Some 1)
    × (first_not_allowed (rates_against_100 (replicate 5 2) (151 ∷ 79 ∷ 151 ∷ 79 ∷ 80 ∷ [])) ≡ Some 5)
    × (first_not_allowed (rates_against_100 (replicate 5 2) (151 ∷ 80 ∷ 151 ∷ 150 ∷ 151 ∷ [])) ≡ Some 2)
    × (first_not_allowed (rates_against_100 (replicate 5 2) (151 ∷ 79 ∷ 150 ∷ 80 ∷ 150 ∷ [])) ≡ Some 3)
    × (first_not_allowed (rates_against_100 (0 ∷ 1 ∷ 2 ∷ 1 ∷ 0 ∷ []) (replicate 5 150)) ≡ Some 3)
    × (first_not_allowed (rates_against_100 (0 ∷ 1 ∷ 0 ∷ 2 ∷ 0 ∷ []) (replicate 5 150)) ≡ Some 4)
    × (first_not_allowed (rates_against_100 (0 ∷ 1 ∷ 0 ∷ 1 ∷ 0 ∷ []) (replicate 5 150)) ≡ None)
first_not_allowed_cases = (refl, refl, refl, refl, refl, refl, refl, refl)

-- M4: "the slip's MC 108,000"
pub capacity_marked_figures :
    capacity_cost (tiers_of (replicate 5 0) (0 ∷ 0 ∷ 8500 ∷ 38000 ∷ 10000 ∷ []) (replicate 5 0)) (400 ∷ 400 ∷ 200 ∷ 200 ∷ 150 ∷ []) ≡ 108000
capacity_marked_figures = refl

-- five tiers that all differ, each in mode 0 at 10,040, 3,089, 3,244, 1,255 and 3,587, and in different modes; and the highest rates and demands
abbrev five_rates : List ℕ
five_rates = 1001 ∷ 607 ∷ 809 ∷ 409 ∷ 1700 ∷ []

abbrev five_demands : List ℕ
five_demands = 1003 ∷ 509 ∷ 401 ∷ 307 ∷ 211 ∷ []

pub capacity_cost_cases :
    (capacity_cost (tiers_of (replicate 5 0) five_rates (replicate 5 0)) five_demands ≡ 21215)
    × (capacity_cost (tiers_of (2 ∷ 0 ∷ 1 ∷ 2 ∷ 0 ∷ []) (7 ∷ 607 ∷ 809 ∷ 11 ∷ 1700 ∷ []) (1001 ∷ 13 ∷ 17 ∷ 409 ∷ 19 ∷ [])) five_demands ≡ 17971)
    × (capacity_cost (tiers_of (replicate 5 0) (replicate 5 10000000) (replicate 5 0)) (replicate 5 1000000) ≡ 500000000000)
capacity_cost_cases = (refl, refl, refl)
