-- Document 01, 'Charge and reconciliation': "A tier costs ⌊rate × demand / 100⌋; 0 in mode 1. A bespoke rate is allowed only where the posted rate
-- isn't 0 and the bespoke is above 150% or below 80% of it. MC sums the tiers of field 06; CC2 sums the demands of field 07 at the same rates and modes."
use Rattle.std.specs.Prelude.{ℕ, ◌+◌, ◌*◌, ◌/◌, List, Bool, true, false, None, Option, Some, if◌then◌else◌, ◌==◌, nat_lt, slice_index}
use Rattle.capacity.specs.declared.Tiers.{Tiers}

abbrev pub bespoke_allowed : ℕ → ℕ → Bool
bespoke_allowed posted bespoke =
    if posted == 0 then false
    else if nat_lt (posted * 150) (bespoke * 100) then true else nat_lt (bespoke * 100) (posted * 80)

-- mode, posted rate and bespoke rate of a tier, counted from 0
abbrev pub mode_at : Tiers → ℕ → ℕ
mode_at tiers tier = slice_index tiers.modes tier

abbrev pub posted_at : Tiers → ℕ → ℕ
posted_at tiers tier = slice_index tiers.posted tier

abbrev pub bespoke_at : Tiers → ℕ → ℕ
bespoke_at tiers tier = slice_index tiers.bespoke tier

abbrev pub tier_allowed : Tiers → ℕ → Bool
tier_allowed tiers tier = if mode_at tiers tier == 2 then bespoke_allowed (posted_at tiers tier) (bespoke_at tiers tier) else true

-- the first tier, 1 to 5, whose bespoke rate isn't allowed
abbrev pub first_not_allowed : Tiers → Option ℕ
first_not_allowed tiers =
    if tier_allowed tiers 0 then
    (if tier_allowed tiers 1 then
    (if tier_allowed tiers 2 then
    (if tier_allowed tiers 3 then
    (if tier_allowed tiers 4 then None else Some 5)
    else Some 4)
    else Some 3)
    else Some 2)
    else Some 1

-- the bespoke rate in mode 2, otherwise the posted one
abbrev pub rate_used : ℕ → ℕ → ℕ → ℕ
rate_used mode posted bespoke = if mode == 2 then bespoke else posted

abbrev pub tier_cost : ℕ → ℕ → ℕ → ℕ
tier_cost mode rate demand = if mode == 1 then 0 else rate * demand / 100

abbrev pub cost_at : Tiers → List ℕ → ℕ → ℕ
cost_at tiers demands tier =
    tier_cost (mode_at tiers tier) (rate_used (mode_at tiers tier) (posted_at tiers tier) (bespoke_at tiers tier)) (slice_index demands tier)

abbrev pub capacity_cost : Tiers → List ℕ → ℕ
capacity_cost tiers demands = cost_at tiers demands 0 + cost_at tiers demands 1 + cost_at tiers demands 2 + cost_at tiers demands 3 + cost_at tiers demands 4
