-- Laws of the credits over columns: one for each entry, all of the amount to entries of the scheme, and nothing to others. They come from the weights, one
-- entry after the other.
use Rattle.std.specs.Prelude.{ℕ, zero, suc, ◌+◌, ◌*◌, ◌/◌, ◌≤◌, ◌<◌, ◌≡◌, refl, List, [], ◌∷◌, Bool, true, false, cond, eqb, length, get_or}
use Rattle.std.proofs.Common.{zero-le, sym, ap, ap₂, ◌∙◌, mul-div_cancel, add-zero, zero-add, add_assoc, mul-zero, arith, ne_eqb}
use Rattle.std.proofs.Math.Nat.{div-le_of_le-mul, zero-div, suc_inj}
use Rattle.ledger.specs.Columns.{sum_over}
use Rattle.ledger.specs.CapacityColumns.{sum_of, capacity_of}
use Rattle.ledger.proofs.Theorems.Columns.{sum_none}
use Rattle.calls.specs.Rules.{contribution, share}
use Rattle.calls.proofs.Theorems.Rules.{growth}
use Rattle.calls.specs.CreditColumns.{weights, shares, credits}

pub get_or_le_sum : (figures : List ℕ) (e : ℕ) → get_or figures e 0 ≤ sum_of figures
get_or_le_sum [] e = zero-le
get_or_le_sum (figure ∷ figures) zero = omega arith
get_or_le_sum (figure ∷ figures) (suc e) = omega (arith, get_or_le_sum figures e)

-- ---- the weights of scheme s
pub length_weights : (s : ℕ) (schemes capacities : List ℕ) → length schemes ≡ length capacities → length (weights s schemes capacities) ≡ length capacities
unfolding weights
length_weights s [] capacities same = same
length_weights s (scheme ∷ schemes) [] same = refl
length_weights s (scheme ∷ schemes) (capacity ∷ capacities) same = ap suc (length_weights s schemes capacities (suc_inj same))

-- K is their sum, whatever the columns' lengths
pub sum_weights : (s : ℕ) (schemes capacities : List ℕ) → sum_over s schemes capacities ≡ sum_of (weights s schemes capacities)
unfolding sum_over weights
sum_weights s [] capacities = refl
sum_weights s (scheme ∷ schemes) [] = refl
sum_weights s (scheme ∷ schemes) (capacity ∷ capacities) = ap (λ rest. cond (eqb scheme s) capacity 0 + rest) (sum_weights s schemes capacities)

weight_other : (s : ℕ) (schemes capacities : List ℕ) (e : ℕ) → (get_or schemes e 0 ≡ s → ⊥) → get_or (weights s schemes capacities) e 0 ≡ 0
unfolding weights
weight_other s [] capacities e other = refl
weight_other s (scheme ∷ schemes) [] e other = refl
weight_other s (scheme ∷ schemes) (capacity ∷ capacities) zero other = ap (λ t. cond t capacity 0) (ne_eqb scheme s other)
weight_other s (scheme ∷ schemes) (capacity ∷ capacities) (suc e) other = weight_other s schemes capacities e other

-- ---- the shares of an amount
pub length_shares : (amount total before : ℕ) (weights : List ℕ) → length (shares amount total before weights) ≡ length weights
unfolding shares
length_shares amount total before [] = refl
length_shares amount total before (weight ∷ others) = ap suc (length_shares amount total (before + weight) others)

-- a weight 0 gets nothing
pub no_share : (amount total before : ℕ) → share amount total before 0 ≡ 0
no_share amount total before = omega (arith, ap (λ x. amount * x / total) (add-zero before))

share_none : (amount total before : ℕ) (weights : List ℕ) (e : ℕ) → get_or weights e 0 ≡ 0 → get_or (shares amount total before weights) e 0 ≡ 0
unfolding shares
share_none amount total before [] e none = refl
share_none amount total before (weight ∷ others) zero none = rw none (no_share amount total before)
share_none amount total before (weight ∷ others) (suc e) none = share_none amount total (before + weight) others e none

-- the shares sum to the quotient's whole growth
pub shares_sum : (amount total before : ℕ) (weights : List ℕ) → 0 < total
    → amount * before / total + sum_of (shares amount total before weights) ≡ amount * (before + sum_of weights) / total
unfolding shares
shares_sum amount total before [] positive = simp add-zero
shares_sum amount total before (weight ∷ others) positive =
    omega (
      arith,
      growth amount total before weight positive,
      shares_sum amount total (before + weight) others positive,
      ap (λ x. amount * x / total) (add_assoc before weight (sum_of others)),
    )

-- ---- the credits of a joining
pub length_credits : (s amount : ℕ) (schemes capacities : List ℕ) → length schemes ≡ length capacities
    → length (credits s amount schemes capacities) ≡ length capacities
length_credits s amount schemes capacities same =
    length_shares amount (capacity_of s schemes capacities) 0 (weights s schemes capacities) ∙ length_weights s schemes capacities same

-- they sum to the amount, G − fee, to the cent
pub credits_sum : (s amount : ℕ) (schemes capacities : List ℕ) → 0 < capacity_of s schemes capacities
    → sum_of (credits s amount schemes capacities) ≡ amount
credits_sum s amount schemes capacities positive =
    let K = capacity_of s schemes capacities in
    let parts = weights s schemes capacities in
    omega (
      arith,
      shares_sum amount K 0 parts positive,
      ap (λ x. amount * x / K) (zero-add (sum_of parts) ∙ sym (sum_weights s schemes capacities)),
      mul-div_cancel amount positive,
      ap (λ x. x / K) (mul-zero amount),
      zero-div K,
    )

-- all of it goes to entries of the scheme
own_share : (t : Bool) (amount total before capacity : ℕ)
    → cond t (share amount total before (cond t capacity 0)) 0 ≡ share amount total before (cond t capacity 0)
own_share true amount total before capacity = refl
own_share false amount total before capacity = sym (no_share amount total before)

shares_own : (s amount total before : ℕ) (schemes capacities : List ℕ)
    → sum_over s schemes (shares amount total before (weights s schemes capacities)) ≡ sum_of (shares amount total before (weights s schemes capacities))
unfolding sum_over weights shares
shares_own s amount total before [] capacities = refl
shares_own s amount total before (scheme ∷ schemes) [] = refl
shares_own s amount total before (scheme ∷ schemes) (capacity ∷ capacities) =
    ap₂ ◌+◌ (own_share (eqb scheme s) amount total before capacity)
    (shares_own s amount total (before + cond (eqb scheme s) capacity 0) schemes capacities)

pub credits_sum_own : (s amount : ℕ) (schemes capacities : List ℕ) → 0 < capacity_of s schemes capacities
    → sum_over s schemes (credits s amount schemes capacities) ≡ amount
credits_sum_own s amount schemes capacities positive =
    shares_own s amount (capacity_of s schemes capacities) 0 schemes capacities ∙ credits_sum s amount schemes capacities positive

-- an entry of another scheme is credited nothing
pub credit_other : (s amount : ℕ) (schemes capacities : List ℕ) (e : ℕ) → (get_or schemes e 0 ≡ s → ⊥)
    → get_or (credits s amount schemes capacities) e 0 ≡ 0
credit_other s amount schemes capacities e other =
    share_none amount (capacity_of s schemes capacities) 0 (weights s schemes capacities) e (weight_other s schemes capacities e other)

-- so over any other scheme the credits sum to 0
pub credits_sum_other : (s other amount : ℕ) (schemes capacities : List ℕ) → (s ≡ other → ⊥)
    → sum_over other schemes (credits s amount schemes capacities) ≡ 0
credits_sum_other s other amount schemes capacities differs =
    sum_none other schemes (credits s amount schemes capacities)
    (λ e h own. credit_other s amount schemes capacities e (λ same. differs (sym same ∙ own)))

-- ---- the contribution G
pub contribution_le_cost : (cost k total : ℕ) → contribution cost k total ≤ cost
contribution_le_cost cost k total = div-le_of_le-mul (total + k) (omega arith)
