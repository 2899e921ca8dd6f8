-- Texts that grow at their end, and the digits that a figure adds to one.
use mathlib.Core.Path.{◌≡◌, ap, sym, ◌∙◌}
use mathlib.Core.List.{List, [], ◌∷◌, ◌++◌, append_assoc, append-nil, flatten}
use Prim.Native.Nat.{ℕ, suc, ◌<◌}
use lib.ListN.{length, get_or, take}
use lib.Seq.{take-suc}
use Rattle.std.proofs.Common.{arith, refl, ℤ, pos, negsuc, nat_abs, ◌<ℤ◌, ◌≤ℤ◌}
use Rattle.std.proofs.lemmas.Int.{ints}
use Rattle.slip_text.specs.Slip.{decimal, signed_decimal}
use Rattle.slip_text.proofs.Theorems.Slip.{decimal_short, decimal_end, decimal_on, decimal_length_on}

-- the first k pieces, none and one more
pub flatten_none : (ls : List (List ℕ)) {s : List ℕ} → s ≡ [] → s ≡ flatten (take 0 ls)
unfolding flatten
flatten_none ls e = e

flatten_on : (ls : List (List ℕ)) (l : List ℕ) → flatten (ls ++ (l ∷ [])) ≡ flatten ls ++ l
unfolding flatten
flatten_on [] l = append-nil l
flatten_on (a ∷ ls) l = ap (λ (r : List ℕ). a ++ r) (flatten_on ls l) ∙ sym (append_assoc a (flatten ls) l)

pub flatten_one_more : (ls : List (List ℕ)) (k : ℕ) {s r : List ℕ} → k < length ls → s ≡ flatten (take k ls) → r ≡ s ++ get_or ls k [] → r ≡ flatten (take (suc k) ls)
flatten_one_more ls k h p q =
    q ∙ ap (λ (s : List ℕ). s ++ get_or ls k []) p ∙ sym (ap flatten (take-suc ls k [] h) ∙ flatten_on (take k ls) (get_or ls k []))

-- a figure's digits, below 0 behind a minus
pub signed_negative : (z : ℤ) → z <ℤ pos 0 → signed_decimal z ≡ 45 ∷ decimal (nat_abs z)
signed_negative (pos n) h = absurd (omega (arith, ints))
signed_negative (negsuc n) h = refl

pub signed_not_negative : (z : ℤ) → pos 0 ≤ℤ z → signed_decimal z ≡ decimal (nat_abs z)
signed_not_negative (pos n) h = refl
signed_not_negative (negsuc n) h = absurd (omega (arith, ints))

-- what a figure adds: its digits, behind the text before them
pub ruleset digits = (decimal_short, append_assoc)

-- one digit, or those of the tenth part and one more
pub ruleset tens = (decimal_end, decimal_on, decimal_length_on, append_assoc)

-- digits behind their sign
pub ruleset signs = (decimal_short, append_assoc, signed_negative, signed_not_negative)
