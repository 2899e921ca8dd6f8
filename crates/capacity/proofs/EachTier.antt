-- Tiers one after the other: the first whose rate isn't allowed, as it is found among the numbers from 0 on.
use Rattle.std.specs.Prelude.{ℕ, zero, suc, ◌+◌, ◌<◌, ◌≤◌, ◌≡◌, true, false, None, Some, Option}
use Rattle.std.specs.Option.{MatchOption, IsSomeAnd}
use Rattle.std.proofs.Common.{arith, lit<, zero-le, ap, ◌∙◌}
use Rattle.field_values.specs.Limits.{tier_count}
use Rattle.capacity.specs.Capacity.{tier_allowed, first_not_allowed}
use Rattle.capacity.specs.declared.Tiers.{Tiers}

module _ (tiers : Tiers) where
  abbrev AllowedBefore : ℕ → Type 0
  AllowedBefore tier = (k : ℕ) → 0 ≤ k → k < tier → tier_allowed tiers k ≡ true

  first_refused : (tier : ℕ) → tier < tier_count → AllowedBefore tier → tier_allowed tiers tier ≡ false → Some (tier + 1) ≡ first_not_allowed tiers
  first_refused zero h before refused = rw refused
  first_refused (suc zero) h before refused = rw (before 0 zero-le (lit< tt), refused)
  first_refused (suc (suc zero)) h before refused = rw (before 0 zero-le (lit< tt), before 1 zero-le (lit< tt), refused)
  first_refused (suc (suc (suc zero))) h before refused =
      rw (before 0 zero-le (lit< tt), before 1 zero-le (lit< tt), before 2 zero-le (lit< tt), refused)
  first_refused (suc (suc (suc (suc zero)))) h before refused =
      rw (before 0 zero-le (lit< tt), before 1 zero-le (lit< tt), before 2 zero-le (lit< tt), before 3 zero-le (lit< tt), refused)
  first_refused (suc (suc (suc (suc (suc tier))))) h before refused = absurd (omega arith)

  none_refused : AllowedBefore tier_count → None ≡ first_not_allowed tiers
  none_refused all =
      rw (all 0 zero-le (lit< tt), all 1 zero-le (lit< tt), all 2 zero-le (lit< tt), all 3 zero-le (lit< tt), all 4 zero-le (lit< tt))

  -- what is told of the tier that is found is its number counted from 1
  pub found_refused : {Told : ℕ → ℕ → Type 0} (found told : Option ℕ) →
      MatchOption found (AllowedBefore tier_count) (λ tier. (0 ≤ tier) × (tier < tier_count) × (tier_allowed tiers tier ≡ false) × AllowedBefore tier) →
      MatchOption found (told ≡ None) (λ tier. IsSomeAnd told (Told tier)) → ((tier n : ℕ) → Told tier n → n ≡ tier + 1) → told ≡ first_not_allowed tiers
  found_refused None told all e counts = e ∙ none_refused all
  found_refused (Some tier) None first e counts = absurd e
  found_refused (Some tier) (Some n) first e counts = ap Some (counts tier n e) ∙ first_refused tier first.1 first.3 first.2
