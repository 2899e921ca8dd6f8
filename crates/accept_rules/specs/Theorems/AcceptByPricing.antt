-- Accept by pricing's answer: the call's decision reads no other part of book and request.
use Rattle.std.specs.Prelude.{ℕ, ◌≡◌, List}
use Rattle.std.proofs.Math.Path.{refl}
use Rattle.charge.specs.Price.{price_of}
use Rattle.calls.specs.Decision.{accept}
use Rattle.calls.specs.Carried.{State}
use Rattle.calls.specs.Calls.{answered, leaves}
use Rattle.accept_rules.specs.Laws.{answered_by, leaves_by}

module _ (state : State) (book request : List ℕ) where
  pub answered_by_pricing : answered_by state (price_of book request) ≡ answered state (accept book request)
  unfolding answered
  answered_by_pricing = refl

  pub leaves_by_pricing : leaves_by state (price_of book request) ≡ leaves state (accept book request)
  unfolding leaves
  leaves_by_pricing = refl
