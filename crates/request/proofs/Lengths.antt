-- How long a request's values are, where its fields walk.
use Rattle.std.specs.Prelude.{◌≡◌, List, ℕ, length, Ok, None, Some}
use Rattle.std.proofs.Common.{subst}
use Rattle.field_walk.specs.Walk.{walk}
use Rattle.field_walk.specs.Walked.{walked}
use Rattle.tagged.specs.Find.{first_place, field_value}
use Rattle.tagged.specs.declared.find.Place.{Place}
use Rattle.request.specs.RequestRows.{request_rows}
use Rattle.request.specs.RequestSizes.{ZoneBytes, RequestSizes}
use Rattle.request.proofs.Theorems.RequestSizes.{fields_walk, request_sizes}

module _ (s : List ℕ) (walks : walked (walk request_rows s) ≡ Ok tt) where
  sizes : RequestSizes s
  sizes = request_sizes s (fields_walk s walks)

  pub person_long : length (field_value 2 s) ≡ 4
  person_long = sizes.person

  pub class_long : length (field_value 3 s) ≡ 1
  class_long = sizes.class

  -- of a zone number of one byte, and of two
  pub narrow_long : first_place 13 s ≡ None → length (field_value 4 s) ≡ 1
  narrow_long e = subst (λ place. ZoneBytes place s) e sizes.zone

  pub wide_long : (place : Place) → first_place 13 s ≡ Some place → length (field_value 13 s) ≡ 2
  wide_long place e = subst (λ found. ZoneBytes found s) e sizes.zone

  pub amounts_long : length (field_value 5 s) ≡ 24
  amounts_long = sizes.amounts

  pub tiers_long : length (field_value 6 s) ≡ 45
  tiers_long = sizes.tiers

  pub added_long : length (field_value 7 s) ≡ 20
  added_long = sizes.added

  pub revenues_long : length (field_value 8 s) ≡ 8
  revenues_long = sizes.revenues

  pub connection_long : length (field_value 12 s) ≡ 9
  connection_long = sizes.connection
