-- A request's values within document 01's limits.
use Rattle.std.specs.Prelude.{ℕ, ◌^◌, ◌<◌, ◌≤◌, ◌≡◌, length, slice_index}
use Rattle.field_values.specs.Limits.{tier_count, highest_class, highest_amount, highest_mode, highest_demand, highest_rate, highest_revenue, lowest_capacity, highest_capacity, highest_mark}
use Rattle.field_values.specs.FactorLimits.{FactorsWithin}
use Rattle.request.specs.Fields.{highest_loading}
use Rattle.request.specs.declared.values.Request.{Request}

pub record RequestWithin (request : Request) : Type 0 where
  pub person : request.person < 2 ^ 32
  pub class : request.class ≤ highest_class
  pub zone : request.zone < 65536
  pub me : request.me ≤ highest_amount
  pub ce : request.ce ≤ highest_amount
  pub de : request.de ≤ highest_amount
  pub tw : request.tw ≤ highest_amount
  pub hr : request.hr ≤ highest_amount
  pub ol : request.ol ≤ highest_amount
  pub loading : request.ol ≤ highest_loading request.class
  pub five_modes : length request.modes ≡ tier_count
  pub five_demands : length request.demands ≡ tier_count
  pub five_bespoke_rates : length request.bespoke_rates ≡ tier_count
  pub five_added_demands : length request.added_demands ≡ tier_count
  pub modes : (k : ℕ) → slice_index request.modes k ≤ highest_mode
  pub demands : (k : ℕ) → slice_index request.demands k ≤ highest_demand
  pub bespoke_rates : (k : ℕ) → slice_index request.bespoke_rates k ≤ highest_rate
  pub added_demands : (k : ℕ) → slice_index request.added_demands k ≤ highest_demand
  pub distribution_revenue : request.distribution_revenue ≤ highest_revenue
  pub transmission_revenue : request.transmission_revenue ≤ highest_revenue
  pub part_year : FactorsWithin request.part_year
  pub distribution_tariff : FactorsWithin request.distribution_tariff
  pub transmission_tariff : FactorsWithin request.transmission_tariff
  pub month : request.month < 65536
  pub some_capacity : lowest_capacity ≤ request.capacity
  pub capacity : request.capacity ≤ highest_capacity
  pub scheme : request.scheme < 65536
  pub mark : request.mark ≤ highest_mark
