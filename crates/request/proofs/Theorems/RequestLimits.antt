-- Whatever the reader accepts lies within document 01's limits, and has its lengths.
use Rattle.std.specs.Prelude.{ℕ, zero, suc, ◌+◌, ◌-◌, ◌<◌, ◌≤◌, ◌≡◌, refl, Bool, true, false, cond, List, [], ◌∷◌, length, get_or, T, leb, eqb, Ok, None, Some, Option}
use Rattle.std.proofs.Common.{zero-le, subst, sym, le_refl, le_trans, arith, lit≤, eqb-true}
use Rattle.numbers.specs.BigEndian.{Bytes}
use Rattle.numbers.proofs.Theorems.BigEndian.{Bytes-take, number_at_below}
use Rattle.tagged.specs.Find.{field_start, field_value, first_place}
use Rattle.tagged.specs.declared.find.Place.{Place}
use Rattle.tagged.proofs.Theorems.FoundFields.{Bytes-part}
use Rattle.tagged.specs.File.{answer_of, fields_part}
use Rattle.field_values.specs.Limits.{special_pricing, highest_amount, highest_mode, highest_demand, highest_rate}
use Rattle.field_values.specs.Judged.{judge_field}
use Rattle.field_values.proofs.Theorems.Judged.{first_failure_passes, offset_of, NumberWithin, judged_within}
use Rattle.field_values.proofs.Theorems.Factors.{factors_within}
use Rattle.request.specs.Fields.{zone_by, class_limits, class_in, highest_loading, amount_limits, five_tier_limits, added_limits, added_in, revenue_limits, connection_limits, tiers_in}
use Rattle.request.specs.Request.{charge_judgements, request_judgements, judge_request, request_values, request_of}
use Rattle.request.specs.RequestSizes.{ZoneBytes, RequestSizes}
use Rattle.request.proofs.Theorems.RequestSizes.{request_sizes}
use Rattle.request.proofs.Theorems.Request.{request_accepted, request_walks, read_accepted, request_is_values}
use Rattle.request.specs.RequestLimits.{RequestWithin}
use Rattle.request.specs.declared.values.Request.{Request}

-- each number of a list at most `most`
AllAtMost : ℕ → List ℕ → Type 0
AllAtMost most [] = Unit
AllAtMost most (n ∷ ns) = (n ≤ most) × AllAtMost most ns

each_at_most : (most : ℕ) (ns : List ℕ) → AllAtMost most ns → (k : ℕ) → get_or ns k 0 ≤ most
unfolding AllAtMost
each_at_most most [] h k = zero-le
each_at_most most (n ∷ ns) h zero = h.0
each_at_most most (n ∷ ns) h (suc k) = each_at_most most ns h.1 k

-- number k of a field whose values pass
field_within : (s : List ℕ) (limits : List (List ℕ)) (tag : ℕ) {size : ℕ} → judge_field limits tag s ≡ Ok tt → length (field_value tag s) ≡ size →
    (k : ℕ) → T (leb (offset_of limits (k + 1)) size) → NumberWithin limits (field_value tag s) k
field_within s limits tag e long k h = judged_within limits (field_start tag s) (field_value tag s) e k (rw long (lit≤ h))

loading_at_most : (class : ℕ) → highest_loading class ≤ highest_amount
loading_at_most class = by (eqb class special_pricing)
  where
    by : (special : Bool) → cond special highest_amount 0 ≤ highest_amount
    by true = le_refl _
    by false = zero-le

values_within : (s : List ℕ) → Bytes s → RequestSizes s → judge_request s ≡ Ok tt → RequestWithin (request_values s)
unfolding AllAtMost
values_within s bytes sizes passes =
    let judged = first_failure_passes (request_judgements s) passes in
    let charges = first_failure_passes (charge_judgements s) (judged 1) in
    let class = field_within s class_limits 3 (charges 0) sizes.class in
    let amount = field_within s (amount_limits (class_in s)) 5 (charges 1) sizes.amounts in
    let tier = field_within s five_tier_limits 6 (judged 2) sizes.tiers in
    let added = field_within s added_limits 7 (judged 3) sizes.added in
    let revenue = field_within s revenue_limits 8 (judged 4) sizes.revenues in
    let connection = field_within s connection_limits 12 (judged 8) sizes.connection in
    record {
      person = number_at_below (field_value 2 s) 0 4 (Bytes-part (first_place 2 s) s bytes) (omega (arith, sizes.person));
      class = (class 0 tt).1;
      zone = zone_below (first_place 13 s) sizes.zone;
      me = (amount 0 tt).1;
      ce = (amount 1 tt).1;
      de = (amount 2 tt).1;
      tw = (amount 3 tt).1;
      hr = (amount 4 tt).1;
      ol = le_trans (amount 5 tt).1 (loading_at_most (class_in s));
      loading = (amount 5 tt).1;
      five_modes = refl;
      five_demands = refl;
      five_bespoke_rates = refl;
      five_added_demands = refl;
      modes = each_at_most highest_mode (tiers_in s).modes ((tier 0 tt).1, ((tier 3 tt).1, ((tier 6 tt).1, ((tier 9 tt).1, ((tier 12 tt).1, tt)))));
      demands = each_at_most highest_demand (tiers_in s).demands ((tier 1 tt).1, ((tier 4 tt).1, ((tier 7 tt).1, ((tier 10 tt).1, ((tier 13 tt).1, tt)))));
      bespoke_rates = each_at_most highest_rate (tiers_in s).bespoke_rates ((tier 2 tt).1, ((tier 5 tt).1, ((tier 8 tt).1, ((tier 11 tt).1, ((tier 14 tt).1, tt)))));
      added_demands = each_at_most highest_demand (added_in s) ((added 0 tt).1, ((added 1 tt).1, ((added 2 tt).1, ((added 3 tt).1, ((added 4 tt).1, tt)))));
      distribution_revenue = (revenue 0 tt).1;
      transmission_revenue = (revenue 1 tt).1;
      part_year = factors_within 9 s (judged 5) sizes.part_year;
      distribution_tariff = factors_within 10 s (judged 6) sizes.distribution;
      transmission_tariff = factors_within 11 s (judged 7) sizes.transmission;
      month = omega (arith, (connection 0 tt).1);
      some_capacity = (connection 1 tt).0;
      capacity = (connection 1 tt).1;
      scheme = omega (arith, (connection 2 tt).1);
      mark = (connection 3 tt).1;
    }
  where
    zone_below : (place : Option Place) → ZoneBytes place s → zone_by place s < 65536
    zone_below None long = omega (arith, number_at_below (field_value 4 s) 0 1 (Bytes-part (first_place 4 s) s bytes) (omega (arith, long)))
    zone_below (Some place) long = number_at_below (field_value 13 s) 0 2 (Bytes-part (first_place 13 s) s bytes) (omega (arith, long))

-- The values of an accepted request have the lengths that document 01 gives them: a list of factors has an even number of bytes, 2 to 16.
pub accepted_request_sizes : (number : ℕ) (file : List ℕ) → answer_of (request_of number file) ≡ Ok tt → RequestSizes (fields_part file)
accepted_request_sizes number file e = request_sizes (fields_part file) (request_walks number file (request_accepted number file e).stands)

pub request_within_limits : (number : ℕ) (file : List ℕ) {request : Request} → Bytes file → request_of number file ≡ Ok request → RequestWithin request
request_within_limits number file bytes read =
    let accepted = read_accepted number file read in
    let walks = request_walks number file accepted.stands in
    subst RequestWithin (sym (request_is_values number file read))
    (values_within (fields_part file) (Bytes-take (length file - 5) file bytes) (request_sizes (fields_part file) walks) accepted.passes)

-- Document 02, E3: "Classes 0 and 1 must now have OL 0."
pub loading_is_special : (number : ℕ) (file : List ℕ) (request : Request) → Bytes file → request_of number file ≡ Ok request →
    0 < request.ol → request.class ≡ special_pricing
loading_is_special number file request bytes read some =
    by (eqb request.class special_pricing) (eqb-true _ _) (request_within_limits number file bytes read).loading
  where
    by : (special : Bool) → (special ≡ true → request.class ≡ special_pricing) →
        request.ol ≤ cond special highest_amount 0 → request.class ≡ special_pricing
    by true is h = is refl
    by false is h = absurd (omega (arith, some, h))
