-- A request that walks has values of these lengths.
use Rattle.std.specs.Prelude.{ℕ, ◌<◌, ◌≤◌, List, [], ◌≡◌, refl, length, get_or, Ok}
use Rattle.std.proofs.Common.{sym, subst, ⊎_elim, arith, lit<, lit≤}
use Rattle.field_walk.specs.Walk.{least_of, first_form, second_form, neither_form, row_in, rows_in, walk_by, Walk, fields, stops, walk}
use Rattle.field_walk.specs.Walked.{walked}
use Rattle.field_walk.specs.FieldsWalk.{FieldsWalk}
use Rattle.tagged.specs.Find.{first_place}
use Rattle.tagged.specs.Sized.{Sized}
use Rattle.tagged.proofs.Theorems.Walk.{walk_by_form}
use Rattle.tagged.proofs.Theorems.FoundFields.{walk_by_finds, walk_by_finds_none, found_sized, walk_sized}
use Rattle.request.specs.RequestRows.{request_rows}
use Rattle.request.specs.Cases.RequestRows.{request_rows_rise}
use Rattle.request.specs.RequestSizes.{ZoneBytes, RequestSizes}

-- of the first form 04 is there and no 0D, of the second 0D
zone_bytes : (s : List ℕ) → FieldsWalk request_rows s → ZoneBytes (first_place 13 s) s
zone_bytes s (fs, walks) = ⊎_elim narrow wide (walk_by_form request_rows s fs walks)
  where
    narrow : walk_by (rows_in first_form request_rows) s ≡ fields fs → ZoneBytes (first_place 13 s) s
    narrow e =
        let rows = rows_in first_form request_rows in
        rw (walk_by_finds_none rows s fs e 13 refl) (omega (arith, found_sized (walk_by_finds rows s fs refl e 3 (lit< tt) (lit≤ tt))))

    wide : walk_by (rows_in second_form request_rows) s ≡ fields fs → ZoneBytes (first_place 13 s) s
    wide e =
        let rows = rows_in second_form request_rows in
        let found = walk_by_finds rows s fs refl e 12 (lit< tt) (lit≤ tt) in
        subst (λ place. ZoneBytes place s) (sym found.found) (omega (arith, found_sized found))

pub request_sizes : (s : List ℕ) → FieldsWalk request_rows s → RequestSizes s
request_sizes s walks =
    let sized : (k : ℕ) → k < length request_rows → 1 ≤ least_of (row_in neither_form (get_or request_rows k [])) → Sized (get_or request_rows k []) s = walk_sized request_rows s request_rows_rise walks in
    record {
      person = omega (arith, sized 1 (lit< tt) (lit≤ tt));
      class = omega (arith, sized 2 (lit< tt) (lit≤ tt));
      zone = zone_bytes s walks;
      amounts = omega (arith, sized 4 (lit< tt) (lit≤ tt));
      tiers = omega (arith, sized 5 (lit< tt) (lit≤ tt));
      added = omega (arith, sized 6 (lit< tt) (lit≤ tt));
      revenues = omega (arith, sized 7 (lit< tt) (lit≤ tt));
      part_year = omega (arith, sized 8 (lit< tt) (lit≤ tt));
      distribution = omega (arith, sized 9 (lit< tt) (lit≤ tt));
      transmission = omega (arith, sized 10 (lit< tt) (lit≤ tt));
      connection = omega (arith, sized 11 (lit< tt) (lit≤ tt));
    }

-- a walk that is answered with every field standing
pub walks_when : (rows : List (List ℕ)) (s : List ℕ) (w : Walk) → walk rows s ≡ w → walked w ≡ Ok tt → FieldsWalk rows s
walks_when rows s (fields fs) e h = (fs, e)
walks_when rows s (stops at) e h = absurd (cc)

pub fields_walk : (s : List ℕ) → walked (walk request_rows s) ≡ Ok tt → FieldsWalk request_rows s
fields_walk s h = walks_when request_rows s (walk request_rows s) refl h

pub walked_when : (s : List ℕ) → FieldsWalk request_rows s → walked (walk request_rows s) ≡ Ok tt
walked_when s (fs, e) = rw e
