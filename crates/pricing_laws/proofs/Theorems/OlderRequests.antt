-- Document 02, E6: "Older books and requests price as before": a request without a field 0D is answered as by the rows that document 01 gives, but that a
-- place of 1 may be a later one, since a field after 04 can stand where 0D is still to come.
use Rattle.std.specs.Prelude.{ℕ, ◌-◌, ◌≤◌, ◌≡◌, refl, List, [], Bool, true, false, cond, length, get_or, take, ltb, Err, Ok, None}
use Rattle.std.specs.Result.{result_and}
use Rattle.std.proofs.Common.{sym, ap, ◌∙◌, arith, inl, inr, lit<, lit≤, ltb-true}
use Rattle.numbers.specs.BigEndian.{number_at}
use Rattle.field_walk.specs.Walk.{FieldAt, Walk, fields, stops, first_form, second_form, neither_form, rows_in, walk_by, by_forms, walk}
use Rattle.field_walk.proofs.Theorems.Forms.{one_form}
use Rattle.tagged.specs.Refusals.{file_does_not_walk, check_differs}
use Rattle.tagged.specs.Find.{fields_of, place_at, first_place, field_value}
use Rattle.tagged.specs.File.{tail_stands, check_stands, fields_part, refusal, of_walk, file_answer, FileAnswer}
use Rattle.tagged.proofs.Theorems.Impossible.{impossible}
use Rattle.tagged.proofs.Theorems.FoundFields.{walk_by_finds}
use Rattle.tagged.proofs.Theorems.WalkFurther.{TagsOf, found_nowhere, walk_without_last}
use Rattle.request.specs.RequestRows.{request_rows}
use Rattle.request.specs.Fields.{zone_by, zone_in}
use Rattle.pricing_laws.specs.EarlierRows.{earlier_request_rows}
use Rattle.pricing_laws.specs.EarlierPricing.{AsBefore}
use Rattle.pricing_laws.proofs.Theorems.Without.{without}

abbrev pub Not0D : ℕ → Type 0
Not0D tag = tag ≡ 13 → ⊥

abbrev narrow_rows : List (List ℕ)
narrow_rows = rows_in first_form request_rows

narrow_as_earlier : (s : List ℕ) → walk_by narrow_rows s ≡ walk_by earlier_request_rows s
narrow_as_earlier = walk_without_last earlier_request_rows (take 12 narrow_rows) refl (get_or narrow_rows 12 []) refl refl

nowhere_at : {start len : ℕ} → None ≡ place_at start len → ⊥
nowhere_at e = impossible cc

module _ (s : List ℕ) (tags : TagsOf Not0D s) where
  none_found : first_place 13 s ≡ None
  none_found = found_nowhere 13 s tags

  not_wide : (fs : List FieldAt) → walk_by (rows_in second_form request_rows) s ≡ fields fs → ⊥
  not_wide fs e =
      nowhere_at (sym none_found ∙ (walk_by_finds (rows_in second_form request_rows) s fs refl e 12 (lit< tt) (lit≤ tt)).found)

  -- an older request names its zone in 04
  pub older_zone_in : zone_in s ≡ number_at (field_value 4 s) 0 1
  older_zone_in = ap (λ place. zone_by place s) none_found

  older_walk : (number : ℕ) → AsBefore number (of_walk number (walk_by earlier_request_rows s)) (of_walk number (walk request_rows s))
  older_walk number =
      rw (← narrow_as_earlier s)
      (by (walk_by narrow_rows s) (walk_by (rows_in second_form request_rows) s) (walk_by (rows_in neither_form request_rows) s) (λ fs e. not_wide fs e))
    where
      later : (at at' : ℕ) (less : Bool) → ltb at at' ≡ less → at ≤ cond less at' at
      later at at' true e = omega (arith, ltb-true at at' e)
      later at at' false e = omega arith

      by : (first second neither : Walk) → ((fs : List FieldAt) → second ≡ fields fs → ⊥) →
          AsBefore number (of_walk number first) (of_walk number (by_forms first second neither))
      by (fields fs) second neither wide = inl refl
      by (stops at) (fields fs) neither wide = absurd (wide fs refl)
      by (stops at) (stops at') (fields fs) wide = inl refl
      by (stops at) (stops at') (stops _) wide = inr (at, cond (ltb at at') at' at, refl, later at at' (ltb at at') refl, refl)

pub older_request_same : (number : ℕ) (file : List ℕ) → first_place 13 (fields_part file) ≡ None →
    AsBefore number (file_answer earlier_request_rows number file) (file_answer request_rows number file)
older_request_same number file none =
    rw (one_form (walk_by earlier_request_rows (fields_part file)))
    (by (tail_stands file) (check_stands file) (of_walk number (walk_by earlier_request_rows (fields_part file))) (of_walk number (walk request_rows (fields_part file)))
    (older_walk (fields_part file) (without 13 (fields_of (fields_part file)) none) number))
  where
    closing : Bool → Bool → FileAnswer
    closing tail checked = cond tail (cond checked (Ok tt) (Err (refusal check_differs number (length file - 2)))) (Err (refusal file_does_not_walk number 0))

    by : (tail checked : Bool) (before now : FileAnswer) → AsBefore number before now →
        AsBefore number (result_and (closing tail checked) before)
        (result_and (closing tail checked) now)
    by true true before now same = same
    by true false before now same = inl refl
    by false checked before now same = inl refl
