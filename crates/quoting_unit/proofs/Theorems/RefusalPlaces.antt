-- Where no file is longer than `size`, no place of a refusal is above it.
use Prim.Native.Nat.{ℕ, zero, suc, ◌+◌, ◌*◌, ◌-◌, ◌≤◌}
use Rattle.std.specs.Prelude.{◌≡◌, refl, List, [], ◌∷◌, Bool, true, false, cond, ltb, leb, eqb, length, get_or, take, drop, Err, Ok, Some, None}
use Rattle.std.specs.Result.{result_and}
use Rattle.std.proofs.Common.{sym, subst, arith, length-take, length-drop, ltb-false, leb-true}
use Rattle.numbers.specs.BigEndian.{number}
use Rattle.field_walk.specs.Walk.{Due, least_of, tag_of, permitted_by, length_at, field_of, front_of, all_had, due_from, FieldAt, Walk, fields, stops, and_then, on_front, walk_from, first_form, second_form, neither_form, row_in, rows_in, walk_by, by_forms, walk}
use Rattle.field_walk.specs.WalkSteps.{EndsWithin}
use Rattle.field_walk.specs.FieldsWalk.{FieldsWalk}
use Rattle.field_walk.specs.declared.walk.Front.{Front}
use Rattle.field_walk.specs.declared.walk.Front.TheVariants.{End, Field, CannotStand}
use Rattle.tagged.specs.Refusals.{file_does_not_walk, check_differs}
use Rattle.tagged.specs.Find.{field_start, field_value}
use Rattle.tagged.specs.File.{file_answer, tail_stands, check_stands, fields_part, of_walk, refusal, answer_of, FileAnswer}
use Rattle.tagged.proofs.Theorems.File.{stands_means}
use Rattle.tagged.proofs.Theorems.Walk.{by_test}
use Rattle.tagged.specs.RisingTags.{rising_tags}
use Rattle.tagged.proofs.Theorems.FoundFields.{walk_sized}
use Rattle.field_values.specs.Limits.{highest_threshold, highest_minimum, lowest_term, highest_rate}
use Rattle.field_values.specs.Judged.{judge, first_failure, width_of, within, judge_numbers, judge_field, same_bytes, Judged}
use Rattle.field_values.specs.Factors.{factor_limits}
use Rattle.field_values.specs.Reading.{reading_of}
use Rattle.book_zones.specs.BookRows.{book_rows}
use Rattle.book_zones.specs.Cases.BookRows.{book_rows_rise}
use Rattle.book_zones.specs.Zones.{number_width, zone_starts, zone_number, rate_row, row_judgements, judge_row, judge_zones_from}
use Rattle.book_zones.specs.ZoneScans.{first_zone, zones_apart}
use Rattle.book_zones.proofs.Theorems.ZoneFields.{every, zones_stand}
use Rattle.rate_book.specs.Fields.{rate_limits, sums_in, sum_judgements, terms_in, term_judgements, charged_limits}
use Rattle.rate_book.specs.Book.{book_letters, book_judgements, judge_book, book_values, book_of}
use Rattle.request.specs.RequestRows.{request_rows}
use Rattle.request.specs.Cases.RequestRows.{request_rows_rise}
use Rattle.request.specs.Fields.{class_limits, class_in, amount_limits, five_tier_limits, added_limits, revenue_limits, connection_limits}
use Rattle.request.specs.Request.{request_letters, charge_judgements, request_judgements, judge_request, request_values, request_of}
use Rattle.stored.specs.declared.form.Form.{Form}
use Rattle.stored.specs.StoredRows.{stored_rows}
use Rattle.stored.specs.Cases.StoredRows.{stored_rows_rise}
use Rattle.quoting_unit.specs.RefusalPlaces.{FileAnswerBy}

-- ---- judgements: the place at which one fails
abbrev FailsBy : ℕ → Judged → Type 0
FailsBy size (Ok _) = Unit {0}
FailsBy size (Err at) = at ≤ size

fails_more : {low high : ℕ} (judged : Judged) → low ≤ high → FailsBy low judged → FailsBy high judged
fails_more (Ok _) h f = tt
fails_more (Err at) h f = omega arith

pub judge_fails : (size : ℕ) (listed : Bool) (at : ℕ) → at ≤ size → FailsBy size (judge listed at)
judge_fails size true at h = tt
judge_fails size false at h = h

data AllFailBy (size : ℕ) : List Judged → Type 0 where
  none : AllFailBy size []
  also : {judged : Judged} {later : List Judged} → FailsBy size judged → AllFailBy size later → AllFailBy size (judged ∷ later)

first_fails : (size : ℕ) (judgements : List Judged) → AllFailBy size judgements → FailsBy size (first_failure judgements)
first_fails size [] none = tt
first_fails size ((Ok _) ∷ later) (also h more) = first_fails size later more
first_fails size (Err at ∷ later) (also h more) = h

numbers_fail : (limits : List (List ℕ)) (at : ℕ) (value : List ℕ) → FailsBy (at + length value) (judge_numbers limits at value)
unfolding judge_numbers
numbers_fail [] at value = tt
numbers_fail (limit ∷ limits) at value =
    by_test (FailsBy (at + length value)) (ltb (length value) (width_of limit)) _ _ (λ _. tt)
    (λ long.
    by_test (FailsBy (at + length value)) (within limit (number (take (width_of limit) value))) _ _
    (λ _.
    let fits = ltb-false (length value) (width_of limit) long in
    let ends : at + width_of limit + length (drop (width_of limit) value) ≤ at + length value = omega (arith, length-drop (width_of limit) value) in
    fails_more (judge_numbers limits (at + width_of limit) (drop (width_of limit) value)) ends
    (numbers_fail limits (at + width_of limit) (drop (width_of limit) value)))
    (λ _. let here : at ≤ at + length value = omega arith in here))

-- of a file whose fields walk, the field of each row that must be there
module _ (rows : List (List ℕ)) (s : List ℕ) (rising : rising_tags rows ≡ true) (walks : FieldsWalk rows s) where
  pub start_within : (k : ℕ) → suc k ≤ length rows → 1 ≤ least_of (row_in neither_form (get_or rows k [])) → field_start (tag_of (get_or rows k [])) s ≤ length s
  start_within k h due = let sized = walk_sized rows s rising walks k h due in omega (arith, sized.within)

  field_fails : (k : ℕ) → suc k ≤ length rows → 1 ≤ least_of (row_in neither_form (get_or rows k [])) → (limits : List (List ℕ)) →
      FailsBy (length s) (judge_field limits (tag_of (get_or rows k [])) s)
  field_fails k h due limits =
      let sized = walk_sized rows s rising walks k h due in
      let tag = tag_of (get_or rows k []) in
      fails_more (judge_field limits tag s) sized.within (numbers_fail limits (field_start tag s) (field_value tag s))

module _ (s : List ℕ) where
  row_fails : (rates : ℕ) (row : List ℕ) → rates + 16 ≤ length s → FailsBy (length s) (judge_row rates row)
  row_fails rates row h =
      first_fails (length s) (row_judgements rates row)
      (also (judge_fails (length s) (leb (get_or row 0 0) highest_rate) rates (omega arith))
      (also (judge_fails (length s) (leb (get_or row 1 0) highest_rate) (rates + 4) (omega arith))
      (also (judge_fails (length s) (leb (get_or row 2 0) highest_rate) (rates + 8) (omega arith))
      (also (judge_fails (length s) (leb (get_or row 3 0) highest_rate) (rates + 12) (omega arith))
      (also (judge_fails (length s) (leb (get_or row 4 0) highest_rate) (rates + 16) h) none)))))

  zones_fail : (least at n : ℕ) → at + zones_apart s * n ≤ length s + 3 → FailsBy (length s) (judge_zones_from least s (every (zones_apart s) at n))
  unfolding judge_zones_from every
  zones_fail least at zero h = tt
  zones_fail least at (suc n) h =
      first_fails (length s)
      (judge (leb least (zone_number s at)) at ∷
      judge_row (at + number_width s) (rate_row s at) ∷
      judge_zones_from (zone_number s at + 1) s (every (zones_apart s) (at + zones_apart s) n) ∷
      [])
      (also (judge_fails (length s) (leb least (zone_number s at)) at (omega arith))
      (also (row_fails (at + number_width s) (rate_row s at) (omega arith))
      (also (zones_fail (zone_number s at + 1) (at + zones_apart s) n (omega arith)) none)))

  book_fails : FieldsWalk book_rows s → FailsBy (length s) (judge_book s)
  book_fails walks =
      let zones = zones_stand s walks in
      let field = field_fails book_rows s book_rows_rise walks in
      let first = start_within book_rows s book_rows_rise walks 0 (omega arith) (omega arith) in
      let terms = walk_sized book_rows s book_rows_rise walks 5 (omega arith) (omega arith) in
      let sums = start_within book_rows s book_rows_rise walks 2 (omega arith) (omega arith) in
      let long : 14 ≤ length (field_value 6 s) = terms.lowest in
      let ends : field_start 6 s + length (field_value 6 s) ≤ length s = terms.within in
      first_fails (length s) (book_judgements s)
      (also (judge_fails (length s) (same_bytes (field_value 1 s) book_letters) (field_start 1 s) first)
      (also (field 1 (omega arith) (omega arith) rate_limits)
      (also
      (first_fails (length s) (sum_judgements s)
      (also (judge_fails (length s) (leb (sums_in s).opex (sums_in s).revenue) (field_start 3 s) sums)
      (also (judge_fails (length s) (ltb 0 (sums_in s).revenue) (field_start 3 s) sums) none)))
      (also (field 3 (omega arith) (omega arith) factor_limits)
      (also (field 4 (omega arith) (omega arith) factor_limits)
      (also
      (first_fails (length s) (term_judgements s)
      (also (judge_fails (length s) (leb (terms_in s).threshold highest_threshold) (field_start 6 s) (omega arith))
      (also (judge_fails (length s) (leb (terms_in s).fee (terms_in s).minimum) (field_start 6 s + 4) (omega arith))
      (also (judge_fails (length s) (leb (terms_in s).minimum highest_minimum) (field_start 6 s + 8) (omega arith))
      (also (judge_fails (length s) (leb lowest_term (terms_in s).term) (field_start 6 s + 12) (omega arith)) none)))))
      (also (field 6 (omega arith) (omega arith) charged_limits)
      (also
      (subst (λ starts. FailsBy (length s) (judge_zones_from 0 s starts)) (sym zones.apart)
      (zones_fail 0 (first_zone s) (length (zone_starts s)) (omega (arith, zones.ends))))
      none))))))))

  request_fails : FieldsWalk request_rows s → FailsBy (length s) (judge_request s)
  request_fails walks =
      let field = field_fails request_rows s request_rows_rise walks in
      let first = start_within request_rows s request_rows_rise walks 0 (omega arith) (omega arith) in
      first_fails (length s) (request_judgements s)
      (also (judge_fails (length s) (same_bytes (field_value 1 s) request_letters) (field_start 1 s) first)
      (also
      (first_fails (length s) (charge_judgements s)
      (also (field 2 (omega arith) (omega arith) class_limits) (also (field 4 (omega arith) (omega arith) (amount_limits (class_in s))) none)))
      (also (field 5 (omega arith) (omega arith) five_tier_limits)
      (also (field 6 (omega arith) (omega arith) added_limits)
      (also (field 7 (omega arith) (omega arith) revenue_limits)
      (also (field 8 (omega arith) (omega arith) factor_limits)
      (also (field 9 (omega arith) (omega arith) factor_limits)
      (also (field 10 (omega arith) (omega arith) factor_limits)
      (also (field 11 (omega arith) (omega arith) connection_limits) none)))))))))

abbrev StopsBy : ℕ → Walk → Type 0
StopsBy size (fields fs) = Unit {0}
StopsBy size (stops at) = at ≤ size

then_stops : (size : ℕ) (f : FieldAt) (w : Walk) → StopsBy size w → StopsBy size (and_then f w)
then_stops size f (fields fs) h = tt
then_stops size f (stops at) h = h

field_ends : (due : Due) (rows : List (List ℕ)) (s : List ℕ) → EndsWithin (length s) (field_of due rows s)
field_ends None rows s = tt
field_ends (Some (k, n)) rows s =
    by_test (EndsWithin (length s)) (permitted_by (get_or rows k []) (length_at s)) _ _
    (λ _. by_test (EndsWithin (length s)) (leb (length_at s + 3) (length s)) _ _ (λ fits. leb-true (length_at s + 3) (length s) fits) (λ _. tt))
    (λ _. tt)

front_ends : (rows : List (List ℕ)) (k n : ℕ) (s : List ℕ) → EndsWithin (length s) (front_of rows k n s)
unfolding front_of
front_ends rows k n s =
    by_test (EndsWithin (length s)) (eqb (length s) 0) _ _
    (λ _. by_test (EndsWithin (length s)) (all_had (drop k rows) n) _ _ (λ _. tt) (λ _. tt))
    (λ _.
    by_test (EndsWithin (length s)) (ltb (length s) 3) _ _ (λ _. tt)
    (λ _. field_ends (due_from (drop k rows) k n (get_or s 0 0)) rows s))

walk_stops : (size most : ℕ) (rows : List (List ℕ)) (k n at : ℕ) (s : List ℕ) → at + length s ≤ size → StopsBy size (walk_from most rows k n at s)
unfolding walk_from
walk_stops size zero rows k n at s h = let here : at ≤ size = omega arith in here
walk_stops size (suc most) rows k n at s h =
    by (front_of rows k n s) (front_ends rows k n s)
    (λ k' n' len ends. walk_stops size most rows k' n' (at + (len + 3)) (drop (len + 3) s) (omega (arith, length-drop (len + 3) s, ends)))
  where
    on : ℕ → ℕ → ℕ → Walk
    on k' n' len = walk_from most rows k' n' (at + (len + 3)) (drop (len + 3) s)

    by : (front : Front) → EndsWithin (length s) front → ((k' n' len : ℕ) → len + 3 ≤ length s → StopsBy size (on k' n' len)) →
        StopsBy size (on_front front at (λ k' n' len. and_then (record { tag = get_or s 0 0; start = at + 3; len = len }) (on k' n' len)))
    by End ends later = tt
    by (Field k' n' len) ends later = then_stops size _ (on k' n' len) (later k' n' len ends)
    by CannotStand ends later = let here : at ≤ size = omega arith in here

-- by either form, or by neither: each of them stops so, and the place is one of theirs
forms_stop : (size : ℕ) (first second neither : Walk) → StopsBy size first → StopsBy size second → StopsBy size (by_forms first second neither)
forms_stop size (fields _) second neither a b = tt
forms_stop size (stops _) (fields _) neither a b = tt
forms_stop size (stops _) (stops _) (fields _) a b = a
forms_stop size (stops at) (stops at') (stops _) a b = by_test (λ place. place ≤ size) (ltb at at') at' at (λ _. b) (λ _. a)

fields_within : (file : List ℕ) → length (fields_part file) ≤ length file
fields_within file = omega (arith, length-take (length file - 5) file)

pub file_answer_placed : (rows : List (List ℕ)) (number : ℕ) (file : List ℕ) → number ≤ 2 → FileAnswerBy (length file) (file_answer rows number file)
file_answer_placed rows number file known =
    by (tail_stands file) (check_stands file) (walk rows (fields_part file))
    (forms_stop (length file) (walk_by (rows_in first_form rows) (fields_part file)) (walk_by (rows_in second_form rows) (fields_part file)) _ (by_form first_form) (by_form second_form))
  where
    by_form : (form : ℕ) → StopsBy (length file) (walk_by (rows_in form rows) (fields_part file))
    by_form form = walk_stops (length file) (length (fields_part file) + 1) (rows_in form rows) 0 0 0 (fields_part file) (omega (arith, fields_within file))

    by : (tail checked : Bool) (w : Walk) → StopsBy (length file) w →
        FileAnswerBy (length file)
        (result_and {T = Unit {0}} (cond tail (cond checked (Ok tt) (Err (refusal check_differs number (length file - 2)))) (Err (refusal file_does_not_walk number 0))) (of_walk number w))
    by false checked w h = (known, omega arith)
    by true false w h = (known, omega arith)
    by true true (fields fs) h = tt
    by true true (stops at) h = (known, h)

-- a reading, where the place of a value that fails is known of a file that stands
reading_placed : {Values : Type 0} (size number : ℕ) → number ≤ 2 → (stands : FileAnswer) (judged : Judged) (values : Values) →
    FileAnswerBy size stands → (stands ≡ Ok tt → FailsBy size judged) → FileAnswerBy size (answer_of (reading_of number stands judged values))
reading_placed size number known (Ok _) (Ok _) values placed fails = tt
reading_placed size number known (Ok _) (Err at) values placed fails = (known, fails refl)
reading_placed size number known (Err r) judged values placed fails = placed

pub book_placed : (file : List ℕ) → FileAnswerBy (length file) (answer_of (book_of 1 file))
unfolding book_of
book_placed file =
    reading_placed (length file) 1 (omega arith) (file_answer book_rows 1 file) (judge_book s) (book_values s)
    (file_answer_placed book_rows 1 file (omega arith))
    (λ e.
    let means = stands_means book_rows 1 file e in
    fails_more (judge_book s) (fields_within file) (book_fails s (means.field_list, means.walks)))
  where
    s : List ℕ
    s = fields_part file

pub request_placed : (file : List ℕ) → FileAnswerBy (length file) (answer_of (request_of 2 file))
unfolding request_of
request_placed file =
    reading_placed (length file) 2 (omega arith) (file_answer request_rows 2 file) (judge_request s) (request_values s)
    (file_answer_placed request_rows 2 file (omega arith))
    (λ e.
    let means = stands_means request_rows 2 file e in
    fails_more (judge_request s) (fields_within file) (request_fails s (means.field_list, means.walks)))
  where
    s : List ℕ
    s = fields_part file

-- the letters of a stored ledger
pub letters_within : (form : Form) (file : List ℕ) → file_answer (stored_rows form) 1 file ≡ Ok tt → field_start 1 (fields_part file) ≤ length file
letters_within form file e =
    let means = stands_means (stored_rows form) 1 file e in
    let start = start_within (stored_rows form) (fields_part file) (stored_rows_rise form) (means.field_list, means.walks) 0 (omega arith) (omega arith) in
    omega (arith, start, fields_within file)
