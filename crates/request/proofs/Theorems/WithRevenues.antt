-- An accepted request whose field 08 then holds other revenues within their limit, its check made anew, is accepted, and all else that it says is as it was.
use Rattle.std.specs.Prelude.{ℕ, ◌≤◌, ◌≡◌, List, [], ◌++◌, get_or, take, drop, Ok, None, Some, Option}
use Rattle.std.proofs.Common.{sym, ◌∙◌, arith, length-append, take_at, drop_at, take_all, lit<, lit≤}
use Rattle.std.proofs.Math.Path.{ap}
use Rattle.std.proofs.Math.ListN.{length}
use borrow.Author.Tests.{le-ltb, le-leb}
use Rattle.numbers.specs.BigEndian.{Bytes, number, number_at, bytes_of}
use Rattle.numbers.proofs.Theorems.BigEndian.{Bytes-append, bytes_of_bytes, length_bytes_of, number_of_bytes_of}
use Rattle.tagged.specs.DiffersInField.{DiffersInField}
use Rattle.tagged.specs.File.{fields_part}
use Rattle.tagged.specs.Find.{place_at, first_place}
use Rattle.tagged.proofs.Theorems.File.{stands_means}
use Rattle.tagged.proofs.Theorems.FoundFields.{walk_finds_due}
use Rattle.tagged.proofs.Theorems.Walk.{permitted_length}
use Rattle.tagged.proofs.Theorems.WithField.{with_field, FieldReplaced, field_replaced}
use Rattle.tagged.specs.declared.find.Place.{Place}
use Rattle.field_values.specs.Limits.{highest_revenue}
use Rattle.field_values.specs.Judged.{judge_numbers}
use Rattle.field_values.proofs.Theorems.Judged.{first_failure_passes}
use Rattle.request.specs.Cases.RequestRows.{request_rows_rise}
use Rattle.request.specs.RequestRows.{request_rows}
use Rattle.request.specs.Fields.{zone_by, zone_in, revenue_limits}
use Rattle.request.specs.Request.{request_judgements, judge_request, request_values, request_of}
use Rattle.request.specs.WithRevenues.{with_revenues}
use Rattle.request.proofs.Theorems.Request.{request_judged, read_accepted, request_is_values}
use Rattle.request.specs.declared.values.Request.{Request}

-- the file with these revenues in field 08
abbrev pub file_with_revenues : ℕ → ℕ → List ℕ → List ℕ
file_with_revenues distribution transmission file = with_field 8 (bytes_of 4 distribution ++ bytes_of 4 transmission) file

-- the bytes of the two revenues
module _ (distribution transmission : ℕ) (d : distribution ≤ highest_revenue) (t : transmission ≤ highest_revenue) where
  abbrev value : List ℕ
  value = bytes_of 4 distribution ++ bytes_of 4 transmission

  value_size : length value ≡ 8
  value_size = simp (length-append, length_bytes_of)

  value_bytes : Bytes value
  value_bytes = Bytes-append (bytes_of 4 distribution) (bytes_of 4 transmission) (bytes_of_bytes 4 distribution (omega arith)) (bytes_of_bytes 4 transmission (omega arith))

  distribution_read : number_at value 0 4 ≡ distribution
  distribution_read = ap number (take_at (bytes_of 4 distribution) (bytes_of 4 transmission) 4 (length_bytes_of 4 distribution)) ∙ number_of_bytes_of 4 distribution (omega arith)

  transmission_read : number_at value 4 4 ≡ transmission
  transmission_read =
      ap number
      (ap (take 4) (drop_at (bytes_of 4 distribution) (bytes_of 4 transmission) 4 (length_bytes_of 4 distribution))
      ∙ take_all 4 (bytes_of 4 transmission) (omega (arith, length_bytes_of 4 transmission)))
      ∙ number_of_bytes_of 4 transmission (omega arith)

  revenues_pass : (at : ℕ) → judge_numbers revenue_limits at value ≡ Ok tt
  unfolding judge_numbers
  revenues_pass at =
      let rest : length (drop 4 value) ≡ 4 = ap length (drop_at (bytes_of 4 distribution) (bytes_of 4 transmission) 4 (length_bytes_of 4 distribution)) ∙ length_bytes_of 4 transmission in
      rw (le-ltb (length value) 4 (omega (arith, value_size)), distribution_read, le-leb distribution highest_revenue d, le-ltb distribution 0 (omega arith), le-ltb (length (drop 4 value)) 4 (omega arith), transmission_read, le-leb transmission highest_revenue t, le-ltb transmission 0 (omega arith))

  module _ (number : ℕ) (file : List ℕ) (bytes : Bytes file) {request : Request} (read : request_of number file ≡ Ok request) where
    replaced : FieldReplaced request_rows 8 value file
    replaced =
        let stands = stands_means request_rows number file (read_accepted number file read).stands in
        let s = fields_part file in
        let found = walk_finds_due request_rows s stands.field_list request_rows_rise 7 (lit< tt) (lit≤ tt) stands.walks in
        let size : found.len ≡ length value = omega (arith, permitted_length (get_or request_rows 7 []) found.len found.permitted, value_size) in
        field_replaced request_rows 8 value file request_rows_rise bytes value_bytes stands (found.found ∙ ap (place_at found.start) size) (omega (arith, found.within))

    still_passes : judge_request (fields_part (file_with_revenues distribution transmission file)) ≡ Ok tt
    still_passes =
        let judged = first_failure_passes (request_judgements (fields_part file)) (read_accepted number file read).passes in
        let at = replaced.places in
        let same = replaced.others in
        rw (at 1, same 1 (λ e. omega arith), judged 0, at 3, same 3 (λ e. omega arith), at 5, same 5 (λ e. omega arith), judged 1, at 6, same 6 (λ e. omega arith), judged 2, at 7, same 7 (λ e. omega arith), judged 3, replaced.replaced, revenues_pass, at 9, same 9 (λ e. omega arith), judged 5, at 10, same 10 (λ e. omega arith), judged 6, at 11, same 11 (λ e. omega arith), judged 7, at 12, same 12 (λ e. omega arith), judged 8)

    -- in either form
    zone_kept : (place : Option Place) → zone_by place (fields_part (file_with_revenues distribution transmission file)) ≡ zone_by place (fields_part file)
    zone_kept None = ap (λ held. number_at held 0 1) (replaced.others 4 (λ e. omega arith))
    zone_kept (Some place) = ap (λ held. number_at held 0 2) (replaced.others 13 (λ e. omega arith))

    values_kept : request_values (fields_part (file_with_revenues distribution transmission file)) ≡ with_revenues distribution transmission (request_values (fields_part file))
    values_kept =
        let same = replaced.others in
        let zone : zone_in (fields_part (file_with_revenues distribution transmission file)) ≡ zone_in (fields_part file) =
        ap (λ place. zone_by place (fields_part (file_with_revenues distribution transmission file))) (replaced.found 13) ∙ zone_kept (first_place 13 (fields_part file)) in
        rw (zone, same 2 (λ e. omega arith), same 3 (λ e. omega arith), same 5 (λ e. omega arith), same 6 (λ e. omega arith), same 7 (λ e. omega arith), replaced.replaced, same 9 (λ e. omega arith), same 10 (λ e. omega arith), same 11 (λ e. omega arith), same 12 (λ e. omega arith), distribution_read, transmission_read)

    pub revenues_replaced : request_of number (file_with_revenues distribution transmission file) ≡ Ok (with_revenues distribution transmission request)
    revenues_replaced =
        request_judged number (file_with_revenues distribution transmission file) (Ok tt) (replaced.stands number) still_passes
        ∙ ap Ok (values_kept ∙ ap (with_revenues distribution transmission) (sym (request_is_values number file read)))

    pub revenues_differ : Bytes (file_with_revenues distribution transmission file) × DiffersInField 8 file (file_with_revenues distribution transmission file)
    revenues_differ = (replaced.bytes, replaced.differs)
