-- Document 02, E6: "Older books and requests price as before": a book without a field 09 is answered as by the rows that document 01 gives, place included.
use Rattle.std.specs.Prelude.{ℕ, ◌≡◌, refl, List, [], Bool, true, false, cond, get_or, take, drop, eqb, None}
use Rattle.std.proofs.Common.{sym, ap, ◌∙◌, arith, le-ltb, ne_eqb}
use Rattle.std.proofs.lemmas.Bool.{false≢true}
use Rattle.field_walk.specs.Walk.{Due, due_from, all_had, Walk, fields, stops, first_form, second_form, neither_form, rows_in, walk_by, by_forms, walk}
use Rattle.field_walk.proofs.Theorems.Forms.{one_form}
use Rattle.tagged.specs.Find.{fields_of, first_place}
use Rattle.tagged.specs.File.{fields_part, file_answer}
use Rattle.tagged.proofs.Theorems.WalkFurther.{no_more, Further, TagsOf, found_nowhere, goes_further, goes_on_after, walk_without_last}
use Rattle.book_zones.specs.BookRows.{book_rows}
use Rattle.book_zones.specs.Zones.{tag_by, zone_tag}
use Rattle.pricing_laws.specs.EarlierRows.{earlier_book_rows}
use Rattle.pricing_laws.proofs.Theorems.Without.{without}

-- by fields other than 09
abbrev pub Not09 : ℕ → Type 0
Not09 tag = tag ≡ 9 → ⊥

abbrev narrow_rows : List (List ℕ)
narrow_rows = rows_in first_form book_rows

abbrev wide_rows : List (List ℕ)
wide_rows = rows_in second_form book_rows

narrow_as_earlier : (s : List ℕ) → walk_by narrow_rows s ≡ walk_by earlier_book_rows s
narrow_as_earlier = walk_without_last earlier_book_rows (take 8 narrow_rows) refl (get_or narrow_rows 8 []) refl refl

-- without 09 the second form goes no further than the first
wide_no_further : (s : List ℕ) → TagsOf Not09 s → Further (walk_by wide_rows s) (walk_by narrow_rows s)
unfolding due_from all_had
wide_no_further s tags = goes_further Not09 wide_rows narrow_rows (goes_on_after (take 7 wide_rows) (take 7 narrow_rows) refl (no_more stops_there missing)) s tags
  where
    stops_there : (k n tag : ℕ) → Not09 tag → due_from (drop 7 wide_rows) k n tag ≡ None
    stops_there k n tag other = rw (ne_eqb 9 tag (λ e. other (sym e)), le-ltb n 0 (omega arith)) (either_same (eqb 8 tag))
      where
        either_same : (b : Bool) → cond {A = Due} b None None ≡ None
        either_same true = refl
        either_same false = refl

    missing : (n : ℕ) → all_had (drop 7 wide_rows) n ≡ true → all_had (drop 7 narrow_rows) n ≡ true
    missing n h = absurd (false≢true (sym (rw (le-ltb n 0 (omega arith))) ∙ h))

older_walk : (s : List ℕ) → TagsOf Not09 s → walk book_rows s ≡ walk earlier_book_rows s
older_walk s tags =
    by (walk_by narrow_rows s) (walk_by wide_rows s) (walk_by (rows_in neither_form book_rows) s) (wide_no_further s tags) ∙ narrow_as_earlier s
    ∙ sym (one_form (walk_by earlier_book_rows s))
  where
    by : (first second neither : Walk) → Further second first → by_forms first second neither ≡ first
    by (fields fs) second neither h = refl
    by (stops at) (fields fs) neither h = sym h
    by (stops at) (stops at') (fields fs) h = refl
    by (stops at) (stops at') (stops _) h = rw (le-ltb at at' h)

pub older_book_same : (number : ℕ) (file : List ℕ) → first_place 9 (fields_part file) ≡ None →
    file_answer book_rows number file ≡ file_answer earlier_book_rows number file
older_book_same number file none = rw (older_walk (fields_part file) (without 9 (fields_of (fields_part file)) none))

-- its zones are the fields 08, with a number of one byte
pub older_zone_tag : (s : List ℕ) → TagsOf Not09 s → zone_tag s ≡ 8
older_zone_tag s tags = ap tag_by (found_nowhere 9 s tags)
