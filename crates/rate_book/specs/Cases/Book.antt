-- Document 01, 'Rate book': each limit at its value and one past it, over the definition of a book's answer; and every value of a book, read.
-- The lengths of the fields and the limits of the zones have their tables beside their definitions.
use Rattle.std.specs.Prelude.{ℕ, ◌≡◌, refl, take, replicate, Err, Ok, Some, option_map}
use Rattle.std.specs.Result.{result_ok}
use mathlib.Core.List.{List, [], ◌∷◌, ◌++◌, map, flat_map}
use Rattle.numbers.specs.BigEndian.{number, bytes_of}
use Rattle.numbers.specs.Check.{check_from}
use Rattle.field_walk.specs.Walk.{due_from, all_had, front_of, walk_from}
use Rattle.tagged.specs.Find.{fields_from, first_with, fields_with}
use Rattle.tagged.specs.File.{refusal, fields_part, answer_of, FileAnswer}
use Rattle.tagged.specs.Cases.AlteredFields.{put}
use Rattle.tagged.specs.Encoded.{closed}
use Rattle.field_values.specs.Judged.{judge_numbers, same_bytes}
use Rattle.book_zones.specs.Zones.{zone_rates, judge_zones_from}
use Rattle.book_zones.specs.Cases.Zones.{zone, wide_zone, over}
use Rattle.book_zones.specs.Cases.EightZones.{eight_narrow, eight_wide, narrow_fields, wide_fields}
use Rattle.rate_book.specs.Book.{book_of}
use Rattle.rate_book.specs.declared.book.Book.{Book}

abbrev pairs : List (ℕ × ℕ) → List ℕ
pairs figures = flat_map (λ pair. bytes_of 4 pair.0 ++ bytes_of 4 pair.1) figures

abbrev factors : List ℕ → List ℕ
factors values = flat_map (bytes_of 2) values

abbrev terms : ℕ → ℕ → ℕ → ℕ → List ℕ
terms threshold fee minimum term = bytes_of 4 threshold ++ bytes_of 4 fee ++ bytes_of 4 minimum ++ bytes_of 2 term

-- A book in which no two values are the same. The values stand at 3, 10, 15, 58, 65, 74 and 91, those of the zones at 97, 121 and 145.
abbrev sample : List (ℕ × List ℕ)
sample =
    (1, 82 ∷ 65 ∷ 84 ∷ 69 ∷ []) ∷
    (2, bytes_of 2 463) ∷
    (3, pairs ((10, 20) ∷ (200, 300) ∷ (3000, 4000) ∷ (40000, 50000) ∷ (500000, 600000) ∷ [])) ∷
    (4, factors (11001 ∷ 11002 ∷ [])) ∷
    (5, factors (12001 ∷ 12002 ∷ 12003 ∷ [])) ∷
    (6, terms 3000001 20001 20002 121) ∷
    (7, 1 ∷ bytes_of 2 6501) ∷
    (8, zone 3 (31001 ∷ 31002 ∷ 31003 ∷ 31004 ∷ 31005 ∷ [])) ∷
    (8, zone 5 (32001 ∷ 32002 ∷ 32003 ∷ 32004 ∷ 32005 ∷ [])) ∷
    (8, zone 9 (33001 ∷ 33002 ∷ 33003 ∷ 33004 ∷ 33005 ∷ [])) ∷
    []

-- 3 at a place, and 1 at one
abbrev fails : ℕ → FileAnswer
fails place = Err (refusal 3 1 place)

abbrev stops : ℕ → FileAnswer
stops place = Err (refusal 1 1 place)

abbrev boundaries : List (List (ℕ × List ℕ) × FileAnswer)
boundaries =
    (sample, Ok tt) ∷
    -- the letters RATF, and those of a request
    (put 0 (82 ∷ 65 ∷ 84 ∷ 70 ∷ []) sample, fails 3) ∷
    (put 0 (67 ∷ 79 ∷ 78 ∷ 78 ∷ []) sample, fails 3) ∷
    -- discount rate
    (put 1 (bytes_of 2 0) sample, Ok tt) ∷
    (put 1 (bytes_of 2 10000) sample, Ok tt) ∷
    (put 1 (bytes_of 2 10001) sample, fails 10) ∷
    -- the opex sum equals the revenue sum, and is one above it
    (put 2 (pairs ((1, 5) ∷ (2, 4) ∷ (3, 3) ∷ (4, 2) ∷ (5, 1) ∷ [])) sample, Ok tt) ∷
    (put 2 (pairs ((1, 5) ∷ (2, 4) ∷ (3, 3) ∷ (4, 2) ∷ (6, 1) ∷ [])) sample, fails 15) ∷
    (put 2 (pairs (replicate 5 (4294967295, 4294967295))) sample, Ok tt) ∷
    -- revenue 1 and 0
    (put 2 (pairs (replicate 4 (0, 0) ++ ((0, 1) ∷ []))) sample, Ok tt) ∷
    (put 2 (pairs (replicate 5 (0, 0))) sample, fails 15) ∷
    -- the first factor, and the eighth of eight, in both lists
    (put 3 (factors (40000 ∷ [])) sample, Ok tt) ∷
    (put 3 (factors (40001 ∷ [])) sample, fails 58) ∷
    (put 3 (factors (replicate 7 0 ++ (40000 ∷ []))) sample, Ok tt) ∷
    (put 3 (factors (replicate 7 0 ++ (40001 ∷ []))) sample, fails 72) ∷
    (put 4 (factors (40000 ∷ [])) sample, Ok tt) ∷
    (put 4 (factors (40001 ∷ [])) sample, fails 65) ∷
    (put 4 (factors (replicate 7 0 ++ (40000 ∷ []))) sample, Ok tt) ∷
    (put 4 (factors (replicate 7 0 ++ (40001 ∷ []))) sample, fails 79) ∷
    -- threshold, fee and minimum, minimum, term
    (put 5 (terms 5000000 0 0 120) sample, Ok tt) ∷
    (put 5 (terms 5000001 0 0 120) sample, fails 74) ∷
    (put 5 (terms 0 7 7 120) sample, Ok tt) ∷
    (put 5 (terms 0 8 7 120) sample, fails 78) ∷
    (put 5 (terms 0 0 1000000000 120) sample, Ok tt) ∷
    (put 5 (terms 0 0 1000000001 120) sample, fails 82) ∷
    (put 5 (terms 0 0 0 84) sample, Ok tt) ∷
    (put 5 (terms 0 0 0 83) sample, fails 86) ∷
    (put 5 (terms 0 0 0 65535) sample, Ok tt) ∷
    -- capacity charged, credit share
    (put 6 (0 ∷ bytes_of 2 6500) sample, Ok tt) ∷
    (put 6 (2 ∷ bytes_of 2 6500) sample, fails 91) ∷
    (put 6 (1 ∷ bytes_of 2 0) sample, Ok tt) ∷
    (put 6 (1 ∷ bytes_of 2 10000) sample, Ok tt) ∷
    (put 6 (1 ∷ bytes_of 2 10001) sample, fails 92) ∷
    -- a zone's number, and a rate
    (put 8 (zone 3 (replicate 5 0)) sample, fails 121) ∷
    (put 9 (zone 9 (over 4)) sample, fails 162) ∷
    -- "3 in byte order", and a field that can't stand before any value
    (put 0 (82 ∷ 65 ∷ 84 ∷ 70 ∷ []) (put 9 (zone 9 (over 0)) sample), fails 3) ∷
    (put 0 (82 ∷ 65 ∷ 84 ∷ 70 ∷ []) (put 1 (bytes_of 2 10001) sample), fails 3) ∷
    (put 2 (pairs (replicate 5 (1, 0))) (put 3 (factors (40001 ∷ [])) sample), fails 15) ∷
    (put 1 (bytes_of 2 10001) (put 2 (pairs (replicate 5 (0, 0))) (put 3 (factors (40001 ∷ [])) (put 5 (terms 5000001 0 0 83) sample))), fails 10) ∷
    (put 2 (pairs (replicate 5 (1, 0))) (put 4 (factors (40001 ∷ [])) sample), fails 15) ∷
    (put 3 (factors (40000 ∷ 40001 ∷ [])) (put 4 (factors (40001 ∷ [])) sample), fails 60) ∷
    (put 4 (factors (40001 ∷ 40001 ∷ [])) (put 5 (terms 5000001 0 0 120) sample), fails 65) ∷
    (put 5 (terms 5000001 8 7 83) sample, fails 74) ∷
    (put 5 (terms 0 1000000002 1000000001 83) sample, fails 78) ∷
    (put 5 (terms 0 0 1000000001 83) sample, fails 82) ∷
    (put 5 (terms 0 0 0 83) (put 6 (2 ∷ bytes_of 2 10001) sample), fails 86) ∷
    (put 6 (2 ∷ bytes_of 2 10001) (put 8 (zone 3 (over 0)) sample), fails 91) ∷
    (put 6 (1 ∷ bytes_of 2 10001) (put 7 (zone 3 (over 0)) sample), fails 92) ∷
    (put 0 (82 ∷ 65 ∷ 84 ∷ 70 ∷ []) (put 4 [] sample), stops 62) ∷
    []

-- Document 02, E6: a book with fields 09, whose values stand at 91 and 116
abbrev wide_sample : List ℕ → List ℕ → List (ℕ × List ℕ)
wide_sample one another = take 7 (put 3 (factors (10000 ∷ [])) (put 4 (factors (10000 ∷ [])) sample)) ++ ((9, one) ∷ (9, another) ∷ [])

abbrev free : List ℕ
free = replicate 5 0

abbrev wide_boundaries : List (List (ℕ × List ℕ) × FileAnswer)
wide_boundaries =
    (wide_sample (wide_zone 0 free) (wide_zone 65535 free), Ok tt) ∷
    (wide_sample (wide_zone 1 free) (wide_zone 1 free), fails 116) ∷
    (wide_sample (wide_zone 255 free) (wide_zone 256 free), Ok tt) ∷
    (wide_sample (wide_zone 256 free) (wide_zone 255 free), fails 116) ∷
    (wide_sample (wide_zone 1 (over 0)) (wide_zone 0 free), fails 93) ∷
    (wide_sample (wide_zone 1 free) (wide_zone 2 (over 4)), fails 134) ∷
    (wide_sample (wide_zone 1 free) (wide_zone 2 (replicate 5 10000000)), Ok tt) ∷
    -- both forms in one file, before any value
    (put 0 (82 ∷ 65 ∷ 84 ∷ 70 ∷ []) (take 8 (wide_sample (wide_zone 1 free) free) ++ ((8, zone 5 free) ∷ [])), stops 113) ∷
    []

pub wide_boundaries_hold : map (λ t. answer_of (book_of 1 (closed t.0))) wide_boundaries ≡ map (λ t. t.1) wide_boundaries
unfolding flat_map number bytes_of check_from due_from all_had front_of walk_from fields_from first_with fields_with judge_numbers same_bytes judge_zones_from book_of
wide_boundaries_hold = refl

pub boundaries_hold : map (λ t. answer_of (book_of 1 (closed t.0))) boundaries ≡ map (λ t. t.1) boundaries
unfolding flat_map number bytes_of check_from due_from all_had front_of walk_from fields_from first_with fields_with judge_numbers same_bytes judge_zones_from book_of
boundaries_hold = refl

-- every value of the sample, read where document 01 has it; its zones' rates stand beside the book
pub sample_read :
    book_of 1 (closed sample)
    ≡ Ok
    (record {
      rate = 463;
      opex = 543210;
      revenue = 654320;
      distribution = record { count = 2; values = 11001 ∷ 11002 ∷ replicate 6 0 };
      transmission = record { count = 3; values = 12001 ∷ 12002 ∷ 12003 ∷ replicate 5 0 };
      threshold = 3000001;
      fee = 20001;
      minimum = 20002;
      term = 121;
      charged = 1;
      share = 6501;
      zones = 3;
      zone_numbers = 3 ∷ 5 ∷ 9 ∷ replicate 5 0;
    })
unfolding flat_map number bytes_of check_from due_from all_had front_of walk_from fields_from first_with fields_with judge_numbers same_bytes judge_zones_from book_of
sample_read = refl

-- five pairs at the highest of their width
abbrev sums_of : Book → List ℕ
sums_of book = book.opex ∷ book.revenue ∷ []

pub highest_sums_read :
    option_map sums_of (result_ok (book_of 1 (closed (put 2 (pairs (replicate 5 (4294967295, 4294967295))) sample)))) ≡ Some (21474836475 ∷ 21474836475 ∷ [])
unfolding flat_map number bytes_of check_from due_from all_had front_of walk_from fields_from first_with fields_with judge_numbers same_bytes judge_zones_from book_of
highest_sums_read = refl

pub sample_rates :
    zone_rates (fields_part (closed sample))
    ≡ (31001 ∷ 31002 ∷ 31003 ∷ 31004 ∷ 31005 ∷ []) ∷
    (32001 ∷ 32002 ∷ 32003 ∷ 32004 ∷ 32005 ∷ []) ∷
    (33001 ∷ 33002 ∷ 33003 ∷ 33004 ∷ 33005 ∷ []) ∷
    replicate 5 (replicate 5 0)
unfolding flat_map number bytes_of check_from fields_from fields_with first_with
sample_rates = refl

-- each list full: eight factors in both, and eight zones, in both forms
abbrev full_lists : List (ℕ × List ℕ)
full_lists =
    take 7
    (put 3 (factors (11001 ∷ 11002 ∷ 11003 ∷ 11004 ∷ 11005 ∷ 11006 ∷ 11007 ∷ 11008 ∷ []))
    (put 4 (factors (12001 ∷ 12002 ∷ 12003 ∷ 12004 ∷ 12005 ∷ 12006 ∷ 12007 ∷ 12008 ∷ [])) sample))

abbrev full_narrow : List ℕ
full_narrow = closed (full_lists ++ narrow_fields eight_narrow)

abbrev full_wide : List ℕ
full_wide = closed (full_lists ++ wide_fields eight_wide)

-- with these zone numbers
abbrev full_book : List ℕ → Book
full_book numbers =
    record {
      rate = 463;
      opex = 543210;
      revenue = 654320;
      distribution = record { count = 8; values = 11001 ∷ 11002 ∷ 11003 ∷ 11004 ∷ 11005 ∷ 11006 ∷ 11007 ∷ 11008 ∷ [] };
      transmission = record { count = 8; values = 12001 ∷ 12002 ∷ 12003 ∷ 12004 ∷ 12005 ∷ 12006 ∷ 12007 ∷ 12008 ∷ [] };
      threshold = 3000001;
      fee = 20001;
      minimum = 20002;
      term = 121;
      charged = 1;
      share = 6501;
      zones = 8;
      zone_numbers = numbers;
    }

pub record FullBooks : Type 0 where
  pub narrow_read : book_of 1 full_narrow ≡ Ok (full_book (3 ∷ 5 ∷ 9 ∷ 17 ∷ 33 ∷ 65 ∷ 129 ∷ 255 ∷ []))
  pub wide_read : book_of 1 full_wide ≡ Ok (full_book (4 ∷ 255 ∷ 256 ∷ 260 ∷ 1400 ∷ 9999 ∷ 40000 ∷ 65535 ∷ []))
  pub narrow_rates : zone_rates (fields_part full_narrow) ≡ map (λ z. z.1) eight_narrow
  pub wide_rates : zone_rates (fields_part full_wide) ≡ map (λ z. z.1) eight_wide

pub full_books : FullBooks
unfolding flat_map number bytes_of check_from due_from all_had front_of walk_from fields_from first_with fields_with judge_numbers same_bytes judge_zones_from book_of
full_books = record { narrow_read = refl; wide_read = refl; narrow_rates = refl; wide_rates = refl }
