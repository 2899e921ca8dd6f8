-- Results in literals: number + 32 × file + 256 × place, with file 1 for the request too, since it is read alone.
use Rattle.std.specs.Prelude.{ℕ, ◌≡◌, refl}
use mathlib.Core.List.{List, [], flat_map}
use Rattle.numbers.specs.BigEndian.{number, bytes_of}
use Rattle.numbers.specs.Check.{check_from}
use Rattle.field_walk.specs.Walk.{due_from, all_had, front_of, walk_from}
use Rattle.tagged.specs.File.{answer_of}
use Rattle.tagged.specs.Find.{fields_from, first_with, fields_with}
use Rattle.field_values.specs.Judged.{judge_numbers, same_bytes}
use Rattle.book_zones.specs.Zones.{judge_zones_from}
use Rattle.rate_book.specs.Book.{book_of}
use Rattle.request.specs.Request.{request_of}
use Rattle.charge.specs.Cases.MarkedFigures.{slip_book, slip_request, scheme_request}
use Rattle.quoting_unit.specs.Interface.{answer_result}
use Rattle.fikrem_c.specs.FileResult.{file_read_alone}

abbrev book_result : List ℕ → ℕ
book_result file = answer_result (answer_of (book_of file_read_alone file))

abbrev request_result : List ℕ → ℕ
request_result file = answer_result (answer_of (request_of file_read_alone file))

-- the slip's files; each as the other kind, whose field 02 at 7 has another length; no bytes; a request's capacity at 153 at its lowest and one below
pub file_results :
    (book_result slip_book ≡ 0)
    × (request_result slip_request ≡ 0)
    × (book_result slip_request ≡ 1825)
    × (request_result slip_book ≡ 1825)
    × (book_result [] ≡ 33)
    × (request_result [] ≡ 33)
    × (request_result (scheme_request 1039630 24315 1 0) ≡ 0)
    × (request_result (scheme_request 1039630 24315 0 0) ≡ 39203)
unfolding check_from number bytes_of due_from all_had front_of walk_from fields_from first_with fields_with judge_numbers same_bytes judge_zones_from book_of request_of flat_map
file_results = (refl, refl, refl, refl, refl, refl, refl, refl)
