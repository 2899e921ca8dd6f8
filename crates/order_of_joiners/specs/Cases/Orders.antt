-- Who asks to join which scheme, by what pricing makes of an accept and by its bytes; other calls ask for nothing.
use Rattle.std.specs.Prelude.{◌≡◌, refl, [], ◌∷◌, ◌++◌, Err, None, Ok, Some}
use mathlib.Core.List.{flat_map}
use Rattle.numbers.specs.BigEndian.{number, bytes_of}
use Rattle.numbers.specs.Check.{check_from}
use Rattle.field_walk.specs.Walk.{due_from, all_had, front_of, walk_from}
use Rattle.tagged.specs.Find.{fields_from, first_with, fields_with}
use Rattle.tagged.specs.File.{refusal}
use Rattle.field_values.specs.Judged.{judge_numbers, same_bytes}
use Rattle.book_zones.specs.Zones.{judge_zones_from}
use Rattle.rate_book.specs.Book.{book_of}
use Rattle.request.specs.Request.{request_of}
use Rattle.discount.specs.Discount.{discount}
use Rattle.revenue.specs.Revenue.{incremental_revenue}
use Rattle.charge.specs.Price.{zone_found, values_priced, request_priced, price_of}
use Rattle.calls.specs.Decision.{accept, pay_out, hand_over, clear}
use Rattle.history.specs.Cases.BuildingBooks.{building_bill}
use Rattle.order_of_joiners.specs.Orders.{joiner_by, joiner_asking, joiners}
use Rattle.order_of_joiners.specs.Cases.OrdersDiffer.{opens, joins, free_terms, calls_of}

pub askings_hold :
    (joiner_by 1 (Ok (building_bill free_terms 0 66 1)) ≡ Some (record { person = 4711; capacity = 66 }))
    × (joiner_by 2 (Ok (building_bill free_terms 0 66 1)) ≡ None)
    × (joiner_by 1 (Ok (building_bill free_terms 3 66 0)) ≡ None)
    × (joiner_by 65537 (Ok (building_bill free_terms 0 66 1)) ≡ None)
    × (joiner_by 1 (Err (refusal 1 1 0)) ≡ None)
    × (joiner_asking 1 (pay_out 1 66) ≡ None)
    × (joiner_asking 1 (hand_over 1 66) ≡ None)
    × (joiner_asking 1 (clear 1) ≡ None)
askings_hold = (refl, refl, refl, refl, refl, refl, refl, refl)

-- from bytes: of two schemes' joiners, an opening and a pay-out between them
pub joiners_hold :
    (joiners 1 (calls_of (joins 6 1 ∷ opens 3 3 ∷ []) ++ (pay_out 1 1 ∷ calls_of (joins 1 2 ∷ joins 66 1 ∷ [])))
    ≡ record { person = 4711; capacity = 6 } ∷ record { person = 4711; capacity = 66 } ∷ [])
    × (joiners 1 (accept [] [] ∷ []) ≡ [])
    × (joiners 1 [] ≡ [])
unfolding check_from number bytes_of due_from all_had front_of walk_from fields_from first_with fields_with judge_numbers same_bytes judge_zones_from book_of request_of discount incremental_revenue zone_found values_priced request_priced price_of flat_map
joiners_hold = (refl, refl, refl)
