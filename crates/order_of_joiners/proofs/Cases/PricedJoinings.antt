-- What pricing answers of the requests of specs/Cases/OrdersDiffer.antt, one equation each.
use Rattle.std.specs.Prelude.{refl}
use mathlib.Core.List.{flat_map}
use Rattle.numbers.specs.BigEndian.{number, bytes_of}
use Rattle.numbers.specs.Check.{check_from}
use Rattle.field_walk.specs.Walk.{due_from, all_had, front_of, walk_from}
use Rattle.tagged.specs.Find.{fields_from, first_with, fields_with}
use Rattle.field_values.specs.Judged.{judge_numbers, same_bytes}
use Rattle.book_zones.specs.Zones.{judge_zones_from}
use Rattle.rate_book.specs.Book.{book_of}
use Rattle.request.specs.Request.{request_of}
use Rattle.discount.specs.Discount.{discount}
use Rattle.revenue.specs.Revenue.{incremental_revenue}
use Rattle.charge.specs.Price.{zone_found, values_priced, request_priced, price_of}
use Rattle.history.specs.Cases.BuildingBooks.{BuildingBilled}
use Rattle.order_of_joiners.specs.Cases.OrdersDiffer.{Asking, opens, joins, free_terms}

abbrev pub Billed : Asking → Type 0
Billed a = BuildingBilled free_terms a.x a.capacity a.scheme

pub record PricedJoinings : Type 0 where
  pub small : Billed (opens 3 3)
  pub larger : Billed (opens 56 18)
  pub line : Billed (opens 953383014 2)
  pub one : Billed (joins 1 1)
  pub one_of_another : Billed (joins 1 2)
  pub two : Billed (joins 2 1)
  pub three : Billed (joins 3 1)
  pub six : Billed (joins 6 1)
  pub sixty_six : Billed (joins 66 1)
  pub kva_131637 : Billed (joins 131637 1)
  pub kva_430225 : Billed (joins 430225 1)
  pub kva_728442 : Billed (joins 728442 1)
  pub kva_754689 : Billed (joins 754689 1)

pub priced_joinings : PricedJoinings
unfolding check_from number bytes_of due_from all_had front_of walk_from fields_from first_with fields_with judge_numbers same_bytes judge_zones_from book_of request_of discount incremental_revenue zone_found values_priced request_priced price_of flat_map
priced_joinings =
    record {
      small = refl;
      larger = refl;
      line = refl;
      one = refl;
      one_of_another = refl;
      two = refl;
      three = refl;
      six = refl;
      sixty_six = refl;
      kva_131637 = refl;
      kva_430225 = refl;
      kva_728442 = refl;
      kva_754689 = refl;
    }
