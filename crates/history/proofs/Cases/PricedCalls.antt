-- What pricing answers of the books and requests of the computed histories, one equation each.
use Rattle.std.specs.Prelude.{refl}
use mathlib.Core.List.{flat_map}
use Rattle.numbers.specs.BigEndian.{number, bytes_of}
use Rattle.numbers.specs.Check.{check_from}
use Rattle.field_walk.specs.Walk.{due_from, all_had, front_of, walk_from}
use Rattle.tagged.specs.Find.{fields_from, first_with, fields_with}
use Rattle.field_values.specs.Judged.{judge_numbers, same_bytes}
use Rattle.book_zones.specs.Zones.{judge_zones_from}
use Rattle.rate_book.specs.Book.{book_of}
use Rattle.request.specs.Request.{request_of}
use Rattle.discount.specs.Discount.{discount}
use Rattle.revenue.specs.Revenue.{incremental_revenue}
use Rattle.charge.specs.Price.{zone_found, values_priced, request_priced, price_of}
use Rattle.charge.specs.Cases.MarkedFigures.{SchemeBilled}
use Rattle.history.specs.Cases.CentsBook.{CentsBilled}
use Rattle.history.specs.Cases.BuildingBooks.{first_terms, second_terms, BuildingBilled}

pub record PricedRequests : Type 0 where
  pub cents_opening : CentsBilled 10 19 0
  pub cents_joining : CentsBilled 0 8 1
  pub cents_last : CentsBilled 0 215 1
  -- by the slip's book, M7's last joining in the last month of the term
  pub marked_last : SchemeBilled 1039630 24398 5000 1
  -- an opening, a joiner who builds on by another book, and later joiners of both schemes
  pub first_opening : BuildingBilled first_terms 6000000 10000 0
  pub building_on : BuildingBilled second_terms 5000001 5000 1
  pub joins_first : BuildingBilled first_terms 0 5000 1
  pub joins_second : BuildingBilled first_terms 0 5000 2

pub priced_requests : PricedRequests
unfolding check_from number bytes_of due_from all_had front_of walk_from fields_from first_with fields_with judge_numbers same_bytes judge_zones_from book_of request_of discount incremental_revenue zone_found values_priced request_priced price_of flat_map
priced_requests = record { cents_opening = refl; cents_joining = refl; cents_last = refl; marked_last = refl; first_opening = refl; building_on = refl; joins_first = refl; joins_second = refl }
