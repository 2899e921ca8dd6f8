-- Two orders of the same joiners as histories from bytes, by a book of threshold, fee, minimum and share 0 and term 84, X being ME. Every figure stands here as a
-- literal: what two_orders asks for can be met, and neither 1 cent nor 2 cents for each joining are enough.
use Rattle.std.specs.Prelude.{ℕ, ◌*◌, ◌≡◌, List, [], ◌∷◌, ◌++◌, map, length, replicate}
use Rattle.rate_book.specs.declared.fields.Terms.{Terms}
use Rattle.ledger.specs.Lists.{oldest_first, All}
use Rattle.ledger.specs.Records.{no_party}
use Rattle.ledger.specs.declared.records.Party.{Party}
use Rattle.calls.specs.Decision.{Call, accept, pay_out, clear}
use Rattle.history.specs.History.{Entering, account_of, history_of}
use Rattle.history.specs.Cases.BuildingBooks.{book_of, building_request}
use Rattle.order_of_joiners.specs.Distance.{Part, WithinCents, EachWithin, parts_of, parts_on}
use Rattle.order_of_joiners.specs.Cases.Distance.{part}
use Rattle.order_of_joiners.specs.Orders.{MadeOn, history_after, TwoOrders, SameJoiners}

-- ---- the calls

-- an accept: X, kVA and the scheme that it names
pub record Asking : Type 0 where
  pub x : ℕ
  pub capacity : ℕ
  pub scheme : ℕ

abbrev pub opens : ℕ → ℕ → Asking
opens x capacity = record { x = x; capacity = capacity; scheme = 0 }

abbrev pub joins : ℕ → ℕ → Asking
joins capacity scheme = record { x = 0; capacity = capacity; scheme = scheme }

abbrev pub free_terms : Terms
free_terms = record { threshold = 0; fee = 0; minimum = 0; term = 84 }

abbrev pub calls_of : List Asking → List Call
calls_of asked = map (λ a. accept (book_of free_terms) (building_request a.x a.capacity a.scheme)) asked

-- X 3 and 56: the opening, and the joiners in two orders
abbrev pub small : List Asking
small = opens 3 3 ∷ []

abbrev pub one_then_six : List Asking
one_then_six = joins 1 1 ∷ joins 6 1 ∷ []

abbrev pub six_then_one : List Asking
six_then_one = joins 6 1 ∷ joins 1 1 ∷ []

abbrev pub larger : List Asking
larger = opens 56 18 ∷ []

abbrev pub largest_first : List Asking
largest_first = joins 66 1 ∷ joins 1 1 ∷ joins 1 1 ∷ []

abbrev pub largest_last : List Asking
largest_last = joins 1 1 ∷ joins 1 1 ∷ joins 66 1 ∷ []

-- the largest first, with another scheme's opening and joining in between
abbrev pub beside_another : List Asking
beside_another = joins 66 1 ∷ opens 3 3 ∷ joins 1 1 ∷ joins 1 2 ∷ joins 1 1 ∷ []

-- the largest first, and once all credits are paid out the scheme is cleared
abbrev pub cleared_calls : List Call
cleared_calls = calls_of (larger ++ largest_first) ++ (pay_out 1 44 ∷ clear 24399 ∷ [])

-- ten joiners
abbrev pub line : List Asking
line = opens 953383014 2 ∷ []

abbrev pub one_way : List Asking
one_way =
    joins 430225 1 ∷ joins 1 1 ∷ joins 1 1 ∷ joins 1 1 ∷ joins 1 1 ∷ joins 3 1 ∷ joins 2 1 ∷ joins 728442 1 ∷ joins 754689 1 ∷ joins 131637 1 ∷ []

abbrev pub other_way : List Asking
other_way =
    joins 728442 1 ∷ joins 430225 1 ∷ joins 131637 1 ∷ joins 754689 1 ∷ joins 3 1 ∷ joins 1 1 ∷ joins 1 1 ∷ joins 1 1 ∷ joins 1 1 ∷ joins 2 1 ∷ []

-- ---- the figures

-- the parties of scheme 1 on a table of so many records, the first party and then the joiners in their order
abbrev pub parts_after : ℕ → List Asking → List Part
parts_after room asked = oldest_first (parts_of (account_of 1 (history_of room (calls_of asked))))

pub record FiguresDiffer : Type 0 where
  -- 3, −1, 1 and 1, 2, 0
  pub small_one_way : parts_after 3 (small ++ one_then_six) ≡ part 3 3 0 ∷ part 1 0 1 ∷ part 6 1 0 ∷ []
  pub small_other_way : parts_after 3 (small ++ six_then_one) ≡ part 3 3 2 ∷ part 6 2 0 ∷ part 1 0 0 ∷ []
  -- the second party's −1 and the third one's 0: a difference that stops at 0 would hide the cent
  pub negative : WithinCents 0 (part 1 0 1) (part 1 0 0) → ⊥
  -- 12, 44, 0, 0 and 16, −1, −1, 42
  pub larger_one_way : parts_after 4 (larger ++ largest_first) ≡ part 18 56 44 ∷ part 66 44 0 ∷ part 1 0 0 ∷ part 1 0 0 ∷ []
  pub cleared_one_way :
      map (λ account. oldest_first (parts_of account)) (history_of 4 cleared_calls).cleared
      ≡ (part 18 56 44 ∷ part 66 44 0 ∷ part 1 0 0 ∷ part 1 0 0 ∷ []) ∷ []
  pub larger_other_way : parts_after 4 (larger ++ largest_last) ≡ part 18 56 40 ∷ part 1 2 3 ∷ part 1 2 3 ∷ part 66 42 0 ∷ []
  -- the first party's 12 and 16: 1 cent for each of three joinings is too little
  pub one_cent : WithinCents (1 * 3) (part 18 56 44) (part 18 56 40) → ⊥
  pub line_one_way :
      parts_after 11 (line ++ one_way)
      ≡ part 2 953383014 953382081 ∷
      part 430225 953378582 752807221 ∷
      part 1 2215 1751 ∷
      part 1 2215 1753 ∷
      part 1 2215 1750 ∷
      part 1 2215 1751 ∷
      part 3 6647 5249 ∷
      part 2 4431 3500 ∷
      part 728442 599376383 259775958 ∷
      part 754689 376042689 24205885 ∷
      part 131637 61369307 0 ∷
      []
  pub line_other_way :
      parts_after 11 (line ++ other_way)
      ≡ part 2 953383014 953382079 ∷
      part 728442 953380396 613779963 ∷
      part 430225 354000328 153428988 ∷
      part 131637 97264121 35894814 ∷
      part 754689 351838353 1543 ∷
      part 3 1398 1 ∷
      part 1 466 1 ∷
      part 1 466 1 ∷
      part 1 466 1 ∷
      part 1 466 1 ∷
      part 2 932 0 ∷
      []
  -- the second party's 200,571,361 and 200,571,340: 2 cents for each of ten joinings are too few
  pub two_cents : WithinCents (2 * 10) (part 430225 953378582 752807221) (part 430225 354000328 153428988) → ⊥

-- ---- what two_orders asks for, met: calls that can be made on a table of so many records, the opening and two orders of its joiners
pub record Met (room : ℕ) (opening one other : List Asking) : Type 0 where
  pub orders : TwoOrders (replicate room no_party)
  pub opening_calls : orders.opening.calls ≡ calls_of opening
  pub one_calls : orders.one.calls ≡ calls_of one
  pub other_calls : orders.other.calls ≡ calls_of other
  pub first : Entering
  pub same : SameJoiners (replicate room no_party) orders 1 first

-- ---- what order_within_cents comes to: 9 cents for three joinings, also where another scheme is joined in between
abbrev pub ThreeJoiningsWithin : Type 0
ThreeJoiningsWithin =
    (start start_other : List Party) (made : MadeOn start) (made_other : MadeOn start_other) → length start ≡ 6 → length start_other ≡ 4 →
    made.calls ≡ calls_of (larger ++ beside_another) → made_other.calls ≡ calls_of (larger ++ largest_last) →
    EachWithin 9 (parts_on 1 made.after) (parts_on 1 made_other.after)

-- the same of a scheme that was cleared, by the account that the history keeps
abbrev pub ClearedJoiningsWithin : Type 0
ClearedJoiningsWithin =
    (start start_other : List Party) (made : MadeOn start) (made_other : MadeOn start_other) → length start ≡ 4 → length start_other ≡ 4 →
    made.calls ≡ cleared_calls → made_other.calls ≡ calls_of (larger ++ largest_last) →
    All (λ account. EachWithin 9 (parts_of account) (parts_of (account_of 1 (history_after start_other made_other)))) (history_after start made).cleared

pub record OrdersDiffer : Type 0 where
  pub figures : FiguresDiffer
  pub small_met : Met 3 small one_then_six six_then_one
  pub larger_met : Met 4 larger largest_first largest_last
  pub three_joinings : ThreeJoiningsWithin
  pub cleared_joinings : ClearedJoiningsWithin
