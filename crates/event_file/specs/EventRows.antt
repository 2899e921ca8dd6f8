-- Document 02, E13: "tagged events in any order: 01 accept (2-byte length of the book, the book, the request), 02 pay-out (entry 4 bytes, amount 8), 03 hand-over
-- (entry 4, person 4), 04 clearing (month 2), 05 withdrawal (entry 4), closed by FF." Document 01, 'Tagged fields': "Its permitted lengths stand in one constant table
-- for each kind of file": tag; lowest, highest and step of length.
use Rattle.std.specs.Prelude.{ℕ, List, [], ◌∷◌}

abbrev pub accept_tag : ℕ
accept_tag = 1

abbrev pub pay_out_tag : ℕ
pay_out_tag = 2

abbrev pub hand_over_tag : ℕ
hand_over_tag = 3

abbrev pub clear_tag : ℕ
clear_tag = 4

abbrev pub withdraw_tag : ℕ
withdraw_tag = 5

abbrev pub event_rows : List (List ℕ)
event_rows =
    (accept_tag ∷ 2 ∷ 65535 ∷ 1 ∷ []) ∷
    (pay_out_tag ∷ 12 ∷ 12 ∷ 1 ∷ []) ∷
    (hand_over_tag ∷ 8 ∷ 8 ∷ 1 ∷ []) ∷
    (clear_tag ∷ 2 ∷ 2 ∷ 1 ∷ []) ∷
    (withdraw_tag ∷ 4 ∷ 4 ∷ 1 ∷ []) ∷
    []
