-- Document 01, 'How calls end': the numbers of the refusals.
use Rattle.std.specs.Prelude.{ℕ}

-- "file doesn't walk as above": as 'Tagged fields' has it
abbrev pub file_does_not_walk : ℕ
file_does_not_walk = 1

-- "check differs"
abbrev pub check_differs : ℕ
check_differs = 2

-- "value or letters not as listed; in a stored ledger only the letters": listed under 'Rate book', 'Request' and 'Stored form'
abbrev pub value_not_listed : ℕ
value_not_listed = 3

-- "zone not in the book"
abbrev pub zone_not_in_book : ℕ
zone_not_in_book = 4

-- "bespoke rate not allowed"
abbrev pub bespoke_not_allowed : ℕ
bespoke_not_allowed = 5

-- "scheme never opened"
abbrev pub scheme_never_opened : ℕ
scheme_never_opened = 6

-- "month before the last accepted"
abbrev pub month_before_last : ℕ
month_before_last = 7

-- "64 schemes, one must open"
abbrev pub no_scheme_left : ℕ
no_scheme_left = 8

-- "no table entry left, one is needed"
abbrev pub no_entry_left : ℕ
no_entry_left = 9

-- "1,000,000 connections taken"
abbrev pub no_connection_left : ℕ
no_connection_left = 10

-- "no such entry"
abbrev pub no_such_entry : ℕ
no_such_entry = 11

-- "pay-out above standing credit"
abbrev pub pay_out_above_credit : ℕ
pay_out_above_credit = 12

-- "ledger unsound, or table shorter than its entries"
abbrev pub ledger_unsound : ℕ
ledger_unsound = 13

-- "output shorter than the stored form"
abbrev pub output_too_short : ℕ
output_too_short = 14

-- document 02, E5: "a low above its high"
abbrev pub low_above_high : ℕ
low_above_high = 15

-- document 02, E9: "moving back where a next number isn't its count plus one"
abbrev pub numbers_not_counts : ℕ
numbers_not_counts = 16
