-- The one table: the fields of each kind of file, as document 01's 'Rate book' and 'Request' list them, and the values of each field. The limits are those
-- that the readers judge by.
use Rattle.std.specs.Prelude.{ℕ, List, [], ◌∷◌, get_or}
use Rattle.field_values.specs.Limits.{highest_factor, highest_discount_rate, highest_share, highest_threshold, highest_minimum, lowest_term, highest_rate, highest_amount, highest_revenue, highest_demand, lowest_capacity, highest_capacity, highest_class, highest_mode, highest_mark, highest_of_two_bytes}
use Rattle.unit_text.specs.declared.measure.Words.TheVariants.{YesNo, Classes, Modes, Marks}
use Rattle.unit_text.specs.declared.measure.Measure.{Measure}
use Rattle.unit_text.specs.declared.measure.Measure.TheVariants.{Number, Dollars, DollarsPerKva, ThousandDollars, Kva, Percent, Factor, Month, Choice}
use Rattle.text_names.specs.declared.table.Kind.{Kind}
use Rattle.text_names.specs.declared.table.Kind.TheVariants.{Book, Request}
use Rattle.text_names.specs.declared.table.Over.{Over}
use Rattle.text_names.specs.declared.table.Over.TheVariants.{Nothing, Pairs, Tiers, Years, Zones}
use Rattle.text_names.specs.declared.table.Limits.{Limits}
use Rattle.text_names.specs.declared.table.Limits.TheVariants.{Within, UpTo, Rising, Only, Sums}
use Rattle.text_names.specs.declared.table.Field.{Field}
use Rattle.text_names.specs.declared.table.Row.{Row}

-- a person's number and the five pairs take any value of their width
abbrev pub highest_of_four_bytes : ℕ
highest_of_four_bytes = 4294967295

-- ---- fields: tag, what their values are repeated over, the first row and how many, the bytes of their values once each
abbrev pub zone_field : ℕ → ℕ → Over → ℕ → ℕ → ℕ → Field
zone_field t w o f r s = record { tag = t; wide_tag = w; over = o; first = f; rows = r; size = s }

abbrev pub field : ℕ → Over → ℕ → ℕ → ℕ → Field
field t o f r s = zone_field t t o f r s

unfoldable pub book_fields : List Field
book_fields =
    (field 2 Nothing 0 1 2) ∷
    (field 3 Pairs 1 2 8) ∷
    (field 4 Years 3 1 2) ∷
    (field 5 Years 4 1 2) ∷
    (field 6 Nothing 5 4 14) ∷
    (field 7 Nothing 9 2 3) ∷
    (zone_field 8 9 Zones 11 6 21) ∷
    []

unfoldable pub request_fields : List Field
request_fields =
    (field 2 Nothing 0 1 4) ∷
    (field 3 Nothing 1 1 1) ∷
    (zone_field 4 13 Nothing 2 1 1) ∷
    (field 5 Nothing 3 6 24) ∷
    (field 6 Tiers 9 3 9) ∷
    (field 7 Tiers 12 1 4) ∷
    (field 8 Nothing 13 2 8) ∷
    (field 9 Years 15 1 2) ∷
    (field 10 Years 16 1 2) ∷
    (field 11 Years 17 1 2) ∷
    (field 12 Nothing 18 4 9) ∷
    []

abbrev pub fields : Kind → List Field
fields Book = book_fields
fields Request = request_fields

abbrev pub no_field : Field
no_field = field 0 Nothing 0 0 0

-- past the last one without rows
abbrev pub field_at : Kind → ℕ → Field
field_at kind number = get_or (fields kind) number no_field

-- ---- rows: place in the field, bytes, unit, limits, and how many rows are described with it
abbrev pub row : ℕ → ℕ → Measure → Limits → ℕ → Row
row p w m l a = record { place = p; width = w; measure = m; limits = l; alike = a }

unfoldable pub book_rows : List Row
book_rows =
    (row 0 2 Percent (Within 0 highest_discount_rate) 1) ∷
    (row 0 4 ThousandDollars (Sums 2) 1) ∷
    (row 4 4 ThousandDollars (Within 0 highest_of_four_bytes) 1) ∷
    (row 0 2 Factor (Within 0 highest_factor) 1) ∷
    (row 0 2 Factor (Within 0 highest_factor) 1) ∷
    (row 0 4 Dollars (Within 0 highest_threshold) 1) ∷
    (row 4 4 Dollars (UpTo 7) 1) ∷
    (row 8 4 Dollars (Within 0 highest_minimum) 1) ∷
    (row 12 2 Number (Within lowest_term highest_of_two_bytes) 1) ∷
    (row 0 1 (Choice YesNo) (Within 0 1) 1) ∷
    (row 1 2 Percent (Within 0 highest_share) 1) ∷
    (row 0 1 Number (Rising highest_of_two_bytes) 1) ∷
    (row 1 4 DollarsPerKva (Within 0 highest_rate) 5) ∷
    (row 5 4 DollarsPerKva (Within 0 highest_rate) 0) ∷
    (row 9 4 DollarsPerKva (Within 0 highest_rate) 0) ∷
    (row 13 4 DollarsPerKva (Within 0 highest_rate) 0) ∷
    (row 17 4 DollarsPerKva (Within 0 highest_rate) 0) ∷
    []

unfoldable pub request_rows : List Row
request_rows =
    (row 0 4 Number (Within 0 highest_of_four_bytes) 1) ∷
    (row 0 1 (Choice Classes) (Within 0 highest_class) 1) ∷
    (row 0 1 Number (Within 0 highest_of_two_bytes) 1) ∷
    (row 0 4 Dollars (Within 0 highest_amount) 5) ∷
    (row 4 4 Dollars (Within 0 highest_amount) 0) ∷
    (row 8 4 Dollars (Within 0 highest_amount) 0) ∷
    (row 12 4 Dollars (Within 0 highest_amount) 0) ∷
    (row 16 4 Dollars (Within 0 highest_amount) 0) ∷
    (row 20 4 Dollars (Only highest_amount 1 2) 1) ∷
    (row 0 1 (Choice Modes) (Within 0 highest_mode) 1) ∷
    (row 1 4 Kva (Within 0 highest_demand) 1) ∷
    (row 5 4 DollarsPerKva (Within 0 highest_rate) 1) ∷
    (row 0 4 Kva (Within 0 highest_demand) 1) ∷
    (row 0 4 Dollars (Within 0 highest_revenue) 2) ∷
    (row 4 4 Dollars (Within 0 highest_revenue) 0) ∷
    (row 0 2 Factor (Within 0 highest_factor) 1) ∷
    (row 0 2 Factor (Within 0 highest_factor) 1) ∷
    (row 0 2 Factor (Within 0 highest_factor) 1) ∷
    (row 0 2 Month (Within 0 highest_of_two_bytes) 1) ∷
    (row 2 4 Kva (Within lowest_capacity highest_capacity) 1) ∷
    (row 6 2 Number (Within 0 highest_of_two_bytes) 1) ∷
    (row 8 1 (Choice Marks) (Within 0 highest_mark) 1) ∷
    []

abbrev pub rows : Kind → List Row
rows Book = book_rows
rows Request = request_rows

abbrev pub no_row : Row
no_row = row 0 0 Number (Within 0 0) 0

-- past the last one without bytes
abbrev pub row_at : Kind → ℕ → Row
row_at kind number = get_or (rows kind) number no_row
