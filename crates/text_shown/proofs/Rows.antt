-- The field that a row is of, one field on and past the last; and no row's text is longer than the longest.
use Rattle.std.specs.Prelude.{ℕ, ◌+◌, ◌≤◌, ◌<◌, ◌≡◌, [], Bool, true, false, cond, length, drop, ltb, eqb}
use Rattle.std.proofs.Common.{arith, length-append}
use Rattle.std.proofs.lemmas.List.{at_drop_more, at_drop_all}
use Rattle.unit_text.specs.Shown.{unit_name}
use Rattle.unit_text.specs.declared.measure.Words.{Words}
use Rattle.unit_text.specs.declared.measure.Words.TheVariants.{Forms, YesNo, Classes, Modes, Marks}
use Rattle.unit_text.specs.declared.measure.Measure.{Measure}
use Rattle.unit_text.specs.declared.measure.Measure.TheVariants.{Number, Dollars, DollarsPerKva, ThousandDollars, Kva, Percent, Factor, Month, Choice}
use Rattle.text_names.specs.Table.{no_field, fields, field_at, row_at}
use Rattle.text_names.specs.Names.{row_name}
use Rattle.text_names.specs.declared.table.Kind.{Kind}
use Rattle.text_names.specs.declared.table.Over.{Over}
use Rattle.text_names.specs.declared.table.Over.TheVariants.{Nothing, Pairs, Tiers, Years, Zones}
use Rattle.text_shown.specs.Described.{lowest_of, highest_of, words_text, over_text, over_in, described_text, row_text, longest_row}
use Rattle.text_shown.proofs.Longest.{shown_short, row_name_short}

pub over_on : (kind : Kind) (number k : ℕ) → k < length (fields kind) →
    over_in (drop k (fields kind)) number ≡ cond (ltb number ((field_at kind k).first + (field_at kind k).rows)) (field_at kind k).over (over_in (drop (k + 1) (fields kind)) number)
unfolding over_in
over_on kind number k h = at_drop_more (λ later. over_in later number) (fields kind) k no_field h

pub over_end : (kind : Kind) (number k : ℕ) → length (fields kind) ≤ k → over_in (drop k (fields kind)) number ≡ Nothing
unfolding over_in
over_end kind number k h = at_drop_all (λ later. over_in later number) (fields kind) k h

unit_short : (measure : Measure) → length (unit_name measure) ≤ 16
unit_short Number = omega arith
unit_short Dollars = omega arith
unit_short DollarsPerKva = omega arith
unit_short ThousandDollars = omega arith
unit_short Kva = omega arith
unit_short Percent = omega arith
unit_short Factor = omega arith
unit_short Month = omega arith
unit_short (Choice words) = omega arith

choice_short : (words : Words) → length (words_text (Choice words)) ≤ 48
choice_short Forms = omega arith
choice_short YesNo = omega arith
choice_short Classes = omega arith
choice_short Modes = omega arith
choice_short Marks = omega arith

words_short : (measure : Measure) → length (words_text measure) ≤ 48
words_short Number = omega arith
words_short Dollars = omega arith
words_short DollarsPerKva = omega arith
words_short ThousandDollars = omega arith
words_short Kva = omega arith
words_short Percent = omega arith
words_short Factor = omega arith
words_short Month = omega arith
words_short (Choice words) = choice_short words

over_short : (over : Over) → length (over_text over) ≤ 7
over_short Nothing = omega arith
over_short Pairs = omega arith
over_short Tiers = omega arith
over_short Years = omega arith
over_short Zones = omega arith

described_short : (kind : Kind) (number : ℕ) → length (described_text kind number) ≤ longest_row
unfolding described_text
described_short kind number =
    let m = (row_at kind number).measure in
    let l = (row_at kind number).limits in
    simp length-append
    (omega
    (arith, row_name_short kind number, unit_short m, shown_short m (lowest_of l), shown_short m (highest_of l), words_short m, over_short (over_in (fields kind) number)))

pub row_short : (kind : Kind) (number : ℕ) → length (row_text kind number) ≤ longest_row
unfolding row_text
row_short kind number = by (eqb (length (row_name kind number)) 0)
  where
    by : (t : Bool) → length {A = ℕ} (cond t [] (described_text kind number)) ≤ longest_row
    by true = omega arith
    by false = described_short kind number
