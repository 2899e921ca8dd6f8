-- Rows in files of a form: what stays of a row, and a table in which no row is of one form.
use Rattle.std.specs.Prelude.{ℕ, ◌≤◌, ◌≡◌, refl, List, [], ◌∷◌, Bool, true, false, cond, get_or, ltb, eqb}
use Rattle.std.proofs.Common.{arith}
use Rattle.std.proofs.Math.ListN.{get_or-map}
use Rattle.field_walk.specs.Walk.{tag_of, lowest_of, highest_of, step_of, least_of, form_of, neither_form, in_form, row_in, rows_in, Walk, fields, stops, by_forms}

-- what a row of the other form is
abbrev no_field : List ℕ → List ℕ
no_field row = tag_of row ∷ lowest_of row ∷ highest_of row ∷ step_of row ∷ 0 ∷ 0 ∷ []

-- what is read of a row is the same in every form, if it is read of the tag and the lengths alone
pub same_in : {A : Type 0} (read : List ℕ → A) (row : List ℕ) → read (tag_of row ∷ lowest_of row ∷ highest_of row ∷ step_of row ∷ 0 ∷ 0 ∷ []) ≡ read row →
    (form : ℕ) → read (row_in form row) ≡ read row
same_in read row same form = by (in_form form row)
  where
    by : (b : Bool) → read (cond b row (no_field row)) ≡ read row
    by true = refl
    by false = same

pub row_in_lem : (rows : List (List ℕ)) (form k : ℕ) → get_or (rows_in form rows) k [] ≡ row_in form (get_or rows k [])
row_in_lem rows form k = get_or-map (row_in form) rows k []

-- a row that has to come in files of no form is of both
pub of_both : (row : List ℕ) → 1 ≤ least_of (row_in neither_form row) → (form : ℕ) → row_in form row ≡ row
of_both row due form = by (eqb (form_of row) 0) due
  where
    by : (b : Bool) → 1 ≤ least_of (cond (cond b true b) row (no_field row)) → cond (cond b true (eqb (form_of row) form)) row (no_field row) ≡ row
    by true h = refl
    by false h = absurd (omega arith)

-- where both forms and neither are the same, the file walks as by that
pub one_form : (walked : Walk) → by_forms walked walked walked ≡ walked
one_form (fields fs) = refl
one_form (stops at) = by (ltb at at)
  where
    by : (b : Bool) → stops (cond b at at) ≡ stops at
    by true = refl
    by false = refl
