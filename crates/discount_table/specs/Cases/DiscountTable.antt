-- The test of the table on short lists: a factor that is one off is found in the first place and in the last, and so are a wrong first factor, a year
-- too few and the row of another rate.
use Rattle.std.specs.Prelude.{ℕ, ◌≡◌, refl, Bool, true, false, List, [], ◌∷◌, ◌++◌, map}
use Rattle.discount_table.specs.DiscountTable.{lowest_table_rate, follows_from, row_follows, table_follows}

-- rate and later factors from F(0) on, and whether they follow
abbrev pub later_cases : List (ℕ × List ℕ × Bool)
later_cases =
    (300, [], true) ∷
    (300, 97087378 ∷ 94259590 ∷ [], true) ∷
    (300, 97087378 ∷ 94259591 ∷ [], false) ∷
    (300, 97087378 ∷ 94259589 ∷ [], false) ∷
    (300, 97087378 ∷ 94259590 ∷ 91514165 ∷ [], true) ∷
    (300, 97087378 ∷ 94259590 ∷ 91514166 ∷ [], false) ∷
    (300, 97087379 ∷ 94259590 ∷ [], false) ∷
    (301, 97087378 ∷ 94259590 ∷ [], false) ∷
    (600, 94339622 ∷ 88999643 ∷ [], true) ∷
    (600, 94339622 ∷ 94339622 ∷ [], false) ∷
    []

pub later_factors_tested : map (λ t. follows_from t.0 100000000 t.1) later_cases ≡ map (λ t. t.2) later_cases
later_factors_tested = refl

-- at the rate 0 all factors are F(0)
abbrev pub thirty : ℕ → List ℕ
thirty f =
    f ∷ f ∷ f ∷ f ∷ f ∷ f ∷ f ∷ f ∷ f ∷ f ∷ f ∷ f ∷ f ∷ f ∷ f ∷ f ∷ f ∷ f ∷ f ∷ f ∷ f ∷ f ∷ f ∷ f ∷ f ∷ f ∷ f ∷ f ∷ f ∷ f ∷ []

pub rows_tested :
    (row_follows 0 (100000000 ∷ thirty 100000000) ≡ true) ×
    (row_follows 0 [] ≡ false) ×
    (row_follows 0 (thirty 100000000) ≡ false) ×
    (row_follows 0 (100000000 ∷ 100000000 ∷ thirty 100000000) ≡ false) ×
    (row_follows 0 (99999999 ∷ thirty 99999999) ≡ false) ×
    (row_follows 0 (100000001 ∷ thirty 100000001) ≡ false) ×
    (table_follows 0 ((100000000 ∷ thirty 100000000) ∷ (100000000 ∷ thirty 100000000) ∷ []) ≡ false)
rows_tested = (refl, refl, refl, refl, refl, refl, refl)

-- the rows of the rates 300 and 325 without their last factors, and these
abbrev row_300 : List ℕ
row_300 =
    100000000 ∷ 97087378 ∷ 94259590 ∷ 91514165 ∷ 88848703 ∷ 86260876 ∷ 83748423 ∷ 81309148 ∷ 78940920 ∷ 76641669 ∷ 74409387 ∷ 72242123 ∷ 70137983 ∷ 68095129 ∷ 66111775 ∷ 64186189 ∷ 62316688 ∷ 60501638 ∷ 58739454 ∷ 57028596 ∷ 55367568 ∷ 53754920 ∷ 52189242 ∷ 50669166 ∷ 49193365 ∷ 47760548 ∷ 46369464 ∷ 45018897 ∷ 43707666 ∷ 42434627 ∷ []

abbrev row_325 : List ℕ
row_325 =
    100000000 ∷ 96852300 ∷ 93803680 ∷ 90851021 ∷ 87991303 ∷ 85221600 ∷ 82539079 ∷ 79940996 ∷ 77424693 ∷ 74987596 ∷ 72627211 ∷ 70341124 ∷ 68126996 ∷ 65982562 ∷ 63905629 ∷ 61894071 ∷ 59945831 ∷ 58058916 ∷ 56231395 ∷ 54461399 ∷ 52747117 ∷ 51086796 ∷ 49478737 ∷ 47921294 ∷ 46412875 ∷ 44951937 ∷ 43536984 ∷ 42166570 ∷ 40839292 ∷ 39553793 ∷ []

abbrev with_last : List ℕ → ℕ → List ℕ
with_last row factor = row ++ (factor ∷ [])

pub tables_tested :
    (table_follows lowest_table_rate (with_last row_300 41198666 ∷ with_last row_325 38308758 ∷ []) ≡ true) ×
    (table_follows lowest_table_rate (with_last row_300 41198667 ∷ []) ≡ false) ×
    -- a third row that is the second again, and one of the wrong rate alone
    (table_follows lowest_table_rate (with_last row_300 41198666 ∷ with_last row_325 38308758 ∷ with_last row_325 38308758 ∷ []) ≡ false) ×
    (table_follows lowest_table_rate (with_last row_325 38308758 ∷ []) ≡ false)
tables_tested = (refl, refl, refl, refl)
