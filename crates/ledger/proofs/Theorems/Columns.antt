-- Sums over columns: their bounds, and what one entry more at the end adds.
use Rattle.std.specs.Prelude.{ℕ, zero, suc, ◌+◌, ◌*◌, ◌<◌, ◌≤◌, ◌≡◌, refl, List, [], ◌∷◌, ◌++◌, map, Bool, true, false, cond, length, get_or, eqb}
use Rattle.std.proofs.Common.{zero-le, ap, ap₂, le_of_suc-le-suc, not-suc-le-zero, arith, eq-eqb, ne_eqb, eqb-true}
use Rattle.std.proofs.Math.Nat.{suc_inj}
use Rattle.ledger.specs.Columns.{sum_over, first_put_in}

-- a figure of the entry at a place
pub column_at : {A : Type 0} (figure : A → ℕ) (entries : List A) (e : ℕ) (none : A) → e < length (map figure entries) →
    get_or (map figure entries) e 0 ≡ figure (get_or entries e none)
column_at figure [] e none below = absurd (not-suc-le-zero below)
column_at figure (entry ∷ entries) zero none below = refl
column_at figure (entry ∷ entries) (suc e) none below = column_at figure entries e none (le_of_suc-le-suc below)

-- a 1 for each entry, by any of its columns
pub ones_again : {A : Type 0} (figure : A → ℕ) (entries : List A) → map (λ number. 1) (map figure entries) ≡ map {B = ℕ} (λ entry. 1) entries
ones_again figure [] = refl
ones_again figure (entry ∷ entries) = ap (λ ones. 1 ∷ ones) (ones_again figure entries)

-- ---- entries of the scheme, and others
pub of_own : (scheme s figure : ℕ) → scheme ≡ s → cond (eqb scheme s) figure 0 ≡ figure
of_own scheme s figure own = ap (λ test. cond test figure 0) (eq-eqb scheme s own)

pub of_other : (scheme s figure : ℕ) → (scheme ≡ s → ⊥) → cond (eqb scheme s) figure 0 ≡ 0
of_other scheme s figure other = ap (λ test. cond test figure 0) (ne_eqb scheme s other)

-- none of the scheme's entries has anything
pub sum_none : (s : ℕ) (schemes figures : List ℕ) → ((e : ℕ) → e < length schemes → get_or schemes e 0 ≡ s → get_or figures e 0 ≡ 0) →
    sum_over s schemes figures ≡ 0
unfolding sum_over
sum_none s [] figures none = refl
sum_none s (scheme ∷ schemes) [] none = refl
sum_none s (scheme ∷ schemes) (figure ∷ figures) none =
    ap₂ ◌+◌ (first (eqb scheme s) refl) (sum_none s schemes figures (λ e h. none (suc e) (omega arith)))
  where
    first : (t : Bool) → eqb scheme s ≡ t → cond t figure 0 ≡ 0
    first true own = none 0 (omega arith) (eqb-true scheme s own)
    first false own = refl

-- ---- bounds
cond_le : (own : Bool) {figure bound : ℕ} → figure ≤ bound → cond own figure 0 ≤ cond own bound 0
cond_le true h = h
cond_le false h = zero-le

pub own_at_most : (own : Bool) (figure : ℕ) → cond own figure 0 ≤ figure
own_at_most true figure = omega arith
own_at_most false figure = zero-le

-- a column that is nowhere above another
pub sum_le : (s : ℕ) (schemes figures bounds : List ℕ) → length figures ≡ length bounds →
    ((e : ℕ) → e < length figures → get_or figures e 0 ≤ get_or bounds e 0) → sum_over s schemes figures ≤ sum_over s schemes bounds
unfolding sum_over
sum_le s [] figures bounds same h = zero-le
sum_le s (scheme ∷ schemes) [] bounds same h = zero-le
sum_le s (scheme ∷ schemes) (figure ∷ figures) [] same h = absurd (omega (arith, same))
sum_le s (scheme ∷ schemes) (figure ∷ figures) (bound ∷ bounds) same h =
    omega (
      arith,
      cond_le (eqb scheme s) (h 0 (omega arith)),
      sum_le s schemes figures bounds (suc_inj same) (λ e below. h (suc e) (omega arith)),
    )

-- a column that is nowhere above one figure
pub sum_at_most : (s bound : ℕ) (schemes figures : List ℕ) → ((e : ℕ) → e < length figures → get_or figures e 0 ≤ bound) →
    sum_over s schemes figures ≤ bound * length figures
unfolding sum_over
sum_at_most s bound [] figures h = zero-le
sum_at_most s bound (scheme ∷ schemes) [] h = zero-le
sum_at_most s bound (scheme ∷ schemes) (figure ∷ figures) h =
    omega (
      arith,
      own_at_most (eqb scheme s) figure,
      h 0 (omega arith),
      sum_at_most s bound schemes figures (λ e below. h (suc e) (omega arith)),
    )

pub first_at_most : (s bound : ℕ) (schemes figures : List ℕ) → ((e : ℕ) → e < length figures → get_or figures e 0 ≤ bound) →
    first_put_in s schemes figures ≤ bound
unfolding first_put_in
first_at_most s bound [] figures h = zero-le
first_at_most s bound (scheme ∷ schemes) [] h = zero-le
first_at_most s bound (scheme ∷ schemes) (figure ∷ figures) h =
    by (eqb scheme s) (h 0 (omega arith)) (first_at_most s bound schemes figures (λ e below. h (suc e) (omega arith)))
  where
    by : (own : Bool) {later : ℕ} → figure ≤ bound → later ≤ bound → cond own figure later ≤ bound
    by true first others = first
    by false first others = others

-- an entry of scheme s has at most the scheme's sum
pub own_le_sum : (s : ℕ) (schemes figures : List ℕ) (e : ℕ) → e < length schemes → get_or schemes e 0 ≡ s → get_or figures e 0 ≤ sum_over s schemes figures
unfolding sum_over
own_le_sum s [] figures e below own = absurd (not-suc-le-zero below)
own_le_sum s (scheme ∷ schemes) [] e below own = zero-le
own_le_sum s (scheme ∷ schemes) (figure ∷ figures) zero below own = omega (arith, of_own scheme s figure own)
own_le_sum s (scheme ∷ schemes) (figure ∷ figures) (suc e) below own =
    omega (arith, own_le_sum s schemes figures e (le_of_suc-le-suc below) own)

-- ---- one entry more at the end
pub sum_more : (s scheme figure : ℕ) (schemes figures : List ℕ) → length schemes ≡ length figures →
    sum_over s (schemes ++ (scheme ∷ [])) (figures ++ (figure ∷ [])) ≡ sum_over s schemes figures + cond (eqb scheme s) figure 0
unfolding sum_over
sum_more s scheme figure [] [] same = omega arith
sum_more s scheme figure [] (first ∷ figures) same = absurd (omega (arith, same))
sum_more s scheme figure (first ∷ schemes) [] same = absurd (omega (arith, same))
sum_more s scheme figure (first ∷ schemes) (other ∷ figures) same = omega (arith, sum_more s scheme figure schemes figures (suc_inj same))

-- a scheme's first stays; where it had no entry, the new one is its first
first_case : (own : Bool) (figure entries later new : ℕ) →
    cond own figure (cond (eqb entries 0) new later) ≡ cond (eqb (cond own 1 0 + entries) 0) new (cond own figure later)
first_case true figure entries later new = rw (ne_eqb (1 + entries) 0 (λ e. omega arith))
first_case false figure entries later new = let same : 0 + entries ≡ entries = omega arith in rw same

pub first_more : (s scheme figure : ℕ) (schemes figures : List ℕ) → length schemes ≡ length figures →
    first_put_in s (schemes ++ (scheme ∷ [])) (figures ++ (figure ∷ [])) ≡
    cond (eqb (sum_over s schemes (map (λ number. 1) schemes)) 0) (cond (eqb scheme s) figure 0) (first_put_in s schemes figures)
unfolding sum_over first_put_in
first_more s scheme figure [] [] same = refl
first_more s scheme figure [] (first ∷ figures) same = absurd (omega (arith, same))
first_more s scheme figure (number ∷ schemes) [] same = absurd (omega (arith, same))
first_more s scheme figure (number ∷ schemes) (first ∷ figures) same =
    rw (first_more s scheme figure schemes figures (suc_inj same))
    (first_case (eqb number s) first (sum_over s schemes (map (λ number. 1) schemes)) (first_put_in s schemes figures) (cond (eqb scheme s) figure 0))

pub first_kept : (s scheme figure : ℕ) (schemes figures : List ℕ) → length schemes ≡ length figures → 1 ≤ sum_over s schemes (map (λ number. 1) schemes) →
    first_put_in s (schemes ++ (scheme ∷ [])) (figures ++ (figure ∷ [])) ≡ first_put_in s schemes figures
first_kept s scheme figure schemes figures same some =
    rw (first_more s scheme figure schemes figures same, ne_eqb (sum_over s schemes (map (λ number. 1) schemes)) 0 (λ none. omega arith))

pub first_new : (s figure : ℕ) (schemes figures : List ℕ) → length schemes ≡ length figures → sum_over s schemes (map (λ number. 1) schemes) ≡ 0 →
    first_put_in s (schemes ++ (s ∷ [])) (figures ++ (figure ∷ [])) ≡ figure
first_new s figure schemes figures same none =
    rw (first_more s s figure schemes figures same, eq-eqb (sum_over s schemes (map (λ number. 1) schemes)) 0 none) (of_own s s figure refl)

-- ---- credits

-- a column with another added place by place
unfoldable pub add_each : List ℕ → List ℕ → List ℕ
add_each [] amounts = []
add_each (figure ∷ figures) [] = figure ∷ figures
add_each (figure ∷ figures) (amount ∷ amounts) = (figure + amount) ∷ add_each figures amounts

cond_add : (own : Bool) (figure amount : ℕ) → cond own (figure + amount) 0 ≡ cond own figure 0 + cond own amount 0
cond_add true figure amount = refl
cond_add false figure amount = refl

pub sum_add_each : (s : ℕ) (schemes figures amounts : List ℕ) → length amounts ≤ length figures →
    sum_over s schemes (add_each figures amounts) ≡ sum_over s schemes figures + sum_over s schemes amounts
unfolding sum_over add_each
sum_add_each s [] figures amounts few = omega arith
sum_add_each s (scheme ∷ schemes) [] [] few = omega arith
sum_add_each s (scheme ∷ schemes) [] (amount ∷ amounts) few = absurd (not-suc-le-zero few)
sum_add_each s (scheme ∷ schemes) (figure ∷ figures) [] few = omega arith
sum_add_each s (scheme ∷ schemes) (figure ∷ figures) (amount ∷ amounts) few =
    omega (arith, cond_add (eqb scheme s) figure amount, sum_add_each s schemes figures amounts (le_of_suc-le-suc few))

pub length_add_each : (figures amounts : List ℕ) → length (add_each figures amounts) ≡ length figures
unfolding add_each
length_add_each [] amounts = refl
length_add_each (figure ∷ figures) [] = refl
length_add_each (figure ∷ figures) (amount ∷ amounts) = ap suc (length_add_each figures amounts)
