-- What the test of the whole table shows of each entry: document 01's recurrence, and so the discount factor.
use Rattle.std.specs.Prelude.{ℕ, zero, suc, ◌+◌, ◌*◌, ◌/◌, ◌<◌, ◌≤◌, ◌≡◌, refl, Bool, true, false, ◌&&◌, List, [], ◌∷◌, eqb, length, get_or}
use Rattle.std.proofs.lemmas.Bool.{false≢true}
use Rattle.std.proofs.Common.{not-suc-le-zero, le_of_suc-le-suc, arith, eqb-true}
use Rattle.discount.specs.Discount.{discount}
use Rattle.discount.specs.DiscountLimits.{FactorsUntil}
use Rattle.discount.specs.DiscountYears.{last_year}
use Rattle.discount_table.specs.DiscountTable.{lowest_table_rate, table_rate_step, follows_from, row_follows, table_follows}

both : (s t : Bool) → (s && t) ≡ true → (s ≡ true) × (t ≡ true)
both true t e = (refl, e)
both false t e = absurd (false≢true e)

next_from : (b f : ℕ) (later : List ℕ) → follows_from b f later ≡ true → (n : ℕ) → n < length later →
    get_or later n 0 ≡ get_or (f ∷ later) n 0 * 10000 / (10000 + b)
next_from b f [] e n h = absurd (not-suc-le-zero h)
next_from b f (next ∷ later) e zero h = eqb-true _ _ (both (eqb next (f * 10000 / (10000 + b))) (follows_from b next later) e).0
next_from b f (next ∷ later) e (suc n) h =
    next_from b next later (both (eqb next (f * 10000 / (10000 + b))) (follows_from b next later) e).1 n (le_of_suc-le-suc h)

-- the rule of F for a row: F(0) at place 0, and at each later place until year 30 what follows from the factor before it
abbrev pub Recurrence : ℕ → List ℕ → Type 0
Recurrence b row =
    (get_or row 0 0 ≡ 100000000) × ((n : ℕ) → n < last_year → get_or row (suc n) 0 ≡ get_or row n 0 * 10000 / (10000 + b))

recurrence_of_row : (b : ℕ) (row : List ℕ) → row_follows b row ≡ true → Recurrence b row
recurrence_of_row b [] e = absurd (false≢true e)
recurrence_of_row b (first ∷ later) e =
    let years = both (eqb (length later) last_year) (eqb first 100000000 && follows_from b first later) e in
    let rule = both (eqb first 100000000) (follows_from b first later) years.1 in
    let last : length later ≡ last_year = eqb-true _ _ years.0 in
    (eqb-true _ _ rule.0, λ n h. next_from b first later rule.1 n (omega arith))

row_follows_lem : (b : ℕ) (table : List (List ℕ)) → table_follows b table ≡ true → (k : ℕ) → k < length table →
    row_follows (b + table_rate_step * k) (get_or table k []) ≡ true
row_follows_lem b [] e k h = absurd (not-suc-le-zero h)
row_follows_lem b (row ∷ later) e zero h =
    let rate : b + table_rate_step * 0 ≡ b = omega arith in
    rw rate (both (row_follows b row) (table_follows (b + table_rate_step) later) e).0
row_follows_lem b (row ∷ later) e (suc k) h =
    let rate : b + table_rate_step * suc k ≡ b + table_rate_step + table_rate_step * k = omega arith in
    rw rate (row_follows_lem (b + table_rate_step) later (both (row_follows b row) (table_follows (b + table_rate_step) later) e).1 k (le_of_suc-le-suc h))

-- the recurrence at each entry: what the test over the whole table shows
pub recurrence_at_each_entry : (table : List (List ℕ)) → table_follows lowest_table_rate table ≡ true → (k : ℕ) → k < length table →
    Recurrence (lowest_table_rate + table_rate_step * k) (get_or table k [])
recurrence_at_each_entry table follows k within = recurrence_of_row _ (get_or table k []) (row_follows_lem lowest_table_rate table follows k within)

factor_by_recurrence : (b : ℕ) (row : List ℕ) → Recurrence b row → (n : ℕ) → n ≤ last_year → get_or row n 0 ≡ discount b n
unfolding discount
factor_by_recurrence b row rule zero h = rule.0
factor_by_recurrence b row rule (suc n) h = rw (rule.1 n (omega arith), factor_by_recurrence b row rule n (omega arith))

-- so a row has the discount factors of its rate
pub factors_of_row : {b life : ℕ} (table : List (List ℕ)) (k : ℕ) → table_follows lowest_table_rate table ≡ true → k < length table →
    b ≡ lowest_table_rate + table_rate_step * k → life ≤ last_year → FactorsUntil b life (get_or table k [])
factors_of_row table k follows within rate last =
    record {
      each =
          λ n h.
          rw rate (factor_by_recurrence _ (get_or table k []) (recurrence_at_each_entry table follows k within) n (omega arith));
    }
