-- How many digits a number has, and how they grow.
use Rattle.std.specs.Prelude.{ℕ, zero, suc, ◌+◌, ◌-◌, ◌/◌, ◌%◌, ◌^◌, ◌≤◌, ◌<◌, ◌≡◌, refl, Bool, true, false, cond, ltb, length}
use Rattle.std.proofs.Common.{ap, sym, ◌∙◌, pow-suc, arith, lt-ltb, le-ltb, ltb-true, ltb-false, length-append}
use mathlib.Core.List.{List, [], ◌∷◌, ◌++◌}
use Rattle.text_output.specs.Digits.{last_digits, decimal_from, decimal, grouped_from, grouped}

-- ---- without leading zeros
digits_end : (most n : ℕ) → n < 10 → decimal_from (suc most) n ≡ (48 + n) ∷ []
unfolding decimal_from
digits_end most n h = rw (lt-ltb n 10 h)

digits_on : (most n : ℕ) → 10 ≤ n → decimal_from (suc most) n ≡ decimal_from most (n / 10) ++ ((48 + n % 10) ∷ [])
unfolding decimal_from
digits_on most n h = rw (le-ltb n 10 h)

-- what holds of one digit, and of digits with one more behind them, holds of the digits of every number
pub digits_induction : (P : ℕ → List ℕ → Type 0)
    → ((n : ℕ) → n < 10 → P n ((48 + n) ∷ []))
    → ((n : ℕ) (ds : List ℕ) → 10 ≤ n → P (n / 10) ds → P n (ds ++ ((48 + n % 10) ∷ [])))
    → (most n : ℕ) → n < 10 ^ suc most → P n (decimal_from (suc most) n)
digits_induction P one more zero n h = rw (digits_end zero n h) (one n h)
digits_induction P one more (suc m) n h =
    by (digits_induction P one more m (n / 10) (omega (arith, pow-suc 10 (suc m)))) (ltb n 10) refl
  where
    by : P (n / 10) (decimal_from (suc m) (n / 10)) → (t : Bool) → ltb n 10 ≡ t → P n (decimal_from (suc (suc m)) n)
    by ih true e = rw (digits_end (suc m) n (ltb-true n 10 e)) (one n (ltb-true n 10 e))
    by ih false e = rw (digits_on (suc m) n (ltb-false n 10 e)) (more n _ (ltb-false n 10 e) ih)

-- one number has one row of digits, whatever bounds their number
enough_digits : (most n : ℕ) → n < 10 ^ suc most → (k : ℕ) → n < 10 ^ suc k → decimal_from (suc k) n ≡ decimal_from (suc most) n
enough_digits =
    digits_induction (λ n ds. (k : ℕ) → n < 10 ^ suc k → decimal_from (suc k) n ≡ ds)
    (λ n h k b. digits_end k n h)
    more
  where
    more : (n : ℕ) (ds : List ℕ) → 10 ≤ n → ((k : ℕ) → n / 10 < 10 ^ suc k → decimal_from (suc k) (n / 10) ≡ ds) → (k : ℕ) → n < 10 ^ suc k → decimal_from (suc k) n ≡ ds ++ ((48 + n % 10) ∷ [])
    more n ds h ih zero b = absurd (omega arith)
    more n ds h ih (suc k) b =
        digits_on (suc k) n h ∙ ap (λ (l : List ℕ). l ++ ((48 + n % 10) ∷ [])) (ih k (omega (arith, pow-suc 10 (suc k))))

-- a number from 10 on is its tenth part's digits and one more
pub decimal_on : (n : ℕ) → 10 ≤ n → n < 10 ^ 20 → decimal n ≡ decimal (n / 10) ++ ((48 + n % 10) ∷ [])
decimal_on n h b =
    digits_on 19 n h
    ∙ ap (λ (l : List ℕ). l ++ ((48 + n % 10) ∷ [])) (sym (enough_digits 18 (n / 10) (omega arith) 19 (omega arith)))

pub decimal_length_on : (n : ℕ) → 10 ≤ n → n < 10 ^ 20 → length (decimal n) ≡ length (decimal (n / 10)) + 1
decimal_length_on n h b = ap length (decimal_on n h b) ∙ length-append (decimal (n / 10)) ((48 + n % 10) ∷ [])

pub decimal_end : (n : ℕ) → n < 10 → decimal n ≡ (48 + n) ∷ []
decimal_end n h = digits_end 19 n h

digits_short : (most n : ℕ) → length (decimal_from most n) ≤ most
unfolding decimal_from
digits_short zero n = omega arith
digits_short (suc most) n = by (digits_short most (n / 10)) (ltb n 10)
  where
    by : length (decimal_from most (n / 10)) ≤ most → (t : Bool) → length (cond t ((48 + n) ∷ []) (decimal_from most (n / 10) ++ ((48 + n % 10) ∷ []))) ≤ suc most
    by ih true = omega arith
    by ih false = simp length-append (omega arith)

pub decimal_short : (n : ℕ) → length (decimal n) ≤ 20
decimal_short n = digits_short 20 n

-- as many as the number's size allows
pub decimal_within : (most n : ℕ) → n < 10 ^ suc most → n < 10 ^ 20 → length (decimal n) ≤ suc most
decimal_within most n h b = rw (enough_digits most n h 19 b) (digits_short (suc most) n)

-- ---- the last ones, with zeros in front
pub last_digits_length : (count n : ℕ) → length (last_digits count n) ≡ count
unfolding last_digits
last_digits_length zero n = refl
last_digits_length (suc count) n = length-append (last_digits count (n / 10)) _ ∙ ap (λ k. k + 1) (last_digits_length count (n / 10)) ∙ omega arith

pub last_digits_none : (n : ℕ) → last_digits 0 n ≡ []
unfolding last_digits
last_digits_none n = refl

pub last_digits_on : (count n : ℕ) → 0 < count → last_digits count n ≡ last_digits (count - 1) (n / 10) ++ ((48 + n % 10) ∷ [])
unfolding last_digits
last_digits_on zero n h = absurd (omega arith)
last_digits_on (suc count) n h = let e : suc count - 1 ≡ count = omega arith in rw e

-- ---- groups
groups_end : (most n : ℕ) → n < 1000 → grouped_from (suc most) n ≡ decimal n
unfolding grouped_from
groups_end most n h = rw (lt-ltb n 1000 h)

groups_on : (most n : ℕ) → 1000 ≤ n → grouped_from (suc most) n ≡ grouped_from most (n / 1000) ++ (44 ∷ last_digits 3 n)
unfolding grouped_from
groups_on most n h = rw (le-ltb n 1000 h)

-- one number has one row of groups, whatever bounds their number
enough_groups : (most n : ℕ) → n < 1000 ^ suc most → grouped_from (suc most) n ≡ grouped_from most n
unfolding grouped_from
enough_groups zero n h = rw (lt-ltb n 1000 (omega arith))
enough_groups (suc most) n h = rw (enough_groups most (n / 1000) (omega (arith, pow-suc 1000 (suc most))))

pub grouped_end : (n : ℕ) → n < 1000 → grouped n ≡ decimal n
grouped_end n h = groups_end 5 n h

pub grouped_on : (n : ℕ) → 1000 ≤ n → n < 2 ^ 64 → grouped n ≡ grouped (n / 1000) ++ (44 ∷ last_digits 3 n)
grouped_on n h b = groups_on 5 n h ∙ ap (λ (l : List ℕ). l ++ (44 ∷ last_digits 3 n)) (sym (enough_groups 5 (n / 1000) (omega arith)))

pub grouped_length_on : (n : ℕ) → 1000 ≤ n → n < 2 ^ 64 → length (grouped n) ≡ length (grouped (n / 1000)) + 4
grouped_length_on n h b = ap length (grouped_on n h b) ∙ length-append (grouped (n / 1000)) (44 ∷ last_digits 3 n) ∙ omega (arith, last_digits_length 3 n)
