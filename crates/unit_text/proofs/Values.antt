-- What few digits come to is small; and how long a text of each form of a month is.
use Rattle.std.specs.Prelude.{ℕ, ◌+◌, ◌*◌, ◌^◌, ◌≤◌, ◌<◌, ◌≡◌, List, [], ◌∷◌, Bool, true, false, ◌&&◌, ◌||◌, length, eqb}
use Rattle.std.proofs.Common.{arith, pow-suc, refl}
use Rattle.std.proofs.Math.Nat.{pow-zero, pow-le-pow_right, mul-le-mul_right}
use Rattle.std.proofs.lemmas.Bool.{false≢true}
use Rattle.std.proofs.lemmas.Bool.Decides.{nat_tests}
use borrow.Author.Tests.{eqb-true}
use Rattle.unit_text.specs.Figure.{after_byte, value_after, digits_value}
use Rattle.unit_text.specs.Month.{is_year_month, is_date, named_size, is_named}

byte_below : (n byte : ℕ) → after_byte n byte < (n + 1) * 10
byte_below n byte = grind (arith, nat_tests)

value_below : (s : List ℕ) (n : ℕ) → value_after n s < (n + 1) * 10 ^ length s
unfolding value_after
value_below [] n = rw pow-zero (omega arith)
value_below (b ∷ s) n =
    let step : (after_byte n b + 1) * 10 ^ length s ≤ ((n + 1) * 10) * 10 ^ length s = mul-le-mul_right (10 ^ length s) (omega (arith, byte_below n b)) in
    rw pow-suc (omega (arith, value_below s (after_byte n b), step))

pub value_small : (s : List ℕ) → length s ≤ 4 → digits_value s < 10000
value_small s h = let ten_pow : 10 ^ length s ≤ 10 ^ 4 = pow-le-pow_right (omega arith) h in omega (arith, value_below s 0, ten_pow)

both_left : (a b : Bool) → (a && b) ≡ true → a ≡ true
both_left true b e = refl
both_left false b e = absurd (false≢true e)

pub year_month_length : (s : List ℕ) → is_year_month s ≡ true → length s ≡ 7
unfolding is_year_month
year_month_length s e = eqb-true _ _ (both_left _ _ (both_left _ _ (both_left _ _ e)))

pub date_length : (s : List ℕ) → is_date s ≡ true → length s ≡ 10
unfolding is_date
date_length s e = eqb-true _ _ (both_left _ _ (both_left _ _ (both_left _ _ (both_left _ _ e))))

pub named_size_is : (n : ℕ) → named_size n ≡ true → (6 ≤ n) × (n ≤ 8)
named_size_is n = by (eqb n 6) (eqb n 8) refl refl
  where
    by : (t u : Bool) → eqb n 6 ≡ t → eqb n 8 ≡ u → (t || u) ≡ true → (6 ≤ n) × (n ≤ 8)
    by true u e d h = (omega (arith, eqb-true _ _ e), omega (arith, eqb-true _ _ e))
    by false true e d h = (omega (arith, eqb-true _ _ d), omega (arith, eqb-true _ _ d))
    by false false e d h = absurd (false≢true h)

pub named_length : (s : List ℕ) → is_named s ≡ true → (6 ≤ length s) × (length s ≤ 8)
unfolding is_named
named_length s e = named_size_is (length s) (both_left _ _ (both_left _ _ (both_left _ _ e)))
