-- How the text of an amount goes on from one group of digits to the next, and how long it is at most.
use Rattle.std.specs.Prelude.{ℕ, zero, suc, ◌+◌, ◌*◌, ◌/◌, ◌^◌, ◌<◌, ◌≤◌, ◌≡◌, refl, List, [], ◌∷◌, ◌++◌, Bool, true, false, cond, ltb, ℤ, pos, negsuc, length}
use Rattle.std.proofs.Common.{pow-suc, arith, lt-ltb, le-ltb}
use Rattle.page_text.specs.Page.{digit, three_digits_of, first_group, dollars_text, cents_text, amount_text}

-- below 1,000 the first group is all
pub dollars_end : (commas dollars : ℕ) (behind : List ℕ) → dollars < 1000 → dollars_text commas dollars behind ≡ first_group dollars behind
unfolding dollars_text
dollars_end zero dollars behind h = refl
dollars_end (suc commas) dollars behind h = rw (lt-ltb dollars 1000 h)

-- from 1,000 on a group of three and a comma stand behind the dollars' thousands
pub dollars_more : (commas dollars : ℕ) (behind : List ℕ) → 1000 ≤ dollars →
    dollars_text (suc commas) dollars behind ≡ dollars_text commas (dollars / 1000) (44 ∷ three_digits_of dollars behind)
unfolding dollars_text
dollars_more commas dollars behind h = rw (le-ltb dollars 1000 h)

pub dollars_on : (commas dollars : ℕ) (behind : List ℕ) → 1000 ≤ dollars → dollars < 1000 ^ suc commas →
    (fewer : ℕ) × (commas ≡ suc fewer) × (dollars / 1000 < 1000 ^ commas) ×
    (dollars_text commas dollars behind ≡ dollars_text fewer (dollars / 1000) (44 ∷ three_digits_of dollars behind))
dollars_on zero dollars behind h below = absurd (omega arith)
dollars_on (suc commas) dollars behind h below = (commas, refl, omega (arith, pow-suc 1000 (suc commas)), dollars_more commas dollars behind h)

-- what stands behind an amount stays behind it
group_before : (n : ℕ) (behind rest : List ℕ) → first_group n (behind ++ rest) ≡ first_group n behind ++ rest
group_before n behind rest = by (ltb n 10) (ltb n 100)
  where
    by : (one two : Bool) →
        cond one (digit n ∷ (behind ++ rest)) (cond two (digit (n / 10) ∷ digit n ∷ (behind ++ rest)) (three_digits_of n (behind ++ rest)))
        ≡ cond one (digit n ∷ behind) (cond two (digit (n / 10) ∷ digit n ∷ behind) (three_digits_of n behind)) ++ rest
    by true two = refl
    by false true = refl
    by false false = refl

dollars_before : (commas dollars : ℕ) (behind rest : List ℕ) → dollars_text commas dollars (behind ++ rest) ≡ dollars_text commas dollars behind ++ rest
unfolding dollars_text
dollars_before zero dollars behind rest = group_before dollars behind rest
dollars_before (suc commas) dollars behind rest = by (dollars_before commas (dollars / 1000) (44 ∷ three_digits_of dollars behind) rest) (ltb dollars 1000)
  where
    by : dollars_text commas (dollars / 1000) (44 ∷ three_digits_of dollars (behind ++ rest)) ≡ dollars_text commas (dollars / 1000) (44 ∷ three_digits_of dollars behind) ++ rest
        → (few : Bool) →
        cond few (first_group dollars (behind ++ rest)) (dollars_text commas (dollars / 1000) (44 ∷ three_digits_of dollars (behind ++ rest)))
        ≡ cond few (first_group dollars behind) (dollars_text commas (dollars / 1000) (44 ∷ three_digits_of dollars behind)) ++ rest
    by on true = group_before dollars behind rest
    by on false = on

pub cents_before : (cents : ℕ) (rest : List ℕ) → dollars_text 5 (cents / 100) (46 ∷ digit (cents / 10) ∷ digit cents ∷ rest) ≡ cents_text cents ++ rest
cents_before cents rest = dollars_before 5 (cents / 100) (46 ∷ digit (cents / 10) ∷ digit cents ∷ []) rest

-- ---- how long an amount is at most
group_short : (n : ℕ) (behind : List ℕ) → length (first_group n behind) ≤ 3 + length behind
group_short n behind = by (ltb n 10) (ltb n 100)
  where
    by : (one two : Bool) → length (cond one (digit n ∷ behind) (cond two (digit (n / 10) ∷ digit n ∷ behind) (three_digits_of n behind))) ≤ 3 + length behind
    by true two = omega arith
    by false true = omega arith
    by false false = omega arith

dollars_short : (commas dollars : ℕ) (behind : List ℕ) → length (dollars_text commas dollars behind) ≤ 4 * commas + 3 + length behind
unfolding dollars_text
dollars_short zero dollars behind = group_short dollars behind
dollars_short (suc commas) dollars behind = by (dollars_short commas (dollars / 1000) (44 ∷ three_digits_of dollars behind)) (ltb dollars 1000)
  where
    by : length (dollars_text commas (dollars / 1000) (44 ∷ three_digits_of dollars behind)) ≤ 4 * commas + 3 + length (44 ∷ three_digits_of dollars behind) → (few : Bool) →
        length (cond few (first_group dollars behind) (dollars_text commas (dollars / 1000) (44 ∷ three_digits_of dollars behind))) ≤ 4 * suc commas + 3 + length behind
    by more true = omega (arith, group_short dollars behind)
    by more false = omega arith

-- a sign, 23 bytes of dollars, a point and two digits
pub amount_short : (amount : ℤ) → length (amount_text amount) ≤ 27
amount_short (pos cents) = omega (arith, dollars_short 5 (cents / 100) (46 ∷ digit (cents / 10) ∷ digit cents ∷ []))
amount_short (negsuc cents) = omega (arith, dollars_short 5 (suc cents / 100) (46 ∷ digit (suc cents / 10) ∷ digit (suc cents) ∷ []))
