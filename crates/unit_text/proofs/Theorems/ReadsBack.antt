-- Every number that a file can hold is shown as a text that reads as that number.
use Rattle.std.specs.Prelude.{ℕ, zero, suc, ◌+◌, ◌-◌, ◌*◌, ◌/◌, ◌%◌, ◌^◌, ◌≤◌, ◌<◌, ◌≡◌, List, [], ◌∷◌, ◌++◌, Bool, true, false, cond, ◌&&◌, length, get_or, take, drop, ltb, eqb, refl, Ok}
use Rattle.std.proofs.Common.{arith, ap, sym, ◌∙◌, length-append, pow-suc, lt-ltb, le-ltb, ltb-true, div-add-mod', subst, div-le_self}
use mathlib.Core.List.{append_assoc}
use Rattle.std.proofs.Math.Arith.{mod-mul}
use Rattle.std.proofs.Math.Nat.{one-le-pow}
use borrow.Author.Tests.{eqb-true}
use Rattle.std.proofs.lemmas.Bool.{false≢true, ne_eqb}
use Rattle.std.proofs.lemmas.Bool.Decides.{nat_tests}
use Rattle.std.proofs.lemmas.List.{take_at, drop_at}
use Rattle.std.specs.Char.{is_ascii_digit}
use Rattle.std.specs.Char.{is_ascii_whitespace}
use Rattle.std.specs.Int.{is_in_range}
use Rattle.std.specs.List.{position_or_len, suffix_len}
use Rattle.std.proofs.lemmas.List.Sums.{suffix_len_is}
use Rattle.std.proofs.Math.Seq.{get_or-append_seam, take-append_seam, take-length}
use Rattle.std.specs.Str.{all_ascii_digits}
use Rattle.text_output.specs.Digits.{decimal, last_digits}
use Rattle.text_output.proofs.Theorems.Digits.{digits_induction, last_digits_length}
use Rattle.unit_text.specs.Figure.{is, after_byte, value_after, digits_value, is_whole, is_figure, is_filled, places, past_all, figure_of}
use Rattle.unit_text.specs.Shown.{pointed, percent_text, month_text, shown}
use Rattle.unit_text.specs.Read.{trimmed, trimmed_front, first_is, last_is, without_last, signed, money_read, ends_in_kva, kva_read, percent_read, factor_read, choice_read, read}
use Rattle.unit_text.specs.Month.{month_of, is_year_month, month_read}
use Rattle.unit_text.specs.Measure.{words_of, spellings, word_number}
use Rattle.unit_text.specs.ExactFigures.{can_hold}
use Rattle.unit_text.specs.declared.measure.Words.{Words}
use Rattle.unit_text.specs.declared.measure.Words.TheVariants.{Forms, YesNo, Classes, Modes, Marks}
use Rattle.unit_text.specs.declared.measure.Measure.{Measure}
use Rattle.unit_text.specs.declared.measure.Measure.TheVariants.{Number, Dollars, DollarsPerKva, ThousandDollars, Kva, Percent, Factor, Month, Choice}

-- ---- digits
both : (a b : Bool) → a ≡ true → b ≡ true → (a && b) ≡ true
both a b e f = cc

both_parts : (a b : Bool) → (a && b) ≡ true → (a ≡ true) × (b ≡ true)
both_parts true b e = (refl, e)
both_parts false b e = absurd (false≢true e)

pub is_digit : (d : ℕ) → d < 10 → is_ascii_digit (48 + d) ≡ true
is_digit d h = grind (arith, nat_tests)

-- a digit is no byte that isn't one
pub digit_not : (b c : ℕ) → is_ascii_digit b ≡ true → is_ascii_digit c ≡ false → eqb b c ≡ false
digit_not b c e f = by (eqb b c) refl
  where
    by : (t : Bool) → eqb b c ≡ t → t ≡ false
    by true g = absurd (false≢true (sym f ∙ ap is_ascii_digit (sym (eqb-true b c g)) ∙ e))
    by false g = refl

pub digits_append : (a b : List ℕ) → all_ascii_digits a ≡ true → all_ascii_digits b ≡ true → all_ascii_digits (a ++ b) ≡ true
digits_append [] b e f = f
digits_append (x ∷ a) b e f = let k = both_parts _ _ e in both _ _ k.0 (digits_append a b k.1 f)

pub value_append : (a b : List ℕ) (n : ℕ) → value_after n (a ++ b) ≡ value_after (value_after n a) b
unfolding value_after
value_append [] b n = refl
value_append (x ∷ a) b n = value_append a b (after_byte n x)

pub value_digit : (n d : ℕ) → d < 10 → value_after n ((48 + d) ∷ []) ≡ n * 10 + d
unfolding value_after
value_digit n d h = rw (is_digit d h) (omega arith)

pub record DigitsOf (n : ℕ) (ds : List ℕ) : Type 0 where
  pub digits : all_ascii_digits ds ≡ true
  pub some : 0 < length ds
  pub value : digits_value ds ≡ n

pub decimal_digits : (n : ℕ) → n < 10 ^ 20 → DigitsOf n (decimal n)
decimal_digits n h = digits_induction DigitsOf one more 19 n h
  where
    one : (n : ℕ) → n < 10 → DigitsOf n ((48 + n) ∷ [])
    one n h = record { digits = both _ _ (is_digit n h) refl; some = omega arith; value = value_digit 0 n h ∙ omega arith }

    more : (n : ℕ) (ds : List ℕ) → 10 ≤ n → DigitsOf (n / 10) ds → DigitsOf n (ds ++ ((48 + n % 10) ∷ []))
    more n ds h ih =
        let d : n % 10 < 10 = omega arith in
        record {
          digits = digits_append ds _ ih.digits (both _ _ (is_digit (n % 10) d) refl);
          some = rw length-append (omega arith);
          value = value_append ds _ 0 ∙ value_digit _ (n % 10) d ∙ omega (arith, ih.value);
        }

pub last_are_digits : (count n : ℕ) → all_ascii_digits (last_digits count n) ≡ true
unfolding last_digits
last_are_digits zero n = refl
last_are_digits (suc count) n = digits_append (last_digits count (n / 10)) _ (last_are_digits count (n / 10)) (both _ _ (is_digit (n % 10) (omega arith)) refl)

pub last_value : (count n v : ℕ) → value_after v (last_digits count n) ≡ v * 10 ^ count + n % 10 ^ count
unfolding last_digits value_after
last_value zero n v = omega arith
last_value (suc count) n v =
    let low : n % (10 ^ count * 10) ≡ (n / 10 % 10 ^ count) * 10 + n % 10 = mod-mul n (one-le-pow count 10 (omega arith)) (omega arith) in
    value_append (last_digits count (n / 10)) _ v ∙ value_digit _ (n % 10) (omega arith) ∙ rw (last_value count (n / 10) v, pow-suc) (omega (arith, low))

-- ---- a figure with a point
pub before_point : (a b : List ℕ) → all_ascii_digits a ≡ true → position_or_len (is 46) (a ++ (46 ∷ b)) ≡ length a
before_point [] b e = refl
before_point (x ∷ a) b e = let k = both_parts _ _ e in rw (digit_not x 46 k.0 refl, before_point a b k.1) (omega arith)

pub no_point : (a : List ℕ) → all_ascii_digits a ≡ true → position_or_len (is 46) a ≡ length a
no_point [] e = refl
no_point (x ∷ a) e = let k = both_parts _ _ e in rw (digit_not x 46 k.0 refl, no_point a k.1) (omega arith)

-- some digits are a whole number
digits_whole : (a : List ℕ) → all_ascii_digits a ≡ true → 0 < length a → is_whole a ≡ true
digits_whole [] e h = absurd (omega arith)
digits_whole (x ∷ a) e h =
    let k = both_parts _ _ e in
    let first : is_ascii_digit x ≡ true = k.0 in
    let rest : all_ascii_digits a ≡ true = k.1 in
    rw (first, rest)

filled : (a : List ℕ) → 0 < length a → is_filled a ≡ true
filled [] h = absurd (omega arith)
filled (x ∷ a) h = refl

-- ---- a text with a figure's form, few decimals and few digits is read
pub figure_is : (decimals : ℕ) (text : List ℕ) (n : ℕ) → is_figure text ≡ true → places text ≤ decimals →
    digits_value text * 10 ^ (decimals - places text) ≡ n → n < past_all → figure_of decimals text ≡ Ok n
figure_is decimals text n f p v h = rw (f, le-ltb decimals (places text) p, v, lt-ltb n past_all h)

eqb_self : (n : ℕ) → eqb n n ≡ true
eqb_self n = grind (arith, nat_tests)

-- ---- digits alone
module _ (a : List ℕ) (digits : all_ascii_digits a ≡ true) (some : 0 < length a) where
  whole_form : is_figure a ≡ true
  whole_form = let point : position_or_len (is 46) a ≡ length a = no_point a digits in rw (point, eqb_self (length a)) (digits_whole a digits some)

  pub whole_read : (n : ℕ) → digits_value a ≡ n → n < past_all → figure_of 0 a ≡ Ok n
  whole_read n value h =
      let point : position_or_len (is 46) a ≡ length a = no_point a digits in
      let none : places a ≡ 0 = omega (arith, point) in
      figure_is 0 a n whole_form (omega (arith, none)) (rw (value, none) (omega arith)) h

-- ---- and with a point among them
module _ (a b : List ℕ) (digits : all_ascii_digits a ≡ true) (some : 0 < length a) (behind : all_ascii_digits b ≡ true) where
  pointed_places : places (a ++ (46 ∷ b)) ≡ length b
  pointed_places = rw (before_point a b digits, length-append) (omega arith)

  pointed_form : 0 < length b → is_figure (a ++ (46 ∷ b)) ≡ true
  pointed_form h =
      let point : position_or_len (is 46) (a ++ (46 ∷ b)) ≡ length a = before_point a b digits in
      let apart : eqb (length a) (length (a ++ (46 ∷ b))) ≡ false = ne_eqb _ _ (λ e. absurd (omega (arith, e, length-append a (46 ∷ b)))) in
      let front : take (length a) (a ++ (46 ∷ b)) ≡ a = take_at a _ _ refl in
      let back : drop (length a + 1) (a ++ (46 ∷ b)) ≡ b = ap (λ (l : List ℕ). drop (length a + 1) l) (sym (append_assoc a (46 ∷ []) b)) ∙ drop_at (a ++ (46 ∷ [])) b _ (length-append a (46 ∷ [])) in
      rw (point, apart, front, back, digits_whole a digits some, filled b h, behind)

  pointed_value : digits_value (a ++ (46 ∷ b)) ≡ value_after (digits_value a) b
  unfolding value_after
  pointed_value = value_append a (46 ∷ b) 0

  pub pointed_read : (n : ℕ) → 0 < length b → value_after (digits_value a) b ≡ n → n < past_all → figure_of (length b) (a ++ (46 ∷ b)) ≡ Ok n
  pointed_read n h value below =
      let zero_left : length b - length b ≡ 0 = omega arith in
      let by_places : digits_value (a ++ (46 ∷ b)) * 10 ^ (length b - places (a ++ (46 ∷ b))) ≡ n = rw (pointed_value, pointed_places, value, zero_left) (omega arith) in
      figure_is (length b) (a ++ (46 ∷ b)) n (pointed_form h) (omega (arith, pointed_places)) by_places below

-- ---- the figures that are shown
pub whole_figure : (n : ℕ) → n < past_all → figure_of 0 (decimal n) ≡ Ok n
whole_figure n h = let ds = decimal_digits n (omega arith) in whole_read (decimal n) ds.digits ds.some n ds.value h

pub pointed_figure : (decimals n : ℕ) → 0 < decimals → n < past_all → figure_of decimals (pointed decimals n) ≡ Ok n
pointed_figure decimals n d h =
    let b = last_digits decimals n in
    let long : length b ≡ decimals = last_digits_length decimals n in
    let below : n / 10 ^ decimals < 10 ^ 20 = omega (arith, div-le_self n (10 ^ decimals)) in
    let ds = decimal_digits (n / 10 ^ decimals) below in
    let value : value_after (digits_value (decimal (n / 10 ^ decimals))) b ≡ n =
    rw ds.value (last_value decimals n (n / 10 ^ decimals) ∙ div-add-mod' n (10 ^ decimals)) in
    subst (λ (k : ℕ). figure_of k (pointed decimals n) ≡ Ok n) long
    (pointed_read (decimal (n / 10 ^ decimals)) b ds.digits ds.some (last_are_digits decimals n) n (omega arith) value h)

-- ---- a figure that is shown begins and ends with a digit
first_digit : (a rest : List ℕ) → all_ascii_digits a ≡ true → 0 < length a → is_ascii_digit (get_or (a ++ rest) 0 0) ≡ true
first_digit [] rest e h = absurd (omega arith)
first_digit (x ∷ a) rest e h = (both_parts _ _ e).0

first_alone : (a : List ℕ) → all_ascii_digits a ≡ true → 0 < length a → is_ascii_digit (get_or a 0 0) ≡ true
first_alone [] e h = absurd (omega arith)
first_alone (x ∷ a) e h = (both_parts _ _ e).0

first_not : (a rest : List ℕ) (c : ℕ) → all_ascii_digits a ≡ true → 0 < length a → is_ascii_digit c ≡ false → first_is c (a ++ rest) ≡ false
first_not a rest c e h f = digit_not _ c (first_digit a rest e h) f

-- so that no sign is taken off it
signed_plain : (money : Bool) (decimals : ℕ) (s : List ℕ) → first_is 45 s ≡ false → first_is 40 s ≡ false → first_is 36 s ≡ false → signed money decimals s ≡ figure_of decimals s
signed_plain true decimals s minus bracket dollar = rw (minus, bracket, dollar)
signed_plain false decimals s minus bracket dollar = rw (minus, bracket)

signed_decimal : (n : ℕ) → n < past_all → signed false 0 (decimal n) ≡ Ok n
signed_decimal n h =
    let ds = decimal_digits n (omega arith) in
    let first : (c : ℕ) → is_ascii_digit c ≡ false → first_is c (decimal n) ≡ false = λ c f. digit_not _ c (first_alone (decimal n) ds.digits ds.some) f in
    signed_plain false 0 (decimal n) (first 45 refl) (first 40 refl) (first 36 refl) ∙ whole_figure n h

signed_pointed : (money : Bool) (decimals n : ℕ) → 0 < decimals → n < past_all → signed money decimals (pointed decimals n) ≡ Ok n
signed_pointed money decimals n d h =
    let ds = decimal_digits (n / 10 ^ decimals) (omega (arith, div-le_self n (10 ^ decimals))) in
    let first : (c : ℕ) → is_ascii_digit c ≡ false → first_is c (pointed decimals n) ≡ false = λ c f. first_not (decimal (n / 10 ^ decimals)) (46 ∷ last_digits decimals n) c ds.digits ds.some f in
    signed_plain money decimals (pointed decimals n) (first 45 refl) (first 40 refl) (first 36 refl) ∙ pointed_figure decimals n d h

and_false : (b : Bool) → (b && false) ≡ false
and_false true = refl
and_false false = refl

-- ---- the last of two decimals
module _ (a : List ℕ) (x y : ℕ) where
  last_three : drop (length (a ++ (46 ∷ x ∷ y ∷ [])) - 3) (a ++ (46 ∷ x ∷ y ∷ [])) ≡ 46 ∷ x ∷ y ∷ []
  last_three =
      let k : length (a ++ (46 ∷ x ∷ y ∷ [])) - 3 ≡ length a = omega (arith, length-append a (46 ∷ x ∷ y ∷ [])) in
      rw k (drop_at a _ _ refl)

  no_kva : ends_in_kva (a ++ (46 ∷ x ∷ y ∷ [])) ≡ false
  no_kva = rw last_three (and_false _)

-- ---- nothing is trimmed off what begins and ends with no white space
front_stays : (s : List ℕ) → is_ascii_whitespace (get_or s 0 0) ≡ false → trimmed_front s ≡ s
front_stays [] e = refl
front_stays (b ∷ s) e = let k : is_ascii_whitespace b ≡ false = e in rw k

pub trimmed_same : (s : List ℕ) → is_ascii_whitespace (get_or s 0 0) ≡ false → is_ascii_whitespace (get_or s (length s - 1) 0) ≡ false → trimmed s ≡ s
unfolding trimmed
trimmed_same s e f =
    let none : suffix_len is_ascii_whitespace s ≡ length s - length s = suffix_len_is is_ascii_whitespace s (length s) 0 (omega arith) (λ k h g. absurd (omega arith)) (λ h. f) in
    let all : length s - (length s - length s) ≡ length s = omega arith in
    rw (front_stays s e, none, all) (take-length s)

digit_is_ink : (b : ℕ) → is_ascii_digit b ≡ true → is_ascii_whitespace b ≡ false
digit_is_ink b e = grind (arith, nat_tests)

-- ---- two decimals
two_digits : (n : ℕ) → last_digits 2 n ≡ (48 + n / 10 % 10) ∷ (48 + n % 10) ∷ []
unfolding last_digits
two_digits n = refl

whole_part_digits : (n : ℕ) → n < past_all → DigitsOf (n / 100) (decimal (n / 100))
whole_part_digits n h = decimal_digits (n / 100) (omega arith)

last_seam : (xs : List ℕ) (y : ℕ) → get_or (xs ++ (y ∷ [])) (length (xs ++ (y ∷ [])) - 1) 0 ≡ y
last_seam xs y = let k : length (xs ++ (y ∷ [])) - 1 ≡ length xs = omega (arith, length-append xs (y ∷ [])) in rw k (get_or-append_seam xs y [] 0)

ends_in_digit : (places n : ℕ) → is_ascii_digit (get_or (pointed (suc places) n) (length (pointed (suc places) n) - 1) 0) ≡ true
unfolding last_digits
ends_in_digit places n =
    let a = decimal (n / 10 ^ suc places) in
    let front : a ++ (46 ∷ last_digits (suc places) n) ≡ (a ++ (46 ∷ last_digits places (n / 10))) ++ ((48 + n % 10) ∷ []) =
    sym (append_assoc a (46 ∷ last_digits places (n / 10)) ((48 + n % 10) ∷ [])) in
    let last : get_or (pointed (suc places) n) (length (pointed (suc places) n) - 1) 0 ≡ 48 + n % 10 =
    ap (λ (l : List ℕ). get_or l (length l - 1) 0) front ∙ last_seam (a ++ (46 ∷ last_digits places (n / 10))) (48 + n % 10) in
    subst (λ (b : ℕ). is_ascii_digit b ≡ true) (sym last) (is_digit (n % 10) (omega arith))

begins_with_digit : (n : ℕ) → n < past_all → is_ascii_digit (get_or (pointed 2 n) 0 0) ≡ true
begins_with_digit n h = let ds = whole_part_digits n h in first_digit (decimal (n / 100)) (46 ∷ last_digits 2 n) ds.digits ds.some

kva_back : (n : ℕ) → n < past_all → kva_read (pointed 2 n) ≡ Ok n
kva_back n h =
    let none : ends_in_kva (pointed 2 n) ≡ false = rw (two_digits n) (no_kva (decimal (n / 100)) (48 + n / 10 % 10) (48 + n % 10)) in
    rw none (signed_pointed false 2 n (omega arith) h)

left_out : {A : Type 0} (a b : Bool) (x y : A) → a ≡ false → cond (a && b) x y ≡ y
left_out true b x y e = absurd (false≢true (sym e))
left_out false b x y e = refl

money_back : (n : ℕ) → n < past_all → money_read (pointed 2 n) ≡ Ok n
money_back n h =
    let none : first_is 36 (pointed 2 n) ≡ false = digit_not _ 36 (begins_with_digit n h) refl in
    left_out (first_is 36 (pointed 2 n)) _ _ _ none ∙ signed_pointed true 2 n (omega arith) h

factor_back : (n : ℕ) → n < past_all → factor_read (pointed 4 n) ≡ Ok n
factor_back n h =
    let none : last_is 37 (pointed 4 n) ≡ false = digit_not _ 37 (ends_in_digit 3 n) refl in
    rw none (signed_pointed false 4 n (omega arith) h)

-- ---- percentages, with their sign from 0.01 to 0.99
percent_plain : (n : ℕ) → n < past_all → (ltb 0 n && ltb n 100) ≡ false → percent_read (pointed 2 n) ≡ Ok n
percent_plain n h e =
    let none : last_is 37 (pointed 2 n) ≡ false = digit_not _ 37 (ends_in_digit 1 n) refl in
    rw (none, signed_pointed false 2 n (omega arith) h, e)

percent_signed : (n : ℕ) → n < past_all → percent_read (pointed 2 n ++ (37 ∷ [])) ≡ Ok n
percent_signed n h =
    let s = pointed 2 n in
    let k : length (s ++ (37 ∷ [])) - 1 ≡ length s = omega (arith, length-append s (37 ∷ [])) in
    let sign : last_is 37 (s ++ (37 ∷ [])) ≡ true = rw (k, get_or-append_seam s 37 [] 0) in
    let bare : without_last (s ++ (37 ∷ [])) ≡ s =
    rw (k, take-append_seam s (37 ∷ []))
    (trimmed_same s (digit_is_ink (get_or s 0 0) (begins_with_digit n h)) (digit_is_ink (get_or s (length s - 1) 0) (ends_in_digit 1 n))) in
    rw (sign, bare) (signed_pointed false 2 n (omega arith) h)

percent_back : (n : ℕ) → n < past_all → percent_read (percent_text n) ≡ Ok n
percent_back n h = by (ltb 0 n && ltb n 100) refl
  where
    by : (t : Bool) → (ltb 0 n && ltb n 100) ≡ t → percent_read (cond t (pointed 2 n ++ (37 ∷ [])) (pointed 2 n)) ≡ Ok n
    by true e = percent_signed n h
    by false e = percent_plain n h e

-- ---- months
module _ (p q : List ℕ) (four : length p ≡ 4) (two : length q ≡ 2) where
  year_part : take 4 (p ++ (45 ∷ q)) ≡ p
  year_part = take_at p (45 ∷ q) 4 four

  month_part : drop 5 (p ++ (45 ∷ q)) ≡ q
  month_part = ap (λ (l : List ℕ). drop 5 l) (sym (append_assoc p (45 ∷ []) q)) ∙ drop_at (p ++ (45 ∷ [])) q 5 (length-append p (45 ∷ []) ∙ omega (arith, four))

  mark_part : get_or (p ++ (45 ∷ q)) 4 0 ≡ 45
  mark_part = subst (λ (k : ℕ). get_or (p ++ (45 ∷ q)) k 0 ≡ 45) four (get_or-append_seam p 45 q 0)

  month_form : all_ascii_digits p ≡ true → all_ascii_digits q ≡ true → is_year_month (p ++ (45 ∷ q)) ≡ true
  unfolding is_year_month
  month_form e f =
      let long : length (p ++ (45 ∷ q)) ≡ 7 = omega (arith, length-append p (45 ∷ q), four, two) in
      rw (long, year_part, mark_part, month_part, e, f)

  month_parts : all_ascii_digits p ≡ true → all_ascii_digits q ≡ true → month_read (p ++ (45 ∷ q)) ≡ month_of (digits_value p) (digits_value q)
  month_parts e f = rw (month_form e f, year_part, month_part)

month_said : (year month n : ℕ) → 1 ≤ month → month ≤ 12 → year * 12 + (month - 1) ≡ n → month_of year month ≡ Ok n
month_said year month n low high e = let in_year : is_in_range 1 12 month ≡ true = grind (arith, nat_tests) in rw (in_year, e)

month_back : (n : ℕ) → n < 65536 → month_read (month_text n) ≡ Ok n
month_back n h =
    let p = last_digits 4 (n / 12) in
    let q = last_digits 2 (n % 12 + 1) in
    let year : digits_value p ≡ n / 12 = last_value 4 (n / 12) 0 ∙ omega arith in
    let month : digits_value q ≡ n % 12 + 1 = last_value 2 (n % 12 + 1) 0 ∙ omega arith in
    month_parts p q (last_digits_length 4 (n / 12)) (last_digits_length 2 (n % 12 + 1)) (last_are_digits 4 (n / 12)) (last_are_digits 2 (n % 12 + 1))
    ∙ rw (year, month) (month_said (n / 12) (n % 12 + 1) n (omega arith) (omega arith) (omega arith))

-- ---- words
choice_back : (words : Words) (n : ℕ) → n < length (words_of words) → choice_read words (get_or (words_of words) n []) ≡ Ok n
unfolding spellings word_number
choice_back Forms zero h = refl
choice_back Forms (suc zero) h = refl
choice_back Forms (suc (suc n)) h = absurd (omega arith)
choice_back YesNo zero h = refl
choice_back YesNo (suc zero) h = refl
choice_back YesNo (suc (suc n)) h = absurd (omega arith)
choice_back Classes zero h = refl
choice_back Classes (suc zero) h = refl
choice_back Classes (suc (suc zero)) h = refl
choice_back Classes (suc (suc (suc n))) h = absurd (omega arith)
choice_back Modes zero h = refl
choice_back Modes (suc zero) h = refl
choice_back Modes (suc (suc zero)) h = refl
choice_back Modes (suc (suc (suc n))) h = absurd (omega arith)
choice_back Marks zero h = refl
choice_back Marks (suc zero) h = refl
choice_back Marks (suc (suc zero)) h = refl
choice_back Marks (suc (suc (suc n))) h = absurd (omega arith)

pub figure_reads_back : (measure : Measure) (n : ℕ) → can_hold measure n ≡ true → read measure (shown measure n) ≡ Ok n
figure_reads_back Number n e = signed_decimal n (ltb-true _ _ e)
figure_reads_back Dollars n e = money_back n (ltb-true _ _ e)
figure_reads_back DollarsPerKva n e = money_back n (ltb-true _ _ e)
figure_reads_back ThousandDollars n e = signed_decimal n (ltb-true _ _ e)
figure_reads_back Kva n e = kva_back n (ltb-true _ _ e)
figure_reads_back Percent n e = percent_back n (ltb-true _ _ e)
figure_reads_back Factor n e = factor_back n (ltb-true _ _ e)
figure_reads_back Month n e = month_back n (ltb-true _ _ e)
figure_reads_back (Choice words) n e = choice_back words n (ltb-true _ _ e)
