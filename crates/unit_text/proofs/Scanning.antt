-- The loops over a text, one byte on and past the last.
use Rattle.std.specs.Prelude.{ℕ, suc, ◌+◌, ◌-◌, ◌*◌, ◌%◌, ◌^◌, ◌≤◌, ◌<◌, ◌≡◌, List, [], ◌∷◌, Bool, true, false, cond, not, ◌&&◌, length, drop, get_or, min, refl, eqb, ltb}
use Rattle.std.proofs.Common.{arith, sym, ap, ◌∙◌, ltb-true, ltb-false, le-ltb, length-drop}
use Rattle.std.proofs.Math.Nat.{one-le-pow, le-mul_of_pos_right}
use Rattle.std.specs.Str.{str_eq_ignore_ascii_case}
use Rattle.std.proofs.lemmas.List.{at_drop_more, at_drop_all}
use Rattle.std.specs.Char.{is_ascii_digit}
use Rattle.std.specs.List.{position_or_len}
use Rattle.std.specs.Str.{all_ascii_digits}
use Rattle.unit_text.specs.Figure.{is, after_byte, value_after, is_grouped, past_all, bounded}
use Rattle.unit_text.specs.Measure.{word_number}
use Rattle.unit_text.specs.Month.{month_names}

module _ (s : List ℕ) (i : ℕ) where
  pub before_on : (byte : ℕ) → i < length s → position_or_len (is byte) (drop i s) ≡ cond (not (eqb (get_or s i 0) byte)) (1 + position_or_len (is byte) (drop (i + 1) s)) 0
  before_on byte h = at_drop_more (position_or_len (is byte)) s i 0 h

  pub before_end : (byte : ℕ) → length s ≤ i → position_or_len (is byte) (drop i s) ≡ 0
  before_end byte h = at_drop_all (position_or_len (is byte)) s i h

  pub digits_on : i < length s → all_ascii_digits (drop i s) ≡ (is_ascii_digit (get_or s i 0) && all_ascii_digits (drop (i + 1) s))
  digits_on h = at_drop_more all_ascii_digits s i 0 h

  pub digits_end : length s ≤ i → all_ascii_digits (drop i s) ≡ true
  digits_end h = at_drop_all all_ascii_digits s i h

  pub groups_on : (separator : ℕ) → i < length s →
      is_grouped separator (drop i s)
      ≡ (cond (eqb ((length s - i) % 4) 0) (eqb (get_or s i 0) separator) (is_ascii_digit (get_or s i 0)) && is_grouped separator (drop (i + 1) s))
  unfolding is_grouped
  groups_on separator h =
      let e : suc (length (drop (i + 1) s)) ≡ length s - i = rw length-drop (omega arith) in
      at_drop_more (is_grouped separator) s i 0 h ∙ rw e

  pub groups_end : (separator : ℕ) → length s ≤ i → is_grouped separator (drop i s) ≡ true
  unfolding is_grouped
  groups_end separator h = at_drop_all (is_grouped separator) s i h

  pub value_end : (n : ℕ) → length s ≤ i → value_after n (drop i s) ≡ n
  unfolding value_after
  value_end n h = at_drop_all (value_after n) s i h

-- more digits make no smaller number
byte_grows : (n byte : ℕ) → n ≤ after_byte n byte
byte_grows n byte = by (is_ascii_digit byte)
  where
    by : (t : Bool) → n ≤ cond t (n * 10 + (byte - 48)) n
    by true = omega arith
    by false = omega arith

value_grows : (s : List ℕ) (n : ℕ) → n ≤ value_after n s
unfolding value_after
value_grows [] n = omega arith
value_grows (b ∷ s) n = omega (arith, byte_grows n b, value_grows s (after_byte n b))

-- so that a number past all stays past all
pub value_capped : (s : List ℕ) (n : ℕ) → min (value_after (min n past_all) s) past_all ≡ min (value_after n s) past_all
value_capped s n = by (ltb n past_all) refl
  where
    by : (t : Bool) → ltb n past_all ≡ t → min (value_after (min n past_all) s) past_all ≡ min (value_after n s) past_all
    by true e = let k : min n past_all ≡ n = omega (arith, ltb-true n past_all e) in rw k
    by false e =
        let k : min n past_all ≡ past_all = omega (arith, ltb-false n past_all e) in
        rw k (omega (arith, value_grows s past_all, value_grows s n, ltb-false n past_all e))

pub value_on : (s : List ℕ) (i n : ℕ) → i < length s →
    min (value_after n (drop i s)) past_all ≡ min (value_after (min (after_byte n (get_or s i 0)) past_all) (drop (i + 1) s)) past_all
unfolding value_after
value_on s i n h = ap (λ (v : ℕ). min v past_all) (at_drop_more (value_after n) s i 0 h) ∙ sym (value_capped (drop (i + 1) s) (after_byte n (get_or s i 0)))

-- and so does its product
pub bounded_capped : (v k : ℕ) → bounded (min v past_all * 10 ^ k) ≡ bounded (v * 10 ^ k)
bounded_capped v k = by (ltb v past_all) refl
  where
    by : (t : Bool) → ltb v past_all ≡ t → bounded (min v past_all * 10 ^ k) ≡ bounded (v * 10 ^ k)
    by true e = let m : min v past_all ≡ v = omega (arith, ltb-true v past_all e) in rw m
    by false e =
        let m : min v past_all ≡ past_all = omega (arith, ltb-false v past_all e) in
        let above : past_all ≤ v = ltb-false v past_all e in
        let low : past_all ≤ past_all * 10 ^ k = omega (arith, one-le-pow k 10 (omega arith)) in
        let high : past_all ≤ v * 10 ^ k = omega (arith, le-mul_of_pos_right v (one-le-pow k 10 (omega arith)), above) in
        rw (m, le-ltb _ _ low, le-ltb _ _ high)

-- ---- the words of a list
module _ (words : List (List ℕ)) (i : ℕ) (s : List ℕ) where
  pub word_on : i < length words → word_number (drop i words) s ≡ cond (not (str_eq_ignore_ascii_case (get_or words i []) s)) (1 + word_number (drop (i + 1) words) s) 0
  unfolding word_number
  word_on h = at_drop_more (λ rest. word_number rest s) words i [] h

  pub word_end : length words ≤ i → word_number (drop i words) s ≡ 0
  unfolding word_number
  word_end h = at_drop_all (λ rest. word_number rest s) words i h

pub twelve : length month_names ≡ 12
unfolding month_names
twelve = refl
