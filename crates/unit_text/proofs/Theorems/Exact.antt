-- A figure is what its own digits say: the signs that are taken off it have no digits, and none before it has a point.
use Rattle.std.specs.Prelude.{ℕ, zero, suc, ◌+◌, ◌-◌, ◌*◌, ◌^◌, ◌≤◌, ◌<◌, ◌≡◌, List, [], ◌∷◌, ◌++◌, Bool, true, false, cond, not, ◌&&◌, ◌||◌, length, get_or, take, drop, ltb, leb, eqb, refl, codes, Ok, Err}
use Rattle.std.proofs.Common.{arith, sym, ◌∙◌, subst, length-drop, ltb-false, take-append-drop, one-add, drop-cons}
use borrow.Author.Tests.{eqb-true}
use Rattle.std.proofs.lemmas.List.{drop_all}
use Rattle.std.proofs.lemmas.Bool.{false≢true, eqb-false}
use Rattle.std.proofs.lemmas.Bool.Decides.{nat_tests}
use Rattle.std.specs.Char.{is_ascii_digit, is_ascii_whitespace, to_ascii_lowercase}
use Rattle.std.specs.List.{position_or_len, prefix_len, suffix_len, list_all}
use Rattle.std.specs.Str.{all_ascii_digits, str_eq_ignore_ascii_case}
use Rattle.std.proofs.lemmas.List.Sums.{suffix_len_is, prefix_len-le-length}
use Rattle.unit_text.specs.Figure.{Reading, is, after_byte, value_after, digits_value, is_whole, is_figure, is_filled, places, past_all, figure_of}
use Rattle.unit_text.specs.Read.{trimmed, first_is, last_is, without_first, without_last, negative, unsigned, signed, is_dash, money_read, ends_in_kva, kva_read, not_a_fraction, percent_read, factor_read, read}
use Rattle.unit_text.specs.declared.figure.Unread.TheVariants.{NotRead, Decimals, PastAll, BelowZero, EitherOf}
use Rattle.unit_text.specs.ExactFigures.{digits_behind, decimals_of, SaysExactly, is_figure_unit}
use Rattle.unit_text.specs.declared.measure.Measure.{Measure}
use Rattle.unit_text.specs.declared.measure.Measure.TheVariants.{Number, Dollars, DollarsPerKva, ThousandDollars, Kva, Percent, Factor, Month, Choice}

both_parts : (a b : Bool) → (a && b) ≡ true → (a ≡ true) × (b ≡ true)
both_parts true b e = (refl, e)
both_parts false b e = absurd (false≢true e)

impossible : {A : Type 0} → ⊥ → A
impossible h = absurd h

-- ---- signs: no digits and no points
abbrev is_sign : ℕ → Bool
is_sign byte = not (is_ascii_digit byte) && not (eqb byte 46)

sign_no_digit : (b : ℕ) → is_sign b ≡ true → is_ascii_digit b ≡ false
sign_no_digit b e = grind (arith, nat_tests)

sign_no_point : (b : ℕ) → is_sign b ≡ true → eqb b 46 ≡ false
sign_no_point b e = grind (arith, nat_tests)

white_is_sign : (b : ℕ) → is_ascii_whitespace b ≡ true → is_sign b ≡ true
white_is_sign b e = grind (arith, nat_tests)

value_append : (a b : List ℕ) (n : ℕ) → value_after n (a ++ b) ≡ value_after (value_after n a) b
unfolding value_after
value_append [] b n = refl
value_append (x ∷ a) b n = value_append a b (after_byte n x)

value_of_signs : (a : List ℕ) (n : ℕ) → list_all is_sign a ≡ true → value_after n a ≡ n
unfolding value_after
value_of_signs [] n e = refl
value_of_signs (x ∷ a) n e = let k = both_parts _ _ e in rw (sign_no_digit x k.0) (value_of_signs a n k.1)

behind_signs : (a s : List ℕ) → list_all is_sign a ≡ true → digits_behind false (a ++ s) ≡ digits_behind false s
unfolding digits_behind
behind_signs [] s e = refl
behind_signs (x ∷ a) s e = let k = both_parts _ _ e in rw (sign_no_digit x k.0, sign_no_point x k.0) (behind_signs a s k.1)

of_signs : (a : List ℕ) (seen : Bool) → list_all is_sign a ≡ true → digits_behind seen a ≡ 0
unfolding digits_behind
of_signs [] seen e = refl
of_signs (x ∷ a) seen e = let k = both_parts _ _ e in rw (sign_no_digit x k.0) (of_signs a _ k.1)

before_signs : (s a : List ℕ) (seen : Bool) → list_all is_sign a ≡ true → digits_behind seen (s ++ a) ≡ digits_behind seen s
unfolding digits_behind
before_signs [] a seen e = of_signs a seen e
before_signs (x ∷ s) a seen e = rw (before_signs s a seen e, before_signs s a (seen || eqb x 46) e)

-- two texts say the same where the one is the other between signs
pub record SaysAs (text bare : List ℕ) : Type 0 where
  pub value : digits_value text ≡ digits_value bare
  pub behind : digits_behind false text ≡ digits_behind false bare

between : (a bare c : List ℕ) → list_all is_sign a ≡ true → list_all is_sign c ≡ true → SaysAs (a ++ (bare ++ c)) bare
between a bare c e f =
    record {
      value = value_append a (bare ++ c) 0 ∙ rw (value_of_signs a 0 e) (value_append bare c 0 ∙ value_of_signs c _ f);
      behind = behind_signs a (bare ++ c) e ∙ before_signs bare c false f;
    }

says_through : (a b c : List ℕ) → SaysAs a b → SaysAs b c → SaysAs a c
says_through a b c h g = record { value = h.value ∙ g.value; behind = h.behind ∙ g.behind }

-- ---- trimming
white_signs : (a : List ℕ) → list_all is_ascii_whitespace a ≡ true → list_all is_sign a ≡ true
white_signs [] e = refl
white_signs (x ∷ a) e =
    let k = both_parts (is_ascii_whitespace x) (list_all is_ascii_whitespace a) e in
    let first : is_sign x ≡ true = white_is_sign x k.0 in
    rw first (white_signs a k.1)

front_white : (s : List ℕ) → list_all is_ascii_whitespace (take (prefix_len is_ascii_whitespace s) s) ≡ true
front_white [] = refl
front_white (x ∷ s) = by (is_ascii_whitespace x) refl (front_white s)
  where
    by : (t : Bool) → is_ascii_whitespace x ≡ t → list_all is_ascii_whitespace (take (prefix_len is_ascii_whitespace s) s) ≡ true →
        list_all is_ascii_whitespace (take (cond t (1 + prefix_len is_ascii_whitespace s) 0) (x ∷ s)) ≡ true
    by true e h = rw (one-add, e) h
    by false e h = refl

record EndsAt (s : List ℕ) (n : ℕ) : Type 0 where
  pub within : n ≤ length s
  pub white : list_all is_ascii_whitespace (drop n s) ≡ true
  pub ink : 0 < n → is_ascii_whitespace (get_or s (n - 1) 0) ≡ false

end_of : (s : List ℕ) → (n : ℕ) × EndsAt s n
end_of [] = (0, record { within = omega arith; white = refl; ink = λ h. absurd (omega arith) })
end_of (x ∷ s) = by (end_of s).0 (end_of s).1 (is_ascii_whitespace x) refl
  where
    by : (n : ℕ) → EndsAt s n → (t : Bool) → is_ascii_whitespace x ≡ t → (n : ℕ) × EndsAt (x ∷ s) n
    by zero h true e = (0, record { within = omega arith; white = rw e h.white; ink = λ g. absurd (omega arith) })
    by zero h false e = (1, record { within = omega arith; white = h.white; ink = λ g. e })
    by (suc n) h t e =
        let last : suc (suc n) - 1 ≡ suc n = omega arith in
        let before : suc n - 1 ≡ n = omega arith in
        (suc (suc n), record { within = omega (arith, h.within); white = h.white; ink = λ g. rw last (rw before at h.ink (omega arith)) })

white_at : (s : List ℕ) (n k : ℕ) → list_all is_ascii_whitespace (drop n s) ≡ true → n ≤ k → k < length s → is_ascii_whitespace (get_or s k 0) ≡ true
white_at [] n k e h g = absurd (omega arith)
white_at (x ∷ s) zero zero e h g = (both_parts (is_ascii_whitespace x) (list_all is_ascii_whitespace s) e).0
white_at (x ∷ s) zero (suc k) e h g = white_at s zero k (both_parts (is_ascii_whitespace x) (list_all is_ascii_whitespace s) e).1 (omega arith) (omega arith)
white_at (x ∷ s) (suc n) zero e h g = absurd (omega arith)
white_at (x ∷ s) (suc n) (suc k) e h g = white_at s n k e (omega arith) (omega arith)

trimmed_end : (s : List ℕ) (n : ℕ) → EndsAt s n → length s - suffix_len is_ascii_whitespace s ≡ n
trimmed_end s n h =
    let e = suffix_len_is is_ascii_whitespace s n 0 h.within (λ k g l. white_at s n k h.white g l) h.ink in
    omega (arith, e, h.within)

trimmed_says : (s : List ℕ) → SaysAs s (trimmed s)
unfolding trimmed
trimmed_says s =
    let p = prefix_len is_ascii_whitespace s in
    let t = drop p s in
    let found = end_of t in
    let m = length t - suffix_len is_ascii_whitespace t in
    let end : m ≡ found.0 = trimmed_end t found.0 found.1 in
    let white : list_all is_ascii_whitespace (drop m t) ≡ true = rw end found.1.white in
    let whole : take p s ++ (take m t ++ drop m t) ≡ s = rw (take-append-drop m t) (take-append-drop p s) in
    subst (λ (text : List ℕ). SaysAs text (take m t)) whole (between (take p s) (take m t) (drop m t) (white_signs (take p s) (front_white s)) (white_signs (drop m t) white))

-- ---- a sign before a text, or behind it
one_sign : (x : ℕ) (s : List ℕ) → is_sign x ≡ true → SaysAs (x ∷ s) s
unfolding value_after digits_behind
one_sign x s e = record { value = rw (sign_no_digit x e); behind = rw (sign_no_digit x e, sign_no_point x e) }

first_says : (byte : ℕ) (s : List ℕ) → is_sign byte ≡ true → first_is byte s ≡ true → SaysAs s (without_first s)
first_says byte [] sign e = trimmed_says []
first_says byte (x ∷ s) sign e =
    let here : is_sign x ≡ true = subst (λ (b : ℕ). is_sign b ≡ true) (sym (eqb-true x byte e)) sign in
    says_through (x ∷ s) s (trimmed s) (one_sign x s here) (trimmed_says s)

-- the signs that a text ends in
end_says : (k : ℕ) (s : List ℕ) → list_all is_sign (drop k s) ≡ true → SaysAs s (take k s)
end_says k s e = subst (λ (text : List ℕ). SaysAs text (take k s)) (take-append-drop k s) (between [] (take k s) (drop k s) refl e)

last_sign : (s : List ℕ) (byte : ℕ) → is_sign byte ≡ true → last_is byte s ≡ true → list_all is_sign (drop (length s - 1) s) ≡ true
last_sign [] byte sign e = refl
last_sign (x ∷ s) byte sign e =
    let k : length (x ∷ s) - 1 ≡ length s = omega arith in
    let one : drop (length s) (x ∷ s) ≡ get_or (x ∷ s) (length s) 0 ∷ drop (suc (length s)) (x ∷ s) = drop-cons (x ∷ s) (length s) 0 (omega arith) in
    let none : drop (length s) s ≡ [] = drop_all (length s) s (omega arith) in
    let here : is_sign (get_or (x ∷ s) (length s) 0) ≡ true =
    subst (λ (b : ℕ). is_sign b ≡ true) (sym (eqb-true (get_or (x ∷ s) (length s) 0) byte (rw k at e))) sign in
    rw (k, one, none, here)

last_says : (byte : ℕ) (s : List ℕ) → is_sign byte ≡ true → last_is byte s ≡ true → SaysAs s (without_last s)
last_says byte s sign e =
    let bare = take (length s - 1) s in
    says_through s bare (trimmed bare) (end_says (length s - 1) s (last_sign s byte sign e)) (trimmed_says bare)

-- ---- a figure
-- behind the point stand digits alone
step_on : (b : ℕ) (t : List ℕ) → eqb b 46 ≡ false → digits_behind false (b ∷ t) ≡ digits_behind false t
unfolding digits_behind
step_on b t e = by (is_ascii_digit b)
  where
    by : (v : Bool) → cond v (0 + digits_behind false t) (digits_behind (eqb b 46) t) ≡ digits_behind false t
    by true = omega arith
    by false = rw e

no_point_behind : (t : List ℕ) → position_or_len (is 46) t ≡ length t → digits_behind false t ≡ 0
unfolding digits_behind
no_point_behind [] e = refl
no_point_behind (b ∷ t) e = by (eqb b 46) refl (no_point_behind t) e
  where
    by : (v : Bool) → eqb b 46 ≡ v → (position_or_len (is 46) t ≡ length t → digits_behind false t ≡ 0) →
        cond (not v) (1 + position_or_len (is 46) t) 0 ≡ length (b ∷ t) → digits_behind false (b ∷ t) ≡ 0
    by true f ih h = absurd (omega (arith, h))
    by false f ih h = step_on b t f ∙ ih (omega (arith, h))

point_no_digit : (b : ℕ) → eqb b 46 ≡ true → is_ascii_digit b ≡ false
point_no_digit b e = grind (arith, nat_tests)

behind_point : (t : List ℕ) → position_or_len (is 46) t < length t → digits_behind false t ≡ digits_behind true (drop (position_or_len (is 46) t + 1) t)
unfolding digits_behind
behind_point [] h = absurd (omega arith)
behind_point (b ∷ t) h = by (eqb b 46) refl (behind_point t) h
  where
    by : (v : Bool) → eqb b 46 ≡ v → (position_or_len (is 46) t < length t → digits_behind false t ≡ digits_behind true (drop (position_or_len (is 46) t + 1) t)) →
        cond (not v) (1 + position_or_len (is 46) t) 0 < length (b ∷ t) →
        digits_behind false (b ∷ t) ≡ digits_behind true (drop (cond (not v) (1 + position_or_len (is 46) t) 0 + 1) (b ∷ t))
    by true f ih g = rw (point_no_digit b f, f)
    by false f ih g =
        let k : 1 + position_or_len (is 46) t + 1 ≡ suc (position_or_len (is 46) t + 1) = omega arith in
        step_on b t f ∙ rw k (ih (omega (arith, g)))

all_behind : (t : List ℕ) → all_ascii_digits t ≡ true → digits_behind true t ≡ length t
unfolding digits_behind
all_behind [] e = refl
all_behind (b ∷ t) e =
    let k = both_parts (is_ascii_digit b) (all_ascii_digits t) e in
    let first : is_ascii_digit b ≡ true = k.0 in
    rw (first, all_behind t k.1) (omega arith)

position_within : (t : List ℕ) → position_or_len (is 46) t ≤ length t
position_within t = prefix_len-le-length _ t

behind_places : (t : List ℕ) → is_figure t ≡ true → digits_behind false t ≡ places t
behind_places t = by (eqb before (length t)) refl
  where
    before : ℕ
    before = position_or_len (is 46) t

    by : (v : Bool) → eqb before (length t) ≡ v →
        cond v (is_whole t) (is_whole (take before t) && is_filled (drop (before + 1) t) && all_ascii_digits (drop (before + 1) t)) ≡ true → digits_behind false t ≡ places t
    by true f e = let k : position_or_len (is 46) t ≡ length t = eqb-true before (length t) f in no_point_behind t k ∙ omega (arith, k)
    by false f e =
        let inside : position_or_len (is 46) t < length t = omega (arith, position_within t, ltb_from f) in
        behind_point t inside ∙ all_behind _ (both_parts _ _ e).1 ∙ rw length-drop (omega arith)
      where
        ltb_from : eqb before (length t) ≡ false → (before ≡ length t → ⊥)
        ltb_from g = eqb-false before (length t) g

figure_says : (d : ℕ) (t : List ℕ) (n : ℕ) → figure_of d t ≡ Ok n → SaysExactly d t n
figure_says d t n = by (is_figure t) (ltb d (places t)) (ltb (digits_value t * 10 ^ (d - places t)) past_all) refl refl
  where
    by : (f l b : Bool) → is_figure t ≡ f → ltb d (places t) ≡ l →
        cond f (cond l (Err Decimals) (cond b (Ok (digits_value t * 10 ^ (d - places t))) (Err PastAll))) (Err NotRead) ≡ Ok n → SaysExactly d t n
    by true true b e g h = impossible (cc)
    by true false true e g h =
        let k : digits_behind false t ≡ places t = behind_places t e in
        let v : digits_value t * 10 ^ (d - places t) ≡ n = cc in
        record { places = omega (arith, k, ltb-false d (places t) g); value = rw k (sym v) }
    by true false false e g h = impossible (cc)
    by false l b e g h = impossible (cc)

-- ---- between its signs
through : (d : ℕ) (text bare : List ℕ) (n : ℕ) → SaysAs text bare → SaysExactly d bare n → SaysExactly d text n
through d text bare n same h =
    record { places = rw same.behind h.places; value = rw (same.value, same.behind) h.value }

not_negative : (r : Reading) (n : ℕ) → negative r ≡ Ok n → r ≡ Ok n
not_negative (Err unread) n e = impossible (cc)
not_negative (Ok m) n e = by (eqb m 0) refl e
  where
    by : (t : Bool) → eqb m 0 ≡ t → cond t (Ok 0) (Err BelowZero) ≡ Ok n → ◌≡◌ {A = Reading} (Ok m) (Ok n)
    by true f e = let k : m ≡ 0 = eqb-true m 0 f in let l : 0 ≡ n = cc in cc
    by false f e = impossible (cc)

unsigned_says : (money : Bool) (d : ℕ) (s : List ℕ) (n : ℕ) → unsigned money d s ≡ Ok n → SaysExactly d s n
unsigned_says false d s n = figure_says d s n
unsigned_says true d s n = by (first_is 36 s) refl
  where
    by : (t : Bool) → first_is 36 s ≡ t → figure_of d (cond t (without_first s) s) ≡ Ok n → SaysExactly d s n
    by true f e = through d s (without_first s) n (first_says 36 s refl f) (figure_says d (without_first s) n e)
    by false f e = figure_says d s n e

-- in brackets: one before it, one behind it
bracketed : (s : List ℕ) → first_is 40 s ≡ true → last_is 41 s ≡ true → SaysAs s (without_last (drop 1 s))
bracketed [] front back = trimmed_says []
bracketed (x ∷ []) front back = impossible (omega (arith, eqb-true x 40 front, eqb-true x 41 back))
bracketed (x ∷ y ∷ s) front back =
    let k : length (x ∷ y ∷ s) - 1 ≡ suc (length s) = omega arith in
    let l : length (y ∷ s) - 1 ≡ length s = omega arith in
    let last : last_is 41 (y ∷ s) ≡ true = rw l (rw k at back) in
    let here : is_sign x ≡ true = subst (λ (b : ℕ). is_sign b ≡ true) (sym (eqb-true x 40 front)) refl in
    says_through (x ∷ y ∷ s) (y ∷ s) (without_last (y ∷ s)) (one_sign x (y ∷ s) here) (last_says 41 (y ∷ s) refl last)

signed_says : (money : Bool) (d : ℕ) (s : List ℕ) (n : ℕ) → signed money d s ≡ Ok n → SaysExactly d s n
signed_says money d s n = by (first_is 45 s) (first_is 40 s) (last_is 41 s) refl refl refl
  where
    by : (t u v : Bool) → first_is 45 s ≡ t → first_is 40 s ≡ u → last_is 41 s ≡ v →
        cond t (negative (unsigned money d (without_first s))) (cond (u && v) (negative (unsigned money d (without_last (drop 1 s)))) (unsigned money d s)) ≡ Ok n → SaysExactly d s n
    by true u v minus front back e = through d s (without_first s) n (first_says 45 s refl minus) (unsigned_says money d (without_first s) n (not_negative _ n e))
    by false true true minus front back e =
        let inner = without_last (drop 1 s) in
        let bare : SaysAs s inner = bracketed s front back in
        through d s inner n bare (unsigned_says money d inner n (not_negative _ n e))
    by false true false minus front back e = unsigned_says money d s n e
    by false false v minus front back e = unsigned_says money d s n e

-- ---- each unit's own signs
dash_says : (s : List ℕ) → is_dash s ≡ true → SaysExactly 2 s 0
unfolding value_after digits_behind
dash_says [] e = impossible (cc)
dash_says (x ∷ []) e =
    let k : x ≡ 45 = eqb-true x 45 (both_parts true (eqb x 45) e).1 in
    subst (λ (b : ℕ). SaysExactly 2 (b ∷ []) 0) (sym k) (record { places = omega arith; value = refl })
dash_says (x ∷ y ∷ s) e = impossible (omega (arith, eqb-true (length (x ∷ y ∷ s)) 1 (both_parts (eqb (length (x ∷ y ∷ s)) 1) (eqb x 45) e).0))

money_says : (s : List ℕ) (n : ℕ) → money_read s ≡ Ok n → SaysExactly 2 s n
money_says s n = by (first_is 36 s) (is_dash (without_first s)) refl refl
  where
    by : (t u : Bool) → first_is 36 s ≡ t → is_dash (without_first s) ≡ u → cond (t && u) (Ok 0) (signed true 2 s) ≡ Ok n → SaysExactly 2 s n
    by true true f g e = let k : 0 ≡ n = cc in through 2 s (without_first s) n (first_says 36 s refl f) (subst (SaysExactly 2 (without_first s)) k (dash_says (without_first s) g))
    by true false f g e = signed_says true 2 s n e
    by false u f g e = signed_says true 2 s n e

letter_sign : (a letter : ℕ) → 97 ≤ letter → eqb (to_ascii_lowercase a) letter ≡ true → is_sign a ≡ true
letter_sign a letter h e = grind (arith, nat_tests)

kva_signs : (x : List ℕ) → str_eq_ignore_ascii_case x (codes "kva") ≡ true → list_all is_sign x ≡ true
kva_signs [] e = impossible (cc)
kva_signs (a ∷ []) e = impossible (false≢true (both_parts _ false e).1)
kva_signs (a ∷ b ∷ []) e = impossible (false≢true (both_parts _ false (both_parts _ (eqb (to_ascii_lowercase b) 118 && false) e).1).1)
kva_signs (a ∷ b ∷ c ∷ []) e =
    let first = both_parts (eqb (to_ascii_lowercase a) 107) (eqb (to_ascii_lowercase b) 118 && (eqb (to_ascii_lowercase c) 97 && true)) e in
    let second = both_parts (eqb (to_ascii_lowercase b) 118) (eqb (to_ascii_lowercase c) 97 && true) first.1 in
    let third = both_parts (eqb (to_ascii_lowercase c) 97) true second.1 in
    rw (letter_sign a 107 (omega arith) first.0, letter_sign b 118 (omega arith) second.0, letter_sign c 97 (omega arith) third.0)
kva_signs (a ∷ b ∷ c ∷ d ∷ x) e =
    impossible
    (false≢true (both_parts (eqb (to_ascii_lowercase c) 97) false (both_parts (eqb (to_ascii_lowercase b) 118) (eqb (to_ascii_lowercase c) 97 && false) (both_parts (eqb (to_ascii_lowercase a) 107) (eqb (to_ascii_lowercase b) 118 && (eqb (to_ascii_lowercase c) 97 && false)) e).1).1).1)

kva_says : (s : List ℕ) (n : ℕ) → kva_read s ≡ Ok n → SaysExactly 2 s n
kva_says s n = by (ends_in_kva s) refl
  where
    by : (t : Bool) → ends_in_kva s ≡ t → signed false 2 (cond t (trimmed (take (length s - 3) s)) s) ≡ Ok n → SaysExactly 2 s n
    by true f e =
        let bare = take (length s - 3) s in
        let letters : list_all is_sign (drop (length s - 3) s) ≡ true = kva_signs (drop (length s - 3) s) (both_parts (leb 3 (length s)) (str_eq_ignore_ascii_case (drop (length s - 3) s) (codes "kva")) f).1 in
        through 2 s (trimmed bare) n (says_through s bare (trimmed bare) (end_says (length s - 3) s letters) (trimmed_says bare)) (signed_says false 2 (trimmed bare) n e)
    by false f e = signed_says false 2 s n e

percent_sign : (s : List ℕ) (n : ℕ) → last_is 37 s ≡ true → signed false 2 (without_last s) ≡ Ok n → SaysExactly 2 s n
percent_sign s n f e = through 2 s (without_last s) n (last_says 37 s refl f) (signed_says false 2 (without_last s) n e)

no_fraction : (r : Reading) (n : ℕ) → not_a_fraction r ≡ Ok n → r ≡ Ok n
no_fraction (Err unread) n e = impossible (cc)
no_fraction (Ok m) n e = by (ltb 0 m && ltb m 100) e
  where
    by : (t : Bool) → cond t (Err (EitherOf m (m * 100))) (Ok m) ≡ Ok n → ◌≡◌ {A = Reading} (Ok m) (Ok n)
    by true f = impossible (cc)
    by false f = f

percent_says : (s : List ℕ) (n : ℕ) → percent_read s ≡ Ok n → SaysExactly 2 s n
percent_says s n = by (last_is 37 s) refl
  where
    by : (t : Bool) → last_is 37 s ≡ t → cond t (signed false 2 (without_last s)) (not_a_fraction (signed false 2 s)) ≡ Ok n → SaysExactly 2 s n
    by true f e = percent_sign s n f e
    by false f e = signed_says false 2 s n (no_fraction _ n e)

factor_says : (s : List ℕ) (n : ℕ) → factor_read s ≡ Ok n → SaysExactly (decimals_of Factor s) s n
factor_says s n = by (last_is 37 s) refl
  where
    by : (t : Bool) → last_is 37 s ≡ t → cond t (signed false 2 (without_last s)) (signed false 4 s) ≡ Ok n → SaysExactly (cond t 2 4) s n
    by true f e = percent_sign s n f e
    by false f e = signed_says false 4 s n e

pub figure_exact : (measure : Measure) (text : List ℕ) (n : ℕ) → is_figure_unit measure ≡ true → read measure text ≡ Ok n → SaysExactly (decimals_of measure text) text n
figure_exact Number s n u e = signed_says false 0 s n e
figure_exact Dollars s n u e = money_says s n e
figure_exact DollarsPerKva s n u e = money_says s n e
figure_exact ThousandDollars s n u e = signed_says false 0 s n e
figure_exact Kva s n u e = kva_says s n e
figure_exact Percent s n u e = percent_says s n e
figure_exact Factor s n u e = factor_says s n e
figure_exact Month s n u e = absurd (false≢true u)
figure_exact (Choice words) s n u e = absurd (false≢true u)
