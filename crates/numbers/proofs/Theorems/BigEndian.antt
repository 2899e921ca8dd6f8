-- Laws of big-endian numbers, over the width: a number and its bytes, both ways round; two numbers
-- side by side; and the same at a place of a list.
use Rattle.std.specs.Prelude.{ℕ, zero, suc, ◌+◌, ◌*◌, ◌/◌, ◌%◌, ◌^◌, ◌<◌, ◌≤◌, ◌≡◌, refl, length, get_or, take, drop, set}
use Rattle.std.proofs.Common.{sym, ap, ap₂, ◌∙◌, add_assoc, pow-suc, mod-lt, div-one, div-lt_iff_lt-mul, div-add-mod', one-add, add-one, arith, length-append, length-take, length-drop, pow-add, length-take-le, take_at, drop_at, drop-drop, get_or-drop, take-add, drop-cons}
use mathlib.Core.List.{List, [], ◌∷◌, ◌++◌, append_assoc, foldl, foldl-append}
use Rattle.std.proofs.Math.Nat.{pow-zero, one-le-pow}
use Rattle.std.proofs.Math.Arith.{lt-one, digits_lt, digits_div, digits_mod}
use Rattle.std.proofs.lemmas.List.{set_split}
use Rattle.numbers.specs.BigEndian.{Bytes, number, number_at, bytes_of}
use Rattle.numbers.specs.Written.{written}

pub Bytes-append : (s t : List ℕ) → Bytes s → Bytes t → Bytes (s ++ t)
Bytes-append [] t hs ht k = ht k
Bytes-append (b ∷ s) t hs ht zero = hs zero
Bytes-append (b ∷ s) t hs ht (suc k) = Bytes-append s t (λ i. hs (suc i)) ht k

pub Bytes-drop : (n : ℕ) (s : List ℕ) → Bytes s → Bytes (drop n s)
Bytes-drop n s h k = rw get_or-drop (h (n + k))

pub Bytes-take : (n : ℕ) (s : List ℕ) → Bytes s → Bytes (take n s)
Bytes-take zero s h k = omega arith
Bytes-take (suc n) [] h k = omega arith
Bytes-take (suc n) (b ∷ s) h zero = h zero
Bytes-take (suc n) (b ∷ s) h (suc k) = Bytes-take n s (λ i. h (suc i)) k

-- ---- the number that bytes spell
pow256_pos : (n : ℕ) → zero < 256 ^ n
pow256_pos n = one-le-pow n 256 (omega arith)

number_after : (h : ℕ) (s : List ℕ) → foldl (λ n byte. n * 256 + byte) h s ≡ h * 256 ^ length s + number s
unfolding number
number_after h [] = rw pow-zero (omega arith)
number_after h (b ∷ s) =
    omega (arith, number_after (h * 256 + b) s, number_after (0 * 256 + b) s, ap (λ (p : ℕ). h * p) (pow-suc 256 (length s)))

pub number_append : (s t : List ℕ) → number (s ++ t) ≡ number s * 256 ^ length t + number t
unfolding number
number_append s t = foldl-append (λ n byte. n * 256 + byte) 0 s t ∙ number_after (number s) t

number_cons : (b : ℕ) (s : List ℕ) → number (b ∷ s) ≡ b * 256 ^ length s + number s
unfolding number
number_cons b s = number_after (0 * 256 + b) s ∙ omega arith

pub number_below : (s : List ℕ) → Bytes s → number s < 256 ^ length s
unfolding number
number_below [] h = rw pow-zero (omega arith)
number_below (b ∷ s) h = rw (number_cons, pow-suc) (omega (arith, digits_lt (h 0) (number_below s (λ k. h (suc k)))))

-- ---- a number as bytes
pub length_bytes_of : (width n : ℕ) → length (bytes_of width n) ≡ width
unfolding bytes_of
length_bytes_of zero n = refl
length_bytes_of (suc width) n = ap suc (length_bytes_of width (n % 256 ^ width))

div_pow_below : (m n v : ℕ) → v < 256 ^ (m + n) → v / 256 ^ n < 256 ^ m
div_pow_below m n v h = (div-lt_iff_lt-mul (pow256_pos n)).1 (rw pow-add at h)

pub bytes_of_bytes : (width n : ℕ) → n < 256 ^ width → Bytes (bytes_of width n)
unfolding bytes_of
bytes_of_bytes zero n h k = omega arith
bytes_of_bytes (suc width) n h zero = div_pow_below 1 width n (rw one-add h)
bytes_of_bytes (suc width) n h (suc k) = bytes_of_bytes width (n % 256 ^ width) (mod-lt n (pow256_pos width)) k

-- the bytes of a number spell it
pub number_of_bytes_of : (width n : ℕ) → n < 256 ^ width → number (bytes_of width n) ≡ n
unfolding bytes_of number
number_of_bytes_of zero n h = sym (lt-one h)
number_of_bytes_of (suc width) n h =
    let r = n % 256 ^ width in
    rw (number_cons, length_bytes_of width r, number_of_bytes_of width r (mod-lt n (pow256_pos width))) (div-add-mod' n (256 ^ width))

-- the bytes of the number that bytes spell are those bytes
pub bytes_of_number : (s : List ℕ) → Bytes s → bytes_of (length s) (number s) ≡ s
unfolding bytes_of
bytes_of_number [] h = refl
bytes_of_number (b ∷ s) h =
    let below : number s < 256 ^ length s = number_below s (λ k. h (suc k)) in
    rw (number_cons, digits_div b below, digits_mod b below, bytes_of_number s (λ k. h (suc k)))

-- ---- at a place of a list
length_take_drop : (s : List ℕ) (at width : ℕ) → at + width ≤ length s → length (take width (drop at s)) ≡ width
length_take_drop s at width h = length-take-le width (drop at s) (simp length-drop (omega arith))

-- a number at a place is its high part there, and its low part after that
pub number_at_add : (s : List ℕ) (at m n : ℕ) → at + (m + n) ≤ length s
    → number_at s at (m + n) ≡ number_at s at m * 256 ^ n + number_at s (at + m) n
number_at_add s at m n h =
    rw (take-add, drop-drop, number_append, length_take_drop s (at + m) n (omega arith))

-- the number of one byte is the byte
pub number_at_one : (s : List ℕ) (at : ℕ) → at < length s → number_at s at 1 ≡ get_or s at 0
unfolding number
number_at_one s at h = rw (drop-cons s at 0) (omega arith)

pub length_written : (out : List ℕ) (at : ℕ) (bytes : List ℕ) → at + length bytes ≤ length out
    → length (written out at bytes) ≡ length out
unfolding written
length_written out at bytes h = simp (length-append, length-take, length-drop) (omega arith)

length_until : (out : List ℕ) (at : ℕ) (bytes : List ℕ) → at ≤ length out → length (take at out ++ bytes) ≡ at + length bytes
length_until out at bytes h = simp (length-append, length-take-le at out h)

-- up to their end: what was before the place, and then the bytes
pub take_written : (out : List ℕ) (at : ℕ) (bytes : List ℕ) → at ≤ length out
    → take (at + length bytes) (written out at bytes) ≡ take at out ++ bytes
unfolding written
take_written out at bytes h = rw (← append_assoc) (take_at _ _ _ (length_until out at bytes h))

-- after the bytes the list is as it was
pub drop_written : (out : List ℕ) (at : ℕ) (bytes : List ℕ) → at ≤ length out
    → drop (at + length bytes) (written out at bytes) ≡ drop (at + length bytes) out
unfolding written
drop_written out at bytes h = rw (← append_assoc) (drop_at (take at out ++ bytes) _ _ (length_until out at bytes h))

-- one piece after the other is the two pieces at once
pub written_written : (out : List ℕ) (at : ℕ) (x y : List ℕ) → at + length x + length y ≤ length out
    → written (written out at x) (at + length x) y ≡ written out at (x ++ y)
unfolding written
written_written out at x y h =
    let w = written out at x in
    let i = at + length x in
    let before : take i w ≡ take at out ++ x = take_written out at x (omega arith) in
    let after : drop i w ≡ drop i out = drop_written out at x (omega arith) in
    let rest : drop (i + length y) w ≡ drop (i + length y) out = rw (← drop-drop (length y) i w, after, drop-drop) in
    rw (before, rest) (simp (append_assoc, length-append, add_assoc))

-- to write a number as one byte is to store it
pub written_one : (out : List ℕ) (at n : ℕ) → at < length out → written out at (bytes_of 1 n) ≡ set out at n
unfolding written bytes_of
written_one out at n h = rw (div-one, add-one, set_split out at n)

pub number_at_below : (s : List ℕ) (at width : ℕ) → Bytes s → at + width ≤ length s → number_at s at width < 256 ^ width
number_at_below s at width bytes h =
    let part = take width (drop at s) in
    let long : length part ≡ width = simp (length-take, length-drop) (omega arith) in
    rw long at (number_below part (Bytes-take width (drop at s) (Bytes-drop at s bytes)))

pub Bytes-set : (s : List ℕ) (i b : ℕ) → Bytes s → b < 256 → Bytes (set s i b)
Bytes-set [] i b h l k = h k
Bytes-set (a ∷ s) zero b h l zero = l
Bytes-set (a ∷ s) zero b h l (suc k) = h (suc k)
Bytes-set (a ∷ s) (suc i) b h l zero = h zero
Bytes-set (a ∷ s) (suc i) b h l (suc k) = Bytes-set s i b (λ j. h (suc j)) l k

-- bytes that spell the same number are the same bytes
pub number_at_injective : (s t : List ℕ) (at width : ℕ) → Bytes s → Bytes t → length s ≡ length t → number_at s at width ≡ number_at t at width
    → take width (drop at s) ≡ take width (drop at t)
number_at_injective s t at width p q l e =
    let long : length (take width (drop at s)) ≡ length (take width (drop at t)) = simp (length-take, length-drop, l) in
    sym (bytes_of_number _ (Bytes-take width _ (Bytes-drop at s p)))
    ∙ ap₂ bytes_of long e
    ∙ bytes_of_number _ (Bytes-take width _ (Bytes-drop at t q))
