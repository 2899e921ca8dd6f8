-- What holds of values that pass.
use Rattle.std.specs.Prelude.{ℕ, zero, suc, ◌+◌, ◌*◌, ◌<◌, ◌≤◌, ◌≡◌, refl, List, [], ◌∷◌, Bool, true, false, cond, length, get_or, drop, replicate, ltb, eqb, Err, Ok}
use Rattle.std.proofs.Common.{zero-le, ap₂, add-one, arith, length-drop, drop-drop, ltb-false, leb-true, le-ltb, eqb-true, eq-eqb}
use Rattle.std.proofs.lemmas.Bool.{false≢true}
use Rattle.std.proofs.lemmas.List.{get_or-replicate}
use Rattle.numbers.specs.BigEndian.{number, number_at}
use Rattle.tagged.proofs.Theorems.Walk.{by_test}
use Rattle.field_values.specs.Judged.{judge, in_order, first_failure, width_of, within, judge_numbers, same_bytes, Judged}

fails_not_passes : {at : ℕ} → ◌≡◌ {A = Judged} (Err at) (Ok tt) → ⊥
fails_not_passes e = cc

pub judge_passes : (listed : Bool) (at : ℕ) → judge listed at ≡ Ok tt → listed ≡ true
judge_passes true at e = refl
judge_passes false at e = absurd (fails_not_passes e)

-- after the last judgement nothing follows
pub in_order_end : (judged : Judged) → in_order judged (Ok tt) ≡ judged
in_order_end (Ok _) = refl
in_order_end (Err at) = refl

pub in_order_passes : (first second : Judged) → in_order first second ≡ Ok tt → (first ≡ Ok tt) × (second ≡ Ok tt)
in_order_passes (Ok _) second e = (refl, e)
in_order_passes (Err at) second e = absurd (fails_not_passes e)

-- each judgement of a list; at a list that is written out and a numeral k the statement is of its element at k
pub first_failure_passes : (judgements : List Judged) → first_failure judgements ≡ Ok tt → (k : ℕ) → get_or judgements k (Ok tt) ≡ Ok tt
first_failure_passes [] e k = refl
first_failure_passes (judged ∷ later) e zero = (in_order_passes judged (first_failure later) e).0
first_failure_passes (judged ∷ later) e (suc k) = first_failure_passes later (in_order_passes judged (first_failure later) e).1 k

-- the offset of number k in a value: the sum of the widths before it
abbrev pub offset_of : List (List ℕ) → ℕ → ℕ
offset_of limits zero = 0
offset_of [] (suc k) = 0
offset_of (limit ∷ limits) (suc k) = width_of limit + offset_of limits k

-- number k of the value, and the limit on it
abbrev pub NumberWithin : List (List ℕ) → List ℕ → ℕ → Type 0
NumberWithin limits value k =
    (get_or (get_or limits k []) 1 0 ≤ number_at value (offset_of limits k) (width_of (get_or limits k [])))
    × (number_at value (offset_of limits k) (width_of (get_or limits k [])) ≤ get_or (get_or limits k []) 2 0)

within_limit : (limit : List ℕ) (n : ℕ) → within limit n ≡ true → (get_or limit 1 0 ≤ n) × (n ≤ get_or limit 2 0)
within_limit limit n =
    by_test (λ t. t ≡ true → (get_or limit 1 0 ≤ n) × (n ≤ get_or limit 2 0)) (ltb n (get_or limit 1 0)) _ _ (λ _ e. absurd (false≢true e)) (λ l e. (ltb-false _ _ l, leb-true _ _ e))

then_passes : (listed : Bool) (later : Judged) (at : ℕ) → cond listed later (Err at) ≡ Ok tt → (listed ≡ true) × (later ≡ Ok tt)
then_passes true later at e = (refl, e)
then_passes false later at e = absurd (cc)

-- the first number is within its limit, and the later ones pass
first_passes : (limit : List ℕ) (limits : List (List ℕ)) (at : ℕ) (value : List ℕ) → judge_numbers (limit ∷ limits) at value ≡ Ok tt → width_of limit ≤ length value →
    NumberWithin (limit ∷ limits) value 0 × (judge_numbers limits (at + width_of limit) (drop (width_of limit) value) ≡ Ok tt)
unfolding judge_numbers
first_passes limit limits at value e h =
    let both = then_passes (within limit (number_at value 0 (width_of limit))) _ _ (rw (le-ltb _ _ h) at e) in
    (within_limit limit _ both.0, both.1)

-- A value that passes has each number that it holds whole within its limit.
pub judged_within : (limits : List (List ℕ)) (at : ℕ) (value : List ℕ) → judge_numbers limits at value ≡ Ok tt →
    (k : ℕ) → offset_of limits (k + 1) ≤ length value → NumberWithin limits value k
unfolding number
judged_within limits at value e k h = go limits at value e k (rw (add-one k) at h)
  where
    go : (limits : List (List ℕ)) (at : ℕ) (value : List ℕ) → judge_numbers limits at value ≡ Ok tt → (k : ℕ) → offset_of limits (suc k) ≤ length value → NumberWithin limits value k
    go [] at value e k h = (zero-le, zero-le)
    go (limit ∷ limits) at value e zero h = (first_passes limit limits at value e (omega arith)).0
    go (limit ∷ limits) at value e (suc k) h =
        let fits : width_of limit ≤ length value = omega arith in
        let rest : offset_of limits (suc k) ≤ length (drop (width_of limit) value) = simp length-drop (omega arith) in
        rw drop-drop at (go limits _ _ (first_passes limit limits at value e fits).1 k rest)

offset_replicate : (limit : List ℕ) (n k : ℕ) → k ≤ n → offset_of (replicate n limit) k ≡ width_of limit * k
offset_replicate limit n zero h = omega arith
offset_replicate limit zero (suc k) h = absurd (omega arith)
offset_replicate limit (suc n) (suc k) h = rw (offset_replicate limit n k (omega arith)) (omega arith)

-- the same of up to n numbers that have one limit
pub judged_within_replicate : (limit : List ℕ) (n at : ℕ) (value : List ℕ) → judge_numbers (replicate n limit) at value ≡ Ok tt →
    (k : ℕ) → k < n → width_of limit * (k + 1) ≤ length value →
    (get_or limit 1 0 ≤ number_at value (width_of limit * k) (width_of limit)) × (number_at value (width_of limit * k) (width_of limit) ≤ get_or limit 2 0)
judged_within_replicate limit n at value e k below h =
    let fits : offset_of (replicate n limit) (k + 1) ≤ length value = rw (offset_replicate limit n (k + 1) (omega arith)) h in
    rw (get_or-replicate n k limit [] below, offset_replicate limit n k (omega arith)) at (judged_within (replicate n limit) at value e k fits)

pub same_bytes_equal : (a b : List ℕ) → same_bytes a b ≡ true → a ≡ b
unfolding same_bytes
same_bytes_equal [] [] e = refl
same_bytes_equal [] (y ∷ b) e = absurd (false≢true e)
same_bytes_equal (x ∷ a) [] e = absurd (false≢true e)
same_bytes_equal (x ∷ a) (y ∷ b) e =
    by_test (λ t. t ≡ true → x ∷ a ≡ y ∷ b) (eqb x y) (same_bytes a b) false (λ t e. ap₂ ◌∷◌ (eqb-true x y t) (same_bytes_equal a b e)) (λ _ e. absurd (false≢true e)) e

pub same_bytes_refl : (a : List ℕ) → same_bytes a a ≡ true
unfolding same_bytes
same_bytes_refl [] = refl
same_bytes_refl (x ∷ a) = rw (eq-eqb x x refl) (same_bytes_refl a)
