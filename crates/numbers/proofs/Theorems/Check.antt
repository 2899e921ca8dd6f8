-- Laws of the check. 257 has an inverse modulo 65,521, so a step never takes two different h, or two different bytes, to the same h.
use Rattle.std.specs.Prelude.{ℕ, suc, ◌+◌, ◌*◌, ◌-◌, ◌/◌, ◌<◌, ◌≡◌, length, get_or, set, take, drop}
use Rattle.std.proofs.Common.{ap, sym, ◌∙◌, arith}
use mathlib.Core.List.{List, [], ◌∷◌, ◌++◌, foldl-append}
use Rattle.std.proofs.Math.Seq.{split_at}
use Rattle.std.proofs.lemmas.List.{set_split}
use Rattle.numbers.specs.Check.{check_step, check_from}

-- the check goes on from the check of the bytes before
pub check_append : (h : ℕ) (s t : List ℕ) → check_from h (s ++ t) ≡ check_from (check_from h s) t
unfolding check_from
check_append h s t = foldl-append check_step h s t

pub check_below : (h : ℕ) (s : List ℕ) → h < 65521 → check_from h s < 65521
unfolding check_from
check_below h [] l = l
check_below h (b ∷ s) l = check_below (check_step h b) s (omega arith)

-- 257 × 51,499 = 65,521 × 202 + 1
no_multiple : (d k : ℕ) → 257 * d ≡ 65521 * k → d < 65521 → d ≡ 0
no_multiple d k e l =
    let h : d ≡ 65521 * (51499 * k - 202 * d) = omega arith in
    omega arith

not_above : (g h b : ℕ) → g < 65521 → h < 65521 → check_step g b ≡ check_step h b → h - g ≡ 0
not_above g h b p q e =
    no_multiple (h - g) ((h * 257 + b + 1) / 65521 - (g * 257 + b + 1) / 65521) (omega arith) (omega arith)

step_injective : (g h b : ℕ) → g < 65521 → h < 65521 → check_step g b ≡ check_step h b → g ≡ h
step_injective g h b p q e = omega (arith, not_above g h b p q e, not_above h g b q p (sym e))

-- two starts below 65,521 that end the same are the same
pub check_injective : (s : List ℕ) (g h : ℕ) → g < 65521 → h < 65521 → check_from g s ≡ check_from h s → g ≡ h
unfolding check_from
check_injective [] g h p q e = e
check_injective (b ∷ s) g h p q e =
    step_injective g h b p q (check_injective s (check_step g b) (check_step h b) (omega arith) (omega arith) e)

-- another byte in one place gives another check
pub check_one_byte : (h : ℕ) (s t : List ℕ) (a b : ℕ) → a < 256 → b < 256 → check_from h (s ++ a ∷ t) ≡ check_from h (s ++ b ∷ t) → a ≡ b
unfolding check_from
check_one_byte h s t a b p q e =
    let same = sym (check_append h s (a ∷ t)) ∙ e ∙ check_append h s (b ∷ t) in
    let w : check_step (check_from h s) a ≡ check_step (check_from h s) b = check_injective t _ _ (omega arith) (omega arith) same in
    omega arith

-- the same, of a list in which the byte at i is set
pub check_set_byte : (h : ℕ) (s : List ℕ) (i b : ℕ) → i < length s → get_or s i 0 < 256 → b < 256 → check_from h (set s i b) ≡ check_from h s → get_or s i 0 ≡ b
check_set_byte h s i b l p q e =
    check_one_byte h (take i s) (drop (suc i) s) (get_or s i 0) b p q
    (ap (check_from h) (sym (split_at s i 0 l)) ∙ sym e ∙ ap (check_from h) (set_split s i b l))
