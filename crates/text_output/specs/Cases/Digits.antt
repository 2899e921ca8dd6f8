-- Digits in literals: none and one, as many as a number has, one fewer, one more; one digit and two; the highest number of 64 bits.
use Rattle.std.specs.Prelude.{◌-◌, ◌^◌, ◌≡◌, [], refl, codes}
use Rattle.text_output.specs.Digits.{last_digits, decimal_from, decimal, grouped_from, grouped}

pub last_digits_hold :
    (last_digits 0 7 ≡ []) × (last_digits 1 7 ≡ codes "7") × (last_digits 2 7 ≡ codes "07") × (last_digits 4 2026 ≡ codes "2026")
    × (last_digits 3 2026 ≡ codes "026") × (last_digits 5 2026 ≡ codes "02026")
unfolding last_digits
last_digits_hold = (refl, refl, refl, refl, refl, refl)

pub decimal_holds :
    (decimal 0 ≡ codes "0") × (decimal 9 ≡ codes "9") × (decimal 10 ≡ codes "10") × (decimal 1020 ≡ codes "1020")
    × (decimal (2 ^ 64 - 1) ≡ codes "18446744073709551615")
unfolding decimal_from
decimal_holds = (refl, refl, refl, refl, refl)

pub grouped_holds :
    (grouped 0 ≡ codes "0") × (grouped 999 ≡ codes "999") × (grouped 1000 ≡ codes "1,000") × (grouped 50000 ≡ codes "50,000")
    × (grouped 999999 ≡ codes "999,999") × (grouped 1000000 ≡ codes "1,000,000") × (grouped (2 ^ 64 - 1) ≡ codes "18,446,744,073,709,551,615")
unfolding grouped_from decimal_from last_digits
grouped_holds = (refl, refl, refl, refl, refl, refl, refl)
