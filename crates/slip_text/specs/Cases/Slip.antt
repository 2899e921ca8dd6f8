-- Lines of a slip in literals: a refusal, no percentage, a negative figure, 0; and a buffer as long as the slip, shorter and longer.
use Rattle.std.specs.Prelude.{◌^◌, ◌-◌, [], ◌∷◌, ◌++◌, ◌≡◌, refl, pos, negsuc, replicate, Err, None, Ok}
use Rattle.tagged.specs.File.{refusal}
use Rattle.slip_text.specs.Slip.{slip_written, slip_buffer, decimal_from, decimal, signed_decimal, percent_text, slip_of}
use Rattle.slip_text.specs.SlipReading.{ascii}

-- a refusal, no percentage, a negative figure, 0
pub printed_figures : (slip_of (Err (refusal 3 1 87)) ≡ ascii "REFUSED 3 1 87\n") × (percent_text None ≡ ascii "-") × (signed_decimal (negsuc 0) ≡ ascii "-1") × (decimal 0 ≡ ascii "0")
unfolding slip_of decimal_from
printed_figures = (refl, refl, refl, refl)

-- a buffer as long as the slip, one byte shorter, one byte longer
pub buffer_limits : (slip_written (Err (refusal 3 1 87)) (replicate 15 7) ≡ Ok 15) × (slip_written (Err (refusal 3 1 87)) (replicate 14 7) ≡ Err (refusal 14 0 0)) × (slip_buffer (Err (refusal 3 1 87)) (replicate 16 7) ≡ ascii "REFUSED 3 1 87\n" ++ (7 ∷ []))
unfolding slip_of decimal_from
buffer_limits = (refl, refl, refl)

-- one digit and two, the highest figure of 64 bits, the lowest and the highest with a sign
pub printed_limits : (decimal 9 ≡ ascii "9") × (decimal 10 ≡ ascii "10") × (decimal (2 ^ 64 - 1) ≡ ascii "18446744073709551615") × (signed_decimal (negsuc (2 ^ 63 - 1)) ≡ ascii "-9223372036854775808") × (signed_decimal (pos (2 ^ 63 - 1)) ≡ ascii "9223372036854775807")
unfolding decimal_from
printed_limits = (refl, refl, refl, refl, refl)
