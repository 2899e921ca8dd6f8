-- Amounts, a page and outputs about its length, in literals.
use Rattle.std.specs.Prelude.{◌-◌, ◌^◌, ◌≡◌, refl, replicate, pos, negsuc, Err, Ok}
use mathlib.Core.List.{[], ◌∷◌, flatten}
use Rattle.tagged.specs.File.{refusal}
use Rattle.reconciliation.specs.SlipReconciliation.{slip_reconciliation}
use Rattle.charge.specs.declared.Bill.{Bill}
use Rattle.slip_text.specs.SlipReading.{ascii}
use Rattle.page_text.specs.Page.{dollars_text, amount_text, page_of, page_written}

-- ---- literal tables

-- amounts at the places where a digit, a comma or a sign comes in, and the highest and the lowest of 64 bits
pub amount_cases :
    (amount_text (pos 0) ≡ ascii "0.00")
    × (amount_text (pos 9) ≡ ascii "0.09")
    × (amount_text (pos 99) ≡ ascii "0.99")
    × (amount_text (pos 100) ≡ ascii "1.00")
    × (amount_text (pos 999) ≡ ascii "9.99")
    × (amount_text (pos 1000) ≡ ascii "10.00")
    × (amount_text (pos 9999) ≡ ascii "99.99")
    × (amount_text (pos 10000) ≡ ascii "100.00")
    × (amount_text (pos 99999) ≡ ascii "999.99")
    × (amount_text (pos 100000) ≡ ascii "1,000.00")
    × (amount_text (pos 99999999) ≡ ascii "999,999.99")
    × (amount_text (pos 100000000) ≡ ascii "1,000,000.00")
    × (amount_text (negsuc 0) ≡ ascii "-0.01")
    × (amount_text (pos (2 ^ 64 - 1)) ≡ ascii "184,467,440,737,095,516.15")
    × (amount_text (negsuc (2 ^ 63 - 1)) ≡ ascii "-92,233,720,368,547,758.08")
unfolding dollars_text
amount_cases = (refl, refl, refl, refl, refl, refl, refl, refl, refl, refl, refl, refl, refl, refl, refl)

-- document 01's slip as a page
pub slip_page :
    page_of slip_reconciliation ≡
    flatten
    (
    ascii "ME                                                    15,985.00\n" ∷
    ascii "MC                                                     1,080.00\n" ∷
    ascii "CE                                                         0.00\n" ∷
    ascii "CC2                                                        0.00\n" ∷
    ascii "TW                                                         0.00\n" ∷
    ascii "HR                                                         0.00\n" ∷
    ascii "OL                                                         0.00\n" ∷
    ascii "IC                                                    17,065.00\n" ∷
    ascii "IR                                                     8,598.00\n" ∷
    ascii "CC                                                    11,476.30\n" ∷
    ascii "NIC                                                    8,467.00\n" ∷
    ascii "NC                                                     3,009.30\n" ∷
    [])
unfolding dollars_text page_of flatten
slip_page = refl

-- one byte short, and as long as the page; a pricing that is refused comes first
pub output_cases : (bill : Bill) →
    (page_written (Ok bill) (replicate 767 7) ≡ Err (refusal 14 0 0))
    × (page_written (Ok bill) (replicate 768 7) ≡ Ok tt)
    × (page_written (Err (refusal 4 2 0)) [] ≡ Err (refusal 4 2 0))
unfolding page_written
output_cases bill = (refl, refl, refl)
