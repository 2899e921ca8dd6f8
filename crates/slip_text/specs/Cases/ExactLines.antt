-- The lines of quotient and remainder in literals, as they are written.
use Rattle.std.specs.Prelude.{ℕ, ◌≡◌, refl}
use mathlib.Core.List.{List, flatten}
use Rattle.reconciliation.specs.Reconciliation.{reconciliation_of}
use Rattle.slip_text.specs.Slip.{decimal_from, reconciliation_lines}
use Rattle.slip_text.specs.SlipReading.{ascii}
use Rattle.slip_text.specs.ExactLines.{before, after, line_of}

-- ME, MC, CE and CC2, other amounts 0, and IR; a and the share
abbrev slip_with : (me mc ce cc2 ir a share : ℕ) → List ℕ
slip_with me mc ce cc2 ir a share =
    flatten (reconciliation_lines (reconciliation_of (record { me = me; mc = mc; ce = ce; cc2 = cc2; de = 0; tw = 0; hr = 0; ol = 0 }) ir a share))

pub record ExactSlips : Type 0 where
  pub sum_of_101 : slip_with 101 0 0 0 99 1 0
      ≡ ascii "CC 101\nIC 101\nIR 99\nNIC 2\nNC 99\nRELIANCE 100\nUPFRONT 51\nNCRATIO 50\nRELIANCE-R 100 0\nUPFRONT-R 50 100\nNCRATIO-R 49 100\n"
  pub minus_half : slip_with 200 1 0 0 0 0 6500
      ≡ ascii "CC 200\nIC 201\nIR 0\nNIC 201\nNC -1\nRELIANCE 100\nUPFRONT 100\nNCRATIO -1\nRELIANCE-R 99 101\nUPFRONT-R 100 0\nNCRATIO-R -1 100\n"
  pub below_half : slip_with 201 1 0 0 0 0 6500
      ≡ ascii "CC 201\nIC 202\nIR 0\nNIC 202\nNC -1\nRELIANCE 100\nUPFRONT 100\nNCRATIO 0\nRELIANCE-R 99 102\nUPFRONT-R 100 0\nNCRATIO-R -1 101\n"
  pub none_of_two : slip_with 0 108000 0 0 0 0 6500
      ≡ ascii "CC 0\nIC 108000\nIR 0\nNIC 108000\nNC -108000\nRELIANCE 0\nUPFRONT -\nNCRATIO -\nRELIANCE-R 0 0\nUPFRONT-R -\nNCRATIO-R -\n"
  pub none_of_three : slip_with 0 0 0 0 0 0 6500
      ≡ ascii "CC 0\nIC 0\nIR 0\nNIC 0\nNC 0\nRELIANCE -\nUPFRONT -\nNCRATIO -\nRELIANCE-R -\nUPFRONT-R -\nNCRATIO-R -\n"
  pub lowest : slip_with 0 500000000000 1 500000000000 0 0 6500
      ≡ ascii "CC 1\nIC 1000000000001\nIR 0\nNIC 1000000000001\nNC -1000000000000\nRELIANCE 0\nUPFRONT 100\nNCRATIO -100000000000000\nRELIANCE-R 0 100\nUPFRONT-R 100 0\nNCRATIO-R -100000000000000 0\n"

pub exact_slips : ExactSlips
unfolding decimal_from flatten
exact_slips = record { sum_of_101 = refl; minus_half = refl; below_half = refl; none_of_two = refl; none_of_three = refl; lowest = refl }

-- the third line of a text, of which the second is empty
pub lines_counted : line_of 2 (ascii "CC 1\n\nX 0 7\n") ≡ ascii "X 0 7"
unfolding before after line_of
lines_counted = refl
