-- How pricing ends, for each of its answers, in literals.
use Rattle.std.specs.Prelude.{◌≡◌, refl, [], ◌∷◌, ◌++◌, pos, Err, Ok}
use Rattle.tagged.specs.File.{refusal}
use Rattle.reconciliation.specs.Cases.Figures.{sample, sample_figures}
use Rattle.charge.specs.PriceEnding.{pricing_ending}
use Rattle.charge.specs.declared.Bill.{Bill}

abbrev sample_bill : Bill
sample_bill =
    record {
      reconciliation = sample;
      terms = record { threshold = 1; fee = 2; minimum = 3; term = 4 };
      applicant = record { person = 5; month = 6; capacity = 7; scheme = 8; mark = 9 };
    }

pub pricing_ending_cases_hold :
    (pricing_ending (Ok sample_bill)
    ≡ record {
      number = 0;
      file = 0;
      place = 0;
      values = sample_figures ++ (pos 1 ∷ pos 2 ∷ pos 3 ∷ pos 4 ∷ pos 5 ∷ pos 6 ∷ pos 7 ∷ pos 8 ∷ pos 9 ∷ []);
    }) ×
    (pricing_ending (Err (refusal 5 2 3)) ≡ record { number = 5; file = 2; place = 3; values = [] })
pricing_ending_cases_hold = (refl, refl)
