-- How pricing ends, by document 01's number and values.
use Rattle.std.specs.Prelude.{List, [], ◌∷◌, ◌++◌, ℤ, pos}
use Rattle.tagged.specs.Ending.{Ending, ending_by}
use Rattle.reconciliation.specs.Figures.{figure_values}
use Rattle.charge.specs.Price.{Pricing}
use Rattle.charge.specs.declared.Bill.{Bill}

-- the reconciliation's figures, then the files' own: the book's terms, and who asks for what
abbrev pub bill_values : Bill → List ℤ
bill_values bill =
    figure_values bill.reconciliation
    ++ (pos bill.terms.threshold ∷
    pos bill.terms.fee ∷
    pos bill.terms.minimum ∷
    pos bill.terms.term ∷
    pos bill.applicant.person ∷
    pos bill.applicant.month ∷
    pos bill.applicant.capacity ∷
    pos bill.applicant.scheme ∷
    pos bill.applicant.mark ∷
    [])

abbrev pub pricing_ending : Pricing → Ending
pricing_ending pricing = ending_by bill_values pricing
