-- Figures in literals: the least and the most, groups, decimals, and what is no figure.
use Rattle.std.specs.Prelude.{◌≡◌, refl, codes, Ok, Err}
use Rattle.unit_text.specs.Figure.{figure_of, value_after, is_grouped}
use Rattle.unit_text.specs.declared.figure.Unread.TheVariants.{NotRead, Decimals, PastAll}

-- decimals of the unit, the text, and what it is
pub figures_hold :
    (figure_of 0 (codes "0") ≡ Ok 0)
    × (figure_of 0 (codes "4294967295") ≡ Ok 4294967295)
    × (figure_of 0 (codes "4294967296") ≡ Err PastAll)
    × (figure_of 0 (codes "99999999999999999999") ≡ Err PastAll)
    × (figure_of 2 (codes "50000") ≡ Ok 5000000)
    × (figure_of 2 (codes "50 000") ≡ Ok 5000000)
    × (figure_of 2 (codes "50,000") ≡ Ok 5000000)
    × (figure_of 2 (codes "1,234,567.89") ≡ Ok 123456789)
    × (figure_of 2 (codes "1 234 567.8") ≡ Ok 123456780)
    × (figure_of 2 (codes "50,00") ≡ Err NotRead)
    × (figure_of 2 (codes "5,0000") ≡ Err NotRead)
    × (figure_of 2 (codes ",500") ≡ Err NotRead)
    × (figure_of 2 (codes "1,234 567") ≡ Err NotRead)
    × (figure_of 2 (codes "0.5") ≡ Ok 50)
    × (figure_of 2 (codes "0.50") ≡ Ok 50)
    × (figure_of 2 (codes "0.505") ≡ Err Decimals)
    × (figure_of 2 (codes "0.500") ≡ Err Decimals)
    × (figure_of 2 (codes ".5") ≡ Err NotRead)
    × (figure_of 2 (codes "5.") ≡ Err NotRead)
    × (figure_of 2 (codes ".") ≡ Err NotRead)
    × (figure_of 2 (codes "") ≡ Err NotRead)
    × (figure_of 2 (codes "1.2.3") ≡ Err NotRead)
    × (figure_of 2 (codes "1e3") ≡ Err NotRead)
    × (figure_of 4 (codes "1.1") ≡ Ok 11000)
    × (figure_of 4 (codes "0.0001") ≡ Ok 1)
    × (figure_of 4 (codes "1.00001") ≡ Err Decimals)
    × (figure_of 0 (codes "007") ≡ Ok 7)
    × (figure_of 0 (codes "1.0") ≡ Err Decimals)
unfolding value_after is_grouped
figures_hold = (refl, refl, refl, refl, refl, refl, refl, refl, refl, refl, refl, refl, refl, refl, refl, refl, refl, refl, refl, refl, refl, refl, refl, refl, refl, refl, refl, refl)
