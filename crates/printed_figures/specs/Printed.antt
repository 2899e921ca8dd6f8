-- How many pricings are held to what document 000 prints, and how many figures it prints for them.
use Rattle.std.specs.Prelude.{ℕ}

abbrev pub pricing_count : ℕ
pricing_count = 23

abbrev pub figure_count : ℕ
figure_count = 131
