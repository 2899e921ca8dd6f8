-- Lines in literals: each separator, quotes, notes, comments and headings, and what is refused. 0 is any separator, 44 the comma and 59 the semicolon.
use Rattle.std.specs.Prelude.{◌≡◌, refl, codes, []}
use Rattle.unit_text.specs.Read.{trimmed}
use Rattle.text_lines.specs.Columns.{nothing, unclosed, many, pair, column_from, closes_from, bare, is_comment, of_columns, line_said}

pub lines_said :
    (line_said 0 (codes "threshold,50000.00") ≡ pair (codes "threshold") (codes "50000.00"))
    × (line_said 0 (codes "  threshold ;  50000.00  ") ≡ pair (codes "threshold") (codes "50000.00"))
    × (line_said 0 (codes "threshold = 50000.00") ≡ pair (codes "threshold") (codes "50000.00"))
    × (line_said 0 (codes "threshold\t50000.00") ≡ pair (codes "threshold") (codes "50000.00"))
    × (line_said 0 (codes "threshold,\"50,000\"") ≡ pair (codes "threshold") (codes "50,000"))
    × (line_said 0 (codes "threshold,50,000") ≡ many)
    × (line_said 0 (codes "threshold;50,000") ≡ pair (codes "threshold") (codes "50,000"))
    × (line_said 0 (codes "\"threshold\";\" 50 \";see minutes") ≡ pair (codes "threshold") (codes "50"))
    × (line_said 0 (codes "threshold,50,see minutes, page 2") ≡ pair (codes "threshold") (codes "50"))
    × (line_said 0 (codes "threshold,50,,") ≡ pair (codes "threshold") (codes "50"))
    × (line_said 0 (codes "threshold") ≡ pair (codes "threshold") [])
    × (line_said 0 (codes "threshold,") ≡ pair (codes "threshold") [])
    × (line_said 0 (codes ",50") ≡ pair [] (codes "50"))
    × (line_said 0 (codes "") ≡ nothing)
    × (line_said 0 (codes "  ") ≡ nothing)
    × (line_said 0 (codes ",,") ≡ nothing)
    × (line_said 0 (codes "# threshold,50") ≡ nothing)
    × (line_said 0 (codes " \"# threshold\",50") ≡ nothing)
    × (line_said 0 (codes "Name,Value") ≡ nothing)
    × (line_said 0 (codes "name,values") ≡ pair (codes "name") (codes "values"))
    × (line_said 0 (codes "threshold,\"50") ≡ unclosed)
    × (line_said 0 (codes "\"threshold,50") ≡ unclosed)
    × (line_said 0 (codes "thre\"shold,50") ≡ unclosed)
    × (line_said 0 (codes "\"") ≡ unclosed)
    × (line_said 59 (codes "threshold,50;60") ≡ pair (codes "threshold,50") (codes "60"))
    × (line_said 59 (codes "threshold=50") ≡ pair (codes "threshold=50") [])
    × (line_said 44 (codes "threshold,50") ≡ pair (codes "threshold") (codes "50"))
unfolding trimmed column_from closes_from bare is_comment of_columns line_said
lines_said = (refl, refl, refl, refl, refl, refl, refl, refl, refl, refl, refl, refl, refl, refl, refl, refl, refl, refl, refl, refl, refl, refl, refl, refl, refl, refl, refl)
