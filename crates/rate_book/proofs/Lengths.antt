-- How long a book's values are, where its fields walk.
use Rattle.std.specs.Prelude.{◌≡◌, List, ℕ, length, Ok}
use Rattle.field_walk.specs.Walk.{walk}
use Rattle.field_walk.specs.Walked.{walked}
use Rattle.tagged.specs.Find.{field_value}
use Rattle.book_zones.specs.BookRows.{book_rows}
use Rattle.book_zones.proofs.Theorems.ZoneFields.{fields_walk}
use Rattle.rate_book.specs.BookSizes.{BookSizes}
use Rattle.rate_book.proofs.Theorems.BookSizes.{book_sizes}

module _ (s : List ℕ) (walks : walked (walk book_rows s) ≡ Ok tt) where
  sizes : BookSizes s
  sizes = book_sizes s (fields_walk s walks)

  pub rate_long : length (field_value 2 s) ≡ 2
  rate_long = sizes.rate

  pub figures_long : length (field_value 3 s) ≡ 40
  figures_long = sizes.figures

  pub terms_long : length (field_value 6 s) ≡ 14
  terms_long = sizes.terms

  pub charged_long : length (field_value 7 s) ≡ 3
  charged_long = sizes.charged
