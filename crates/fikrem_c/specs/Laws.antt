-- The laws that the functions of src/laws.rt are there for, one statement each; the proofs stand in proofs/.
use Rattle.std.specs.Prelude.{ℕ, ◌≡◌, ◌≢◌, false, List, ltb, ℤ, length, Ok}
use Rattle.tagged.specs.File.{answer_of}
use Rattle.rate_book.specs.Book.{book_of}
use Rattle.request.specs.Request.{request_of}
use Rattle.price_band.specs.PriceBand.{band_of}
use Rattle.price_band.specs.declared.Band.{Band}
use Rattle.price_band.specs.declared.Bands.{Bands}
use Rattle.quoting_unit.specs.UnitResults.{Results}
use Rattle.fikrem_c.specs.BandResult.{band_places, band_end}
use Rattle.fikrem_c.specs.BandResults.{band_numbers}
use Rattle.fikrem_c.specs.FileResult.{file_read_alone}
use Rattle.fikrem_c.specs.FileResults.{FileResults}
use Rattle.fikrem_c.specs.Version.{version}

-- the header's FIKREM_VERSION
abbrev pub VersionTold : Type 0
VersionTold = version ≡ 5

-- the band's result is 0 exactly where there is a band and room for it
abbrev pub BandResults : Type 0
BandResults =
    (book request : List ℕ) (bands : Bands) (figures : List ℤ) →
    Results ((ltb (length figures) band_places ≡ false) × ((band : Band) × (band_of book request bands ≡ Ok band))) band_numbers
    (band_end (band_of book request bands) figures).result

abbrev pub RefusedBandChangesNothing : Type 0
RefusedBandChangesNothing =
    (book request : List ℕ) (bands : Bands) (figures : List ℤ) → (band_end (band_of book request bands) figures).result ≢ 0 →
    (band_end (band_of book request bands) figures).figures ≡ figures

-- a file's result is 0 exactly where it stands, otherwise it has number 1, 2 or 3
abbrev pub BookReadAlone : Type 0
BookReadAlone = (book : List ℕ) → FileResults (answer_of (book_of file_read_alone book))

abbrev pub RequestReadAlone : Type 0
RequestReadAlone = (request : List ℕ) → FileResults (answer_of (request_of file_read_alone request))
