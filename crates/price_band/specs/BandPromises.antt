-- Document 02, E5: "For every pair of revenues inside the bands, the priced figures lie inside the given ones. Both ends are reached by some pair."
use Rattle.std.specs.Prelude.{ℕ, ◌≤◌, ◌≡◌, List, ◌≤ℤ◌, Ok}
use Rattle.std.specs.Result.{result_map_both}
use Rattle.numbers.specs.BigEndian.{Bytes}
use Rattle.tagged.specs.DiffersInField.{DiffersInField}
use Rattle.request.specs.Request.{request_of}
use Rattle.request.specs.WithRevenues.{with_revenues}
use Rattle.reconciliation.specs.declared.Reconciliation.{Reconciliation}
use Rattle.charge.specs.Price.{price_of}
use Rattle.charge.specs.declared.Bill.{Bill}
use Rattle.price_band.specs.declared.Bands.{Bands}
use Rattle.price_band.specs.declared.Band.{Band}

-- a pair of revenues inside the bands
pub record Inside (bands : Bands) (distribution transmission : ℕ) : Type 0 where
  pub distribution_low : bands.distribution_low ≤ distribution
  pub distribution_high : distribution ≤ bands.distribution_high
  pub transmission_low : bands.transmission_low ≤ transmission
  pub transmission_high : transmission ≤ bands.transmission_high

-- a file that reads as the request does, but for the two revenues of field 08
abbrev pub ReadsWith : ℕ → ℕ → List ℕ → List ℕ → Type 0
ReadsWith distribution transmission request_file other =
    request_of 2 other ≡ result_map_both (with_revenues distribution transmission) (λ refusal. refusal) (request_of 2 request_file)

-- the priced figures lie inside the given ones
pub record Between (band : Band) (r : Reconciliation) : Type 0 where
  pub lowest_ir : band.lowest_ir ≤ r.ir
  pub highest_ir : r.ir ≤ band.highest_ir
  pub lowest_cc : band.lowest_cc ≤ r.cc
  pub highest_cc : r.cc ≤ band.highest_cc
  pub lowest_nc : band.lowest_nc ≤ℤ r.nc
  pub highest_nc : r.nc ≤ℤ band.highest_nc

pub record PricedBetween (book_file other : List ℕ) (band : Band) : Type 0 where
  pub bill : Bill
  pub priced : price_of book_file other ≡ Ok bill
  pub between : Between band bill.reconciliation

-- some request file, which differs from this one in field 08 and the check alone, with revenues inside the bands, is priced, and comes to this
pub record Reached (book_file request_file : List ℕ) (bands : Bands) (comes_to : Reconciliation → Type 0) : Type 0 where
  pub other : List ℕ
  pub bytes : Bytes other
  pub differs : DiffersInField 8 request_file other
  pub distribution : ℕ
  pub transmission : ℕ
  pub inside : Inside bands distribution transmission
  pub reads : ReadsWith distribution transmission request_file other
  pub bill : Bill
  pub priced : price_of book_file other ≡ Ok bill
  pub reached : comes_to bill.reconciliation

pub record EndsReached (book_file request_file : List ℕ) (bands : Bands) (band : Band) : Type 0 where
  pub lowest_ir : Reached book_file request_file bands (λ r. r.ir ≡ band.lowest_ir)
  pub highest_ir : Reached book_file request_file bands (λ r. r.ir ≡ band.highest_ir)
  pub lowest_cc : Reached book_file request_file bands (λ r. r.cc ≡ band.lowest_cc)
  pub highest_cc : Reached book_file request_file bands (λ r. r.cc ≡ band.highest_cc)
  pub lowest_nc : Reached book_file request_file bands (λ r. r.nc ≡ band.lowest_nc)
  pub highest_nc : Reached book_file request_file bands (λ r. r.nc ≡ band.highest_nc)
