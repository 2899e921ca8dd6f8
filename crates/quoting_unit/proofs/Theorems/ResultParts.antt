-- A result taken apart again gives the refusal: its number, its file, whether it is of the stored ledger itself, and its place.
use Rattle.std.specs.Prelude.{ℕ, ◌+◌, ◌*◌, ◌%◌, ◌^◌, ◌<◌, ◌≤◌, ◌≡◌, ◌≢◌}
use Rattle.std.proofs.Common.{ap, ◌∙◌, mod-eq_of_lt, mod-lt, arith, le-ltb}
use Rattle.std.proofs.Math.Arith.{digits_div, digits_mod}
use Rattle.tagged.specs.declared.file.Refusal.{Refusal}
use Rattle.quoting_unit.specs.Interface.{file_weight, ledger_weight, place_weight, highest_place, place_in_result, result_of, number_in, file_in, of_ledger_in, place_in}
use Rattle.quoting_unit.specs.ResultParts.{ResultParts}

-- four numbers in one
module _ (number file ledger place : ℕ) where
  abbrev packed : ℕ
  packed = number + file_weight * file + ledger_weight * ledger + place_weight * place

  packed_number : number < file_weight → number_in packed ≡ number
  packed_number h =
      let split : packed ≡ (file + 4 * ledger + 8 * place) * file_weight + number = omega arith in
      ap number_in split ∙ digits_mod (file + 4 * ledger + 8 * place) h

  packed_file : number < file_weight → file < 4 → file_in packed ≡ file
  packed_file h k =
      let split : packed ≡ (file + 4 * ledger + 8 * place) * file_weight + number = omega arith in
      let rest : file + 4 * ledger + 8 * place ≡ (ledger + 2 * place) * 4 + file = omega arith in
      ap file_in split ∙ ap (λ (x : ℕ). x % 4) (digits_div (file + 4 * ledger + 8 * place) h ∙ rest) ∙ digits_mod (ledger + 2 * place) k

  packed_of_ledger : number < file_weight → file < 4 → ledger < 2 → of_ledger_in packed ≡ ledger
  packed_of_ledger h k j =
      let split : packed ≡ (ledger + 2 * place) * ledger_weight + (number + file_weight * file) = omega arith in
      let low : number + file_weight * file < ledger_weight = omega arith in
      let rest : ledger + 2 * place ≡ place * 2 + ledger = omega arith in
      ap of_ledger_in split ∙ ap (λ (x : ℕ). x % 2) (digits_div (ledger + 2 * place) low ∙ rest) ∙ digits_mod place j

  packed_place : number < file_weight → file < 4 → ledger < 2 → place_in packed ≡ place
  packed_place h k j =
      let split : packed ≡ place * place_weight + (number + file_weight * file + ledger_weight * ledger) = omega arith in
      let low : number + file_weight * file + ledger_weight * ledger < place_weight = omega arith in
      ap place_in split ∙ digits_div place low

module _ (r : Refusal) (of_ledger : ℕ) where
  -- whatever number, file and flag
  pub result_place : place_in (result_of r of_ledger) ≡ place_in_result r.place
  result_place =
      packed_place (r.number % file_weight) (r.file % 4) (of_ledger % 2) (place_in_result r.place) (mod-lt r.number (omega arith))
      (mod-lt r.file (omega arith)) (mod-lt of_ledger (omega arith))

  pub result_place_within : r.place ≤ highest_place → place_in (result_of r of_ledger) ≡ r.place
  result_place_within within = result_place ∙ rw (le-ltb highest_place r.place within)

  module _ (h : r.number < file_weight) where
    -- whatever file, flag and place
    pub number_told : number_in (result_of r of_ledger) ≡ r.number
    number_told =
        packed_number (r.number % file_weight) (r.file % 4) (of_ledger % 2) (place_in_result r.place) (rw (mod-eq_of_lt h) h) ∙ mod-eq_of_lt h

    pub not_done : 1 ≤ r.number → result_of r of_ledger ≢ 0
    not_done above done = let none : number_in (result_of r of_ledger) ≡ 0 = ap number_in done in absurd (omega (arith, number_told))

    module _ (k : r.file < 4) (j : of_ledger < 2) where
      is_packed : result_of r of_ledger ≡ packed r.number r.file of_ledger (place_in_result r.place)
      is_packed = rw (mod-eq_of_lt h, mod-eq_of_lt k, mod-eq_of_lt j)

      pub told_apart : ResultParts r of_ledger (result_of r of_ledger)
      told_apart =
          let place = place_in_result r.place in
          record {
            number = number_told;
            file = rw is_packed (packed_file r.number r.file of_ledger place h k);
            of_ledger_is = rw is_packed (packed_of_ledger r.number r.file of_ledger place h k j);
            place = result_place_within;
          }

-- ---- as the laws have it

pub no_refusal_is_done : (r : Refusal) (of_ledger : ℕ) → 1 ≤ r.number → r.number ≤ 31 → result_of r of_ledger ≢ 0
no_refusal_is_done r of_ledger above known = not_done r of_ledger (omega arith) above

pub every_refusal_told : (r : Refusal) (of_ledger : ℕ) → r.number ≤ 31 → r.file < 4 → of_ledger < 2 → ResultParts r of_ledger (result_of r of_ledger)
every_refusal_told r of_ledger h k j = told_apart r of_ledger (omega arith) k j

pub every_place_told : (r : Refusal) (of_ledger : ℕ) → r.place < 2 ^ 56 → place_in (result_of r of_ledger) ≡ r.place
every_place_told r of_ledger below = result_place_within r of_ledger (omega arith)
