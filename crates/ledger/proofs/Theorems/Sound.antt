-- A sound ledger has every condition, and back; a new ledger is sound.
use Prim.Native.Nat.{ℕ, zero, suc, ◌+◌, ◌*◌, ◌-◌, ◌<◌, ◌≤◌, zero-le}
use Rattle.std.specs.Prelude.{◌≡◌, Bool, false, cond, drop, leb, is_some}
use Rattle.std.proofs.Math.Path.{refl}
use Rattle.std.proofs.Common.{sym, ◌∙◌, not-suc-le-zero, mul-le-mul, mul-le-mul_left}
use mathlib.Core.List.{List, [], ◌∷◌, map}
use Rattle.std.proofs.Math.Bool.{true}
use native.Mathlib.Omega.{arith}
use Rattle.std.proofs.Math.ListN.{length, take, get_or, length-take}
use Rattle.std.proofs.lemmas.List.{length-map}
use Rattle.std.proofs.Math.Seq.{get_or-drop}
use borrow.Author.Tests.{leb-true, eqb-true, le-leb, eq-eqb}
use Rattle.tagged.proofs.Theorems.Impossible.{impossible}
use Rattle.field_values.specs.Limits.{highest_minimum, highest_capacity}
use Rattle.ledger.specs.Limits.{most_entries, highest_put_in}
use Rattle.ledger.specs.Records.{scheme_of, no_scheme, no_party, new_ledger}
use Rattle.ledger.specs.Columns.{scheme_column, put_in_column, ones_column, sum_over, entries_of}
use Rattle.ledger.specs.CapacityColumns.{capacity_column, capacity_of}
use Rattle.ledger.proofs.Theorems.Columns.{column_at, sum_le, sum_at_most, first_at_most}
use Rattle.ledger.specs.Lookup.{scheme_place}
use Rattle.ledger.specs.Sound.{rise_to, all_hold, counts_within, counts_sound, sums_within, figures_within, tally_of, accounts_hold, zeros, records_sound, party_sound, parties_sound, scheme_sound, schemes_sound, is_zero, all_zero, sound_figures, schemes_rise, entries_rise, cleared_within, cleared_sound, sound_numbers, sound}
use Rattle.ledger.specs.SoundConditions.{SoundParty, SoundScheme, SoundFigures, SoundNumbers, SoundLedger}
use Rattle.ledger.specs.declared.records.Scheme.{Scheme}
use Rattle.ledger.specs.declared.records.Party.{Party}
use Rattle.ledger.specs.declared.records.Ledger.{Ledger}

pub both_true : (b c : Bool) → cond b c false ≡ true → (b ≡ true) × (c ≡ true)
both_true true c h = (refl, h)
both_true false c h = impossible cc

pub not_both : (b c : Bool) → (b ≡ true → c ≡ true → ⊥) → cond b (cond c true false) false ≡ false
not_both true true h = absurd (h refl refl)
not_both true false h = refl
not_both false c h = refl

-- ---- tests that all hold

-- past the last there is none that fails
pub held : (conditions : List Bool) → all_hold conditions ≡ true → (i : ℕ) → get_or conditions i true ≡ true
held [] all i = refl
held (condition ∷ others) all zero = (both_true condition (all_hold others) all).0
held (condition ∷ others) all (suc i) = held others (both_true condition (all_hold others) all).1 i

pub party_means : (schemes : List Scheme) (party : Party) → party_sound schemes party ≡ true → SoundParty schemes party
party_means schemes party h =
    let each = held (is_some (scheme_place party.scheme schemes) ∷ figures_within party) h in
    record {
      stands = each 0;
      some_capacity = leb-true _ _ (each 1);
      capacity = leb-true _ _ (each 2);
      put_in = leb-true _ _ (each 3);
      credited = leb-true _ _ (each 4);
      paid_out = leb-true _ _ (each 5);
    }

pub means_party : (schemes : List Scheme) (party : Party) → SoundParty schemes party → party_sound schemes party ≡ true
means_party schemes party h =
    rw (
      h.stands,
      le-leb _ _ h.some_capacity,
      le-leb _ _ h.capacity,
      le-leb _ _ h.put_in,
      le-leb _ _ h.credited,
      le-leb _ _ h.paid_out,
    )

scheme_means : (month : ℕ) (parties : List Party) (scheme : Scheme) → scheme_sound month parties scheme ≡ true → SoundScheme month parties scheme
scheme_means month parties scheme h =
    let each = held (accounts_hold month scheme (tally_of scheme.number parties)) h in
    record {
      fee = leb-true _ _ (each 0);
      minimum = leb-true _ _ (each 1);
      term = leb-true _ _ (each 2);
      opening = leb-true _ _ (each 3);
      some_entry = leb-true _ _ (each 4);
      first = eqb-true _ _ (each 5);
      fees = eqb-true _ _ (each 6);
      account = eqb-true _ _ (each 7);
    }

means_scheme : (month : ℕ) (parties : List Party) (scheme : Scheme) → SoundScheme month parties scheme → scheme_sound month parties scheme ≡ true
means_scheme month parties scheme h =
    rw (
      le-leb _ _ h.fee,
      le-leb _ _ h.minimum,
      le-leb _ _ h.term,
      le-leb _ _ h.opening,
      le-leb _ _ h.some_entry,
      eq-eqb _ _ h.first,
      eq-eqb _ _ h.fees,
      eq-eqb _ _ h.account,
    )

zero_means : (scheme : Scheme) → is_zero scheme ≡ true → scheme ≡ no_scheme
zero_means scheme h =
    let each = held (zeros scheme) h in
    assembled (eqb-true _ _ (each 0)) (eqb-true _ _ (each 1)) (eqb-true _ _ (each 2)) (eqb-true _ _ (each 3)) (eqb-true _ _ (each 4))
    (eqb-true _ _ (each 5)) (eqb-true _ _ (each 6))
  where
    assembled : {number cost fee minimum opening term fees : ℕ} → number ≡ 0 → cost ≡ 0 → fee ≡ 0 → minimum ≡ 0 → opening ≡ 0 → term ≡ 0 → fees ≡ 0 →
        scheme_of number cost fee minimum opening term fees ≡ no_scheme
    assembled a b c d e f g = rw (a, b, c, d, e, f, g)

-- ---- each of a list's records
pub parties_mean : (schemes : List Scheme) (parties : List Party) → parties_sound schemes parties ≡ true →
    (i : ℕ) → i < length parties → SoundParty schemes (get_or parties i no_party)
unfolding parties_sound
parties_mean schemes [] h i below = absurd (not-suc-le-zero below)
parties_mean schemes (party ∷ parties) h zero below = party_means schemes party (both_true (party_sound schemes party) (parties_sound schemes parties) h).0
parties_mean schemes (party ∷ parties) h (suc i) below =
    parties_mean schemes parties (both_true (party_sound schemes party) (parties_sound schemes parties) h).1 i (omega arith)

mean_parties : (schemes : List Scheme) (parties : List Party) → ((i : ℕ) → i < length parties → SoundParty schemes (get_or parties i no_party)) →
    parties_sound schemes parties ≡ true
unfolding parties_sound
mean_parties schemes [] h = refl
mean_parties schemes (party ∷ parties) h =
    rw (means_party schemes party (h 0 (omega arith)), mean_parties schemes parties (λ i below. h (suc i) (omega arith)))

module _ (month : ℕ) (parties : List Party) where
  schemes_mean : (schemes : List Scheme) → schemes_sound month parties schemes ≡ true →
      (i : ℕ) → i < length schemes → SoundScheme month parties (get_or schemes i no_scheme)
  unfolding schemes_sound
  schemes_mean [] h i below = absurd (not-suc-le-zero below)
  schemes_mean (scheme ∷ schemes) h zero below =
      scheme_means month parties scheme (both_true (scheme_sound month parties scheme) (schemes_sound month parties schemes) h).0
  schemes_mean (scheme ∷ schemes) h (suc i) below =
      schemes_mean schemes (both_true (scheme_sound month parties scheme) (schemes_sound month parties schemes) h).1 i (omega arith)

  mean_schemes : (schemes : List Scheme) → ((i : ℕ) → i < length schemes → SoundScheme month parties (get_or schemes i no_scheme)) →
      schemes_sound month parties schemes ≡ true
  unfolding schemes_sound
  mean_schemes [] h = refl
  mean_schemes (scheme ∷ schemes) h =
      rw (means_scheme month parties scheme (h 0 (omega arith)), mean_schemes schemes (λ i below. h (suc i) (omega arith)))

zeros_mean : (schemes : List Scheme) → all_zero schemes ≡ true → (i : ℕ) → get_or schemes i no_scheme ≡ no_scheme
unfolding all_zero
zeros_mean [] h i = refl
zeros_mean (scheme ∷ schemes) h zero = zero_means scheme (both_true (is_zero scheme) (all_zero schemes) h).0
zeros_mean (scheme ∷ schemes) h (suc i) = zeros_mean schemes (both_true (is_zero scheme) (all_zero schemes) h).1 i

mean_zeros : (schemes : List Scheme) → ((i : ℕ) → get_or schemes i no_scheme ≡ no_scheme) → all_zero schemes ≡ true
unfolding all_zero
mean_zeros [] h = refl
mean_zeros (scheme ∷ schemes) h = rw (h 0, mean_zeros schemes (λ i. h (suc i)))

-- ---- the whole ledger

-- document 02's conditions
module _ (ledger : Ledger) (entries : List Party) where
  pub numbers_mean : sound_numbers ledger entries ≡ true → SoundNumbers ledger entries
  unfolding sound_numbers
  numbers_mean h =
      let each = held (schemes_rise ledger ∷ entries_rise ledger entries ∷ cleared_sound ledger ∷ []) h in
      let cleared = held (cleared_within ledger) (each 2) in
      record {
        schemes_in_order = each 0;
        entries_in_order = each 1;
        next_scheme = leb-true _ _ (cleared 0);
        next_entry = leb-true _ _ (cleared 1);
        cleared_account = eqb-true _ _ (cleared 2);
        cleared_limit = leb-true _ _ (cleared 3);
      }

  pub mean_numbers : SoundNumbers ledger entries → sound_numbers ledger entries ≡ true
  unfolding sound_numbers
  mean_numbers h = rw (h.schemes_in_order, h.entries_in_order, le-leb _ _ h.next_scheme, le-leb _ _ h.next_entry, eq-eqb _ _ h.cleared_account, le-leb _ _ h.cleared_limit)

module _ (ledger : Ledger) (parties : List Party) (room : ℕ) where
  pub figures_mean : sound_figures ledger parties room ≡ true → SoundFigures ledger parties room
  unfolding sound_figures
  figures_mean h =
      let kept : List Party = take ledger.entries parties in
      let schemes : List Scheme = take ledger.count ledger.schemes in
      let both = both_true (counts_sound ledger room) _ h in
      let counts = held (counts_within ledger (leb ledger.entries room)) both.0 in
      let each = held (records_sound ledger kept) both.1 in
      let sums = held (sums_within ledger) (each 0) in
      record {
        schemes = leb-true _ _ (counts 0);
        entries = leb-true _ _ (counts 1);
        in_table = leb-true _ _ (counts 2);
        connections = leb-true _ _ (sums 0);
        charged = leb-true _ _ (sums 1);
        borne = leb-true _ _ (sums 2);
        each_party = parties_mean schemes kept (each 1);
        each_scheme = schemes_mean ledger.month kept schemes (each 2);
        rest_zero =
            λ i past.
            let place : ledger.count + (i - ledger.count) ≡ i = omega arith in
            let told : get_or (drop ledger.count ledger.schemes) (i - ledger.count) no_scheme ≡ no_scheme =
            zeros_mean (drop ledger.count ledger.schemes) (each 3) (i - ledger.count) in
            rw (get_or-drop, place) at told;
      }

  pub mean_figures : SoundFigures ledger parties room → sound_figures ledger parties room ≡ true
  unfolding sound_figures
  mean_figures h =
      let kept : List Party = take ledger.entries parties in
      let schemes : List Scheme = take ledger.count ledger.schemes in
      let kept_sound : parties_sound schemes kept ≡ true = mean_parties schemes kept h.each_party in
      let schemes_sound_here : schemes_sound ledger.month kept schemes ≡ true = mean_schemes ledger.month kept schemes h.each_scheme in
      let zeros : all_zero (drop ledger.count ledger.schemes) ≡ true =
      mean_zeros (drop ledger.count ledger.schemes) (λ i. rw get_or-drop (h.rest_zero (ledger.count + i) (omega arith))) in
      rw (
        le-leb _ _ h.schemes,
        le-leb _ _ h.entries,
        le-leb _ _ h.in_table,
        le-leb _ _ h.connections,
        le-leb _ _ h.charged,
        le-leb _ _ h.borne,
        kept_sound,
        schemes_sound_here,
        zeros,
      )

  pub sound_means : sound ledger parties room ≡ true → SoundLedger ledger parties room
  unfolding sound
  sound_means h =
      let both = both_true (sound_figures ledger parties room) _ h in
      record { figures = figures_mean both.0; numbers = numbers_mean ledger (take ledger.entries parties) both.1 }

  pub means_sound : SoundLedger ledger parties room → sound ledger parties room ≡ true
  unfolding sound
  means_sound h = rw (mean_figures h.figures, mean_numbers ledger (take ledger.entries parties) h.numbers)

  module _ (h : SoundFigures ledger parties room) where
    -- a figure that no sound entry has above a bound, over the entries of scheme s
    sum_within : (s : ℕ) (figure : Party → ℕ) (bound : ℕ) → ((party : Party) → SoundParty (take ledger.count ledger.schemes) party → figure party ≤ bound) →
        sum_over s (scheme_column (take ledger.entries parties)) (map figure (take ledger.entries parties)) ≤ bound * most_entries
    sum_within s figure bound within =
        let entries : List Party = take ledger.entries parties in
        let same : length (map figure entries) ≡ length entries = length-map entries figure in
        let few : length (map figure entries) ≤ most_entries = omega (arith, h.entries, length-take ledger.entries parties) in
        omega (
          arith,
          mul-le-mul_left bound few,
          sum_at_most s bound (scheme_column entries) (map figure entries)
              (λ e less. rw (column_at figure entries e no_party less) (within (get_or entries e no_party) (h.each_party e (omega arith)))),
        )

    -- bounds of K
    pub some_capacity : (k : ℕ) → k < length (take ledger.count ledger.schemes) →
        1 ≤ capacity_of (get_or (take ledger.count ledger.schemes) k no_scheme).number (scheme_column (take ledger.entries parties)) (capacity_column (take ledger.entries parties))
    some_capacity k below =
        let entries : List Party = take ledger.entries parties in
        let ones : length (ones_column entries) ≡ length entries = length-map entries (λ party. 1) in
        let same : length (ones_column entries) ≡ length (capacity_column entries) = ones ∙ sym (length-map entries (λ party. party.capacity)) in
        omega (
          arith,
          (h.each_scheme k below).some_entry,
          sum_le (get_or (take ledger.count ledger.schemes) k no_scheme).number (scheme_column entries) (ones_column entries) (capacity_column entries) same
              (λ e less.
              let within : e < length (capacity_column entries) = omega arith in
              rw (column_at (λ party. 1) entries e no_party less, column_at (λ party. party.capacity) entries e no_party within)
              (h.each_party e (omega arith)).some_capacity),
        )

    pub capacity_at_most : (s : ℕ) → capacity_of s (scheme_column (take ledger.entries parties)) (capacity_column (take ledger.entries parties)) ≤ highest_capacity * most_entries
    capacity_at_most s = sum_within s (λ party. party.capacity) highest_capacity (λ party sound. sound.capacity)

    pub put_in_at_most : (s : ℕ) → sum_over s (scheme_column (take ledger.entries parties)) (put_in_column (take ledger.entries parties)) ≤ highest_put_in * most_entries
    put_in_at_most s = sum_within s (λ party. party.put_in) highest_put_in (λ party sound. sound.put_in)

    -- a scheme's cost is what its first entry put in
    pub cost_at_most : (k : ℕ) → k < length (take ledger.count ledger.schemes) → (get_or (take ledger.count ledger.schemes) k no_scheme).cost ≤ highest_put_in
    cost_at_most k below =
        let entries : List Party = take ledger.entries parties in
        let same : length (put_in_column entries) ≡ length entries = length-map entries (λ party. party.put_in) in
        omega (
          arith,
          (h.each_scheme k below).first,
          first_at_most (get_or (take ledger.count ledger.schemes) k no_scheme).number highest_put_in (scheme_column entries) (put_in_column entries)
              (λ e less. rw (column_at (λ party. party.put_in) entries e no_party less) (h.each_party e (omega arith)).put_in),
        )

    pub fees_at_most : (k : ℕ) → k < length (take ledger.count ledger.schemes) → (get_or (take ledger.count ledger.schemes) k no_scheme).fees ≤ highest_minimum * (most_entries - 1)
    fees_at_most k below =
        let number = (get_or (take ledger.count ledger.schemes) k no_scheme).number in
        let many : entries_of number (take ledger.entries parties) ≤ 1 * most_entries = sum_within number (λ party. 1) 1 (λ party sound. omega arith) in
        let scheme = h.each_scheme k below in
        let fee : (get_or (take ledger.count ledger.schemes) k no_scheme).fee ≤ highest_minimum = omega (arith, scheme.fee, scheme.minimum) in
        let joinings : entries_of number (take ledger.entries parties) - 1 ≤ most_entries - 1 = omega arith in
        omega (arith, scheme.fees, mul-le-mul fee joinings)

pub new_ledger_sound : (parties : List Party) (room : ℕ) → sound new_ledger parties room ≡ true
unfolding sound sound_figures sound_numbers parties_sound schemes_sound all_zero rise_to
new_ledger_sound parties room = rw (le-leb 0 room zero-le)
