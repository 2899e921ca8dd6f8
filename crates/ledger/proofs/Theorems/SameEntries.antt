-- Soundness is of the ledger, its entries and whether they fit the table's length, alone.
use Rattle.std.specs.Prelude.{ℕ, ◌≤◌, min, ◌≡◌, true, false, length, take, leb}
use Rattle.std.proofs.Math.Path.{refl, ap}
use Rattle.std.proofs.Common.{ap₂}
use Rattle.std.proofs.lemmas.Bool.{cond-false}
use Rattle.std.proofs.Common.{sym, ◌∙◌, arith, leb-true, le-leb}
use Rattle.std.proofs.lemmas.Bool.Decides.{same_from_decides}
use Rattle.std.proofs.lemmas.List.{length-take, take-take}
use mathlib.Core.List.{List}
use Rattle.std.proofs.Math.Bool.{Bool, cond}
use Rattle.ledger.specs.Limits.{most_entries}
use Rattle.ledger.specs.Sound.{all_hold, counts_within, counts_sound, records_sound, sound_figures, sound_numbers, sound}
use Rattle.ledger.proofs.Theorems.Sound.{held, sound_means}
use Rattle.ledger.specs.declared.records.Party.{Party}
use Rattle.ledger.specs.declared.records.Ledger.{Ledger}

-- tables of `room` and of `other` records that hold the same entries, where these are within the table and not too many
pub record SameEntries (ledger : Ledger) (parties others : List Party) (room other : ℕ) : Type 0 where
  pub fit : leb ledger.entries room ≡ leb ledger.entries other
  pub entries : ledger.entries ≤ most_entries → ledger.entries ≤ room → take ledger.entries parties ≡ take ledger.entries others

module _ {ledger : Ledger} {parties others : List Party} {room other : ℕ} (same : SameEntries ledger parties others room other) where
  counted_entries : counts_sound ledger room ≡ true → take ledger.entries parties ≡ take ledger.entries others
  counted_entries counts =
      let each = held (counts_within ledger (leb ledger.entries room)) counts in
      same.entries (leb-true _ _ (each 1)) (leb-true _ _ (each 2))

  none_counted : counts_sound ledger room ≡ false → sound_figures ledger parties room ≡ false
  unfolding sound_figures
  none_counted fails = cond-false _ _ _ fails

  pub same_figures : sound_figures ledger parties room ≡ sound_figures ledger others other
  unfolding sound_figures
  same_figures =
      by_counts (counts_sound ledger room) refl
      ∙ ap (λ fits. cond (all_hold (counts_within ledger fits)) (more (take ledger.entries others)) false) same.fit
    where
      more : List Party → Bool
      more entries = all_hold (records_sound ledger entries)

      by_counts : (counts : Bool) → counts_sound ledger room ≡ counts →
          cond counts (more (take ledger.entries parties)) false ≡ cond counts (more (take ledger.entries others)) false
      by_counts true counts = ap more (counted_entries counts)
      by_counts false counts = refl

  pub same_sound : sound ledger parties room ≡ sound ledger others other
  unfolding sound
  same_sound = by_counts (counts_sound ledger room) refl
    where
      by_counts : (counts : Bool) → counts_sound ledger room ≡ counts → cond (sound_figures ledger parties room) (sound_numbers ledger (take ledger.entries parties)) false
          ≡ cond (sound_figures ledger others other) (sound_numbers ledger (take ledger.entries others)) false
      by_counts true counts = ap₂ (λ figures entries. cond figures (sound_numbers ledger entries) false) same_figures (counted_entries counts)
      by_counts false counts =
          cond-false _ _ _ (none_counted counts) ∙ sym (cond-false _ _ _ (sym same_figures ∙ none_counted counts))

-- a snapshot of a table holds its entries
pub snapshot_sound : (ledger : Ledger) (table parties : List Party) (room : ℕ) → take ledger.entries parties ≡ take ledger.entries table →
    sound ledger parties room ≡ sound ledger table room
snapshot_sound ledger table parties room same = same_sound (record { fit = refl; entries = λ limit within. same })

-- so a ledger that is sound with a table is sound with any other that has its entries
pub sound_in : (ledger : Ledger) (parties others : List Party) (room other : ℕ) → take ledger.entries others ≡ take ledger.entries parties →
    ledger.entries ≤ other → sound ledger parties room ≡ true → sound ledger others other ≡ true
sound_in ledger parties others room other same fits holds =
    let both = le-leb _ _ fits ∙ sym (le-leb _ _ (sound_means ledger parties room holds).figures.in_table) in
    same_sound (record { fit = both; entries = λ limit within. same }) ∙ holds

-- with an array of 512 records it is as sound as with the first `room` of them alone, or with all where there are no more
pub sound_in_first : (ledger : Ledger) (parties : List Party) (room : ℕ) → length parties ≡ most_entries →
    sound ledger parties room ≡ sound ledger (take (min room most_entries) parties) (length (take (min room most_entries) parties))
sound_in_first ledger parties room records =
    let first = take (min room most_entries) parties in
    let size = length-take (min room most_entries) parties in
    same_from_decides _ _ (λ stands. stands, λ stands. stands) (
      λ stands.
          let means = (sound_means ledger first (length first) stands).figures in
          let within : ledger.entries ≤ min room most_entries = omega (arith, means.in_table, size) in
          let fits : ledger.entries ≤ room = omega (arith, within) in
          sound_in ledger first parties (length first) room (sym (take-take ledger.entries (min room most_entries) parties within)) fits stands,
      λ stands.
          let means = (sound_means ledger parties room stands).figures in
          let within : ledger.entries ≤ min room most_entries = omega (arith, means.entries, means.in_table) in
          let fits : ledger.entries ≤ length first = omega (arith, size, within, records) in
          sound_in ledger parties first room (length first) (take-take ledger.entries (min room most_entries) parties within) fits stands,
    )
