-- The schemes, one place at a time; the zeros past the last one, all at once; and the last test of a list.
use Prim.Native.Nat.{ℕ, ◌+◌, ◌<◌, ◌≤◌}
use mathlib.Core.Path.{◌≡◌, refl, sym, ◌∙◌}
use mathlib.Core.List.{List, map}
use mathlib.Core.Bool.{Bool, true, false, cond, ◌&&◌}
use native.Mathlib.Numerals.{add-one}
use lib.ListN.{length, take, drop, get_or, drop_of_length-le}
use lib.Seq.{drop-cons}
use Rattle.std.specs.Prelude.{All, ◌↔◌}
use Rattle.std.specs.Prelude.{ltb}
use Rattle.std.proofs.Common.{arith, le-ltb, ltb-true, ltb-false}
use Rattle.std.proofs.lemmas.Bool.{cond-true, cond-false, lt-ltb}
use Rattle.std.proofs.lemmas.Bool.Decides.{Decides-by_and, same_from_decides}
use Rattle.ledger.specs.Records.{no_scheme}
use Rattle.ledger.proofs.Theorems.Sound.{numbers_mean}
use Rattle.ledger.specs.declared.records.Ledger.{Ledger}
use Rattle.ledger.specs.Sound.{all_hold, counts_sound, records_sound, sound_figures, sound_numbers, sound, schemes_rise, rise_to, is_zero, all_zero, accounts_sound, schemes_sound}
use Rattle.ledger.specs.Tallied.{no_tally, Tallied, OwnPlaces}
use Rattle.ledger.specs.declared.records.Scheme.{Scheme}
use Rattle.ledger.specs.declared.records.Party.{Party}
use Rattle.ledger.specs.declared.sound.Tally.{Tally}

as_and : (b c : Bool) → cond b c false ≡ (b && c)
as_and true c = refl
as_and false c = refl

pub by_each : (zero : Bool) (schemes : List Scheme) → (zero ≡ true ↔ All (λ scheme. is_zero scheme ≡ true) schemes) → zero ≡ all_zero schemes
unfolding all_zero
by_each zero schemes each =
    let own = Decides-by_and is_zero (λ scheme. is_zero scheme ≡ true) all_zero (λ scheme. (λ yes. yes, λ yes. yes)) refl (λ scheme others. as_and (is_zero scheme) (all_zero others)) schemes in
    same_from_decides zero (all_zero schemes) each own

-- the last test of a list of conditions
pub last_holds : (condition : Bool) → condition ≡ cond condition true false
last_holds true = refl
last_holds false = refl

-- the scheme at place i has its tally there
module _ (month : ℕ) (tallies : List Tally) (parties : List Party) (schemes : List Scheme) (i : ℕ)
    (t : Tallied schemes tallies parties) (own : OwnPlaces schemes) (h : i < length schemes) where
  schemes_from : schemes_sound month parties (drop i schemes) ≡
      cond (accounts_sound month (get_or schemes i no_scheme) (get_or tallies i no_tally)) (schemes_sound month parties (drop (i + 1) schemes)) false
  unfolding schemes_sound
  schemes_from = rw (add-one, drop-cons schemes i no_scheme h, t (get_or schemes i no_scheme).number i (own i h))

  module _ {answer : Bool} (told : answer ≡ accounts_sound month (get_or schemes i no_scheme) (get_or tallies i no_tally)) where
    pub schemes_stop : answer ≡ false → schemes_sound month parties (drop i schemes) ≡ false
    schemes_stop failed = schemes_from ∙ cond-false _ _ _ (sym told ∙ failed)

    pub schemes_go_on : answer ≡ true → schemes_sound month parties (drop i schemes) ≡ schemes_sound month parties (drop (i + 1) schemes)
    schemes_go_on passed = schemes_from ∙ cond-true _ _ _ (sym told ∙ passed)

pub schemes_end : (month : ℕ) (parties : List Party) (schemes : List Scheme) (i : ℕ) → length schemes ≤ i
    → schemes_sound month parties (drop i schemes) ≡ true
unfolding schemes_sound
schemes_end month parties schemes i past = rw (drop_of_length-le schemes past)

-- ---- numbers that rise, one place at a time
module _ {A : Type 0} (number : A → ℕ) (given : List A) (none : A) (next before i : ℕ) where
  module _ (h : i < length given) where
    rise_from : rise_to next before (map number (drop i given)) ≡
        cond (ltb before (number (get_or given i none))) (rise_to next (number (get_or given i none)) (map number (drop (i + 1) given))) false
    unfolding rise_to
    rise_from = rw (add-one, drop-cons given i none h)

    pub rise_stops : number (get_or given i none) ≤ before → rise_to next before (map number (drop i given)) ≡ false
    rise_stops low = rise_from ∙ cond-false _ _ _ (le-ltb _ _ low)

    pub rise_goes_on : before < number (get_or given i none) →
        rise_to next before (map number (drop i given)) ≡ rise_to next (number (get_or given i none)) (map number (drop (i + 1) given))
    rise_goes_on above = rise_from ∙ cond-true _ _ _ (lt-ltb _ _ above)

  pub rise_ends : length given ≤ i → rise_to next before (map number (drop i given)) ≡ ltb before next
  unfolding rise_to
  rise_ends past = rw (drop_of_length-le given past)

-- ---- the lists of conditions

-- the first condition of document 02's list
pub numbers_rise : (ledger : Ledger) (entries : List Party) → sound_numbers ledger entries ≡ true → schemes_rise ledger ≡ true
numbers_rise ledger entries h = (numbers_mean ledger entries h).schemes_in_order

-- the first conditions of document 01's list
pub counts_fail : (ledger : Ledger) (parties : List Party) (room : ℕ) → counts_sound ledger room ≡ false → sound ledger parties room ≡ false
unfolding sound sound_figures
counts_fail ledger parties room fails = rw (cond-false _ (all_hold (records_sound ledger (take ledger.entries parties))) false fails)

-- below a number, at it or above it
pub by_order : {P : Type 0} (k n : ℕ) → (k < n → P) → (k ≡ n → P) → (n < k → P) → P
by_order {P = P} k n less same higher = by (ltb k n) refl (ltb n k) refl
  where
    by : (below : Bool) → ltb k n ≡ below → (above : Bool) → ltb n k ≡ above → P
    by true b above a = less (ltb-true k n b)
    by false b true a = higher (ltb-true n k a)
    by false b false a = same (omega (arith, ltb-false k n b, ltb-false n k a))
