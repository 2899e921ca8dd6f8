-- The walk, as far as the loop over the events has come.
use Rattle.std.specs.Prelude.{ℕ, ◌+◌, ◌-◌, ◌≡◌, refl, List, true, false, length, Err, Ok}
use Rattle.std.proofs.Common.{arith, length-drop, ne_eqb}
use Rattle.field_walk.specs.Walk.{length_at, FieldAt, Walk, fields, stops, and_then}
use Rattle.field_walk.specs.Walked.{walked}
use Rattle.field_walk.proofs.Rest.{rest_from, rest_from_drop, SoFar, one_field_on}
use Rattle.tagged.specs.Find.{part_of}
use Rattle.tagged.specs.Parts.{rest_place}
use Rattle.event_file.specs.EventFile.{front_stands, events_from, events_walk}
use Rattle.event_file.proofs.Theorems.EventFile.{whole_ends, front_whole}

abbrev pub EventsSoFar : List ℕ → List ℕ → Type 0
EventsSoFar file rest = SoFar (walked (events_walk file)) file rest (length file - length rest) (λ most. walked (events_from most (length file - length rest) rest))

walked_then : (f : FieldAt) (w : Walk) → walked (and_then f w) ≡ walked w
walked_then f (fields fs) = refl
walked_then f (stops at) = refl

module _ (file rest : List ℕ) (so_far : EventsSoFar file rest) where
  pub goes_on : front_stands rest ≡ true → (after : List ℕ) → after ≡ part_of (rest_place rest) rest → EventsSoFar file after
  unfolding events_from
  goes_on front after is =
      let whole = (front_whole rest front).0 in
      let ends = whole_ends rest whole in
      let len = length_at rest in
      let left : after ≡ rest_from rest (len + 3) = rw whole at is in
      let size : length (rest_from rest (len + 3)) + (len + 3) ≡ length rest = rw rest_from_drop (omega (arith, length-drop (len + 3) rest)) in
      let at : length file - length rest + (len + 3) ≡ length file - length (rest_from rest (len + 3)) = omega (arith, so_far.to_end) in
      rw (left, ← at) (one_field_on so_far (λ most. walked (events_from most (length file - length rest + (len + 3)) (rest_from rest (len + 3)))) len ends (λ most. rw (front, walked_then, rest_from_drop)))

  pub ends_here : front_stands rest ≡ false → length rest ≡ 0 → Ok tt ≡ walked (events_walk file)
  unfolding events_from
  ends_here front none = rw (so_far.same, front, none)

  pub stops_here : front_stands rest ≡ false → (length rest ≡ 0 → ⊥) → Err (length file - length rest) ≡ walked (events_walk file)
  unfolding events_from
  stops_here front some = rw (so_far.same, front, ne_eqb (length rest) 0 some)
