-- What an event file that stands is: its fields, each an event; and that one byte altered has it refused.
use Rattle.std.specs.Prelude.{ℕ, zero, suc, ◌+◌, ◌-◌, ◌<◌, ◌≤◌, ◌≡◌, refl, ◌⊎◌, true, cond, length, get_or, set, take, drop, eqb, Err, Ok}
use Rattle.std.proofs.Common.{sym, ap, ap₂, ◌∙◌, ⊎_elim, subst, add-one, zero-add, arith, length-drop, drop-drop, eqb-true}
use mathlib.Core.List.Memᴰ
use mathlib.Core.List.{List, [], ◌∷◌, map, Memᴰ}
use Rattle.std.proofs.lemmas.Bool.{false≢true}
use Rattle.std.proofs.lemmas.Bool.Decides.{nat_tests}
use Rattle.numbers.specs.BigEndian.{Bytes}
use Rattle.field_walk.specs.Walk.{length_at, FieldAt, value_of, Walk, fields, stops, and_then}
use Rattle.tagged.specs.Refusals.{file_does_not_walk, check_differs}
use Rattle.tagged.specs.File.{fields_part, refusal}
use Rattle.tagged.specs.Find.{whole_field, fields_from, fields_of}
use Rattle.tagged.specs.WalkEncoded.{parts_of}
use Rattle.tagged.specs.WalkRelations.{StandsAt, Fields, none, first}
use Rattle.tagged.proofs.Theorems.AlteredByte.{altered_refused}
use Rattle.tagged.proofs.Theorems.FoundFields.{walk_seen}
use Rattle.tagged.proofs.Theorems.Walk.{by_test, rest_tag, rest_length}
use Rattle.event_file.specs.EventFile.{event_stands, front_value, front_stands, events_from, events_walk, events_answer, event_of, events_of}

-- A file that stands with exactly one byte altered is refused.
pub altered_events_refused : (file : List ℕ) (i b : ℕ) → Bytes file → i < length file → b < 256 → (get_or file i 0 ≡ b → ⊥) → events_answer file ≡ Ok tt →
    (events_answer (set file i b) ≡ Err (refusal file_does_not_walk 1 0)) ⊎ (events_answer (set file i b) ≡ Err (refusal check_differs 1 (length file - 2)))
altered_events_refused file i b = altered_refused 1 (events_walk (fields_part file)) (events_walk (fields_part (set file i b))) file i b

-- a whole field ends within the rest
pub whole_ends : (s : List ℕ) → whole_field s ≡ true → length_at s + 3 ≤ length s
whole_ends s whole = grind (arith, nat_tests)

-- where an event stands at the front, a whole field does, with that event's value
pub front_whole : (s : List ℕ) → front_stands s ≡ true → (whole_field s ≡ true) × (event_stands (get_or s 0 0) (front_value s) ≡ true)
front_whole s =
    by_test (λ b. b ≡ true → (whole_field s ≡ true) × (event_stands (get_or s 0 0) (front_value s) ≡ true)) (whole_field s) _ _
    (λ whole stands. (whole, stands)) (λ _ e. absurd (false≢true e))

-- the field that the rest of a file from an offset on starts with
here : List ℕ → ℕ → FieldAt
here s at = record { tag = get_or (drop at s) 0 0; start = at + 3; len = length_at (drop at s) }

here_stands : (s : List ℕ) (at : ℕ) → whole_field (drop at s) ≡ true → StandsAt s at (here s at)
unfolding here
here_stands s at whole =
    record { tag = rest_tag s at; start = refl; len = rest_length s at; within = omega (arith, length-drop at s, whole_ends (drop at s) whole) }

Each : List ℕ → List FieldAt → Type 0
Each s fs = (f : FieldAt) → Memᴰ f fs → event_stands f.tag (value_of s f) ≡ true

-- both facts, of the walk from any offset of the file on
WalkHolds : List ℕ → ℕ → Walk → Type 0
WalkHolds s at (fields fs) = Fields s at fs × Each s fs
WalkHolds s at (stops place) = Unit {0}

walk_holds : (most : ℕ) (s : List ℕ) (at : ℕ) → WalkHolds s at (events_from most at (drop at s))
unfolding WalkHolds Each here events_from
walk_holds zero s at = tt
walk_holds (suc most) s at =
    by_test P (front_stands rest) _ _
    (λ front. on_field front (events_from most (at + (length_at rest + 3)) (drop (length_at rest + 3) rest)) (rw (drop-drop (length_at rest + 3) at s) (walk_holds most s (at + (length_at rest + 3)))))
    (λ _. by_test P (eqb (length rest) 0) _ _ (λ z. (none {at = at} (omega (arith, length-drop at s, eqb-true _ _ z)), λ f among. absurd (Memᴰ.not-nil among))) (λ _. tt))
  where
    rest : List ℕ
    rest = drop at s

    P : Walk → Type 0
    P w = WalkHolds s at w

    on_field : front_stands (drop at s) ≡ true → (w : Walk) → WalkHolds s (at + (length_at (drop at s) + 3)) w → WalkHolds s at (and_then (here s at) w)
    on_field front (stops place) h = tt
    on_field front (fields fs) h =
        let known = front_whole (drop at s) front in
        let stands = here_stands s at known.0 in
        let own : event_stands (get_or (drop at s) 0 0) (value_of s (here s at)) ≡ true = rw (drop-drop 3 at s) at known.1 in (
          first stands h.0,
          λ f among. ⊎_elim (λ e. subst (λ g. event_stands g.tag (value_of s g) ≡ true) (sym e) own) (h.1 f) (Memᴰ.cases_cons among),
        )

module _ (s : List ℕ) (fs : List FieldAt) (walks : events_walk s ≡ fields fs) where
  walk_both : Fields s 0 fs × Each s fs
  unfolding WalkHolds
  walk_both = subst (WalkHolds s 0) walks (walk_holds (length s + 1) s 0)

  -- The fields of a file that walks follow one another to its end.
  pub events_follow : Fields s 0 fs
  events_follow = walk_both.0

  -- Each of them is an event that stands.
  pub events_stand_each : (f : FieldAt) → Memᴰ f fs → event_stands f.tag (value_of s f) ≡ true
  unfolding Each
  events_stand_each = walk_both.1

-- Fields that follow one another to the end, and are events that stand, walk.
walk_back : {s : List ℕ} {at : ℕ} {fs : List FieldAt} → Fields s at fs → Each s fs → (most : ℕ) → length s - at < most → events_from most at (drop at s) ≡ fields fs
unfolding Each events_from
walk_back (none l) each zero m = absurd (omega arith)
walk_back {s} (none {at} l) each (suc most) m = let e : length (drop at s) ≡ 0 = simp length-drop (omega arith) in rw e
walk_back (first y z) each zero m = absurd (omega arith)
walk_back {s} (first {at} {f} {fs} y z) each (suc most) m =
    let w = walk_seen s at f y in
    let own : event_stands f.tag (value_of s f) ≡ true = each f (Memᴰ.head refl) in
    let value : front_value (drop at s) ≡ value_of s f = rw (w.len, drop-drop, ← y.start) in
    let front : front_stands (drop at s) ≡ true = rw (w.whole, value, w.tag, own) in
    let ih : events_from most (at + (f.len + 3)) (drop (at + (f.len + 3)) s) ≡ fields fs =
    walk_back z (λ g among. each g (Memᴰ.tail among)) most (omega (arith, y.start, y.within)) in
    rw (front, w.tag, w.len, drop-drop, ih) (λ i. fields (record { tag = f.tag; start = sym y.start i; len = f.len } ∷ fs))

pub events_walk_of : (s : List ℕ) (fs : List FieldAt) → Fields s 0 fs → ((f : FieldAt) → Memᴰ f fs → event_stands f.tag (value_of s f) ≡ true) → events_walk s ≡ fields fs
unfolding Each
events_walk_of s fs follow each = walk_back follow each (length s + 1) (omega arith)

-- tags and values are found alike, wherever the bytes stand
same_parts : (most other_most : ℕ) (r s t : List ℕ) (at other_at : ℕ) → drop at s ≡ r → drop other_at t ≡ r → length r < most → length r < other_most →
    parts_of s (fields_from most at r) ≡ parts_of t (fields_from other_most other_at r)
unfolding fields_from
same_parts zero other_most r s t at other_at a b m n = absurd (omega arith)
same_parts (suc most) zero r s t at other_at a b m n = absurd (omega arith)
same_parts (suc most) (suc other_most) r s t at other_at a b m n =
    by_test (λ fs. parts_of s fs ≡ parts_of t (cond (whole_field r) (found other_at ∷ later other_most other_at) [])) (whole_field r) (found at ∷ later most at) []
    (λ whole.
    let ends = whole_ends r whole in
    let short : length (drop (length_at r + 3) r) + 3 ≤ length r = omega (arith, length-drop (length_at r + 3) r) in
    let others : parts_of s (later most at) ≡ parts_of t (later other_most other_at) =
    same_parts most other_most (drop (length_at r + 3) r) s t (at + (length_at r + 3)) (other_at + (length_at r + 3)) (rest at s a) (rest other_at t b) (omega arith) (omega arith) in
    rw whole (ap₂ ◌∷◌ (ap (λ v. (get_or r 0 0, v)) (value at s a ∙ sym (value other_at t b))) others))
    (λ whole. rw whole)
  where
    found : ℕ → FieldAt
    found start = record { tag = get_or r 0 0; start = start + 3; len = length_at r }

    later : ℕ → ℕ → List FieldAt
    later most start = fields_from most (start + (length_at r + 3)) (drop (length_at r + 3) r)

    value : (start : ℕ) (x : List ℕ) → drop start x ≡ r → value_of x (found start) ≡ take (length_at r) (drop 3 r)
    value start x e = ap (take (length_at r)) (sym (drop-drop 3 start x) ∙ ap (drop 3) e)

    rest : (start : ℕ) (x : List ℕ) → drop start x ≡ r → drop (start + (length_at r + 3)) x ≡ drop (length_at r + 3) r
    rest start x e = sym (drop-drop (length_at r + 3) start x) ∙ ap (drop (length_at r + 3)) e

-- The events of a file at whose front one stands are it, and those of the rest after it.
pub next_events : (s : List ℕ) → front_stands s ≡ true → events_of s ≡ event_of (get_or s 0 0) (front_value s) ∷ events_of (drop (length_at s + 3) s)
unfolding events_of fields_from
next_events s front =
    let whole = (front_whole s front).0 in
    let rest = drop (length_at s + 3) s in
    let later : parts_of s (fields_from (length s) (0 + (length_at s + 3)) rest) ≡ parts_of rest (fields_of rest) =
    same_parts (length s) (length rest + 1) rest s rest (0 + (length_at s + 3)) 0 (ap (λ n. drop n s) (zero-add (length_at s + 3))) refl
    (omega (arith, length-drop (length_at s + 3) s, whole_ends s whole)) (omega arith) in
    rw (add-one (length s), whole) (ap (λ parts. event_of (get_or s 0 0) (take (length_at s) (drop 3 s)) ∷ map (λ part. event_of part.0 part.1) parts) later)
