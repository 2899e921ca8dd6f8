-- Two tables, of which one goes on wherever the other does: its walk gives the same fields, or stops no earlier.
use Prim.Native.Nat.{ℕ, zero, suc, ◌+◌, ◌<◌, ◌≤◌}
use Rattle.std.specs.Prelude.{◌≡◌, Bool, true, false, cond, length, take, drop, ltb, leb, eqb, Some, None}
use Rattle.std.proofs.Math.Path.{refl, subst}
use Rattle.std.proofs.Common.{sym, ap, ◌∙◌, ⊎_elim, get_or-drop, get_or-take, drop-drop}
use mathlib.Core.List.{List, [], ◌∷◌, ◌++◌, map, append-nil, Memᴰ}
use mathlib.Mathlib.Data.Bool.Basic.{dichotomy}
use native.Mathlib.Omega.{arith}
use Rattle.std.proofs.Math.ListN.{get_or}
use borrow.Author.Tests.{le-ltb, ne_eqb}
use Rattle.field_walk.specs.Walk.{Due, tag_of, least_of, most_of, permitted_by, due_from, all_had, length_at, field_of, front_of, FieldAt, Walk, fields, stops, and_then, on_front, walk_from, walk_by}
use Rattle.field_walk.specs.declared.walk.Front.{Front}
use Rattle.field_walk.specs.declared.walk.Front.TheVariants.{End, Field, CannotStand}
use Rattle.tagged.specs.Find.{fields_from, fields_of, first_with, first_place}
use Rattle.tagged.proofs.Theorems.Impossible.{impossible}

by_cases : {A : Type 0} (b : Bool) → (b ≡ false → A) → (b ≡ true → A) → A
by_cases b if_false if_true = ⊎_elim if_false if_true (dichotomy b)

-- rows that say the same
pub record Alike (row other : List ℕ) : Type 0 where
  pub tag : tag_of other ≡ tag_of row
  pub least : least_of other ≡ least_of row
  pub most : most_of other ≡ most_of row
  pub permitted : (len : ℕ) → permitted_by other len ≡ permitted_by row len

-- by fields with tags of this sort, the other rows go on wherever these do
pub data GoesOn (Tag : ℕ → Type 0) : List (List ℕ) → List (List ℕ) → Type 0 where
  no_more : {rows others : List (List ℕ)} → ((k n tag : ℕ) → Tag tag → due_from rows k n tag ≡ None) →
      ((n : ℕ) → all_had rows n ≡ true → all_had others n ≡ true) → GoesOn Tag rows others
  alike : {row other : List ℕ} {rows others : List (List ℕ)} → Alike row other → GoesOn Tag rows others → GoesOn Tag (row ∷ rows) (other ∷ others)

-- a walk, and one that goes at least as far
abbrev pub Further : Walk → Walk → Type 0
Further (fields fs) other = other ≡ fields fs
Further (stops at) (fields fs) = Unit {0}
Further (stops at) (stops at') = at ≤ at'

pub further_both : (one other : Walk) → Further one other → Further other one → one ≡ other
further_both (fields fs) other a b = sym a
further_both (stops at) (fields fs) a b = b
further_both (stops at) (stops at') a b = let same : at ≡ at' = omega arith in ap stops same

-- every field that the search sees has a tag of this sort
abbrev TagsFrom : (ℕ → Type 0) → ℕ → ℕ → List ℕ → Type 0
TagsFrom Tag most at s = (f : FieldAt) → Memᴰ f (fields_from most at s) → Tag f.tag

abbrev pub TagsOf : (ℕ → Type 0) → List ℕ → Type 0
TagsOf Tag s = (f : FieldAt) → Memᴰ f (fields_of s) → Tag f.tag

-- a tag that no field has is found nowhere
pub found_nowhere : (tag : ℕ) (s : List ℕ) → TagsOf (λ other. other ≡ tag → ⊥) s → first_place tag s ≡ None
unfolding first_with
found_nowhere tag s others = among (fields_of s) others
  where
    among : (fs : List FieldAt) → ((f : FieldAt) → Memᴰ f fs → f.tag ≡ tag → ⊥) → first_with tag fs ≡ None
    among [] other = refl
    among (f ∷ fs) other = rw (ne_eqb f.tag tag (other f (Memᴰ.head refl))) (among fs (λ g i. other g (Memᴰ.tail i)))

-- a walk stops no earlier than it starts
abbrev From : ℕ → Walk → Type 0
From at (fields fs) = Unit {0}
From at (stops at') = at ≤ at'

then_from : (at len : ℕ) (f : FieldAt) (w : Walk) → From (at + len) w → From at (and_then f w)
then_from at len f (fields fs) h = tt
then_from at len f (stops at') h = omega arith

front_from : (front : Front) (at : ℕ) (here : ℕ → FieldAt) (next : ℕ → ℕ → ℕ → Walk) → ((k n len : ℕ) → From (at + (len + 3)) (next k n len)) →
    From at (on_front front at (λ k n len. and_then (here len) (next k n len)))
front_from End at here next h = tt
front_from (Field k n len) at here next h = then_from at (len + 3) (here len) (next k n len) (h k n len)
front_from CannotStand at here next h = omega arith

walk_from_lem : (most : ℕ) (rows : List (List ℕ)) (k n at : ℕ) (s : List ℕ) → From at (walk_from most rows k n at s)
unfolding walk_from
walk_from_lem zero rows k n at s = omega arith
walk_from_lem (suc most) rows k n at s =
    front_from (front_of rows k n s) at (λ len. record { tag = get_or s 0 0; start = at + 3; len = len })
    (λ k' n' len. walk_from most rows k' n' (at + (len + 3)) (drop (len + 3) s))
    (λ k' n' len. walk_from_lem most rows k' n' (at + (len + 3)) (drop (len + 3) s))

further_from : (at : ℕ) (w : Walk) → From at w → Further (stops at) w
further_from at (fields fs) h = tt
further_from at (stops at') h = h

then_further : (f : FieldAt) (w other : Walk) → Further w other → Further (and_then f w) (and_then f other)
then_further f (fields fs) other h = ap (and_then f) h
then_further f (stops at) (fields fs) h = tt
then_further f (stops at) (stops at') h = h

part_cannot : (due : Due) (rows : List (List ℕ)) (s : List ℕ) → leb (length_at s + 3) (length s) ≡ false → field_of due rows s ≡ CannotStand
part_cannot None rows s part = refl
part_cannot (Some (k, n)) rows s part = by_cases (permitted_by (get_or rows k []) (length_at s)) (λ p. rw (p)) (λ p. rw (p, part))

module _ (Tag : ℕ → Type 0) where
  -- the row that is due by the rows is due by the others too
  abbrev DueFollows : List (List ℕ) → List (List ℕ) → ℕ → Due → Due → Type 0
  DueFollows rows others k None other = Unit {0}
  DueFollows rows others k (Some (k', n')) other =
      (i : ℕ) × (k' ≡ k + i) × (other ≡ Some (k', n')) × ((len : ℕ) → permitted_by (get_or others i []) len ≡ permitted_by (get_or rows i []) len) ×
      GoesOn Tag (drop i rows) (drop i others)

  due_follows : {rows others : List (List ℕ)} → GoesOn Tag rows others → (k n tag : ℕ) → Tag tag →
      DueFollows rows others k (due_from rows k n tag) (due_from others k n tag)
  unfolding due_from
  due_follows (no_more never ends) k n tag t = rw (never k n tag t) tt
  due_follows (alike {row} {other} {rows} {others} same g) k n tag t =
      rw (same.tag, same.least, same.most)
      (by_cases (eqb (tag_of row) tag)
      (λ past. by_cases (ltb n (least_of row))
      (λ had. rw (past, had) (later (due_from rows (k + 1) 0 tag) (due_from others (k + 1) 0 tag) (due_follows g (k + 1) 0 tag t)))
      (λ due. rw (past, due) tt))
      (λ here. by_cases (ltb n (most_of row))
      (λ many. rw (here, many) tt)
      (λ few. rw (here, few) (0, omega arith, refl, same.permitted, alike same g))))
    where
      later : (d x : Due) → DueFollows rows others (k + 1) d x → DueFollows (row ∷ rows) (other ∷ others) k d x
      later None x h = tt
      later (Some (k', n')) x h = (suc h.0, omega (arith, h.1), h.2, h.3, h.4)

  ends_follow : {rows others : List (List ℕ)} → GoesOn Tag rows others → (n : ℕ) → all_had rows n ≡ true → all_had others n ≡ true
  unfolding all_had
  ends_follow (no_more never ends) n h = ends n h
  ends_follow (alike {row} {other} {rows} {others} same g) n h =
      rw same.least (by_cases (ltb n (least_of row)) (λ had. rw had (ends_follow g 0 (rw had at h))) (λ due. impossible (cc)))

  goes_further_from : (most : ℕ) (rows others : List (List ℕ)) (k n at : ℕ) (s : List ℕ) → GoesOn Tag (drop k rows) (drop k others) → TagsFrom Tag most at s →
      Further (walk_from most rows k n at s) (walk_from most others k n at s)
  unfolding walk_from front_of fields_from
  goes_further_from zero rows others k n at s g tags = omega arith
  goes_further_from (suc most) rows others k n at s g tags =
      by_cases (eqb (length s) 0)
      (λ some. by_cases (ltb (length s) 3)
      (λ three. by_cases (leb (length_at s + 3) (length s))
      (λ part. rw (some, three, part_cannot _ rows s part, part_cannot _ others s part) (omega arith))
      (λ fits. rw (some, three)
      (by_due (due_from (drop k rows) k n (get_or s 0 0)) (due_from (drop k others) k n (get_or s 0 0)) fits
      (due_follows g k n (get_or s 0 0) (tags (here (length_at s)) (rw (three, fits) (Memᴰ.head refl))))
      (λ k' n' g'. goes_further_from most rows others k' n' (at + (length_at s + 3)) (drop (length_at s + 3) s) g'
      (λ f i. tags f (rw (three, fits) (Memᴰ.tail i)))))))
      (λ few. rw (some, few) (omega arith)))
      (λ z. rw z (by_end (all_had (drop k rows) n) (all_had (drop k others) n) (ends_follow g n)))
    where
      here : ℕ → FieldAt
      here len = record { tag = get_or s 0 0; start = at + 3; len = len }

      on : List (List ℕ) → ℕ → ℕ → ℕ → Walk
      on table k' n' len = walk_from most table k' n' (at + (len + 3)) (drop (len + 3) s)

      front : List (List ℕ) → Front → Walk
      front table x = on_front x at (λ k' n' len. and_then (here len) (on table k' n' len))

      by_end : (had had' : Bool) → (had ≡ true → had' ≡ true) → Further (front rows (cond had End CannotStand)) (front others (cond had' End CannotStand))
      by_end true had' h = rw (h refl) refl
      by_end false true h = tt
      by_end false false h = omega arith

      by_due : (d x : Due) → leb (length_at s + 3) (length s) ≡ true → DueFollows (drop k rows) (drop k others) k d x →
          ((k' n' : ℕ) → GoesOn Tag (drop k' rows) (drop k' others) → Further (on rows k' n' (length_at s)) (on others k' n' (length_at s))) →
          Further (front rows (field_of d rows s)) (front others (field_of x others s))
      by_due None x fits follows later =
          further_from at (front others (field_of x others s))
          (front_from (field_of x others s) at here (on others) (λ k' n' len. walk_from_lem most others k' n' (at + (len + 3)) (drop (len + 3) s)))
      by_due (Some (k', n')) x fits (i, is, same, permits, g') later =
          let row_of : (table : List (List ℕ)) → get_or table k' [] ≡ get_or (drop k table) i [] =
          λ table. ap (λ j. get_or table j []) is ∙ sym (get_or-drop k table i []) in
          let rows_of : (table : List (List ℕ)) → drop k' table ≡ drop i (drop k table) = λ table. ap (λ j. drop j table) is ∙ sym (drop-drop i k table) in
          rw (same, row_of rows, row_of others, permits (length_at s))
          (by_cases (permitted_by (get_or (drop k rows) i []) (length_at s))
          (λ p. rw p (omega arith))
          (λ p. rw (p, fits) (then_further (here (length_at s)) (on rows k' n' (length_at s)) (on others k' n' (length_at s)) (later k' n' (rw (rows_of rows, rows_of others) g')))))

  pub goes_further : (rows others : List (List ℕ)) → GoesOn Tag rows others → (s : List ℕ) → TagsOf Tag s → Further (walk_by rows s) (walk_by others s)
  goes_further rows others g s tags = goes_further_from (length s + 1) rows others 0 0 0 s g tags

-- ---- rows that agree in what they permit go on alike
alike_numbers : (row other : List ℕ) → take 6 row ≡ take 6 other → Alike row other
alike_numbers row other same =
    record {
      tag = number_of 0 (omega arith);
      least = number_of 4 (omega arith);
      most = number_of 5 (omega arith);
      permitted = λ len. rw (number_of 1 (omega arith), number_of 2 (omega arith), number_of 3 (omega arith));
    }
  where
    number_of : (i : ℕ) → i < 6 → get_or other i 0 ≡ get_or row i 0
    number_of i h = sym (get_or-take 6 other i 0 h) ∙ ap (λ l. get_or l i 0) (sym same) ∙ get_or-take 6 row i 0 h

pub goes_on_after : {Tag : ℕ → Type 0} {rows others : List (List ℕ)} (front front' : List (List ℕ)) → map (take 6) front ≡ map (take 6) front' →
    GoesOn Tag rows others → GoesOn Tag (front ++ rows) (front' ++ others)
goes_on_after [] [] same g = g
goes_on_after [] (row ∷ rows) same g = absurd (omega (arith, ap length same))
goes_on_after (row ∷ rows) [] same g = absurd (omega (arith, ap length same))
goes_on_after (row ∷ rows) (other ∷ others) same g =
    alike (alike_numbers row other (ap (λ l. get_or l 0 []) same)) (goes_on_after rows others (ap (drop 1) same) g)

-- A last row that permits no field changes no walk, nor does the form that a row is of.
module _ (rows others : List (List ℕ)) (same : map (take 6) rows ≡ map (take 6) others) (absent : List ℕ) (least : least_of absent ≡ 0) (most : most_of absent ≡ 0) where
  never_due : (k n tag : ℕ) → due_from (absent ∷ []) k n tag ≡ None
  unfolding due_from
  never_due k n tag =
      rw (least, most, le-ltb n 0 (omega arith)) (by_cases (eqb (tag_of absent) tag) (λ e. rw e) (λ e. rw e))

  not_missing : (n : ℕ) → all_had (absent ∷ []) n ≡ true
  unfolding all_had
  not_missing n = rw (least, le-ltb n 0 (omega arith))

  pub walk_without_last : (s : List ℕ) → walk_by (others ++ (absent ∷ [])) s ≡ walk_by rows s
  unfolding due_from all_had
  walk_without_last s =
      subst (λ table. walk_by (others ++ (absent ∷ [])) s ≡ walk_by table s) (append-nil rows)
      (further_both (walk_by (others ++ (absent ∷ [])) s) (walk_by (rows ++ []) s)
      (goes_further (λ tag. Unit {0}) (others ++ (absent ∷ [])) (rows ++ [])
      (goes_on_after others rows (sym same) (no_more (λ k n tag t. never_due k n tag) (λ n h. refl))) s (λ f i. tt))
      (goes_further (λ tag. Unit {0}) (rows ++ []) (others ++ (absent ∷ []))
      (goes_on_after rows others same (no_more (λ k n tag t. refl) (λ n h. not_missing n))) s (λ f i. tt)))
