-- The values of the fields with one tag, as far as the loop over the fields has come.
use Prim.Native.Nat.{ℕ, suc, ◌+◌, ◌<◌, ◌≤◌}
use mathlib.Core.Path.{◌≡◌, refl, sym, ap, ap₂, subst, ◌∙◌}
use mathlib.Core.List.{List, [], ◌∷◌, ◌++◌, append_assoc, append-nil, Memᴰ}
use native.Mathlib.Omega.{arith}
use lib.ListN.{length, get_or, set, drop, length-append, length-take, length-drop}
use Rattle.std.specs.Prelude.{true, false}
use Rattle.std.specs.Borrow.{Bor}
use mathlib.Core.Bool.{true≢false}
use Rattle.field_walk.specs.Walk.{FieldAt, value_of}
use Rattle.field_walk.specs.FieldsWalk.{FieldsWalk}
use Rattle.tagged.specs.Find.{fields_of, fields_with, whole_field, part_of}
use Rattle.tagged.specs.Parts.{value_place, rest_place, NextField}
use Rattle.tagged.specs.declared.find.Field.{Field}
use Rattle.tagged.proofs.Theorems.FieldsWith.{with_this, with_past}
use Rattle.tagged.specs.WalkRelations.{Fields, none, first}
use Rattle.tagged.proofs.Theorems.Walk.{walk_fields}
use Rattle.tagged.specs.FoundFields.{Next}
use Rattle.tagged.proofs.Theorems.FoundFields.{walk_next, walk_more, walk_fields_of}
use Rattle.ledger.specs.Limits.{most_entries}
use Rattle.ledger.specs.Lists.{at_start}
use Rattle.stored.proofs.Theorems.Layout.{at_start_one_more}
use Rattle.stored.specs.Numbered.{numbered_from}
use Rattle.stored.specs.Form.{each_with}

-- of these fields, those with this tag have values of that length
abbrev pub SizedWith : ℕ → ℕ → List FieldAt → Type 0
SizedWith tag size fs = (f : FieldAt) → Memᴰ f fs → f.tag ≡ tag → f.len ≡ size

-- `done` is what was read of the fields passed, and stands in the first places of `table`; `fs` are the fields of the rest.
-- In all no more are read than there are places.
pub record Collected {A : Type 0} (read : ℕ → List ℕ → A) (tag size : ℕ) (s : List ℕ) (none table : List A) (count : ℕ) (rest : List ℕ) : Type 0 where
  pub at : ℕ
  pub fs : List FieldAt
  pub done : List A
  pub rest_is : rest ≡ drop at s
  pub fields : Fields s at fs
  pub sized : SizedWith tag size fs
  pub all : each_with read 1 tag s (fields_of s) ≡ done ++ each_with read (suc (length done)) tag s fs
  pub table_is : table ≡ at_start done none
  pub count_is : count ≡ length done
  pub few : length (each_with read 1 tag s (fields_of s)) ≤ most_entries
  pub places : length (each_with read 1 tag s (fields_of s)) ≤ length none

-- a whole field has bytes
whole_has : (s : List ℕ) → whole_field s ≡ true → 0 < length s
whole_has [] e = absurd (true≢false (sym e))
whole_has (x ∷ s) e = omega arith

-- at the end of the fields no whole one stands, and elsewhere one does
none_left : {s : List ℕ} {at : ℕ} {fs : List FieldAt} → Fields s at fs → whole_field (drop at s) ≡ false → fs ≡ []
none_left (none l) e = refl
none_left (first x r) e = absurd (true≢false (sym (walk_next (first x r)).seen.whole ∙ e))

one_left : {s : List ℕ} {at : ℕ} {fs : List FieldAt} → Fields s at fs → whole_field (drop at s) ≡ true →
    (f : FieldAt) × (others : List FieldAt) × (fs ≡ f ∷ others)
one_left {s} {at} left e = walk_more left (omega (arith, length-drop at s, whole_has (drop at s) e))

module _ {A : Type 0} {read : ℕ → List ℕ → A} {tag size : ℕ} {s : List ℕ} {none : List A} where
  pub collect_starts : (rows : List (List ℕ)) → FieldsWalk rows s → SizedWith tag size (fields_of s) →
      length (each_with read 1 tag s (fields_of s)) ≤ most_entries → length (each_with read 1 tag s (fields_of s)) ≤ length none →
      Collected read tag size s none none 0 s
  collect_starts rows (fs, walks) sized few places =
      record {
        at = 0;
        fs = fields_of s;
        done = [];
        rest_is = refl;
        fields = subst (Fields s 0) (sym (walk_fields_of rows s fs walks)) (walk_fields rows s fs walks);
        sized = sized;
        all = refl;
        table_is = refl;
        count_is = refl;
        few = few;
        places = places;
      }

  module _ {table : List A} {count : ℕ} {rest : List ℕ} (so_far : Collected read tag size s none table count rest) where
    pub collect_ends : whole_field rest ≡ false →
        (table ≡ at_start (each_with read 1 tag s (fields_of s)) none) × (count ≡ length (each_with read 1 tag s (fields_of s)))
    unfolding fields_with
    collect_ends end =
        let over = none_left so_far.fields (ap whole_field (sym so_far.rest_is) ∙ end) in
        let all : each_with read 1 tag s (fields_of s) ≡ so_far.done =
        so_far.all ∙ ap (λ fs. so_far.done ++ each_with read (suc (length so_far.done)) tag s fs) over ∙ append-nil so_far.done in
        (so_far.table_is ∙ ap (λ done. at_start done none) (sym all), so_far.count_is ∙ ap length (sym all))

  module _ {table : List A} {count : ℕ} {rest : Bor (List ℕ)} {field : Field}
      (so_far : Collected read tag size s none table count rest.now) (next : NextField rest field) where
    -- the field of the file that is next
    front : (f : FieldAt) × (others : List FieldAt) × (so_far.fs ≡ f ∷ others)
    front = one_left so_far.fields (ap whole_field (sym so_far.rest_is) ∙ next.whole)

    abbrev f : FieldAt
    f = front.0

    abbrev others : List FieldAt
    others = front.1

    stands : Next s so_far.at f others
    stands = walk_next (subst (Fields s so_far.at) front.2 so_far.fields)

    its_tag : field.tag ≡ f.tag
    its_tag = next.tag ∙ ap (λ l. get_or l 0 0) so_far.rest_is ∙ stands.seen.tag

    its_value : field.value.now ≡ value_of s f
    its_value = next.value.bytes ∙ ap (λ l. part_of (value_place l) l) so_far.rest_is ∙ stands.seen.value

    after : field.rest.now ≡ drop (so_far.at + (f.len + 3)) s
    after = next.rest.bytes ∙ ap (λ l. part_of (rest_place l) l) so_far.rest_is ∙ stands.seen.rest

    sized_after : SizedWith tag size others
    sized_after g among = so_far.sized g (subst (Memᴰ g) (sym front.2) (Memᴰ.tail among))

    -- a field with another tag is passed by
    pub collect_passes : (field.tag ≡ tag → ⊥) → Collected read tag size s none table count field.rest.now
    collect_passes other =
        let past : fields_with tag so_far.fs ≡ fields_with tag others =
        ap (fields_with tag) front.2 ∙ with_past tag f others (λ same. other (its_tag ∙ same)) in
        record {
          at = so_far.at + (f.len + 3);
          fs = others;
          done = so_far.done;
          rest_is = after;
          fields = stands.rest;
          sized = sized_after;
          all = so_far.all ∙ ap (λ fs. so_far.done ++ numbered_from (suc (length so_far.done)) (λ k g. read k (value_of s g)) fs) past;
          table_is = so_far.table_is;
          count_is = so_far.count_is;
          few = so_far.few;
          places = so_far.places;
        }

    -- a field with this tag: its value is as long as it must be, there is a place left, and it goes there
    module _ (here : field.tag ≡ tag) where
      pub collect_sized : length field.value.now ≡ size
      collect_sized =
          let long : f.len ≡ size = so_far.sized f (subst (Memᴰ f) (sym front.2) (Memᴰ.head refl)) (sym its_tag ∙ here) in
          ap length its_value ∙ simp (length-take, length-drop) (omega (arith, stands.stands.within))

      abbrev place : ℕ
      place = suc (length so_far.done)

      all_here : each_with read 1 tag s (fields_of s) ≡ so_far.done ++ (read place (value_of s f) ∷ each_with read (suc place) tag s others)
      all_here =
          so_far.all
          ∙ ap (λ fs. so_far.done ++ numbered_from place (λ k g. read k (value_of s g)) fs)
          (ap (fields_with tag) front.2 ∙ with_this tag f others (sym its_tag ∙ here))

      pub collect_room : (count < length none) × (count < most_entries)
      collect_room =
          let more : count < length (each_with read 1 tag s (fields_of s)) =
          omega (arith, so_far.count_is, ap length all_here, length-append so_far.done (read place (value_of s f) ∷ each_with read (suc place) tag s others)) in
          (omega (arith, so_far.places), omega (arith, so_far.few))

      pub collect_one_more : Collected read tag size s none (set table count (read (count + 1) field.value.now)) (count + 1) field.rest.now
      collect_one_more =
          let element = read place (value_of s f) in
          let room : length so_far.done < length none = omega (arith, collect_room.0, so_far.count_is) in
          let next : length (so_far.done ++ (element ∷ [])) ≡ place = omega (arith, length-append so_far.done (element ∷ [])) in
          let here_is : count + 1 ≡ place = omega (arith, so_far.count_is) in
          record {
            at = so_far.at + (f.len + 3);
            fs = others;
            done = so_far.done ++ (element ∷ []);
            rest_is = after;
            fields = stands.rest;
            sized = sized_after;
            all =
                all_here ∙ sym (append_assoc so_far.done (element ∷ []) (each_with read (suc place) tag s others))
                ∙ ap (λ n. (so_far.done ++ (element ∷ [])) ++ each_with read (suc n) tag s others) (sym next);
            table_is =
                ap₂ (λ k value. set table count (read k value)) here_is its_value ∙ ap₂ (λ l k. set l k element) so_far.table_is so_far.count_is
                ∙ at_start_one_more so_far.done none element room;
            count_is = omega (arith, so_far.count_is, next);
            few = so_far.few;
            places = so_far.places;
          }
