-- Document 02, E6: "(Both forms in one file, or neither, is 1, at the second form or at the place where the first was due if the rest walks.)"
use Rattle.std.specs.Prelude.{ℕ, zero, suc, ◌+◌, ◌-◌, ◌<◌, ◌≤◌, ◌≡◌, refl, Bool, true, false, cond, length, get_or, take, drop, ltb, eqb, Err, None, Some}
use Rattle.std.proofs.Common.{sym, ap, ◌∙◌, subst, ⊎_elim, arith, add-zero, length-drop, get_or-drop, drop-drop, lit≤, lt-ltb, le-ltb, le-leb, eq-eqb, ne_eqb}
use mathlib.Core.List.Memᴰ
use mathlib.Core.List.{List, [], ◌∷◌, ◌++◌, Memᴰ, append-nil}
use Rattle.field_walk.specs.Walk.{tag_of, least_of, most_of, permitted_by, due_from, all_had, front_of, FieldAt, fields, stops, walk_from, first_form, second_form, neither_form, rows_in, walk_by, walk}
use Rattle.tagged.specs.Refusals.{file_does_not_walk}
use Rattle.tagged.specs.File.{tail_stands, check_stands, fields_part, refusal, of_walk, file_answer}
use Rattle.tagged.specs.Find.{place_at, first_with, start_of, field_start}
use Rattle.tagged.specs.RisingTags.{rising_tags, tags_above}
use Rattle.tagged.specs.WalkRelations.{Stand, end, next_row, field, Fields, none, first}
use Rattle.tagged.proofs.Theorems.File.{walk_decides}
use Rattle.tagged.proofs.Theorems.FoundFields.{walk_seen, rising_rest, Fields-found}
use Rattle.tagged.proofs.Theorems.Impossible.{impossible}
use Rattle.tagged.proofs.Theorems.Walk.{both_hold}
use Rattle.tagged.proofs.Theorems.WalkEncoded.{Stand-above, walk_of_fields}
use Rattle.book_zones.specs.BookRows.{book_rows}
use Rattle.request.specs.RequestRows.{request_rows}

-- ---- fields that stand by the rows, up to one that can't

-- the rest can't go on by these rows, where n fields of the first row have come
Stuck : List (List ℕ) → ℕ → List FieldAt → Type 0
Stuck rows n [] = all_had rows n ≡ false
Stuck rows n (f ∷ fs) = (k : ℕ) → due_from rows k n f.tag ≡ None

data UpTo : List (List ℕ) → ℕ → List FieldAt → List FieldAt → Type 0 where
  stuck : {rows : List (List ℕ)} {n : ℕ} {rest : List FieldAt} → Stuck rows n rest → UpTo rows n [] rest
  past : {row : List ℕ} {rows : List (List ℕ)} {n : ℕ} {f : FieldAt} {mine rest : List FieldAt} → least_of row ≤ n → UpTo rows 0 (f ∷ mine) rest →
      UpTo (row ∷ rows) n (f ∷ mine) rest
  one : {row : List ℕ} {rows : List (List ℕ)} {n : ℕ} {f : FieldAt} {mine rest : List FieldAt} → f.tag ≡ tag_of row → permitted_by row f.len ≡ true →
      n < most_of row → UpTo (row ∷ rows) (n + 1) mine rest → UpTo (row ∷ rows) n (f ∷ mine) rest

UpTo-above : {rows : List (List ℕ)} {n : ℕ} {f : FieldAt} {mine rest : List FieldAt} → UpTo rows n (f ∷ mine) rest → (tag : ℕ) → tags_above tag rows ≡ true → tag < f.tag
UpTo-above (past {row} {rows} l x) tag e = let h = both_hold tag (tag_of row) (rising_tags (row ∷ rows)) e in omega (arith, h.0, UpTo-above x (tag_of row) h.1)
UpTo-above (one {row} {rows} t p l x) tag e = omega (arith, t, (both_hold tag (tag_of row) (rising_tags (row ∷ rows)) e).0)

record DueAt (rows : List (List ℕ)) (k n : ℕ) (f : FieldAt) (mine rest : List FieldAt) : Type 0 where
  i : ℕ
  n' : ℕ
  due : due_from rows k n f.tag ≡ Some (k + i, n')
  permitted : permitted_by (get_or rows i []) f.len ≡ true
  on : UpTo (drop i rows) n' mine rest
  rising : rising_tags (drop i rows) ≡ true

is_due : {rows : List (List ℕ)} {n : ℕ} {f : FieldAt} {mine rest : List FieldAt} → UpTo rows n (f ∷ mine) rest → rising_tags rows ≡ true → (k : ℕ) → DueAt rows k n f mine rest
unfolding due_from
is_due {n} {f} (past {row} {rows} l x) r k =
    let h = is_due x (rising_rest (tag_of row) rows r) (k + 1) in
    let place : k + 1 + h.i ≡ k + suc h.i = omega arith in
    let other : eqb (tag_of row) f.tag ≡ false = ne_eqb (tag_of row) f.tag (λ e. omega (arith, UpTo-above x (tag_of row) r)) in
    record { i = suc h.i; n' = h.n'; due = rw (other, le-ltb _ _ l, h.due, place); permitted = h.permitted; on = h.on; rising = h.rising }
is_due {n} (one t p l x) r k = record { i = 0; n' = n + 1; due = rw (eq-eqb _ _ (sym t), lt-ltb _ _ l, add-zero); permitted = p; on = x; rising = r }

stuck_here : {rows : List (List ℕ)} {n : ℕ} {rest : List FieldAt} → UpTo rows n [] rest → Stuck rows n rest
stuck_here (stuck x) = x

-- where such fields end
place_after : ℕ → List FieldAt → ℕ
place_after at [] = at
place_after at (f ∷ fs) = place_after (at + (f.len + 3)) fs

walk_up_to : (rows : List (List ℕ)) {s : List ℕ} (mine : List FieldAt) {at : ℕ} {rest : List FieldAt} → Fields s at (mine ++ rest) → (most k n : ℕ) → length s - at < most →
    UpTo (drop k rows) n mine rest → rising_tags (drop k rows) ≡ true → walk_from most rows k n at (drop at s) ≡ stops (place_after at mine)
unfolding walk_from front_of Stuck place_after
walk_up_to rows mine y zero k n m x r = absurd (omega arith)
walk_up_to rows {s} [] {at} (none l) (suc most) k n m x r =
    let e : length (drop at s) ≡ 0 = simp length-drop (omega arith) in
    rw (eq-eqb _ _ e, stuck_here x)
walk_up_to rows {s} [] {at} (first {f = f} y z) (suc most) k n m x r =
    let w = walk_seen s at f y in
    let some : eqb (length (drop at s)) 0 ≡ false = ne_eqb (length (drop at s)) 0 (λ e. omega (arith, w.ends)) in
    rw (some, le-ltb (length (drop at s)) 3 (omega (arith, w.ends)), w.tag, stuck_here x k)
walk_up_to rows {s} (f ∷ mine) {at} (first y z) (suc most) k n m x r =
    let d = is_due x r k in
    let k' = k + d.i in
    let ih : walk_from most rows k' d.n' (at + (f.len + 3)) (drop (at + (f.len + 3)) s) ≡ stops (place_after (at + (f.len + 3)) mine) =
    walk_up_to rows mine z most k' d.n' (omega (arith, y.start, y.within)) (rw drop-drop at d.on) (rw drop-drop at d.rising) in
    let w = walk_seen s at f y in
    let permitted : permitted_by (get_or rows k' []) f.len ≡ true = rw get_or-drop at d.permitted in
    let some : eqb (length (drop at s)) 0 ≡ false = ne_eqb (length (drop at s)) 0 (λ e. omega (arith, w.ends)) in
    rw (some, le-ltb (length (drop at s)) 3 (omega (arith, w.ends)), w.tag, d.due, w.len, permitted, le-leb _ _ w.ends, drop-drop, ih)

-- ---- the fields of a file, cut where rows that its fields don't stand by first say no
record Cut (Rest : List FieldAt → Type 0) (tag : ℕ) (rows : List (List ℕ)) (n : ℕ) (fs : List FieldAt) : Type 0 where
  mine : List FieldAt
  rest : List FieldAt
  are : fs ≡ mine ++ rest
  up_to : UpTo rows n mine rest
  earlier : (g : FieldAt) → Memᴰ g mine → g.tag < tag
  what : Rest rest

-- every row's tag is below this one
abbrev below : ℕ → List (List ℕ) → Bool
below tag [] = true
below tag (row ∷ rows) = cond (ltb (tag_of row) tag) (below tag rows) false

-- a row that is past doesn't let the rest go on
stuck_past : (row : List ℕ) (rows : List (List ℕ)) (n : ℕ) (fs : List FieldAt) → least_of row ≤ n → ((f : FieldAt) (others : List FieldAt) → fs ≡ f ∷ others → tag_of row < f.tag) →
    Stuck rows 0 fs → Stuck (row ∷ rows) n fs
unfolding Stuck all_had due_from
stuck_past row rows n [] l above x = rw (le-ltb n (least_of row) l) x
stuck_past row rows n (f ∷ fs) l above x =
    λ k. let over : tag_of row < f.tag = above f fs refl in rw (ne_eqb (tag_of row) f.tag (λ e. omega (arith, over)), le-ltb n (least_of row) l) (x (k + 1))

module _ (Rest : List FieldAt → Type 0) (tag : ℕ) (rows others : List (List ℕ)) (here : (fs : List FieldAt) → Stand rows 0 fs → Stuck others 0 fs × Rest fs) where
  cut_here : (n : ℕ) (fs : List FieldAt) → n ≡ 0 → Stand rows n fs → Cut Rest tag others n fs
  cut_here zero fs e x = let h = here fs x in record { mine = []; rest = fs; are = refl; up_to = stuck h.0; earlier = λ g among. absurd (Memᴰ.not-nil among); what = h.1 }
  cut_here (suc n) fs e x = absurd (omega arith)

  cut_past : (before : List (List ℕ)) (row : List ℕ) (n : ℕ) (fs : List FieldAt) → least_of row ≤ n → Stand (before ++ rows) 0 fs → tags_above (tag_of row) (before ++ rows) ≡ true →
      Cut Rest tag (before ++ others) 0 fs → Cut Rest tag (row ∷ (before ++ others)) n fs
  cut_past before row n fs l x r c = on c.mine c.are c.up_to c.earlier
    where
      on : (mine : List FieldAt) → fs ≡ mine ++ c.rest → UpTo (before ++ others) 0 mine c.rest → ((g : FieldAt) → Memᴰ g mine → g.tag < tag) → Cut Rest tag (row ∷ (before ++ others)) n fs
      on [] are u earlier =
          record {
            mine = [];
            rest = c.rest;
            are = are;
            up_to = stuck (stuck_past row (before ++ others) n c.rest l (λ f others' e. Stand-above (subst (Stand (before ++ rows) 0) (are ∙ e) x) (tag_of row) r) (stuck_here u));
            earlier = earlier;
            what = c.what;
          }
      on (g ∷ mine) are u earlier = record { mine = g ∷ mine; rest = c.rest; are = are; up_to = past l u; earlier = earlier; what = c.what }

  cut_one : (before : List (List ℕ)) (row : List ℕ) (n : ℕ) (f : FieldAt) (fs : List FieldAt) → f.tag ≡ tag_of row → permitted_by row f.len ≡ true → n < most_of row → f.tag < tag →
      Cut Rest tag (row ∷ (before ++ others)) (n + 1) fs → Cut Rest tag (row ∷ (before ++ others)) n (f ∷ fs)
  cut_one before row n f fs t p l low c =
      record {
        mine = f ∷ c.mine;
        rest = c.rest;
        are = ap (λ fs. f ∷ fs) c.are;
        up_to = one t p l c.up_to;
        earlier = λ g among. ⊎_elim (λ e. subst (λ (h : FieldAt). h.tag < tag) (sym e) low) (c.earlier g) (Memᴰ.cases_cons among);
        what = c.what;
      }

  -- rows that both begin with are had first
  cut : (before : List (List ℕ)) {all : List (List ℕ)} {n : ℕ} {fs : List FieldAt} → all ≡ before ++ rows → (before ≡ [] → n ≡ 0) → Stand all n fs →
      rising_tags (before ++ rows) ≡ true → below tag before ≡ true → Cut Rest tag (before ++ others) n fs
  cut [] {n = n} {fs} e z x r b = cut_here n fs (z refl) (subst (λ (l : List (List ℕ)). Stand l n fs) e x)
  cut (row ∷ before) e z end r b = impossible cc
  cut (row ∷ before) {n = n} e z (next_row {row = row'} {fs = fs} l x) r b =
      let first_is : row' ≡ row = ap (λ (l : List (List ℕ)). get_or l 0 []) e in
      let rest_is = ap (λ (l : List (List ℕ)). drop 1 l) e in
      cut_past before row n fs (rw first_is at l) (subst (λ (l : List (List ℕ)). Stand l 0 fs) rest_is x) r
      (cut before rest_is (λ e. refl) x (rising_rest (tag_of row) (before ++ rows) r) (both_hold (tag_of row) tag (below tag before) b).1)
  cut (row ∷ before) {n = n} e z (field {row = row'} {f = f} {fs = fs} t p l x) r b =
      let first_is : row' ≡ row = ap (λ (l : List (List ℕ)). get_or l 0 []) e in
      let t' : f.tag ≡ tag_of row = rw first_is at t in
      let low : f.tag < tag = omega (arith, t', (both_hold (tag_of row) tag (below tag before) b).0) in
      cut_one before row n f fs t' (rw first_is at p) (rw first_is at l) low (cut (row ∷ before) e (λ e. impossible cc) x r b)

-- ---- where the fields of a file stand
place_grows : (at : ℕ) (fs : List FieldAt) → at ≤ place_after at fs
unfolding place_after
place_grows at [] = omega arith
place_grows at (f ∷ fs) = omega (arith, place_grows (at + (f.len + 3)) fs)

place_of_next : {s : List ℕ} (mine : List FieldAt) (f : FieldAt) (others : List FieldAt) {at : ℕ} → Fields s at (mine ++ (f ∷ others)) → f.start ≡ place_after at mine + 3
unfolding place_after
place_of_next [] f others (first x y) = x.start
place_of_next (g ∷ mine) f others (first x y) = place_of_next mine f others y

place_of_end : {s : List ℕ} (mine : List FieldAt) {at : ℕ} → at ≤ length s → Fields s at mine → place_after at mine ≡ length s
unfolding place_after
place_of_end [] h (none l) = omega arith
place_of_end (g ∷ mine) h (first x y) = place_of_end mine (omega (arith, x.start, x.within)) y

-- fields below a tag end no later than those before a field that has it
ends_before : (tag at : ℕ) (mine rest mine' : List FieldAt) (f : FieldAt) (others : List FieldAt) → mine ++ rest ≡ mine' ++ (f ∷ others) →
    ((g : FieldAt) → Memᴰ g mine → g.tag < tag) → tag ≤ f.tag → place_after at mine ≤ place_after at mine'
unfolding place_after
ends_before tag at [] rest mine' f others e low high = place_grows at mine'
ends_before tag at (g ∷ mine) rest [] f others e low high =
    let same : g ≡ f = ap (λ (l : List FieldAt). get_or l 0 f) e in
    absurd (omega (arith, low g (Memᴰ.head refl), ap (λ (h : FieldAt). h.tag) same))
ends_before tag at (g ∷ mine) rest (g' ∷ mine') f others e low high =
    let same : g ≡ g' = ap (λ (l : List FieldAt). get_or l 0 g) e in
    let later : mine ++ rest ≡ mine' ++ (f ∷ others) = ap (λ (l : List FieldAt). drop 1 l) e in
    rw (← same) (ends_before tag (at + (g.len + 3)) mine rest mine' f others later (λ h among. low h (Memᴰ.tail among)) high)

first_place_of : {s : List ℕ} (mine : List FieldAt) (f : FieldAt) (others : List FieldAt) {fs : List FieldAt} → Fields s 0 fs → fs ≡ mine ++ (f ∷ others) →
    ((g : FieldAt) → Memᴰ g mine → g.tag < f.tag) → field_start f.tag s ≡ f.start
unfolding first_with
first_place_of {s} mine f others {fs} stand are low =
    ap start_of (ap (first_with f.tag) (Fields-found stand (length s + 1) (omega arith) ∙ are) ∙ among mine low)
  where
    among : (mine : List FieldAt) → ((g : FieldAt) → Memᴰ g mine → g.tag < f.tag) → first_with f.tag (mine ++ (f ∷ others)) ≡ place_at f.start f.len
    among [] low = rw (eq-eqb f.tag f.tag refl)
    among (g ∷ mine) low = rw (ne_eqb g.tag f.tag (λ e. omega (arith, low g (Memᴰ.head refl)))) (among mine (λ h i. low h (Memᴰ.tail i)))

-- ---- what a row asks for or doesn't permit
abbrev Begins : ℕ → List FieldAt → Type 0
Begins tag fs = (f : FieldAt) × (others : List FieldAt) × (fs ≡ f ∷ others) × (f.tag ≡ tag)

begins : {row : List ℕ} {later : List (List ℕ)} {fs : List FieldAt} → 1 ≤ least_of row → Stand (row ∷ later) 0 fs → Begins (tag_of row) fs
begins some (next_row l x) = absurd (omega arith)
begins some (field t p l x) = (_, _, refl, t)

no_field : {row : List ℕ} {later : List (List ℕ)} {fs : List FieldAt} → most_of row ≡ 0 → Stand (row ∷ later) 0 fs → Stand later 0 fs
no_field most (next_row l x) = x
no_field most (field t p l x) = absurd (omega arith)

nothing_left : {fs : List FieldAt} → Stand [] 0 fs → fs ≡ []
nothing_left end = refl

-- a field must be there that isn't permitted
permits_none : (row other : List ℕ) (later later' : List (List ℕ)) → tag_of other ≡ tag_of row → most_of other ≡ 0 → 1 ≤ least_of row →
    (fs : List FieldAt) → Stand (row ∷ later) 0 fs → Stuck (other ∷ later') 0 fs × Begins (tag_of row) fs
unfolding Stuck due_from
permits_none row other later later' same most some fs x = by fs (begins some x)
  where
    by : (fs : List FieldAt) → Begins (tag_of row) fs → Stuck (other ∷ later') 0 fs × Begins (tag_of row) fs
    by [] b = impossible cc
    by (f ∷ fs) b =
        let tag : f.tag ≡ tag_of row = ap (λ (l : List FieldAt). (get_or l 0 f).tag) b.2 ∙ b.3 in
        (λ k. rw (eq-eqb (tag_of other) f.tag (same ∙ sym tag), le-ltb 0 (most_of other) (omega arith)) refl, b)

-- a field isn't there that must be
is_missing : (absent row : List ℕ) (later later' : List (List ℕ)) → tag_of row ≡ tag_of absent → most_of absent ≡ 0 → 1 ≤ least_of row → rising_tags (absent ∷ later) ≡ true →
    (fs : List FieldAt) → Stand (absent ∷ later) 0 fs → Stuck (row ∷ later') 0 fs × Stand later 0 fs
unfolding Stuck due_from all_had
is_missing absent row later later' same most some r fs x = by fs (no_field most x)
  where
    by : (fs : List FieldAt) → Stand later 0 fs → Stuck (row ∷ later') 0 fs × Stand later 0 fs
    by [] y = (rw (lt-ltb 0 (least_of row) (omega arith)) refl, y)
    by (f ∷ fs) y =
        let over : tag_of absent < f.tag = Stand-above y (tag_of absent) r in
        (λ k. rw (ne_eqb (tag_of row) f.tag (λ e. omega (arith, over)), lt-ltb 0 (least_of row) (omega arith)) refl, y)

-- ---- the answers

-- a cut at a lower tag comes no later than one where the rest begins with a higher one
before_it : (low high : ℕ) {rows rows' : List (List ℕ)} {Rest : List FieldAt → Type 0} {tag : ℕ} {fs : List FieldAt} (c : Cut (Begins high) tag rows 0 fs) (d : Cut Rest low rows' 0 fs) →
    low ≤ high → place_after 0 d.mine ≤ place_after 0 c.mine
before_it low high c d order =
    let b = c.what in
    ends_before low 0 d.mine d.rest c.mine b.0 b.1 (sym d.are ∙ c.are ∙ ap (λ (l : List FieldAt). c.mine ++ l) b.2) d.earlier (omega (arith, b.3))

module _ (s : List ℕ) (fs : List FieldAt) (stand : Fields s 0 fs) where
  stops_at : (rows : List (List ℕ)) {Rest : List FieldAt → Type 0} {tag : ℕ} → rising_tags rows ≡ true → (c : Cut Rest tag rows 0 fs) → walk_by rows s ≡ stops (place_after 0 c.mine)
  stops_at rows r c = walk_up_to rows c.mine (subst (Fields s 0) c.are stand) (length s + 1) 0 0 (omega arith) c.up_to r

  -- the place of the field with which the rest begins
  place_is : {tag : ℕ} (c_tag : ℕ) (mine rest : List FieldAt) → fs ≡ mine ++ rest → ((g : FieldAt) → Memᴰ g mine → g.tag < c_tag) → c_tag ≤ tag → Begins tag rest →
      place_after 0 mine ≡ field_start tag s - 3
  place_is c_tag mine rest are low high b =
      let whole : fs ≡ mine ++ (b.0 ∷ b.1) = are ∙ ap (λ (l : List FieldAt). mine ++ l) b.2 in
      let start : b.0.start ≡ place_after 0 mine + 3 = place_of_next mine b.0 b.1 (subst (Fields s 0) whole stand) in
      let found : field_start b.0.tag s ≡ b.0.start = first_place_of mine b.0 b.1 stand whole (λ g i. omega (arith, low g i, b.3)) in
      rw (← b.3, found) (omega arith)

  both : (rows : List (List ℕ)) (at at' other : ℕ) → walk_by (rows_in first_form rows) s ≡ stops at → walk_by (rows_in second_form rows) s ≡ stops at' →
      walk_by (rows_in neither_form rows) s ≡ stops other → at' ≤ at → walk rows s ≡ stops at
  both rows at at' other narrow wide third low = rw (narrow, wide, third, le-ltb at at' low)

  neither : (rows : List (List ℕ)) (at at' : ℕ) → walk_by (rows_in first_form rows) s ≡ stops at → walk_by (rows_in second_form rows) s ≡ stops at' →
      walk_by (rows_in neither_form rows) s ≡ fields fs → walk rows s ≡ stops at
  neither rows at at' narrow wide third = rw (narrow, wide, third)

  book_of_both : Stand book_rows 0 fs → walk book_rows s ≡ stops (field_start 9 s - 3)
  book_of_both x =
      let narrow =
      cut (Begins 9) 9 (drop 8 book_rows) (drop 8 (rows_in first_form book_rows))
      (permits_none (get_or book_rows 8 []) (get_or (rows_in first_form book_rows) 8 []) [] [] refl refl (lit≤ tt)) (take 8 book_rows) refl (λ e. impossible cc) x refl refl in
      let wide =
      cut (Begins 8) 8 (drop 7 book_rows) (drop 7 (rows_in second_form book_rows))
      (permits_none (get_or book_rows 7 []) (get_or (rows_in second_form book_rows) 7 []) (drop 8 book_rows) (drop 8 (rows_in second_form book_rows)) refl refl (lit≤ tt)) (take 7 book_rows) refl (λ e. impossible cc) x refl refl in
      let third =
      cut (Begins 8) 8 (drop 7 book_rows) (drop 7 (rows_in neither_form book_rows))
      (permits_none (get_or book_rows 7 []) (get_or (rows_in neither_form book_rows) 7 []) (drop 8 book_rows) (drop 8 (rows_in neither_form book_rows)) refl refl (lit≤ tt)) (take 7 book_rows) refl (λ e. impossible cc) x refl refl in
      both book_rows (place_after 0 narrow.mine) (place_after 0 wide.mine) (place_after 0 third.mine) (stops_at (rows_in first_form book_rows) refl narrow) (stops_at (rows_in second_form book_rows) refl wide) (stops_at (rows_in neither_form book_rows) refl third)
      (before_it 8 9 narrow wide (omega arith))
      ∙ ap stops (place_is 9 narrow.mine narrow.rest narrow.are narrow.earlier (omega arith) narrow.what)

  request_of_both : Stand request_rows 0 fs → walk request_rows s ≡ stops (field_start 13 s - 3)
  request_of_both x =
      let narrow =
      cut (Begins 13) 13 (drop 12 request_rows) (drop 12 (rows_in first_form request_rows))
      (permits_none (get_or request_rows 12 []) (get_or (rows_in first_form request_rows) 12 []) [] [] refl refl (lit≤ tt)) (take 12 request_rows) refl (λ e. impossible cc) x refl refl in
      let wide =
      cut (Begins 4) 4 (drop 3 request_rows) (drop 3 (rows_in second_form request_rows))
      (permits_none (get_or request_rows 3 []) (get_or (rows_in second_form request_rows) 3 []) (drop 4 request_rows) (drop 4 (rows_in second_form request_rows)) refl refl (lit≤ tt)) (take 3 request_rows) refl (λ e. impossible cc) x refl refl in
      let third =
      cut (Begins 4) 4 (drop 3 request_rows) (drop 3 (rows_in neither_form request_rows))
      (permits_none (get_or request_rows 3 []) (get_or (rows_in neither_form request_rows) 3 []) (drop 4 request_rows) (drop 4 (rows_in neither_form request_rows)) refl refl (lit≤ tt)) (take 3 request_rows) refl (λ e. impossible cc) x refl refl in
      both request_rows (place_after 0 narrow.mine) (place_after 0 wide.mine) (place_after 0 third.mine) (stops_at (rows_in first_form request_rows) refl narrow) (stops_at (rows_in second_form request_rows) refl wide) (stops_at (rows_in neither_form request_rows) refl third)
      (before_it 4 13 narrow wide (omega arith))
      ∙ ap stops (place_is 13 narrow.mine narrow.rest narrow.are narrow.earlier (omega arith) narrow.what)

  book_of_neither : Stand (rows_in neither_form book_rows) 0 fs → walk book_rows s ≡ stops (length s)
  book_of_neither x =
      let rows = rows_in neither_form book_rows in
      let narrow =
      cut (λ rest. rest ≡ []) 8 (drop 7 rows) (drop 7 (rows_in first_form book_rows)) missing_zones (take 7 rows) refl (λ e. impossible cc) x refl refl in
      let wide =
      cut (Stand [] 0) 9 (drop 8 rows) (drop 8 (rows_in second_form book_rows))
      (is_missing (get_or rows 8 []) (get_or (rows_in second_form book_rows) 8 []) [] [] refl refl (lit≤ tt) refl) (take 8 rows) refl (λ e. impossible cc) x refl refl in
      let all : fs ≡ narrow.mine = narrow.are ∙ ap (λ (l : List FieldAt). narrow.mine ++ l) narrow.what ∙ append-nil narrow.mine in
      neither book_rows (place_after 0 narrow.mine) (place_after 0 wide.mine) (stops_at (rows_in first_form book_rows) refl narrow) (stops_at (rows_in second_form book_rows) refl wide) (walk_of_fields rows s fs refl x stand)
      ∙ ap stops (place_of_end narrow.mine (omega arith) (subst (Fields s 0) all stand))
    where
      missing_zones : (fs : List FieldAt) → Stand (drop 7 (rows_in neither_form book_rows)) 0 fs → Stuck (drop 7 (rows_in first_form book_rows)) 0 fs × (fs ≡ [])
      missing_zones fs x =
          let rows = rows_in neither_form book_rows in
          let missing = is_missing (get_or rows 7 []) (get_or (rows_in first_form book_rows) 7 []) (drop 8 rows) (drop 8 (rows_in first_form book_rows)) refl refl (lit≤ tt) refl fs x in
          (missing.0, nothing_left (no_field refl missing.1))

  request_of_neither : Stand (rows_in neither_form request_rows) 0 fs → walk request_rows s ≡ stops (field_start 5 s - 3)
  request_of_neither x =
      let rows = rows_in neither_form request_rows in
      let narrow =
      cut (Begins 5) 4 (drop 3 rows) (drop 3 (rows_in first_form request_rows)) missing_zone (take 3 rows) refl (λ e. impossible cc) x refl refl in
      let wide =
      cut (Stand [] 0) 13 (drop 12 rows) (drop 12 (rows_in second_form request_rows))
      (is_missing (get_or rows 12 []) (get_or (rows_in second_form request_rows) 12 []) [] [] refl refl (lit≤ tt) refl) (take 12 rows) refl (λ e. impossible cc) x refl refl in
      neither request_rows (place_after 0 narrow.mine) (place_after 0 wide.mine) (stops_at (rows_in first_form request_rows) refl narrow) (stops_at (rows_in second_form request_rows) refl wide) (walk_of_fields rows s fs refl x stand)
      ∙ ap stops (place_is 4 narrow.mine narrow.rest narrow.are narrow.earlier (omega arith) narrow.what)
    where
      missing_zone : (fs : List FieldAt) → Stand (drop 3 (rows_in neither_form request_rows)) 0 fs → Stuck (drop 3 (rows_in first_form request_rows)) 0 fs × Begins 5 fs
      missing_zone fs x =
          let rows = rows_in neither_form request_rows in
          let missing = is_missing (get_or rows 3 []) (get_or (rows_in first_form request_rows) 3 []) (drop 4 rows) (drop 4 (rows_in first_form request_rows)) refl refl (lit≤ tt) refl fs x in
          (missing.0, begins (lit≤ tt) missing.1)

module _ (number : ℕ) (file : List ℕ) (fs : List FieldAt) (tail : tail_stands file ≡ true) (checked : check_stands file ≡ true) (stand : Fields (fields_part file) 0 fs) where
  pub both_in_a_book : Stand book_rows 0 fs → file_answer book_rows number file ≡ Err (refusal file_does_not_walk number (field_start 9 (fields_part file) - 3))
  both_in_a_book x = walk_decides number file (walk book_rows (fields_part file)) tail checked ∙ ap (of_walk number) (book_of_both (fields_part file) fs stand x)

  pub both_in_a_request : Stand request_rows 0 fs → file_answer request_rows number file ≡ Err (refusal file_does_not_walk number (field_start 13 (fields_part file) - 3))
  both_in_a_request x = walk_decides number file (walk request_rows (fields_part file)) tail checked ∙ ap (of_walk number) (request_of_both (fields_part file) fs stand x)

  pub neither_in_a_book : Stand (rows_in neither_form book_rows) 0 fs → file_answer book_rows number file ≡ Err (refusal file_does_not_walk number (length (fields_part file)))
  neither_in_a_book x = walk_decides number file (walk book_rows (fields_part file)) tail checked ∙ ap (of_walk number) (book_of_neither (fields_part file) fs stand x)

  pub neither_in_a_request : Stand (rows_in neither_form request_rows) 0 fs →
      file_answer request_rows number file ≡ Err (refusal file_does_not_walk number (field_start 5 (fields_part file) - 3))
  neither_in_a_request x = walk_decides number file (walk request_rows (fields_part file)) tail checked ∙ ap (of_walk number) (request_of_neither (fields_part file) fs stand x)
