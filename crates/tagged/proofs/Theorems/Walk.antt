-- Document 01, 'What the reviewer ticks': "The tagged walk's facts are shown once for all three kinds of file." A walk by any rows at all
-- says two things of its fields: they stand by the rows (`Stand`), and they are the file, one after the other (`Fields`). Every other fact follows from these.
-- A file of a kind that has two forms walks by the rows of one of them, with the same fields.
use Rattle.std.specs.Prelude.{ℕ, zero, suc, ◌+◌, ◌-◌, ◌%◌, ◌<◌, ◌≤◌, ◌≡◌, refl, ◌⊎◌, Bool, true, false, cond, length, get_or, take, drop, ltb, leb, eqb, Some, None}
use Rattle.std.proofs.Common.{sym, ap, ◌∙◌, inl, inr, ⊎_elim, add-zero, arith, length-drop, get_or-drop, drop-drop, ltb-true, ltb-false, leb-true, eqb-true}
use Rattle.std.proofs.Math.Path.{subst}
use mathlib.Core.List.Memᴰ
use mathlib.Core.List.{List, [], ◌∷◌, ◌++◌, Memᴰ, append-nil}
use Rattle.std.proofs.lemmas.Bool.{false≢true}
use Rattle.numbers.specs.BigEndian.{number, number_at}
use Rattle.field_walk.specs.Walk.{Due, tag_of, lowest_of, highest_of, step_of, least_of, most_of, due_from, all_had, permitted_by, length_at, field_of, front_of, FieldAt, Walk, fields, stops, and_then, on_front, walk_from, first_form, second_form, rows_in, walk_by, by_forms, walk}
use Rattle.field_walk.specs.declared.walk.Front.{Front}
use Rattle.field_walk.specs.declared.walk.Front.TheVariants.{End, Field, CannotStand}
use Rattle.tagged.proofs.Theorems.Impossible.{impossible}
use Rattle.tagged.specs.WalkRelations.{Stand, end, next_row, field, Fields, none, first}
use Rattle.tagged.specs.RowFields.{OfRow, Once, Repeated}

-- what holds of a choice, by its test
pub by_test : {A : Type 0} (P : A → Type 0) (b : Bool) (x y : A) → (b ≡ true → P x) → (b ≡ false → P y) → P (cond b x y)
by_test P true x y t e = t refl
by_test P false x y t e = e refl

-- a bound and another test that hold together
pub both_hold : (a b : ℕ) (c : Bool) → cond (ltb a b) c false ≡ true → (a < b) × (c ≡ true)
both_hold a b c = by_test (λ t. t ≡ true → (a < b) × (c ≡ true)) (ltb a b) c false (λ l e. (ltb-true a b l, e)) (λ _ e. absurd (false≢true e))

-- A row that is due lies i rows on, and a field of it with a permitted length stands before those that stand there.
DueHolds : List (List ℕ) → ℕ → ℕ → ℕ → Due → Type 0
DueHolds rows k n tag None = Unit
DueHolds rows k n tag (Some (k', n')) =
    (i : ℕ) × (k' ≡ k + i) ×
    ((f : FieldAt) (fs : List FieldAt) → f.tag ≡ tag → permitted_by (get_or rows i []) f.len ≡ true → Stand (drop i rows) n' fs → Stand rows n (f ∷ fs))

due_holds : (rows : List (List ℕ)) (k n tag : ℕ) → DueHolds rows k n tag (due_from rows k n tag)
unfolding DueHolds due_from
due_holds [] k n tag = tt
due_holds (row ∷ rows) k n tag =
    by_test P (eqb (tag_of row) tag) _ _
    (λ t. by_test P (ltb n (most_of row)) _ _ (λ m. (0, omega arith, λ f fs g p x. field (g ∙ sym (eqb-true _ _ t)) p (ltb-true _ _ m) x)) (λ _. tt))
    (λ _. by_test P (ltb n (least_of row)) _ _ (λ _. tt) (λ l. after (ltb-false _ _ l) (due_from rows (k + 1) 0 tag) (due_holds rows (k + 1) 0 tag)))
  where
    P : Due → Type 0
    P d = DueHolds (row ∷ rows) k n tag d

    after : least_of row ≤ n → (d : Due) → DueHolds rows (k + 1) 0 tag d → P d
    after l None h = tt
    after l (Some (k', n')) h = (suc h.0, omega (arith, h.1), λ f fs g p x. next_row l (h.2 f fs g p x))

-- What stands at the front: nothing, where no field is due any more; or a field of the row that is due.
FrontHolds : List (List ℕ) → ℕ → ℕ → List ℕ → Front → Type 0
FrontHolds rows k n s End = (length s ≡ 0) × (all_had (drop k rows) n ≡ true)
FrontHolds rows k n s (Field k' n' len) =
    (due_from (drop k rows) k n (get_or s 0 0) ≡ Some (k', n')) × (permitted_by (get_or rows k' []) len ≡ true) × (len ≡ length_at s) × (len + 3 ≤ length s)
FrontHolds rows k n s CannotStand = Unit

front_holds : (rows : List (List ℕ)) (k n : ℕ) (s : List ℕ) → FrontHolds rows k n s (front_of rows k n s)
unfolding FrontHolds front_of
front_holds rows k n s =
    by_test P (eqb (length s) 0) _ _
    (λ z. by_test P (all_had (drop k rows) n) _ _ (λ h. (eqb-true _ _ z, h)) (λ _. tt))
    (λ _. by_test P (ltb (length s) 3) _ _ (λ _. tt) (λ _. due (due_from (drop k rows) k n (get_or s 0 0)) refl))
  where
    P : Front → Type 0
    P d = FrontHolds rows k n s d

    due : (d : Due) → due_from (drop k rows) k n (get_or s 0 0) ≡ d → P (field_of d rows s)
    due None e = tt
    due (Some (k', n')) e =
        by_test P (permitted_by (get_or rows k' []) (length_at s)) _ _
        (λ p. by_test P (leb (length_at s + 3) (length s)) _ _ (λ l. (e, p, refl, leb-true _ _ l)) (λ _. tt))
        (λ _. tt)

all_had_lem : (rows : List (List ℕ)) (n : ℕ) → all_had rows n ≡ true → Stand rows n []
unfolding all_had
all_had_lem [] n h = end
all_had_lem (row ∷ rows) n h =
    by_test (λ b. b ≡ true → Stand (row ∷ rows) n []) (ltb n (least_of row)) _ _ (λ _ e. absurd (false≢true e))
    (λ l e. next_row (ltb-false _ _ l) (all_had_lem rows 0 e)) h

-- the first byte of the rest of a file from an offset on, and the length after it, are the file's at that offset
pub rest_tag : (s : List ℕ) (at : ℕ) → get_or (drop at s) 0 0 ≡ get_or s at 0
rest_tag s at = get_or-drop at s 0 0 ∙ ap (λ j. get_or s j 0) (add-zero at)

pub rest_length : (s : List ℕ) (at : ℕ) → length_at (drop at s) ≡ number_at s (at + 1) 2
rest_length s at = ap (λ l. number (take 2 l)) (drop-drop 1 at s)

-- both facts, of the walk from any offset of the file on
WalkHolds : List (List ℕ) → List ℕ → ℕ → ℕ → ℕ → Walk → Type 0
WalkHolds rows s k n at (fields fs) = Stand (drop k rows) n fs × Fields s at fs
WalkHolds rows s k n at (stops at') = Unit

walk_holds : (most : ℕ) (rows : List (List ℕ)) (s : List ℕ) (k n at : ℕ) → WalkHolds rows s k n at (walk_from most rows k n at (drop at s))
unfolding WalkHolds FrontHolds DueHolds walk_from
walk_holds zero rows s k n at = tt
walk_holds (suc most) rows s k n at =
    front (front_of rows k n (drop at s)) (front_holds rows k n (drop at s)) (λ k' n' len. rw (drop-drop (len + 3) at s) (walk_holds most rows s k' n' (at + (len + 3))))
  where
    rest : List ℕ
    rest = drop at s

    here : ℕ → FieldAt
    here len = record { tag = get_or rest 0 0; start = at + 3; len = len }

    on : ℕ → ℕ → ℕ → Walk
    on k' n' len = walk_from most rows k' n' (at + (len + 3)) (drop (len + 3) rest)

    due : (k' n' len : ℕ) → FrontHolds rows k n rest (Field k' n' len) → DueHolds (drop k rows) k n (get_or rest 0 0) (Some (k', n')) →
        (w : Walk) → WalkHolds rows s k' n' (at + (len + 3)) w → WalkHolds rows s k n at (and_then (here len) w)
    due k' n' len x d (stops at') h = tt
    due k' n' len x d (fields fs) h =
        let row : get_or rows k' [] ≡ get_or (drop k rows) d.0 [] = ap (λ j. get_or rows j []) d.1 ∙ sym (get_or-drop k rows d.0 []) in
        let rows_are : drop k' rows ≡ drop d.0 (drop k rows) = ap (λ j. drop j rows) d.1 ∙ sym (drop-drop d.0 k rows) in (
          d.2 (here len) fs refl (rw row at x.1) (rw rows_are at h.0),
          first (record { tag = rest_tag s at; start = refl; len = x.2 ∙ rest_length s at; within = omega (arith, length-drop at s, x.3) }) h.1,
        )

    front : (x : Front) → FrontHolds rows k n rest x → ((k' n' len : ℕ) → WalkHolds rows s k' n' (at + (len + 3)) (on k' n' len)) →
        WalkHolds rows s k n at (on_front x at (λ k' n' len. and_then (here len) (on k' n' len)))
    front End x ih = (all_had_lem (drop k rows) n x.1, none {at = at} (omega (arith, length-drop at s, x.0)))
    front (Field k' n' len) x ih =
        due k' n' len x (subst (DueHolds (drop k rows) k n (get_or rest 0 0)) x.0 (due_holds (drop k rows) k n (get_or rest 0 0))) (on k' n' len) (ih k' n' len)
    front CannotStand x ih = tt

module _ (rows : List (List ℕ)) (s : List ℕ) (fs : List FieldAt) (walks : walk_by rows s ≡ fields fs) where
  walk_both : Stand rows 0 fs × Fields s 0 fs
  unfolding WalkHolds
  walk_both = subst (WalkHolds rows s 0 0 0) walks (walk_holds (length s + 1) rows s 0 0 0)

  -- The fields of a file that walks by some rows stand by them.
  pub walk_by_stands : Stand rows 0 fs
  walk_by_stands = walk_both.0

  pub walk_by_fields : Fields s 0 fs
  walk_by_fields = walk_both.1

either_form : (first second neither : Walk) (fs : List FieldAt) → by_forms first second neither ≡ fields fs → (first ≡ fields fs) ⊎ (second ≡ fields fs)
either_form (fields _) second neither fs e = inl e
either_form (stops at) (fields _) neither fs e = inr e
either_form (stops at) (stops at') (fields _) fs e = impossible cc
either_form (stops at) (stops at') (stops _) fs e = impossible cc

module _ (rows : List (List ℕ)) (s : List ℕ) (fs : List FieldAt) (walks : walk rows s ≡ fields fs) where
  -- A file that walks does so by the rows of one form.
  pub walk_by_form : (walk_by (rows_in first_form rows) s ≡ fields fs) ⊎ (walk_by (rows_in second_form rows) s ≡ fields fs)
  walk_by_form = either_form (walk_by (rows_in first_form rows) s) (walk_by (rows_in second_form rows) s) _ fs walks

  -- The fields of a file that walks stand by the rows of its form.
  pub walk_stands : Stand (rows_in first_form rows) 0 fs ⊎ Stand (rows_in second_form rows) 0 fs
  walk_stands = ⊎_elim (λ e. inl (walk_by_stands (rows_in first_form rows) s fs e)) (λ e. inr (walk_by_stands (rows_in second_form rows) s fs e)) walk_by_form

  -- A file that walks is its fields, one after the other.
  pub walk_fields : Fields s 0 fs
  walk_fields = ⊎_elim (walk_by_fields (rows_in first_form rows) s fs) (walk_by_fields (rows_in second_form rows) s fs) walk_by_form

-- what a permitted length is
pub permitted_length : (row : List ℕ) (len : ℕ) → permitted_by row len ≡ true → (lowest_of row ≤ len) × (len ≤ highest_of row) × ((len - lowest_of row) % step_of row ≡ 0)
permitted_length row len =
    by_test P (ltb len (lowest_of row)) _ _ never
    (λ l. by_test P (ltb (highest_of row) len) _ _ never
    (λ h. by_test P (eqb (step_of row) 0) _ _ never (λ _ e. (ltb-false _ _ l, ltb-false _ _ h, eqb-true _ _ e))))
  where
    P : Bool → Type 0
    P b = b ≡ true → (lowest_of row ≤ len) × (len ≤ highest_of row) × ((len - lowest_of row) % step_of row ≡ 0)

    never : {A : Type 0} → A → P false
    never a e = absurd (false≢true e)

pub Stand-had : {row : List ℕ} {rows : List (List ℕ)} {n : ℕ} {fs : List FieldAt} → Stand (row ∷ rows) n fs → most_of row ≤ n → Stand rows 0 fs
Stand-had (next_row l x) m = x
Stand-had (field t p l x) m = absurd (omega arith)

pub Stand-once : {row : List ℕ} {rows : List (List ℕ)} {fs : List FieldAt} → Stand (row ∷ rows) 0 fs → least_of row ≡ 1 → most_of row ≡ 1 → Once row rows fs
Stand-once (next_row l x) a b = absurd (omega arith)
Stand-once (field t p l x) a b = record { f = _; others = _; are = refl; of_row = record { tag = t; permitted = p }; rest = Stand-had x (omega arith) }

pub Stand-repeated : {row : List ℕ} {rows : List (List ℕ)} {n : ℕ} {fs : List FieldAt} → Stand (row ∷ rows) n fs → n ≤ most_of row → Repeated row rows n fs
Stand-repeated (next_row l x) m = record { mine = []; others = _; are = refl; least = omega arith; most = omega arith; of_row = λ f i. absurd (Memᴰ.not-nil i); rest = x }
Stand-repeated {row} (field {f = g} t p l x) m =
    let h = Stand-repeated x (omega arith) in
    record {
      mine = g ∷ h.mine;
      others = h.others;
      are = ap (λ l. g ∷ l) h.are;
      least = omega (arith, h.least);
      most = omega (arith, h.most);
      of_row = λ f i. ⊎_elim (λ e. subst (OfRow row) (sym e) (record { tag = t; permitted = p })) (h.of_row f) (Memᴰ.cases_cons i);
      rest = h.rest;
    }

Stand-none : {n : ℕ} {fs : List FieldAt} → Stand [] n fs → fs ≡ []
Stand-none end = refl

-- the last row, where every field is of it
pub Stand-last : {row : List ℕ} {fs : List FieldAt} → Stand (row ∷ []) 0 fs →
    (least_of row ≤ length fs) × (length fs ≤ most_of row) × ((f : FieldAt) → Memᴰ f fs → OfRow row f)
Stand-last {row} x =
    let h = Stand-repeated x (omega arith) in
    subst (λ l. (least_of row ≤ length l) × (length l ≤ most_of row) × ((f : FieldAt) → Memᴰ f l → OfRow row f))
    (sym (h.are ∙ ap (λ l. h.mine ++ l) (Stand-none h.rest) ∙ append-nil h.mine))
    (omega arith, omega arith, h.of_row)
