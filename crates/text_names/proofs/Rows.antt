-- Rows and fields are small, and the values of rows have 1, 2 or 4 bytes.
use Rattle.std.specs.Prelude.{ℕ, zero, suc, ◌+◌, ◌<◌, ◌≤◌, ◌≡◌, ◌⊎◌, List, [], ◌∷◌, Bool, true, false, ◌&&◌, ◌||◌, get_or, ltb, leb, eqb, refl}
use Rattle.std.proofs.Common.{ltb-true, leb-true, inl, inr}
use borrow.Author.Tests.{eqb-true}
use Rattle.std.proofs.lemmas.Bool.{false≢true}
use Rattle.std.specs.List.{list_all}
use Rattle.text_names.specs.Table.{book_rows, request_rows, no_row, row_at, book_fields, request_fields, no_field, field_at}
use Rattle.text_names.specs.declared.table.Kind.{Kind}
use Rattle.text_names.specs.declared.table.Kind.TheVariants.{Book, Request}
use Rattle.text_names.specs.declared.table.Field.{Field}
use Rattle.text_names.specs.declared.table.Row.{Row}

both_parts : (a b : Bool) → (a && b) ≡ true → (a ≡ true) × (b ≡ true)
both_parts true b e = (refl, e)
both_parts false b e = absurd (false≢true e)

-- what holds of all elements and of the one past them holds at each place
pub all_at : {A : Type 0} (test : A → Bool) (xs : List A) (none : A) → list_all test xs ≡ true → test none ≡ true → (k : ℕ) → test (get_or xs k none) ≡ true
all_at test [] none e f k = f
all_at test (x ∷ xs) none e f zero = (both_parts (test x) (list_all test xs) e).0
all_at test (x ∷ xs) none e f (suc k) = all_at test xs none (both_parts (test x) (list_all test xs) e).1 f k

abbrev is_small : Row → Bool
is_small r = ltb r.alike 64 && (leb r.place 64 && (eqb r.width 0 || (eqb r.width 1 || (eqb r.width 2 || eqb r.width 4))))

small : (kind : Kind) (number : ℕ) → is_small (row_at kind number) ≡ true
unfolding book_rows request_rows
small Book number = all_at is_small book_rows no_row refl refl number
small Request number = all_at is_small request_rows no_row refl refl number

pub few_alike : (kind : Kind) (number : ℕ) → (row_at kind number).alike < 64
few_alike kind number = ltb-true _ _ (both_parts _ _ (small kind number)).0

pub near_place : (kind : Kind) (number : ℕ) → (row_at kind number).place ≤ 64
near_place kind number = leb-true _ _ (both_parts _ _ (both_parts _ _ (small kind number)).1).0

pub known_width : (kind : Kind) (number : ℕ) → let w = (row_at kind number).width in (w ≡ 0) ⊎ ((w ≡ 1) ⊎ ((w ≡ 2) ⊎ (w ≡ 4)))
known_width kind number = by (eqb w 0) (eqb w 1) (eqb w 2) refl refl refl (both_parts _ _ (both_parts _ _ (small kind number)).1).1
  where
    w : ℕ
    w = (row_at kind number).width

    by : (a b c : Bool) → eqb w 0 ≡ a → eqb w 1 ≡ b → eqb w 2 ≡ c → (a || (b || (c || eqb w 4))) ≡ true → (w ≡ 0) ⊎ ((w ≡ 1) ⊎ ((w ≡ 2) ⊎ (w ≡ 4)))
    by true b c e f g h = inl (eqb-true w 0 e)
    by false true c e f g h = inr (inl (eqb-true w 1 f))
    by false false true e f g h = inr (inr (inl (eqb-true w 2 g)))
    by false false false e f g h = inr (inr (inr (eqb-true w 4 h)))

abbrev is_short : Field → Bool
is_short f = leb f.size 64 && leb (f.first + f.rows) 22

short : (kind : Kind) (number : ℕ) → is_short (field_at kind number) ≡ true
unfolding book_fields request_fields
short Book number = all_at is_short book_fields no_field refl refl number
short Request number = all_at is_short request_fields no_field refl refl number

pub short_field : (kind : Kind) (number : ℕ) → (field_at kind number).size ≤ 64
short_field kind number = leb-true _ _ (both_parts _ _ (short kind number)).0

pub few_rows : (kind : Kind) (number : ℕ) → (field_at kind number).first + (field_at kind number).rows ≤ 22
few_rows kind number = leb-true _ _ (both_parts _ _ (short kind number)).1
