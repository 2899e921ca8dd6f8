-- How restricting, turning round, mapping and summing go past each other.
use Rattle.std.specs.Prelude.{ℕ, ◌+◌, ◌≤◌, ◌≡◌, refl, List, [], ◌∷◌, ◌++◌, map, Bool, true, false, cond, eqb, find, None, Option, Some, filter}
use Rattle.std.proofs.Common.{sym, ap, ap₂, ◌∙◌, append-nil, true≢false, arith, eq-eqb}
use Rattle.ledger.specs.Lists.{oldest_first, sum_by, All, nil, more}

-- a case split on a test, with what it came to
pub by_cond : {A : Type 0} (P : A → Type 0) (t : Bool) (x y : A) → (t ≡ true → P x) → (t ≡ false → P y) → P (cond t x y)
by_cond P true x y ok not_ok = ok refl
by_cond P false x y ok not_ok = not_ok refl

pub by_test : {P : Type 0} (t : Bool) → (t ≡ true → P) → (t ≡ false → P) → P
by_test true ok not_ok = ok refl
by_test false ok not_ok = not_ok refl

module _ {A : Type 0} where
  -- an element before the rest, where it passes
  abbrev pub cons_if : Bool → A → List A → List A
  cons_if t x xs = cond t (x ∷ xs) xs

  pub cons_if_append : (t : Bool) (x : A) (xs ys : List A) → cons_if t x (xs ++ ys) ≡ cons_if t x xs ++ ys
  cons_if_append true x xs ys = refl
  cons_if_append false x xs ys = refl

  pub filter_append : (test : A → Bool) (xs ys : List A) → filter test (xs ++ ys) ≡ filter test xs ++ filter test ys
  filter_append test [] ys = refl
  filter_append test (x ∷ xs) ys = ap (cons_if (test x) x) (filter_append test xs ys) ∙ cons_if_append (test x) x (filter test xs) (filter test ys)

  filter_last : (t : Bool) (x : A) (xs : List A) → oldest_first xs ++ cons_if t x [] ≡ oldest_first (cons_if t x xs)
  filter_last true x xs = refl
  filter_last false x xs = append-nil (oldest_first xs)

  pub filter_in_order : (test : A → Bool) (xs : List A) → filter test (oldest_first xs) ≡ oldest_first (filter test xs)
  filter_in_order test [] = refl
  filter_in_order test (x ∷ xs) =
      filter_append test (oldest_first xs) (x ∷ [])
      ∙ ap (λ (l : List A). l ++ cons_if (test x) x []) (filter_in_order test xs)
      ∙ filter_last (test x) x (filter test xs)

  -- two restrictions in either order
  pub filter_swap : (p q : A → Bool) (xs : List A) → filter p (filter q xs) ≡ filter q (filter p xs)
  filter_swap p q [] = refl
  filter_swap p q (x ∷ xs) = go (q x) (p x) refl refl (filter_swap p q xs)
    where
      go : (b a : Bool) → q x ≡ b → p x ≡ a → filter p (filter q xs) ≡ filter q (filter p xs)
          → filter p (cons_if b x (filter q xs)) ≡ filter q (cons_if a x (filter p xs))
      go true true e f r = rw (e, f) (ap (λ (l : List A). x ∷ l) r)
      go true false e f r = rw f r
      go false true e f r = rw e r
      go false false e f r = r

  -- a restriction that leaves those that pass another test, or none of them
  pub filter_within : (p q : A → Bool) (xs : List A) → ((x : A) → p x ≡ true → q x ≡ true) → filter p (filter q xs) ≡ filter p xs
  filter_within p q [] within = refl
  filter_within p q (x ∷ xs) within = by (p x) refl (q x) refl (filter_within p q xs within)
    where
      by : (a : Bool) → p x ≡ a → (b : Bool) → q x ≡ b → filter p (filter q xs) ≡ filter p xs → filter p (cons_if b x (filter q xs)) ≡ cons_if a x (filter p xs)
      by true f true e r = rw f (ap (λ (l : List A). x ∷ l) r)
      by true f false e r = absurd (true≢false (sym (within x f) ∙ e))
      by false f true e r = rw f r
      by false f false e r = r

  pub filter_apart : (p q : A → Bool) (xs : List A) → ((x : A) → p x ≡ true → q x ≡ false) → filter p (filter q xs) ≡ []
  filter_apart p q [] apart = refl
  filter_apart p q (x ∷ xs) apart = by (p x) refl (q x) refl (filter_apart p q xs apart)
    where
      by : (a : Bool) → p x ≡ a → (b : Bool) → q x ≡ b → filter p (filter q xs) ≡ [] → filter p (cons_if b x (filter q xs)) ≡ []
      by true f true e r = absurd (true≢false (sym e ∙ apart x f))
      by false f true e r = rw f r
      by a f false e r = r

  -- none of them passes
  pub filter_none : {test : A → Bool} {xs : List A} → All (λ x. test x ≡ false) xs → filter test xs ≡ []
  filter_none nil = refl
  filter_none (more h hs) = rw h (filter_none hs)

  -- what is found is the first of those that pass
  abbrev pub first : List A → Option A
  first [] = None
  first (x ∷ xs) = Some x

  pub find_first : (test : A → Bool) (xs : List A) → find test xs ≡ first (filter test xs)
  find_first test [] = refl
  find_first test (x ∷ xs) = go (test x) (find_first test xs)
    where
      go : (b : Bool) → find test xs ≡ first (filter test xs) → cond b (Some x) (find test xs) ≡ first (cons_if b x (filter test xs))
      go true r = refl
      go false r = r

  -- ---- sums

  pub sum_by_append : (f : A → ℕ) (xs ys : List A) → sum_by f (xs ++ ys) ≡ sum_by f xs + sum_by f ys
  sum_by_append f [] ys = omega arith
  sum_by_append f (x ∷ xs) ys = omega (arith, sum_by_append f xs ys)

  pub sum_by_in_order : (f : A → ℕ) (xs : List A) → sum_by f (oldest_first xs) ≡ sum_by f xs
  sum_by_in_order f [] = refl
  sum_by_in_order f (x ∷ xs) = omega (arith, sum_by_append f (oldest_first xs) (x ∷ []), sum_by_in_order f xs)

  pub sum_by_same : (f g : A → ℕ) {xs : List A} → All (λ x. f x ≡ g x) xs → sum_by f xs ≡ sum_by g xs
  sum_by_same f g nil = refl
  sum_by_same f g (more h hs) = omega (arith, h, sum_by_same f g hs)

  pub sum_by_plus : (f g : A → ℕ) (xs : List A) → sum_by (λ x. f x + g x) xs ≡ sum_by f xs + sum_by g xs
  sum_by_plus f g [] = refl
  sum_by_plus f g (x ∷ xs) = omega (arith, sum_by_plus f g xs)

  pub sum_by_none : (f : A → ℕ) {xs : List A} → All (λ x. f x ≡ 0) xs → sum_by f xs ≡ 0
  sum_by_none f nil = refl
  sum_by_none f (more h hs) = omega (arith, h, sum_by_none f hs)

  pub sum_by_le : (f g : A → ℕ) {xs : List A} → All (λ x. f x ≤ g x) xs → sum_by f xs ≤ sum_by g xs
  sum_by_le f g nil = omega arith
  sum_by_le f g (more h hs) = omega (arith, h, sum_by_le f g hs)

  sum_by_cons_if : (f : A → ℕ) (t : Bool) (x : A) (xs : List A) → sum_by f (cons_if t x xs) ≡ sum_by f xs + cond t (f x) 0
  sum_by_cons_if f true x xs = refl
  sum_by_cons_if f false x xs = omega arith

  -- a sum over those that pass the test
  pub sum_by_filter : (f : A → ℕ) (test : A → Bool) (xs : List A) → sum_by f (filter test xs) ≡ sum_by (λ x. cond (test x) (f x) 0) xs
  sum_by_filter f test [] = refl
  sum_by_filter f test (x ∷ xs) = omega (arith, sum_by_cons_if f (test x) x (filter test xs), sum_by_filter f test xs)

  -- ---- facts of each element

  pub head_of : {P : A → Type 0} {x : A} {xs : List A} → All P (x ∷ xs) → P x
  head_of (more h hs) = h

  pub tail_of : {P : A → Type 0} {x : A} {xs : List A} → All P (x ∷ xs) → All P xs
  tail_of (more h hs) = hs

  pub all_map : {P Q : A → Type 0} {xs : List A} → ((x : A) → P x → Q x) → All P xs → All Q xs
  all_map f nil = nil
  all_map f (more {x} h hs) = more (f x h) (all_map f hs)

  pub all_both : {P Q R : A → Type 0} {xs : List A} → ((x : A) → P x → Q x → R x) → All P xs → All Q xs → All R xs
  all_both f nil ks = nil
  all_both f (more {x} h hs) ks = more (f x h (head_of ks)) (all_both f hs (tail_of ks))

  pub all_any : {P : A → Type 0} (xs : List A) → ((x : A) → P x) → All P xs
  all_any [] f = nil
  all_any (x ∷ xs) f = more (f x) (all_any xs f)

  pub all_append : {P : A → Type 0} {xs ys : List A} → All P xs → All P ys → All P (xs ++ ys)
  all_append nil ks = ks
  all_append (more h hs) ks = more h (all_append hs ks)

  pub all_in_order : {P : A → Type 0} {xs : List A} → All P xs → All P (oldest_first xs)
  all_in_order nil = nil
  all_in_order (more h hs) = all_append (all_in_order hs) (more h nil)

  all_cons_if : {P : A → Type 0} (t : Bool) (x : A) {xs : List A} → (t ≡ true → P x) → All P xs → All P (cons_if t x xs)
  all_cons_if true x f h = more (f refl) h
  all_cons_if false x f h = h

  pub all_filter : {P : A → Type 0} (test : A → Bool) {xs : List A} → All P xs → All P (filter test xs)
  all_filter test nil = nil
  all_filter test (more {x} h hs) = all_cons_if (test x) x (λ _. h) (all_filter test hs)

  -- of those that were kept the test is known
  pub all_kept : {P : A → Type 0} (test : A → Bool) (xs : List A) → ((x : A) → test x ≡ true → P x) → All P (filter test xs)
  all_kept test [] f = nil
  all_kept test (x ∷ xs) f = all_cons_if (test x) x (f x) (all_kept test xs f)

  of_cons_if : {P : A → Type 0} (t : Bool) (x : A) (xs : List A) → All P (cons_if t x xs) → (t ≡ true → P x) × All P xs
  of_cons_if true x xs h = ((λ _. head_of h), tail_of h)
  of_cons_if false x xs h = ((λ e. absurd (true≢false (sym e))), h)

  -- a fact of those that are kept, over all of them
  pub all_of_kept : {P : A → Type 0} (test : A → Bool) (xs : List A) → All P (filter test xs) → All (λ x. test x ≡ true → P x) xs
  all_of_kept test [] h = nil
  all_of_kept test (x ∷ xs) h = let r = of_cons_if (test x) x (filter test xs) h in more r.0 (all_of_kept test xs r.1)

  -- what holds of each key's part holds of all, each by its own key
  pub all_by_key : (P : ℕ → A → Type 0) (key : A → ℕ) (xs : List A) → ((s : ℕ) → All (P s) (filter (λ x. eqb (key x) s) xs)) → All (λ x. P (key x) x) xs
  all_by_key P key [] h = nil
  all_by_key P key (x ∷ xs) h =
      more ((of_cons_if (eqb (key x) (key x)) x (filter (λ y. eqb (key y) (key x)) xs) (h (key x))).0 (eq-eqb (key x) (key x) refl))
      (all_by_key P key xs (λ s. (of_cons_if (eqb (key x) s) x (filter (λ y. eqb (key y) s) xs) (h s)).1))

module _ {A B : Type 0} where
  map_cons_if : (f : A → B) (t : Bool) (x : A) (xs : List A) → cons_if t (f x) (map f xs) ≡ map f (cons_if t x xs)
  map_cons_if f true x xs = refl
  map_cons_if f false x xs = refl

  pub filter_map_lem : (test : B → Bool) (f : A → B) (xs : List A) → filter test (map f xs) ≡ map f (filter (λ x. test (f x)) xs)
  filter_map_lem test f [] = refl
  filter_map_lem test f (x ∷ xs) = ap (cons_if (test (f x)) (f x)) (filter_map_lem test f xs) ∙ map_cons_if f (test (f x)) x (filter (λ x. test (f x)) xs)

  pub map_same : (f g : A → B) {xs : List A} → All (λ x. f x ≡ g x) xs → map f xs ≡ map g xs
  map_same f g nil = refl
  map_same f g (more h hs) = ap₂ (λ (y : B) (ys : List B). y ∷ ys) h (map_same f g hs)

  pub sum_by_map : (w : B → ℕ) (f : A → B) (xs : List A) → sum_by w (map f xs) ≡ sum_by (λ x. w (f x)) xs
  sum_by_map w f [] = refl
  sum_by_map w f (x ∷ xs) = ap (λ (n : ℕ). n + w (f x)) (sum_by_map w f xs)

  -- filter, then map, over a list turned round
  pub filter_rows : (test : B → Bool) (f : A → B) (xs : List A) → filter test (map f (oldest_first xs)) ≡ map f (oldest_first (filter (λ x. test (f x)) xs))
  filter_rows test f xs = filter_map_lem test f (oldest_first xs) ∙ ap (map f) (filter_in_order (λ x. test (f x)) xs)

  pub all_mapped : {P : B → Type 0} (f : A → B) {xs : List A} → All (λ x. P (f x)) xs → All P (map f xs)
  all_mapped f nil = nil
  all_mapped f (more h hs) = more h (all_mapped f hs)
