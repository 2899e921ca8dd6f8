-- Which numbers have a place: those of the records that stand; where numbers rise, each record is found at its own.
use Rattle.std.specs.Prelude.{ℕ, suc, ◌+◌, ◌<◌, ◌≡◌, refl, List, [], ◌∷◌, ◌++◌, map, filter, Bool, true, false, cond, not, ◌||◌, length, get_or, eqb, ltb, None, Option, Some, is_some}
use Rattle.std.specs.List.{position_or_len, list_any}
use Rattle.std.proofs.Common.{sym, ap, ◌∙◌, arith, eq-eqb, ne_eqb, eqb-true, ltb-true, ltb-false, le-ltb}
use Rattle.tagged.proofs.Theorems.Impossible.{impossible}
use Rattle.std.proofs.lemmas.Bool.{lt-ltb, false≢true}
use Rattle.std.proofs.lemmas.List.{length-map}
use Rattle.std.proofs.lemmas.List.Quantifiers.{position-Some}
use Rattle.std.proofs.lemmas.List.Sums.{position_or_len_is}
use Rattle.ledger.specs.Lookup.{place_of}
use Rattle.ledger.specs.Records.{no_scheme}
use Rattle.ledger.specs.Sound.{rise_to}
use Rattle.ledger.specs.Tallied.{OwnPlaces, Rising}
use Rattle.ledger.proofs.Theorems.Columns.{column_at}
use Rattle.ledger.proofs.Theorems.Rising.{rise_apart}
use Rattle.ledger.specs.declared.records.Scheme.{Scheme}

-- ---- a number's place, one record after the other
abbrev pub next_place : Option ℕ → Option ℕ
next_place None = None
next_place (Some k) = Some (suc k)

module _ {A : Type 0} (number : A → ℕ) (n : ℕ) where
  pub place_cons : (x : A) (xs : List A) → place_of number n (x ∷ xs) ≡ cond (eqb (number x) n) (Some 0) (next_place (place_of number n xs))
  unfolding place_of
  place_cons x xs = by (eqb (number x) n) (ltb (position_or_len (λ y. eqb (number y) n) xs) (length xs)) refl
    where
      by : (own within : Bool) → ltb (position_or_len (λ y. eqb (number y) n) xs) (length xs) ≡ within →
          (let p = cond (not own) (1 + position_or_len (λ y. eqb (number y) n) xs) 0 in cond (ltb p (suc (length xs))) (Some p) None)
          ≡ cond own (Some 0) (next_place (cond within (Some (position_or_len (λ y. eqb (number y) n) xs)) None))
      by true within w = rw (lt-ltb 0 (suc (length xs)) (omega arith))
      by false true w = rw (lt-ltb (1 + position_or_len (λ y. eqb (number y) n) xs) (suc (length xs)) (omega (arith, ltb-true _ _ w))) (ap Some (omega arith))
      by false false w = rw (le-ltb (1 + position_or_len (λ y. eqb (number y) n) xs) (suc (length xs)) (omega (arith, ltb-false _ _ w)))

  -- whether a record with the number stands
  pub stands_cons : (x : A) (xs : List A) → is_some (place_of number n (x ∷ xs)) ≡ cond (eqb (number x) n) true (is_some (place_of number n xs))
  stands_cons x xs = rw (place_cons x xs) (by (eqb (number x) n) (place_of number n xs))
    where
      by : (own : Bool) (at : Option ℕ) → is_some (cond own (Some 0) (next_place at)) ≡ cond own true (is_some at)
      by true at = refl
      by false None = refl
      by false (Some k) = refl

  own_stands : (own : Bool) {rest more : Bool} → (rest ≡ true → more ≡ true) → cond own true rest ≡ true → cond own true more ≡ true
  own_stands true grows h = refl
  own_stands false grows h = grows h

  -- among more records
  pub stands_more : (xs ys : List A) → is_some (place_of number n xs) ≡ true → is_some (place_of number n (xs ++ ys)) ≡ true
  unfolding place_of
  stands_more [] ys h = impossible cc
  stands_more (x ∷ xs) ys h = rw (stands_cons x (xs ++ ys)) (own_stands (eqb (number x) n) (stands_more xs ys) (rw (stands_cons x xs) at h))

  pub stands_last : (xs : List A) (y : A) → number y ≡ n → is_some (place_of number n (xs ++ (y ∷ []))) ≡ true
  stands_last [] y own = rw (stands_cons y [], eq-eqb (number y) n own)
  stands_last (x ∷ xs) y own = rw (stands_cons x (xs ++ (y ∷ []))) (own_stands (eqb (number x) n) {rest = true} (λ h. stands_last xs y own) (last (eqb (number x) n)))
    where
      last : (own : Bool) → cond own true true ≡ true
      last true = refl
      last false = refl

  -- among those that pass a test, where each with the number does
  pub stands_filter : (p : A → Bool) (xs : List A) → ((x : A) → number x ≡ n → p x ≡ true) → is_some (place_of number n xs) ≡ true →
      is_some (place_of number n (filter p xs)) ≡ true
  unfolding place_of
  stands_filter p [] passes h = impossible cc
  stands_filter p (x ∷ xs) passes h =
      by (eqb (number x) n) refl (p x) refl (rw (stands_cons x xs) at h) (stands_filter p xs passes)
    where
      by : (own : Bool) → eqb (number x) n ≡ own → (kept : Bool) → p x ≡ kept → cond own true (is_some (place_of number n xs)) ≡ true →
          (is_some (place_of number n xs) ≡ true → is_some (place_of number n (filter p xs)) ≡ true) →
          is_some (place_of number n (cond kept (x ∷ filter p xs) (filter p xs))) ≡ true
      by true e true k h later = rw (stands_cons x (filter p xs), e)
      by true e false k h later = absurd (false≢true (sym k ∙ passes x (eqb-true _ _ e)))
      by false e true k h later = rw (stands_cons x (filter p xs), e) (later h)
      by false e false k h later = later h

  -- other records with the same numbers
  pub stands_same : (xs ys : List A) → map number xs ≡ map number ys → is_some (place_of number n xs) ≡ is_some (place_of number n ys)
  unfolding place_of
  stands_same xs ys same = by_numbers xs ∙ ap (λ numbers. list_any (λ m. eqb m n) numbers) same ∙ sym (by_numbers ys)
    where
      by_numbers : (xs : List A) → is_some (place_of number n xs) ≡ list_any (λ m. eqb m n) (map number xs)
      by_numbers [] = refl
      by_numbers (x ∷ xs) = stands_cons x xs ∙ or (eqb (number x) n) (by_numbers xs)
        where
          or : (own : Bool) {rest any : Bool} → rest ≡ any → cond own true rest ≡ (own || any)
          or true same = refl
          or false same = same

module _ {A : Type 0} (number : A → ℕ) (given : List A) (none : A) where
  -- a place is that of a record with the number
  pub placed : (n k : ℕ) → place_of number n given ≡ Some k → (k < length given) × (number (get_or given k none) ≡ n)
  unfolding place_of
  placed n k at =
      let found = position-Some (λ x. eqb (number x) n) given k none at in
      (found.0, eqb-true _ _ found.1)

  -- the first record with a number is found
  pub found_first : (n k : ℕ) → k < length given → number (get_or given k none) ≡ n → ((j : ℕ) → j < k → number (get_or given j none) ≡ n → ⊥) →
      place_of number n given ≡ Some k
  unfolding place_of
  found_first n k below own others =
      let is : position_or_len (λ x. eqb (number x) n) given ≡ k =
      position_or_len_is (λ x. eqb (number x) n) given k none (omega arith) (λ j less. ne_eqb _ _ (others j less)) (λ h. eq-eqb _ _ own) in
      rw (is, lt-ltb k (length given) below)

  -- no record has it
  pub not_found : (n : ℕ) → ((k : ℕ) → k < length given → number (get_or given k none) ≡ n → ⊥) → place_of number n given ≡ None
  unfolding place_of
  not_found n others =
      let is : position_or_len (λ x. eqb (number x) n) given ≡ length given =
      position_or_len_is (λ x. eqb (number x) n) given (length given) none (omega arith) (λ k below. ne_eqb _ _ (others k below)) (λ h. absurd (omega arith)) in
      rw (is, le-ltb (length given) (length given) (omega arith))

  module _ (next before : ℕ) (rise : rise_to next before (map number given) ≡ true) where
    pub apart : (j k : ℕ) → j < k → k < length given → number (get_or given j none) < number (get_or given k none)
    apart j k less below =
        let same : length (map number given) ≡ length given = length-map given number in
        rw (sym (column_at number given j none (omega arith)), sym (column_at number given k none (omega arith)))
        (rise_apart next before (map number given) rise j k less (omega arith))

    pub own_place : (k : ℕ) → k < length given → place_of number (number (get_or given k none)) given ≡ Some k
    own_place k below = found_first (number (get_or given k none)) k below refl (λ j less same. omega (arith, apart j k less below))

    -- records with one number are one
    pub one_place : (j k : ℕ) → j < length given → k < length given → number (get_or given j none) ≡ number (get_or given k none) → Some j ≡ Some k
    one_place j k low high same = sym (own_place j low) ∙ ap (λ n. place_of number n given) same ∙ own_place k high

pub own_places : (next : ℕ) (schemes : List Scheme) → rise_to next 0 (map (λ scheme. scheme.number) schemes) ≡ true → OwnPlaces schemes
own_places next schemes rise k below = own_place (λ scheme. scheme.number) schemes no_scheme next 0 rise k below

pub rising : (next : ℕ) (schemes : List Scheme) → rise_to next 0 (map (λ scheme. scheme.number) schemes) ≡ true → Rising schemes
rising next schemes rise j k less below = apart (λ scheme. scheme.number) schemes no_scheme next 0 rise j k less below
