-- Numbers that rise and stay below the next one: each is above those before it, fewer rise as well, and the next one may come last.
use Rattle.std.specs.Prelude.{ℕ, zero, suc, ◌+◌, ◌<◌, ◌≤◌, ◌≡◌, List, [], ◌∷◌, ◌++◌, map, filter, Bool, true, false, cond, length, get_or, ltb}
use Rattle.std.proofs.Common.{not-suc-le-zero, arith, ltb-true}
use Rattle.std.proofs.lemmas.Bool.{lt-ltb}
use Rattle.ledger.specs.Lists.{All, nil, more}
use Rattle.ledger.specs.Sound.{rise_to}
use Rattle.ledger.proofs.Theorems.Sound.{both_true}

module _ (next : ℕ) where
  module _ (before number : ℕ) (later : List ℕ) (h : rise_to next before (number ∷ later) ≡ true) where
    pub rise_first : before < number
    unfolding rise_to
    rise_first = ltb-true _ _ (both_true (ltb before number) (rise_to next number later) h).0

    pub rise_later : rise_to next number later ≡ true
    unfolding rise_to
    rise_later = (both_true (ltb before number) (rise_to next number later) h).1

  pub rise_cons : (before number : ℕ) (later : List ℕ) → before < number → rise_to next number later ≡ true → rise_to next before (number ∷ later) ≡ true
  unfolding rise_to
  rise_cons before number later above h = rw (lt-ltb _ _ above) h

  pub rise_end : (before : ℕ) → rise_to next before [] ≡ true → before < next
  unfolding rise_to
  rise_end before h = ltb-true _ _ h

  -- so many numbers were given
  pub rise_length : (before : ℕ) (numbers : List ℕ) → rise_to next before numbers ≡ true → before + length numbers < next
  rise_length before [] h = omega (arith, rise_end before h)
  rise_length before (number ∷ later) h =
      omega (arith, rise_first before number later h, rise_length number later (rise_later before number later h))

  -- each is above what comes before the list, and below the next one
  pub rise_each : (before : ℕ) (numbers : List ℕ) → rise_to next before numbers ≡ true → (k : ℕ) → k < length numbers →
      (before < get_or numbers k 0) × (get_or numbers k 0 < next)
  rise_each before [] h k below = absurd (not-suc-le-zero below)
  rise_each before (number ∷ later) h zero below =
      (rise_first before number later h, omega (arith, rise_length number later (rise_later before number later h)))
  rise_each before (number ∷ later) h (suc k) below =
      let each = rise_each number later (rise_later before number later h) k (omega arith) in
      (omega (arith, rise_first before number later h, each.0), each.1)

  pub rise_apart : (before : ℕ) (numbers : List ℕ) → rise_to next before numbers ≡ true → (j k : ℕ) → j < k → k < length numbers →
      get_or numbers j 0 < get_or numbers k 0
  rise_apart before [] h j k less below = absurd (not-suc-le-zero below)
  rise_apart before (number ∷ later) h j zero less below = absurd (not-suc-le-zero less)
  rise_apart before (number ∷ later) h zero (suc k) less below = (rise_each number later (rise_later before number later h) k (omega arith)).0
  rise_apart before (number ∷ later) h (suc j) (suc k) less below = rise_apart number later (rise_later before number later h) j k (omega arith) (omega arith)

  pub rise_weaker : (less before : ℕ) (numbers : List ℕ) → less ≤ before → rise_to next before numbers ≡ true → rise_to next less numbers ≡ true
  unfolding rise_to
  rise_weaker less before [] below h = lt-ltb _ _ (omega (arith, rise_end before h))
  rise_weaker less before (number ∷ later) below h =
      rise_cons less number later (omega (arith, rise_first before number later h)) (rise_later before number later h)

  pub rise_filter : {A : Type 0} (figure : A → ℕ) (p : A → Bool) (before : ℕ) (given : List A) → rise_to next before (map figure given) ≡ true →
      rise_to next before (map figure (filter p given)) ≡ true
  rise_filter figure p before [] h = h
  rise_filter figure p before (x ∷ given) h =
      by (p x) (rise_first before (figure x) (map figure given) h) (rise_filter figure p (figure x) given (rise_later before (figure x) (map figure given) h))
    where
      by : (test : Bool) → before < figure x → rise_to next (figure x) (map figure (filter p given)) ≡ true →
          rise_to next before (map figure (cond test (x ∷ filter p given) (filter p given))) ≡ true
      by true first rest = rise_cons before (figure x) (map figure (filter p given)) first rest
      by false first rest = rise_weaker before (figure x) (map figure (filter p given)) (omega (arith, first)) rest

pub rise_nil : (next before : ℕ) → before < next → rise_to next before [] ≡ true
unfolding rise_to
rise_nil next before above = lt-ltb _ _ above

-- the next number is given, and another is the next one
pub rise_more : (next after before : ℕ) (numbers : List ℕ) → next < after → rise_to next before numbers ≡ true →
    rise_to after before (numbers ++ (next ∷ [])) ≡ true
rise_more next after before [] above h = rise_cons after before next [] (rise_end next before h) (rise_nil after next above)
rise_more next after before (number ∷ later) above h =
    rise_cons after before number (later ++ (next ∷ [])) (rise_first next before number later h)
    (rise_more next after number later above (rise_later next before number later h))

-- each of these is above what comes before the list, and below the next one
pub rise_all : {A : Type 0} (figure : A → ℕ) (next before : ℕ) (given : List A) → rise_to next before (map figure given) ≡ true →
    All (λ x. (before < figure x) × (figure x < next)) given
rise_all figure next before [] h = nil
rise_all figure next before (x ∷ given) h =
    let above : before < figure x = rise_first next before (figure x) (map figure given) h in
    let later : rise_to next (figure x) (map figure given) ≡ true = rise_later next before (figure x) (map figure given) h in
    more (above, omega (arith, rise_length next (figure x) (map figure given) later))
    (rise_all figure next before given (rise_weaker next before (figure x) (map figure given) (omega (arith, above)) later))
