-- What the definitions are made of: elements at the start of a list, turning it round, summing over it, a fact of each element.
use Rattle.std.specs.Prelude.{ℕ, ◌+◌, List, [], ◌∷◌, ◌++◌, length, drop}

-- elements at the start of a list; those past them stay as they are
abbrev pub at_start : {A : Type 0} → List A → List A → List A
at_start elements others = elements ++ drop (length elements) others

-- the history has the newest first, ledger and table the oldest
abbrev pub oldest_first : {A : Type 0} → List A → List A
oldest_first [] = []
oldest_first (x ∷ xs) = oldest_first xs ++ (x ∷ [])

abbrev pub sum_by : {A : Type 0} → (A → ℕ) → List A → ℕ
sum_by figure [] = 0
sum_by figure (x ∷ xs) = sum_by figure xs + figure x

pub data All {A : Type 0} (P : A → Type 0) : List A → Type 0 where
  nil : All P []
  more : {x : A} {xs : List A} → P x → All P xs → All P (x ∷ xs)
