-- "Schemes and entries keep a lasting number .. and calls and an entry's scheme name that number" (document 02, E8): where the record with a number stands,
-- among those that stand alone.
use Rattle.std.specs.Prelude.{ℕ, List, Option, eqb}
use Rattle.std.specs.List.{position}
use Rattle.ledger.specs.declared.records.Scheme.{Scheme}

-- for schemes and entries alike
unfoldable pub place_of : {A : Type 0} → (A → ℕ) → ℕ → List A → Option ℕ
place_of number n given = position (λ x. eqb (number x) n) given

abbrev pub scheme_place : ℕ → List Scheme → Option ℕ
scheme_place s schemes = place_of (λ scheme. scheme.number) s schemes
