-- What every call shares: the result, in which a refusal is told, and the lent buffers: the five places of an answer, the twenty-seven of the figures.
use Rattle.std.specs.Prelude.{ℕ, Err, Ok, ◌+◌, ◌*◌, ◌/◌, ◌%◌, Bool, cond, List, [], ◌∷◌, ◌++◌, ltb, eqb, ℤ, length, drop}
use Rattle.tagged.specs.Refusals.{numbers_not_counts}
use Rattle.tagged.specs.File.{FileAnswer}
use Rattle.tagged.specs.declared.file.Refusal.{Refusal}
use Rattle.reconciliation.specs.Figures.{figure_values}
use Rattle.reconciliation.specs.declared.Reconciliation.{Reconciliation}
use Rattle.quoting_unit.specs.declared.outcomes.Outcome.{Outcome}

-- ---- the result: 0 where the call is done, otherwise the refusal

-- the last number of a refusal: document 01's table, and document 02's E5 and E9 after it
abbrev pub last_number : ℕ
last_number = numbers_not_counts

-- what one counts in a result: of the file, of whether it is of the stored ledger itself, of the place
abbrev pub file_weight : ℕ
file_weight = 32

abbrev pub ledger_weight : ℕ
ledger_weight = 128

abbrev pub place_weight : ℕ
place_weight = 256

-- 2^56 − 1: a place above it is told as it
abbrev pub highest_place : ℕ
highest_place = 72057594037927935

abbrev pub place_in_result : ℕ → ℕ
place_in_result place = cond (ltb highest_place place) highest_place place

abbrev pub result_of : Refusal → ℕ → ℕ
result_of r of_ledger = r.number % file_weight + file_weight * (r.file % 4) + ledger_weight * (of_ledger % 2) + place_weight * place_in_result r.place

-- of a call that tells nothing beside its result and needs no stored ledger
abbrev pub answer_result : FileAnswer → ℕ
answer_result (Ok _) = 0
answer_result (Err r) = result_of r 0

-- a result taken apart: the header's FIKREM_NUMBER, FIKREM_FILE, FIKREM_OF_LEDGER and FIKREM_PLACE
abbrev pub number_in : ℕ → ℕ
number_in result = result % file_weight

abbrev pub file_in : ℕ → ℕ
file_in result = result / file_weight % 4

abbrev pub of_ledger_in : ℕ → ℕ
of_ledger_in result = result / ledger_weight % 2

abbrev pub place_in : ℕ → ℕ
place_in result = result / place_weight

-- how a call ends: what it tells where it is done, or its refusal and whether that is of the stored ledger itself
pub data UnitEnding : Type 0 where
  is_done : List ℕ → UnitEnding
  is_refused : Refusal → ℕ → UnitEnding

abbrev pub outcome_of : UnitEnding → Outcome
outcome_of (is_done told) = record { result = 0; told = told }
outcome_of (is_refused r of_ledger) = record { result = result_of r of_ledger; told = 0 ∷ 0 ∷ 0 ∷ 0 ∷ 0 ∷ [] }

-- ---- the lent buffers

-- how many places an answer and the figures have
abbrev pub answer_places : ℕ
answer_places = 5

abbrev pub figure_places : ℕ
figure_places = 27

-- those of one call, with no places where it is lent none
pub record Lent : Type 0 where
  pub output : List ℕ
  pub figures : List ℤ
  pub answer : List ℕ

abbrev pub lent_figures : List ℤ → Lent
lent_figures figures = record { output = []; figures = figures; answer = [] }

abbrev pub lent_output : List ℕ → List ℕ → Lent
lent_output output answer = record { output = output; figures = []; answer = answer }

abbrev pub lent_both : List ℕ → List ℤ → List ℕ → Lent
lent_both output figures answer = record { output = output; figures = figures; answer = answer }

abbrev pub lent_answer : List ℕ → Lent
lent_answer answer = record { output = []; figures = []; answer = answer }

-- written at the front of a lent buffer, where the call is done; what lies past the places is left alone
abbrev pub answer_after : Outcome → List ℕ → List ℕ
answer_after outcome answer = cond (eqb outcome.result 0) (outcome.told ++ drop answer_places answer) answer

abbrev pub figures_after : Reconciliation → List ℤ → List ℤ
figures_after r figures = figure_values r ++ drop figure_places figures

-- too short for the places
abbrev pub answer_short : Lent → Bool
answer_short lent = ltb (length lent.answer) answer_places

abbrev pub figures_short : Lent → Bool
figures_short lent = ltb (length lent.figures) figure_places
