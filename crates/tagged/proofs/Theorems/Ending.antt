-- An ending tells its answer: done or refused by the number, and two different answers never end alike. So what a call promises of its ending holds of its answer.
use Rattle.std.specs.Prelude.{ℕ, ◌≤◌, ◌≡◌, refl, List, [], false, ℤ, is_ok, Err, Ok, Result}
use Rattle.std.proofs.Common.{sym, ap, subst, arith, ne_eqb}
use Rattle.tagged.specs.File.{refusal, FileAnswer}
use Rattle.tagged.proofs.Theorems.File.{RefusesTo}
use Rattle.tagged.specs.Ending.{Ending, ends_refused, ends_done, ending_by}
use Rattle.tagged.specs.EndingTests.{number_is_0, Numbered}
use Rattle.tagged.specs.AnswerPromised.{AnswerPromised}
use Rattle.tagged.specs.FileEnding.{file_ending}
use Rattle.tagged.specs.declared.file.Refusal.{Refusal}

-- the refusal that it tells, where its number isn't 0
abbrev pub refusal_in : Ending → Refusal
refusal_in ending = refusal ending.number ending.file ending.place

pub refused_by_number : (r : Refusal) → 1 ≤ r.number → number_is_0 (ends_refused r) ≡ false
refused_by_number r numbered = ne_eqb r.number 0 (λ none. omega arith)

pub refused_not_done : (r : Refusal) (values : List ℤ) → 1 ≤ r.number → ends_refused r ≡ ends_done values → ⊥
refused_not_done r values numbered e = let none : r.number ≡ 0 = ap (λ (ending : Ending). ending.number) e in omega arith

pub refusal_by_ending : (r s : Refusal) → ends_refused r ≡ ends_refused s → r ≡ s
refusal_by_ending r s e = ap refusal_in e

pub numbered_to : (most file : ℕ) (answer : FileAnswer) → RefusesTo most file answer → Numbered answer
numbered_to most file (Ok _) h = tt
numbered_to most file (Err r) h = h.0

-- ---- of any answer that is done with a value, or refused

module _ {Value : Type 0} (values : Value → List ℤ) where
  pub answer_by_number : (answer : Result Value Refusal) → Numbered answer → number_is_0 (ending_by values answer) ≡ is_ok answer
  answer_by_number (Ok value) numbered = refl
  answer_by_number (Err r) numbered = refused_by_number r numbered

  -- where the values tell the value
  module _ (told : (value other : Value) → values value ≡ values other → value ≡ other) where
    pub answer_by_ending : (answer other : Result Value Refusal) → Numbered answer → Numbered other → ending_by values answer ≡ ending_by values other → answer ≡ other
    answer_by_ending (Ok value) (Ok other) numbered others e = ap Ok (told value other (ap (λ (ending : Ending). ending.values) e))
    answer_by_ending (Ok value) (Err s) numbered others e = absurd (refused_not_done s (values value) others (sym e))
    answer_by_ending (Err r) (Ok other) numbered others e = absurd (refused_not_done r (values other) numbered e)
    answer_by_ending (Err r) (Err s) numbered others e = ap Err (refusal_by_ending r s e)

    pub promised_by_ending : (defined answer : Result Value Refusal) → Numbered defined → AnswerPromised (ending_by values) defined answer → answer ≡ defined
    promised_by_ending defined answer numbered promise = answer_by_ending answer defined promise.numbered numbered promise.ends

pub answer_promise : {Value : Type 0} (ending : Result Value Refusal → Ending) {defined answer : Result Value Refusal} → Numbered defined → answer ≡ defined →
    AnswerPromised ending defined answer
answer_promise ending numbered same = record { numbered = subst Numbered (sym same) numbered; ends = ap ending same }

-- ---- of a file that is read

pub file_answer_by_number : (answer : FileAnswer) → Numbered answer → number_is_0 (file_ending answer) ≡ is_ok answer
file_answer_by_number = answer_by_number (λ _. [])

pub file_answer_by_ending : (answer other : FileAnswer) → Numbered answer → Numbered other → file_ending answer ≡ file_ending other → answer ≡ other
file_answer_by_ending = answer_by_ending (λ _. []) (λ value other e. refl)
