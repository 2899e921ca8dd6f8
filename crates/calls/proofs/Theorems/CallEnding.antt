-- What the ending of a call tells: by its number whether the call is done, and by all of it the answer.
use Rattle.std.specs.Prelude.{ℕ, ◌<◌, ◌≡◌, refl, List, [], ◌∷◌, ◌++◌, map, length, Bool, true, false, cond, eqb, ℤ, pos, nat_abs, get_or, drop, None, Option, Some}
use Rattle.std.proofs.Common.{sym, ap, ◌∙◌, arith}
use Rattle.tagged.proofs.Theorems.Impossible.{impossible}
use Rattle.tagged.specs.Ending.{Ending}
use Rattle.tagged.specs.EndingTests.{number_is_0}
use Rattle.tagged.proofs.Theorems.Ending.{refused_by_number, refused_not_done, refusal_by_ending}
use Rattle.reconciliation.specs.Figures.{figure_values}
use Rattle.reconciliation.proofs.Theorems.Figures.{reconciliation_by_figures}
use Rattle.tagged.specs.File.{refusal}
use Rattle.tagged.specs.Refusals.{ledger_unsound}
use Rattle.ledger.specs.Sound.{sound}
use Rattle.ledger.proofs.Theorems.Sound.{sound_means}
use Rattle.ledger.proofs.Theorems.Rising.{rise_length}
use Rattle.ledger.specs.RefusalNumbers.{one_of}
use Rattle.ledger.proofs.Theorems.RefusalNumbers.{one_of_positive}
use Rattle.calls.specs.Decision.{Call, accept, pay_out, hand_over, clear, Decision, accepted, paid_out, handed_over, cleared, refused, decided, CallAnswer, is_accepted, is_done, is_refused, answer_to}
use Rattle.calls.specs.Carried.{State, books_on, schemes_on}
use Rattle.calls.specs.Calls.{decided_on, answered}
use Rattle.calls.specs.CallRefusals.{call_numbers, Refuses}
use Rattle.calls.proofs.Theorems.Calls.{refusal_numbers}
use Rattle.calls.specs.CallEnding.{joining_values, opening_value, acceptance_values, call_ending, SchemeNumbered, Numbered}
use Rattle.calls.specs.CallEndingTests.{not_refused}
use Rattle.calls.specs.declared.answers.Acceptance.{Acceptance}
use Rattle.calls.specs.declared.answers.JoiningAnswer.{JoiningAnswer}
use Rattle.calls.specs.declared.answers.JoiningAnswer.TheVariants.{NotAsked, Ended, Small, Joined}

pub answered_numbered : (state : State) (call : Call) → Numbered (answered state call)
unfolding answered
answered_numbered state call = by_soundness (not_0 call) (refusal_numbers state call)
  where
    opened : (opens : Bool) → 0 < state.ledger.next_scheme → SchemeNumbered (cond opens (Some state.ledger.next_scheme) None)
    opened true above = above
    opened false above = tt

    by : (decision : Decision) → 0 < state.ledger.next_scheme → one_of (call_numbers call) 0 ≡ false → Refuses (call_numbers call) (answer_to (books_on state) decision) →
        Numbered (answer_to (books_on state) decision)
    by (accepted bill course credits) above none told = opened course.opens above
    by (paid_out s e amount) above none told = tt
    by (handed_over e person) above none told = tt
    by (cleared month gone) above none told = tt
    by (refused r) above none told = one_of_positive (call_numbers call) r.number none told

    not_0 : (call : Call) → one_of (call_numbers call) 0 ≡ false
    not_0 (accept book request) = refl
    not_0 (pay_out e amount) = refl
    not_0 (hand_over e person) = refl
    not_0 (clear month) = refl

    numbered_by : (stands : Bool) → sound state.ledger state.table (length state.table) ≡ stands → one_of (call_numbers call) 0 ≡ false →
        Refuses (call_numbers call) (answer_to (books_on state) (cond stands (decided (books_on state) call) (refused (refusal ledger_unsound 0 0)))) →
        Numbered (answer_to (books_on state) (cond stands (decided (books_on state) call) (refused (refusal ledger_unsound 0 0))))
    numbered_by true stands none told =
        by (decided (books_on state) call)
        (omega (
          arith,
          rise_length state.ledger.next_scheme 0 (map (λ scheme. scheme.number) (schemes_on state))
              (sound_means state.ledger state.table (length state.table) stands).numbers.schemes_in_order,
        ))
        none told
    numbered_by false stands none told = one_of_positive (call_numbers call) ledger_unsound none told

    by_soundness : one_of (call_numbers call) 0 ≡ false → Refuses (call_numbers call) (answer_to (books_on state) (decided_on state call)) →
        Numbered (answer_to (books_on state) (decided_on state call))
    by_soundness = numbered_by (sound state.ledger state.table (length state.table)) refl

pub call_by_number : (state : State) (call : Call) → number_is_0 (call_ending (answered state call)) ≡ not_refused (answered state call)
call_by_number state call = by (answered state call) (answered_numbered state call)
  where
    by : (answer : CallAnswer) → Numbered answer → number_is_0 (call_ending answer) ≡ not_refused answer
    by (is_accepted acceptance) numbered = refl
    by is_done numbered = refl
    by (is_refused r) numbered = refused_by_number r numbered

-- ---- the values tell the acceptance
abbrev joining_from : List ℤ → JoiningAnswer
joining_from values =
    let kind = nat_abs (get_or values 0 (pos 0)) in
    cond (eqb kind 0) NotAsked
    (cond (eqb kind 1) (Joined (record { entry = nat_abs (get_or values 1 (pos 0)); contribution = nat_abs (get_or values 2 (pos 0)) }))
    (cond (eqb kind 2) Small Ended))

joining_from_lem : (joining : JoiningAnswer) (rest : List ℤ) → joining_from (joining_values joining ++ rest) ≡ joining
joining_from_lem NotAsked rest = refl
joining_from_lem (Joined collected) rest = refl
joining_from_lem Small rest = refl
joining_from_lem Ended rest = refl

after_joining : (joining : JoiningAnswer) (rest : List ℤ) → drop 3 (joining_values joining ++ rest) ≡ rest
after_joining NotAsked rest = refl
after_joining (Joined collected) rest = refl
after_joining Small rest = refl
after_joining Ended rest = refl

opening_by_value : (opening other : Option ℕ) → SchemeNumbered opening → SchemeNumbered other → opening_value opening ≡ opening_value other → opening ≡ other
opening_by_value None None numbered others e = refl
opening_by_value None (Some scheme) numbered others e = let z : 0 ≡ scheme = cc in absurd (omega arith)
opening_by_value (Some scheme) None numbered others e = let z : scheme ≡ 0 = cc in absurd (omega arith)
opening_by_value (Some scheme) (Some other) numbered others e = ap (λ (value : ℤ). Some (nat_abs value)) e

-- the opening and the figures
abbrev later_values : Acceptance → List ℤ
later_values acceptance = opening_value acceptance.opening ∷ figure_values acceptance.reconciliation

module _ (acceptance other : Acceptance) (numbered : SchemeNumbered acceptance.opening) (others : SchemeNumbered other.opening)
    (e : acceptance_values acceptance ≡ acceptance_values other) where
  same_joining : acceptance.joining ≡ other.joining
  same_joining = sym (joining_from_lem acceptance.joining (later_values acceptance)) ∙ ap joining_from e ∙ joining_from_lem other.joining (later_values other)

  same_later : later_values acceptance ≡ later_values other
  same_later = sym (after_joining acceptance.joining (later_values acceptance)) ∙ ap (drop 3) e ∙ after_joining other.joining (later_values other)

  same_opening : acceptance.opening ≡ other.opening
  same_opening = opening_by_value acceptance.opening other.opening numbered others (ap (λ values. get_or values 0 (pos 0)) same_later)

  same_reconciliation : acceptance.reconciliation ≡ other.reconciliation
  same_reconciliation = reconciliation_by_figures acceptance.reconciliation other.reconciliation (ap (drop 1) same_later)

  pub acceptance_by_values : acceptance ≡ other
  acceptance_by_values = λ i. record { reconciliation = same_reconciliation i; joining = same_joining i; opening = same_opening i }

-- ---- the ending tells the answer, whichever calls these are
accepted_not_done : (acceptance : Acceptance) → acceptance_values acceptance ≡ [] → ⊥
accepted_not_done acceptance e =
    let none : later_values acceptance ≡ [] = sym (after_joining acceptance.joining (later_values acceptance)) ∙ ap (drop 3) e in
    impossible cc

pub answer_by_ending : (answer other : CallAnswer) → Numbered answer → Numbered other → call_ending answer ≡ call_ending other → answer ≡ other
answer_by_ending (is_accepted acceptance) (is_accepted other) numbered others e =
    ap is_accepted (acceptance_by_values acceptance other numbered others (ap (λ (ending : Ending). ending.values) e))
answer_by_ending (is_accepted acceptance) is_done numbered others e = absurd (accepted_not_done acceptance (ap (λ (ending : Ending). ending.values) e))
answer_by_ending (is_accepted acceptance) (is_refused s) numbered others e = absurd (refused_not_done s _ others (sym e))
answer_by_ending is_done (is_accepted other) numbered others e = absurd (accepted_not_done other (sym (ap (λ (ending : Ending). ending.values) e)))
answer_by_ending is_done is_done numbered others e = refl
answer_by_ending is_done (is_refused s) numbered others e = absurd (refused_not_done s _ others (sym e))
answer_by_ending (is_refused r) (is_accepted other) numbered others e = absurd (refused_not_done r _ numbered e)
answer_by_ending (is_refused r) is_done numbered others e = absurd (refused_not_done r _ numbered e)
answer_by_ending (is_refused r) (is_refused s) numbered others e = ap is_refused (refusal_by_ending r s e)

pub call_by_ending : (state other : State) (call next : Call) → call_ending (answered state call) ≡ call_ending (answered other next) →
    answered state call ≡ answered other next
call_by_ending state other call next =
    answer_by_ending (answered state call) (answered other next) (answered_numbered state call) (answered_numbered other next)
