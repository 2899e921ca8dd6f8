-- Exactly when accept answers what, in document 01's order of refusals: 13, pricing's own, 10, 7, 6, 8, 9; what it leaves as it was, and the numbers that it
-- refuses with. Each case has the tests that lead to it, and every test goes one way or the other.
use Rattle.std.specs.Prelude.{ℕ, ◌+◌, ◌<◌, ◌≤◌, ◌≡◌, refl, List, map, Bool, true, false, cond, ◌||◌, ◌⊎◌, length, leb, ltb, eqb, Err, None, Ok, Option, Some}
use Rattle.std.proofs.Common.{sym, ap, ap₂, subst, ◌∙◌, inl, inr, ⊎_elim, arith, ltb-true, ltb-false, le-leb, lt-ltb, le-ltb, eq-eqb, ne_eqb}
use mathlib.Mathlib.Data.Bool.Basic.{dichotomy}
use Rattle.std.proofs.lemmas.Bool.{lt-leb}
use Rattle.tagged.specs.File.{refusal}
use Rattle.tagged.specs.Refusals.{scheme_never_opened, month_before_last, no_scheme_left, no_entry_left, no_connection_left, ledger_unsound}
use Rattle.tagged.specs.declared.file.Refusal.{Refusal}
use Rattle.charge.specs.Price.{price_of, Pricing}
use Rattle.charge.specs.declared.Bill.{Bill}
use Rattle.ledger.specs.Limits.{most_schemes, most_entries, most_connections, highest_next_scheme}
use Rattle.ledger.specs.Books.{SchemeParticulars, Books, scheme_at}
use Rattle.ledger.specs.Sound.{sound}
use Rattle.ledger.specs.SoundConditions.{SoundLedger}
use Rattle.ledger.proofs.Theorems.Sound.{not_both, sound_means}
use Rattle.ledger.proofs.Theorems.Rising.{rise_length}
use Rattle.calls.proofs.Theorems.Lists.{by_cond}
use Rattle.calls.specs.Verdict.{joining_of, joining_part, opens_scheme, entries_of_joining, entries_needed, schemes_lacking, entries_lacking, course_verdict, verdict, Verdict}
use Rattle.calls.proofs.Theorems.Verdict.{joining_ended, joining_small, joining_pays, verdict_refused_10, verdict_refused_7, verdict_refused_6, verdict_course, course_refused_8, course_refused_9, course_accepted}
use Rattle.calls.specs.Decision.{accept, Decision, refused, credits_by, accept_by, decided_by as decided_of, CallAnswer, is_accepted, is_done, is_refused, joining_answer, answer_to}
use Rattle.calls.specs.Carried.{State, books_on, schemes_on, booked, joined, opened, carried_out}
use Rattle.calls.specs.Calls.{answered, leaves}
use Rattle.calls.proofs.Theorems.Calls.{refused_changes_nothing, verdict_refuses}
use Rattle.calls.specs.CallRefusals.{Refuses as RefusesWith}
use Rattle.calls.proofs.Theorems.ByPlace.{schemes_shown, entries_shown}
use Rattle.calls.specs.Answers.{accepted_as, joined_as}
use Rattle.calls.specs.declared.courses.Joining.{Joining}
use Rattle.calls.specs.declared.courses.Course.{Course}
use Rattle.calls.specs.declared.answers.JoiningAnswer.{JoiningAnswer}
use Rattle.accept_rules.specs.Laws.{ledger_numbers, AcceptRefuses, decided_by, answered_by, leaves_by, earlier_capacity, contribution_of, joined_with, SchemesLeft, SchemesLacking, EntriesLeft, EntriesLacking, Billed, MayConnect, MayJoin, InForce, JoiningAnswers, not_asked, ended, cleared, small, joins, OpeningAnswers, opens_none, opens, Answers, refused_13, refused_by_pricing, refused_10, refused_7, refused_6, refused_8, refused_9, accepts}

-- ---- each case is accept's
lt_or_le : (a b : ℕ) → (a < b) ⊎ (b ≤ a)
lt_or_le a b = ⊎_elim (λ e. inr (ltb-false a b e)) (λ e. inl (ltb-true a b e)) (dichotomy (ltb a b))

-- by the schemes and the entries that a sound ledger has: a scheme or an entry is lacking, or isn't
module _ (state : State) (stands : sound state.ledger state.table (length state.table) ≡ true) {new : ℕ} where
  schemes_lacking_lem : (opens : Bool) → new ≡ cond opens 1 0 → SchemesLacking state new → schemes_lacking state.ledger.count state.ledger.next_scheme opens ≡ true
  schemes_lacking_lem true needs (inl place) = rw (le-leb most_schemes state.ledger.count (omega arith))
  schemes_lacking_lem true needs (inr number) = rw (le-leb highest_next_scheme state.ledger.next_scheme (omega arith)) (either (leb most_schemes state.ledger.count))
    where
      either : (b : Bool) → (b || true) ≡ true
      either true = refl
      either false = refl
  schemes_lacking_lem false needs (inl place) = absurd (omega (arith, (sound_means _ _ _ stands).figures.schemes))
  schemes_lacking_lem false needs (inr number) = absurd (omega (arith, (sound_means _ _ _ stands).numbers.next_scheme))

  schemes_left : (opens : Bool) → new ≡ cond opens 1 0 → SchemesLeft state new → schemes_lacking state.ledger.count state.ledger.next_scheme opens ≡ false
  schemes_left true needs left =
      rw (lt-leb most_schemes state.ledger.count (omega (arith, left.place)), lt-leb highest_next_scheme state.ledger.next_scheme (omega (arith, left.number)))
  schemes_left false needs left = refl

module _ (state : State) (stands : sound state.ledger state.table (length state.table) ≡ true) (needed : ℕ) where
  entries_lacking_lem : EntriesLacking state needed → entries_lacking state.ledger.entries (length state.table) needed ≡ true
  entries_lacking_lem (inl limit) =
      let few = (sound_means _ _ _ stands).figures.entries in
      rw (ne_eqb needed 0 (λ e. omega arith), lt-ltb most_entries (state.ledger.entries + needed) limit)
  entries_lacking_lem (inr room) =
      let few = (sound_means _ _ _ stands).figures.in_table in
      rw (ne_eqb needed 0 (λ e. omega arith), lt-ltb (length state.table) (state.ledger.entries + needed) room)
      (either (ltb most_entries (state.ledger.entries + needed)))
    where
      either : (b : Bool) → cond b true true ≡ true
      either true = refl
      either false = refl

  entries_left : EntriesLeft state needed → entries_lacking state.ledger.entries (length state.table) needed ≡ false
  entries_left left = rw (le-ltb most_entries (state.ledger.entries + needed) left.limit, le-ltb (length state.table) (state.ledger.entries + needed) left.room) (neither (eqb needed 0))
    where
      neither : (b : Bool) → cond b false false ≡ false
      neither true = refl
      neither false = refl

opens_nothing : (bill : Bill) → (1 ≤ bill.applicant.mark) ⊎ (bill.reconciliation.x ≤ bill.terms.threshold) → opens_scheme bill ≡ false
opens_nothing bill (inl marked) = rw (ne_eqb bill.applicant.mark 0 (λ e. omega arith))
opens_nothing bill (inr within) =
    not_both (eqb bill.applicant.mark 0) (ltb bill.terms.threshold bill.reconciliation.x)
    (λ unmarked above. omega (arith, ltb-true bill.terms.threshold bill.reconciliation.x above))

module _ (state : State) (pricing : Pricing) (places : length state.ledger.schemes ≡ most_schemes) where
  -- an answer and a state are accept's where the decision is
  record Accepts-as (answer : CallAnswer) (after : State) : Type 0 where
    is_answer : answer ≡ answered_by state pricing
    is_after : after ≡ leaves_by state pricing

  by_decision : (decision : Decision) → decision ≡ decided_by state pricing → Accepts-as (answer_to (books_on state) decision) (carried_out state decision)
  by_decision decision e = record { is_answer = ap (answer_to (books_on state)) e; is_after = ap (carried_out state) e }

  module _ (bill : Bill) where
    by_verdict : (v : Verdict) → Billed state pricing bill → verdict (books_on state) bill ≡ v →
        Accepts-as (answer_to (books_on state) (decided_of (books_on state) bill v)) (carried_out state (decided_of (books_on state) bill v))
    by_verdict v h e = by_decision (decided_of (books_on state) bill v) (rw (h.stands, h.priced) (ap (decided_of (books_on state) bill) (sym e)))

    -- ---- each part's answer is the course's
    record JoiningIs (joining : JoiningAnswer) (entries : ℕ) (between : State) : Type 0 where
      part : Joining
      is : joining_part (books_on state) bill ≡ part
      was_opened : bill.applicant.scheme < state.ledger.next_scheme
      answer : joining ≡ joining_answer (books_on state) part
      needs : entries ≡ entries_of_joining part
      leaving : between ≡ joined part (credits_by (books_on state) bill part) bill (booked bill state)

    by_row : {scheme : SchemeParticulars} {joining : Joining} → MayJoin state bill (Some scheme) → joining_of (books_on state) bill scheme ≡ joining →
        joining_part (books_on state) bill ≡ joining
    by_row h e = rw (ne_eqb bill.applicant.scheme 0 (λ e. omega (arith, h.numbered)), h.is) e

    joining_is : 0 < state.ledger.next_scheme → {joining : JoiningAnswer} {entries : ℕ} {between : State} → JoiningAnswers state bill joining entries between →
        JoiningIs joining entries between
    joining_is numbered (not_asked none) =
        record { part = Joining.NotAsked; is = rw (eq-eqb _ _ none); was_opened = omega (arith, none, numbered); answer = refl; needs = refl; leaving = refl }
    joining_is numbered (ended {scheme} h late) =
        record {
          part = Joining.Ended;
          is = by_row h (joining_ended (books_on state) bill scheme late);
          was_opened = h.opened;
          answer = refl;
          needs = refl;
          leaving = refl;
        }
    joining_is numbered (cleared h) =
        record {
          part = Joining.Ended;
          is = rw (ne_eqb bill.applicant.scheme 0 (λ e. omega (arith, h.numbered)), h.is);
          was_opened = h.opened;
          answer = refl;
          needs = refl;
          leaving = refl;
        }
    joining_is numbered (small {scheme} h below) =
        record {
          part = Joining.Small;
          is = by_row h.joins (joining_small (books_on state) bill scheme h.not_ended refl refl below);
          was_opened = h.joins.opened;
          answer = refl;
          needs = refl;
          leaving = refl;
        }
    joining_is numbered (joins {scheme} h enough e) =
        record {
          part = Joining.Pays (record { collected = contribution_of state bill scheme; fee = scheme.fee; capacity = earlier_capacity state bill });
          is = by_row h.joins (joining_pays (books_on state) bill scheme h.not_ended refl refl enough);
          was_opened = h.joins.opened;
          answer = ap (joined_as state.ledger.next_entry) e;
          needs = refl;
          leaving = ap (joined_with state bill scheme) e;
        }

    record OpeningIs (between : State) (opening : Option ℕ) (new : ℕ) (after : State) : Type 0 where
      part : Bool
      is : opens_scheme bill ≡ part
      answer : opening ≡ cond part (Some state.ledger.next_scheme) None
      needs : new ≡ cond part 1 0
      leaving : after ≡ opened part bill between

    opening_is : {between after : State} {opening : Option ℕ} {new : ℕ} → OpeningAnswers state bill between opening new after →
        OpeningIs between opening new after
    opening_is (opens_none why) = record { part = false; is = opens_nothing bill why; answer = refl; needs = refl; leaving = refl }
    opening_is (opens unmarked above) =
        record { part = true; is = rw (eq-eqb _ _ unmarked, lt-ltb _ _ above); answer = refl; needs = refl; leaving = refl }

    -- ---- the verdict on both together
    module _
        {joining : JoiningAnswer} {opening : Option ℕ} {entries new : ℕ} {between after : State} (h : MayConnect state pricing bill)
        (joins : JoiningIs joining entries between) (opens : OpeningIs between opening new after) where
      abbrev course : Course
      course = record { joining = joins.part; opens = opens.part }

      by_course : (v : Verdict) → course_verdict (books_on state) course ≡ v →
          Accepts-as (answer_to (books_on state) (decided_of (books_on state) bill v)) (carried_out state (decided_of (books_on state) bill v))
      by_course v judged =
          by_verdict v h.billed
          (verdict_course (books_on state) bill h.connections h.month joins.was_opened
          ∙ ap₂ (λ j o. course_verdict (books_on state) (record { joining = j; opens = o })) joins.is opens.is
          ∙ judged)

      stands : SoundLedger state.ledger state.table (length state.table)
      stands = sound_means _ _ _ h.billed.stands

      schemes : length (books_on state).schemes ≡ state.ledger.count
      schemes = schemes_shown state.ledger state.table (omega (arith, stands.figures.schemes))

      entered : length (books_on state).entries ≡ state.ledger.entries
      entered = entries_shown state.ledger state.table stands.figures.in_table

      needed : entries + new ≡ entries_needed course
      needed = ap₂ ◌+◌ joins.needs opens.needs

      full : SchemesLacking state new → Accepts-as (is_refused (refusal no_scheme_left 0 0)) state
      full lacks =
          by_course (Err (refusal no_scheme_left 0 0))
          (course_refused_8 (books_on state) course (rw schemes (schemes_lacking_lem state h.billed.stands opens.part opens.needs lacks)))

      module _ (some : SchemesLeft state new) where
        few : schemes_lacking (length (books_on state).schemes) state.ledger.next_scheme opens.part ≡ false
        few = rw schemes (schemes_left state h.billed.stands opens.part opens.needs some)

        no_entries : EntriesLacking state (entries + new) → Accepts-as (is_refused (refusal no_entry_left 0 0)) state
        no_entries lacks =
            by_course (Err (refusal no_entry_left 0 0))
            (course_refused_9 (books_on state) course few (rw (entered, ← needed) (entries_lacking_lem state h.billed.stands (entries + new) lacks)))

        both : EntriesLeft state (entries + new) → Accepts-as (accepted_as bill joining opening) after
        both left =
            let same = by_course (Ok course) (course_accepted (books_on state) course few (rw (entered, ← needed) (entries_left state h.billed.stands (entries + new) left))) in
            record {
              is_answer = ap₂ (accepted_as bill) joins.answer opens.answer ∙ same.is_answer;
              is_after = opens.leaving ∙ ap (opened opens.part bill) joins.leaving ∙ same.is_after;
            }

  -- "the next ones, which are above 0"
  above_0 : {bill : Bill} → MayConnect state pricing bill → 0 < state.ledger.next_scheme
  above_0 h =
      omega (
        arith,
        rise_length state.ledger.next_scheme 0 (map (λ scheme. scheme.number) (schemes_on state)) (sound_means _ _ _ h.billed.stands).numbers.schemes_in_order,
      )

  accepts_as : {answer : CallAnswer} {after : State} → Answers state pricing answer after → Accepts-as answer after
  accepts_as (refused_13 unsound) = by_decision (refused (refusal ledger_unsound 0 0)) (rw unsound)
  accepts_as (refused_by_pricing {r} stands e) = by_decision (refused r) (rw (stands, e))
  accepts_as (refused_10 {bill} h taken) = by_verdict bill (Err (refusal no_connection_left 0 0)) h (verdict_refused_10 (books_on state) bill taken)
  accepts_as (refused_7 {bill} h connections before) = by_verdict bill (Err (refusal month_before_last 0 0)) h (verdict_refused_7 (books_on state) bill connections before)
  accepts_as (refused_6 {bill} h never) =
      by_verdict bill (Err (refusal scheme_never_opened 0 0)) h.billed (verdict_refused_6 (books_on state) bill h.connections h.month never)
  accepts_as (refused_8 {bill} h joining opening lacks) = full bill h (joining_is bill (above_0 h) joining) (opening_is bill opening) lacks
  accepts_as (refused_9 {bill} h joining opening some lacks) = no_entries bill h (joining_is bill (above_0 h) joining) (opening_is bill opening) some lacks
  accepts_as (accepts {bill} h joining opening some left) = both bill h (joining_is bill (above_0 h) joining) (opening_is bill opening) some left

  -- ---- and one of the cases holds

  abbrev Answered : Type 0
  Answered = Answers state pricing (answered_by state pricing) (leaves_by state pricing)

  told : {answer : CallAnswer} {after : State} → Answers state pricing answer after → Answered
  told {answer} h =
      let same = accepts_as h in
      subst (λ a. Answers state pricing a (leaves_by state pricing)) same.is_answer (subst (Answers state pricing answer) same.is_after h)

  entries_there : (needed : ℕ) → EntriesLeft state needed ⊎ EntriesLacking state needed
  entries_there needed =
      ⊎_elim (λ limit. inr (inl limit))
      (λ limit.
      ⊎_elim (λ room. inr (inr room)) (λ room. inl (record { limit = limit; room = room }))
      (lt_or_le (length state.table) (state.ledger.entries + needed)))
      (lt_or_le most_entries (state.ledger.entries + needed))

  schemes_there : (needed : ℕ) → SchemesLeft state needed ⊎ SchemesLacking state needed
  schemes_there needed =
      ⊎_elim (λ place. inr (inl place))
      (λ place.
      ⊎_elim (λ number. inr (inr number)) (λ number. inl (record { place = place; number = number }))
      (lt_or_le highest_next_scheme (state.ledger.next_scheme + needed)))
      (lt_or_le most_schemes (state.ledger.count + needed))

  module _ {bill : Bill} (h : MayConnect state pricing bill) where
    judged_answers : {joining : JoiningAnswer} {opening : Option ℕ} {entries new : ℕ} {between after : State} →
        JoiningAnswers state bill joining entries between → OpeningAnswers state bill between opening new after → Answered
    judged_answers {entries} {new} joining opening =
        ⊎_elim
        (λ some.
        ⊎_elim (λ left. told (accepts h joining opening some left)) (λ lacks. told (refused_9 h joining opening some lacks)) (entries_there (entries + new)))
        (λ lacks. told (refused_8 h joining opening lacks))
        (schemes_there new)

    -- after any joining
    opening_answers : {joining : JoiningAnswer} {entries : ℕ} {between : State} → JoiningAnswers state bill joining entries between → Answered
    opening_answers joining =
        ⊎_elim
        (λ above.
        ⊎_elim (λ unmarked. judged_answers joining (opens (omega arith) above)) (λ marked. judged_answers joining (opens_none (inl marked)))
        (lt_or_le bill.applicant.mark 1))
        (λ within. judged_answers joining (opens_none (inr within)))
        (lt_or_le bill.terms.threshold bill.reconciliation.x)

    joining_answers : (scheme : Option SchemeParticulars) → MayJoin state bill scheme → Answered
    joining_answers None may = opening_answers (cleared may)
    joining_answers (Some scheme) may =
        ⊎_elim
        (λ not_ended.
        let force : InForce state bill scheme = record { joins = may; not_ended = not_ended } in
        ⊎_elim (λ below. opening_answers (small force below)) (λ enough. opening_answers (joins force enough refl))
        (lt_or_le (contribution_of state bill scheme) scheme.minimum))
        (λ late. opening_answers (ended may late))
        (lt_or_le bill.applicant.month (scheme.opening + scheme.term))

    connecting_answers : Answered
    connecting_answers = ⊎_elim (λ none. opening_answers (not_asked (omega arith))) asked (lt_or_le bill.applicant.scheme 1)
      where
        asked : 1 ≤ bill.applicant.scheme → Answered
        asked numbered =
            ⊎_elim (λ never. told (refused_6 h never))
            (λ opened. joining_answers (scheme_at (books_on state) bill.applicant.scheme) (record { numbered = numbered; opened = opened; is = refl }))
            (either (lt_or_le bill.applicant.scheme state.ledger.next_scheme))
          where
            either : {A B : Type 0} → A ⊎ B → B ⊎ A
            either (inl a) = inr a
            either (inr b) = inl b

  billed_answers : {bill : Bill} → Billed state pricing bill → Answered
  billed_answers {bill} h =
      ⊎_elim
      (λ connections.
      ⊎_elim (λ before. told (refused_7 h connections before))
      (λ month. connecting_answers (record { billed = h; connections = connections; month = month }))
      (lt_or_le bill.applicant.month state.ledger.month))
      (λ taken. told (refused_10 h taken))
      (lt_or_le state.ledger.connections most_connections)

  one_answers : Answered
  one_answers =
      ⊎_elim (λ unsound. told (refused_13 unsound)) (λ stands. priced stands pricing refl)
      (dichotomy (sound state.ledger state.table (length state.table)))
    where
      priced : sound state.ledger state.table (length state.table) ≡ true → (p : Pricing) → pricing ≡ p → Answered
      priced stands (Ok bill) e = billed_answers (record { stands = stands; priced = e })
      priced stands (Err r) e = told (refused_by_pricing stands e)

-- ---- the theorems, over the call
module _ (state : State) (book request : List ℕ) (places : length state.ledger.schemes ≡ most_schemes) where
  pub accept_answers : Answers state (price_of book request) (answered state (accept book request)) (leaves state (accept book request))
  unfolding answered leaves
  accept_answers = one_answers state (price_of book request) places

  -- and it answers and leaves nothing else
  pub answers_only : {answer : CallAnswer} {after : State} → Answers state (price_of book request) answer after →
      (answer ≡ answered state (accept book request)) × (after ≡ leaves state (accept book request))
  unfolding answered leaves
  answers_only h = let same = accepts_as state (price_of book request) places h in (same.is_answer, same.is_after)

-- ---- refusals

-- "A refusal returns number, file .. and place, and changes nothing."
pub accept_refused_changes_nothing : (state : State) (book request : List ℕ) {r : Refusal} → answered state (accept book request) ≡ is_refused r →
    leaves state (accept book request) ≡ state
accept_refused_changes_nothing state book request e = refused_changes_nothing state (accept book request) _ e

pub accept_refusal_numbers : (state : State) (book request : List ℕ) → AcceptRefuses (price_of book request) (answered state (accept book request))
unfolding answered
accept_refusal_numbers state book request =
    by_cond (λ decision. AcceptRefuses (price_of book request) (answer_to books decision)) (sound state.ledger state.table (length state.table)) _ _
    (λ stands. by_pricing (price_of book request) refl) (λ unsound. inr refl)
  where
    books : Books
    books = books_on state

    by_answer : (answer : CallAnswer) → RefusesWith ledger_numbers answer → AcceptRefuses (price_of book request) answer
    by_answer (is_accepted acceptance) told = tt
    by_answer is_done told = tt
    by_answer (is_refused r) told = inr told

    by_pricing : (pricing : Pricing) → price_of book request ≡ pricing → AcceptRefuses (price_of book request) (answer_to books (accept_by books pricing))
    by_pricing (Ok bill) e = by_answer (answer_to books (accept_by books (Ok bill))) (verdict_refuses books bill ledger_numbers refl)
    by_pricing (Err r) e = inl e
