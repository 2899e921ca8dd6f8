-- An accept is counted by its two answers: the joiner's entering is in the account of the scheme that the bill joins, the opener's in that of the next scheme, and
-- each figure is a sum over the account, to which either adds its own.
use Rattle.std.specs.Prelude.{ℕ, ◌+◌, ◌≡◌, refl, List, ◌∷◌, Bool, true, false, cond, eqb, Err, None, Ok, Some}
use Rattle.std.proofs.Common.{sym, ap, subst, ◌∙◌, arith}
use Rattle.tagged.proofs.Theorems.Impossible.{impossible}
use Rattle.charge.specs.Price.{price_of}
use Rattle.charge.specs.declared.Bill.{Bill}
use Rattle.ledger.specs.Lists.{sum_by}
use Rattle.calls.proofs.Theorems.Lists.{cons_if}
use Rattle.calls.specs.Rules.{Credit}
use Rattle.calls.specs.Verdict.{verdict, Verdict}
use Rattle.calls.specs.Decision.{accept, accepted, credits_by, decided_by, accept_by, is_accepted, joining_answer, opening_answer, acceptance_of, answer_to}
use Rattle.calls.specs.declared.courses.Joining.{Joining}
use Rattle.calls.specs.declared.courses.Joining.TheVariants.{NotAsked, Ended, Small, Pays}
use Rattle.calls.specs.declared.courses.Course.{Course}
use Rattle.calls.specs.declared.answers.Acceptance.{Acceptance}
use Rattle.history.specs.History.{Entering, History, enterings_of, books_in, billed_in, joiner, opener, joined_in, opened_in, recorded, with_call, answer_by}
use Rattle.history.specs.Laws.{joinings_by, collected_by, cost_by, CountedByAnswers}

-- one entering more, where it is of the scheme
one_more : (figure : Entering → ℕ) (e : Entering) (own : Bool) (older : List Entering) →
    sum_by figure (cons_if own e older) ≡ sum_by figure older + cond own (figure e) 0
one_more figure e true older = refl
one_more figure e false older = omega arith

nothing_if : (own : Bool) → cond {A = ℕ} own 0 0 ≡ 0
nothing_if true = refl
nothing_if false = refl

both_added : (after between before opened joined all : ℕ) → after ≡ between + opened → between ≡ before + joined → joined + opened ≡ all → after ≡ before + all
both_added after between before opened joined all o j a = omega arith

module _ (history : History) (bill : Bill) (credits : List Credit) where
  -- what the joiner's entering adds to a figure
  abbrev joiner_adds : (Entering → ℕ) → Joining → ℕ
  joiner_adds figure NotAsked = 0
  joiner_adds figure Ended = 0
  joiner_adds figure Small = 0
  joiner_adds figure (Pays paid) = figure (joiner bill history.next_entry paid.collected credits)

  abbrev after_joining : Joining → History
  after_joining joining = joined_in joining credits bill (billed_in bill history)

  module _ (s : ℕ) where
    abbrev sum_in : (Entering → ℕ) → History → ℕ
    sum_in figure now = sum_by figure (enterings_of s now.entered)

    joined_adds : (figure : Entering → ℕ) (joining : Joining) →
        sum_in figure (after_joining joining) ≡ sum_in figure history + cond (eqb bill.applicant.scheme s) (joiner_adds figure joining) 0
    joined_adds figure NotAsked = omega (arith, nothing_if (eqb bill.applicant.scheme s))
    joined_adds figure Ended = omega (arith, nothing_if (eqb bill.applicant.scheme s))
    joined_adds figure Small = omega (arith, nothing_if (eqb bill.applicant.scheme s))
    joined_adds figure (Pays paid) = one_more figure _ (eqb bill.applicant.scheme s) _

    opened_adds : (figure : Entering → ℕ) (now : History) (opens : Bool) →
        sum_in figure (opened_in opens bill now)
        ≡ sum_in figure now + cond opens (cond (eqb now.next_scheme s) (figure (opener bill now.next_scheme now.next_entry)) 0) 0
    opened_adds figure now false = omega arith
    opened_adds figure now true = one_more figure _ (eqb now.next_scheme s) _

  module _ (room : ℕ) (course : Course) where
    -- the figures of an entering
    abbrev joining_figure : Entering → ℕ
    joining_figure e = cond e.opens 0 1

    abbrev collected_figure : Entering → ℕ
    collected_figure e = cond e.opens 0 e.put_in

    abbrev cost_figure : Entering → ℕ
    cost_figure e = cond e.opens e.put_in 0

    abbrev between : History
    between = after_joining course.joining

    -- "joined" is counted in the scheme that the bill joins: the opener adds nothing
    joined_alone : (s : ℕ) (figure : Entering → ℕ) (amount : ℕ) → ((scheme entry : ℕ) → figure (opener bill scheme entry) ≡ 0) →
        joiner_adds figure course.joining ≡ amount →
        sum_in s figure (recorded history (accepted bill course credits)) ≡ sum_in s figure history + cond (eqb bill.applicant.scheme s) amount 0
    joined_alone s figure amount none is =
        both_added _ _ _ _ _ _ (opened_adds s figure between course.opens) (joined_adds s figure course.joining)
        (omega (arith, nothing course.opens, ap (λ n. cond (eqb bill.applicant.scheme s) n 0) is))
      where
        nothing : (opens : Bool) → cond opens (cond (eqb between.next_scheme s) (figure (opener bill between.next_scheme between.next_entry)) 0) 0 ≡ 0
        nothing false = refl
        nothing true = rw (none between.next_scheme between.next_entry) (nothing_if (eqb between.next_scheme s))

    by_joining : (joining : Joining) → joiner_adds joining_figure joining ≡ joinings_by (joining_answer (books_in room history) joining)
    by_joining NotAsked = refl
    by_joining Ended = refl
    by_joining Small = refl
    by_joining (Pays paid) = refl

    by_collected : (joining : Joining) → joiner_adds collected_figure joining ≡ collected_by (joining_answer (books_in room history) joining)
    by_collected NotAsked = refl
    by_collected Ended = refl
    by_collected Small = refl
    by_collected (Pays paid) = refl

    no_cost : (joining : Joining) → joiner_adds cost_figure joining ≡ 0
    no_cost NotAsked = refl
    no_cost Ended = refl
    no_cost Small = refl
    no_cost (Pays paid) = refl

    next_scheme_kept : (joining : Joining) → (after_joining joining).next_scheme ≡ history.next_scheme
    next_scheme_kept NotAsked = refl
    next_scheme_kept Ended = refl
    next_scheme_kept Small = refl
    next_scheme_kept (Pays paid) = refl

    -- "opened" is counted in the scheme whose number it tells: the joiner adds nothing
    opened_alone : (s : ℕ) → sum_in s cost_figure (recorded history (accepted bill course credits))
        ≡ sum_in s cost_figure history + cost_by s bill (opening_answer (books_in room history) course)
    opened_alone s =
        both_added _ _ _ _ _ _ (opened_adds s cost_figure between course.opens) (joined_adds s cost_figure course.joining)
        (omega (
          arith,
          ap (λ n. cond (eqb bill.applicant.scheme s) n 0) (no_cost course.joining) ∙ nothing_if (eqb bill.applicant.scheme s),
          is course.opens,
        ))
      where
        is : (opens : Bool) → cond opens (cond (eqb between.next_scheme s) bill.reconciliation.x 0) 0
            ≡ cost_by s bill (cond opens (Some history.next_scheme) None)
        is false = refl
        is true = ap (λ n. cond (eqb n s) bill.reconciliation.x 0) (next_scheme_kept course.joining)

    bills_once : (opens : Bool) (joining : Joining) → (opened_in opens bill (after_joining joining)).bills ≡ bill ∷ history.bills
    bills_once false NotAsked = refl
    bills_once false Ended = refl
    bills_once false Small = refl
    bills_once false (Pays paid) = refl
    bills_once true NotAsked = refl
    bills_once true Ended = refl
    bills_once true Small = refl
    bills_once true (Pays paid) = refl

    counted : CountedByAnswers history bill (acceptance_of (books_in room history) bill course) (recorded history (accepted bill course credits))
    counted =
        let bills = bills_once course.opens course.joining in
        record {
          scheme_joinings = λ s. joined_alone s joining_figure _ (λ scheme entry. refl) (by_joining course.joining);
          scheme_collected = λ s. joined_alone s collected_figure _ (λ scheme entry. refl) (by_collected course.joining);
          scheme_cost = opened_alone;
          connection_once = ap (sum_by (λ bill. 1)) bills;
          entered_once = ap (sum_by (λ bill. bill.reconciliation.entered)) bills;
          charged_once = ap (sum_by (λ bill. bill.reconciliation.cc)) bills;
          borne_once = ap (sum_by (λ bill. bill.reconciliation.borne)) bills;
        }

-- every accept in a list of calls
pub counted_by_answers : (room : ℕ) (history : History) (book request : List ℕ) (bill : Bill) (acceptance : Acceptance) →
    price_of book request ≡ Ok bill → answer_by room history (accept book request) ≡ is_accepted acceptance →
    CountedByAnswers history bill acceptance (with_call room history (accept book request))
counted_by_answers room history book request bill acceptance priced =
    subst
    (λ pricing.
    answer_to (books_in room history) (accept_by (books_in room history) pricing) ≡ is_accepted acceptance →
    CountedByAnswers history bill acceptance (recorded history (accept_by (books_in room history) pricing))) (sym priced)
    (by_verdict (verdict (books_in room history) bill))
  where
    by_verdict : (v : Verdict) → answer_to (books_in room history) (decided_by (books_in room history) bill v) ≡ is_accepted acceptance →
        CountedByAnswers history bill acceptance (recorded history (decided_by (books_in room history) bill v))
    by_verdict (Ok course) e =
        let credits = credits_by (books_in room history) bill course.joining in
        let is : acceptance_of (books_in room history) bill course ≡ acceptance = cc e in
        subst (λ a. CountedByAnswers history bill a (recorded history (accepted bill course credits))) is (counted history bill credits room course)
    by_verdict (Err r) e = impossible cc
