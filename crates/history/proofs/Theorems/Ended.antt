-- What holds of the history of every list of calls: its numbers are given once, and a scheme that was cleared stays away, so that a joining of it is "ended".
use Rattle.std.specs.Prelude.{ℕ, ◌+◌, ◌≤◌, ◌<◌, ◌≡◌, refl, List, [], ◌∷◌, map, Bool, true, false, not, length, replicate, eqb, leb, ltb, None, Some, filter}
use Rattle.std.proofs.Common.{sym, ap, ◌∙◌, subst, arith, leb-true, ne_eqb}
use Rattle.std.proofs.lemmas.List.{length-replicate}
use Rattle.tagged.proofs.Theorems.Impossible.{impossible}
use Rattle.charge.specs.Price.{Pricing}
use Rattle.charge.specs.declared.Bill.{Bill}
use Rattle.ledger.specs.Limits.{most_connections}
use Rattle.ledger.specs.Lists.{oldest_first}
use Rattle.ledger.specs.Records.{no_party}
use Rattle.ledger.specs.RefusalNumbers.{one_of}
use Rattle.ledger.specs.Books.{SchemeParticulars, Books, scheme_at}
use Rattle.ledger.specs.declared.records.Party.{Party}
use Rattle.calls.specs.Rules.{Credit}
use Rattle.calls.specs.Verdict.{joining_part, course_of, entries_needed, schemes_lacking, entries_lacking, verdict, Verdict}
use Rattle.calls.specs.Decision.{Call, goes, credits_by, decided_by, accept_by, joining_answer, answer_to}
use Rattle.calls.specs.Calls.{AllFit}
use Rattle.calls.proofs.Theorems.Lists.{by_cond, filter_swap, first, cons_if}
use Rattle.calls.proofs.Theorems.VerdictConditions.{JoiningConditions, joining_conditions}
use Rattle.calls.specs.declared.courses.Joining.{Joining}
use Rattle.calls.specs.declared.courses.Joining.TheVariants.{NotAsked, Ended, Small, Pays}
use Rattle.calls.specs.declared.courses.Course.{Course}
use Rattle.kept_sound.proofs.Theorems.EachDecision.{by_decision}
use Rattle.history.specs.History.{Entering, History, enterings_of, openings, scheme_particulars_in, books_in, billed_in, enters_in, opener, joined_in, opened_in, recorded, with_call, history_from, history_of}
use Rattle.history.specs.Laws.{NotJoined, NumbersOnce, ClearedIsEnded}
use Rattle.history.specs.SoundHistory.{Chain, SoundHistory}
use Rattle.history.proofs.Theorems.EveryListOfCalls.{trace_exists, shown_state}
use Rattle.history.proofs.Theorems.Terms.{scheme_shown}

-- ---- every list of calls comes to a sound history
sound_after : (room : ℕ) (calls : List Call) → AllFit calls → SoundHistory (history_of room calls)
sound_after room calls fit =
    let start : List Party = replicate room no_party in
    let made = trace_exists _ calls in
    subst (λ (room : ℕ). SoundHistory (history_of room calls)) (length-replicate room no_party) (shown_state start calls made.0 made.1 fit made.2).history.sound

pub numbers_once : NumbersOnce
numbers_once room calls fit = let numbers = (sound_after room calls fit).numbers in (numbers.schemes_once, numbers.entries_once)

-- ---- opened once, and nothing of it stands
record Away (s : ℕ) (h : History) : Type 0 where
  opened_once : s < h.next_scheme
  nothing : enterings_of s h.entered ≡ []

-- a scheme that stands has its opening
none_opened : (c : List Entering) → Chain c → first (map scheme_particulars_in (oldest_first (openings c))) ≡ None → c ≡ []
none_opened [] chain none = refl
none_opened (e ∷ []) chain none = absurd (stands e (ap (λ (t : Bool). first (map scheme_particulars_in (oldest_first (cons_if t e [])))) (sym chain.opens) ∙ none))
  where
    stands : (e : Entering) → Some (scheme_particulars_in e) ≡ None → ⊥
    stands e same = impossible cc
none_opened (e ∷ d ∷ older) chain none =
    let before : d ∷ older ≡ [] =
    none_opened (d ∷ older) chain.1
    (ap (λ (t : Bool). first (map scheme_particulars_in (oldest_first (cons_if t e (openings (d ∷ older)))))) (sym chain.0.joins) ∙ none) in
    absurd (some before)
  where
    some : d ∷ older ≡ [] → ⊥
    some same = impossible cc

away_from : (room : ℕ) (h : History) (s : ℕ) → SoundHistory h → s < h.next_scheme → scheme_at (books_in room h) s ≡ None → Away s h
away_from room h s sound once none =
    record { opened_once = once; nothing = none_opened (enterings_of s h.entered) (sound.accounts s).chain (sym (scheme_shown room h s) ∙ none) }

nothing_shown : (room : ℕ) (h : History) (s : ℕ) → Away s h → scheme_at (books_in room h) s ≡ None
nothing_shown room h s away = scheme_shown room h s ∙ ap (λ (c : List Entering). first (map scheme_particulars_in (oldest_first (openings c)))) away.nothing

-- ---- it stays away
module _ (s : ℕ) where
  away_entered : (next_scheme : ℕ) (e : Entering) (h : History) → h.next_scheme ≤ next_scheme → (e.scheme ≡ s → ⊥) → Away s h → Away s (enters_in next_scheme e h)
  away_entered next_scheme e h up apart away =
      record {
        opened_once = omega (arith, away.opened_once, up);
        nothing = ap (λ (t : Bool). cons_if t e (enterings_of s h.entered)) (ne_eqb e.scheme s apart) ∙ away.nothing;
      }

  away_billed : (bill : Bill) (h : History) → Away s h → Away s (billed_in bill h)
  away_billed bill h away = record { opened_once = away.opened_once; nothing = away.nothing }

  away_opened : (opens : Bool) (bill : Bill) (h : History) → Away s h → Away s (opened_in opens bill h)
  away_opened false bill h away = away
  away_opened true bill h away =
      away_entered (h.next_scheme + 1) (opener bill h.next_scheme h.next_entry) h (omega arith) (λ same. omega (arith, same, away.opened_once)) away

  module _ (room : ℕ) (h : History) (away : Away s h) where
    -- a joiner pays into a scheme that stands
    away_joined : (bill : Bill) (credits : List Credit) (joining : Joining) → JoiningConditions (books_in room h) bill joining →
        Away s (joined_in joining credits bill (billed_in bill h))
    away_joined bill credits NotAsked has = away_billed bill h away
    away_joined bill credits Ended has = away_billed bill h away
    away_joined bill credits Small has = away_billed bill h away
    away_joined bill credits (Pays paid) has =
        away_entered h.next_scheme _ (billed_in bill h) (omega arith)
        (λ same. none_stands (sym (nothing_shown room h s away) ∙ ap (scheme_at (books_in room h)) (sym same) ∙ has.stands)) (away_billed bill h away)
      where
        none_stands : {row : SchemeParticulars} → None ≡ Some row → ⊥
        none_stands same = impossible cc

    away_kept : (call : Call) → Away s (with_call room h call)
    away_kept call =
        by_decision {Known = λ call. Unit {0}} {P = λ decision. Away s (recorded h decision)}
        (record {
          refuses = λ r. away;
          accepts =
              λ book request known bill is course has.
              away_opened course.opens bill (joined_in course.joining (credits_by (books_in room h) bill course.joining) bill (billed_in bill h))
              (away_joined bill (credits_by (books_in room h) bill course.joining) course.joining
              (subst (λ (c : Course). JoiningConditions (books_in room h) bill c.joining) (sym has.is) (joining_conditions (books_in room h) bill)));
          pays_out = λ e amount row at enough. record { opened_once = away.opened_once; nothing = away.nothing };
          hands_over = λ e person known row at. record { opened_once = away.opened_once; nothing = away.nothing };
          clears =
              λ month known in_order.
              record {
                opened_once = away.opened_once;
                nothing =
                    filter_swap (λ (e : Entering). eqb e.scheme s)
                    (λ (e : Entering). not (one_of (map (λ row. row.number) (filter (goes (books_in room h) month) (books_in room h).schemes)) e.scheme)) h.entered
                    ∙ ap (filter (λ (e : Entering). not (one_of (map (λ row. row.number) (filter (goes (books_in room h) month) (books_in room h).schemes)) e.scheme)))
                    away.nothing;
              };
        })
        call tt

  away_later : (room : ℕ) (h : History) (calls : List Call) → Away s h → Away s (history_from room h calls)
  unfolding history_from
  away_later room h [] away = away
  away_later room h (call ∷ calls) away = away_later room (with_call room h call) calls (away_kept room h away call)

-- ---- so a joining of it is "ended", and the opening may follow
ended_part : (books : Books) (bill : Bill) → 1 ≤ bill.applicant.scheme → scheme_at books bill.applicant.scheme ≡ None → joining_part books bill ≡ Ended
ended_part books bill asked none = rw (ne_eqb bill.applicant.scheme 0 (λ same. omega (arith, same)), none)

ended_by : (books : Books) (bill : Bill) → 1 ≤ bill.applicant.scheme → bill.applicant.scheme < books.next_scheme →
    scheme_at books bill.applicant.scheme ≡ None → NotJoined (answer_to books (decided_by books bill (verdict books bill)))
unfolding verdict
ended_by books bill asked once none =
    let P : Verdict → Type 0 = λ v. NotJoined (answer_to books (decided_by books bill v)) in
    let course = course_of books bill in
    by_cond P (leb most_connections books.connections) _ _ (λ taken same. impossible cc)
    (λ some.
    by_cond P (ltb bill.applicant.month books.month) _ _ (λ early same. impossible cc)
    (λ in_order.
    by_cond P (leb books.next_scheme bill.applicant.scheme) _ _ (λ never. absurd (omega (arith, once, leb-true _ _ never)))
    (λ was_opened.
    by_cond P (schemes_lacking (length books.schemes) books.next_scheme course.opens) _ _ (λ many same. impossible cc)
    (λ few.
    by_cond P (entries_lacking (length books.entries) books.room (entries_needed course)) _ _ (λ lacking same. impossible cc)
    (λ enough. ap (joining_answer books) (ended_part books bill asked none))))))

pub cleared_is_ended : ClearedIsEnded
cleared_is_ended room calls later book request bill fit fit_later priced asked once none =
    let h = history_of room calls in
    let s = bill.applicant.scheme in
    let now = history_from room h later in
    let away : Away s now = away_later s room h later (away_from room h s (sound_after room calls fit) once none) in
    subst (λ (pricing : Pricing). NotJoined (answer_to (books_in room now) (accept_by (books_in room now) pricing))) (sym priced)
    (ended_by (books_in room now) bill asked away.opened_once (nothing_shown room now s away))
