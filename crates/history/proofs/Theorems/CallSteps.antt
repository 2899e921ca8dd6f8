-- Each call on a sound history: the history stays sound and within the limits, and what the call leaves shows it.
use Rattle.std.specs.Prelude.{ℕ, zero, suc, ◌+◌, ◌-◌, ◌≤◌, ◌<◌, ◌≡◌, refl, List, map, filter, Bool, true, false, cond, not, length, eqb, ltb}
use Rattle.std.proofs.Common.{sym, ap, ap₂, ◌∙◌, subst, arith, eqb-true, ltb-true, ltb-false}
use Rattle.std.proofs.lemmas.Bool.{eqb-false}
use Rattle.charge.specs.BillLimits.{BillWithin}
use Rattle.charge.proofs.Theorems.Bill.{priced_within}
use Rattle.charge.specs.declared.Bill.{Bill}
use Rattle.ledger.specs.Limits.{most_schemes, most_entries}
use Rattle.ledger.specs.Lists.{oldest_first, sum_by, at_start}
use Rattle.ledger.specs.RefusalNumbers.{one_of}
use Rattle.ledger.specs.Books.{SchemeParticulars, EntryParticulars, Books}
use Rattle.ledger.specs.declared.records.Party.{Party}
use Rattle.calls.specs.Rules.{Holding, Credit, parties_of, capacity_of, contribution, shared}
use Rattle.calls.specs.Verdict.{entries_of_joining, entries_needed}
use Rattle.calls.specs.Decision.{Call, accepted, paid_out, handed_over, goes, credits_by, decided}
use Rattle.calls.specs.Carried.{joined, opened}
use Rattle.calls.specs.Calls.{Fits}
use Rattle.calls.proofs.Theorems.Lists.{by_test, all_any, filter_swap, sum_by_filter, sum_by_in_order, sum_by_le, sum_by_map, sum_by_same}
use Rattle.calls.proofs.Theorems.ByPlace.{eqb_sym}
use Rattle.kept_sound.proofs.Theorems.Lengths.{length_filter}
use Rattle.kept_sound.proofs.Theorems.Parted.{count_of}
use Rattle.calls.proofs.Theorems.VerdictConditions.{CourseConditions, JoiningConditions, joining_conditions}
use Rattle.calls.specs.declared.courses.Joining.{Joining}
use Rattle.calls.specs.declared.courses.Joining.TheVariants.{NotAsked, Ended, Small, Pays}
use Rattle.calls.specs.declared.courses.Course.{Course}
use Rattle.kept_sound.proofs.Theorems.EachDecision.{by_decision}
use Rattle.history.specs.History.{Entering, Payment, HandOver, History, enterings_of, fee, openings, times, scheme_particulars_in, entry_particulars_in, books_in, billed_in, joined_in, opened_in, cleared_in, recorded, parties_in, no_history}
use Rattle.history.specs.SoundHistory.{Joins, SoundHistory}
use Rattle.history.specs.ShownState.{state_in, CountsWithin, HistoryStands}
use Rattle.history.specs.CallSteps.{Step}
use Rattle.history.proofs.Theorems.Split.{capacity_holdings}
use Rattle.history.proofs.Theorems.SoundHistory.{sound_billed, PaidJoining, joiner_in, JoinsIn, sound_joined, opener_opens, sound_opened, sound_paid, sound_handed, sound_cleared}
use Rattle.history.proofs.Theorems.Numbering.{length_shown}
use Rattle.history.proofs.Theorems.Shows.{shows_joined, shows_opened, shows_paid, shows_handed, shows_cleared}
use Rattle.history.proofs.Theorems.Terms.{terms_at, parties_shown, EntryIn, entry_at_lem}

-- ---- the limits
pub within_none : (room : ℕ) → CountsWithin room no_history
within_none room = record { schemes_limit = omega arith; entries_limit = omega arith; in_table = omega arith }

joined_many : (h : History) (bill : Bill) (credits : List Credit) (joining : Joining) →
    (length (joined_in joining credits bill h).entered ≡ length h.entered + entries_of_joining joining)
    × (openings (joined_in joining credits bill h).entered ≡ openings h.entered)
joined_many h bill credits NotAsked = (omega arith, refl)
joined_many h bill credits Ended = (omega arith, refl)
joined_many h bill credits Small = (omega arith, refl)
joined_many h bill credits (Pays paid) = (omega arith, refl)

opened_many : (h : History) (bill : Bill) (opens : Bool) →
    (length (opened_in opens bill h).entered ≡ length h.entered + cond opens 1 0)
    × (length (openings (opened_in opens bill h).entered) ≡ length (openings h.entered) + cond opens 1 0)
opened_many h bill false = (omega arith, omega arith)
opened_many h bill true = (omega arith, omega arith)

scheme_counts : (schemes : ℕ) (opens : Bool) → schemes ≤ most_schemes → (opens ≡ true → schemes < most_schemes) → schemes + cond opens 1 0 ≤ most_schemes
scheme_counts schemes false limit left = omega arith
scheme_counts schemes true limit left = omega (arith, left refl)

entry_counts : (entries needed limit : ℕ) → entries ≤ limit → (1 ≤ needed → entries + needed ≤ limit) → entries + needed ≤ limit
entry_counts entries zero limit within left = omega arith
entry_counts entries (suc needed) limit within left = left (omega arith)

within_accepted : (room : ℕ) (h : History) → CountsWithin room h → (bill : Bill) (course : Course) (credits : List Credit) → CourseConditions (books_in room h) bill course →
    CountsWithin room (recorded h (accepted bill course credits))
within_accepted room h within bill course credits has =
    let entries : length (books_in room h).entries ≡ length h.entered = length_shown (entry_particulars_in h) h.entered in
    let schemes : length (books_in room h).schemes ≡ length (openings h.entered) = length_shown scheme_particulars_in (openings h.entered) in
    let joined = joined_many (billed_in bill h) bill credits course.joining in
    let opened = opened_many (joined_in course.joining credits bill (billed_in bill h)) bill course.opens in
    let needed = entries_needed course in
    record {
      schemes_limit =
          omega (
            arith,
            opened.1,
            ap length joined.1,
            scheme_counts (length (openings h.entered)) course.opens within.schemes_limit (λ is. omega (arith, schemes, has.schemes is)),
          );
      entries_limit =
          omega (
            arith,
            opened.0,
            joined.0,
            entry_counts (length h.entered) needed most_entries within.entries_limit (λ some. omega (arith, entries, has.entries some)),
          );
      in_table =
          omega (
            arith,
            opened.0,
            joined.0,
            entry_counts (length h.entered) needed room within.in_table (λ some. omega (arith, entries, has.in_table some)),
          );
    }

-- ---- accept: the joining, then the opening

-- the joining alone, on the history with its bill
record Joined (start : List Party) (h : History) (bill : Bill) (joining : Joining) : Type 0 where
  sound : SoundHistory (joined_in joining (credits_by (books_in (length start) h) bill joining) bill (billed_in bill h))
  shows :
      joined joining (credits_by (books_in (length start) h) bill joining) bill (state_in start (billed_in bill h))
      ≡ state_in start (joined_in joining (credits_by (books_in (length start) h) bill joining) bill (billed_in bill h))

module _ (start : List Party) (h : History) (sound : SoundHistory h) (bill : Bill) (fit : BillWithin bill) where
  joined_made : bill.applicant.scheme < h.next_scheme → (joining : Joining) → JoiningConditions (books_in (length start) h) bill joining →
      Joined start h bill joining
  joined_made made NotAsked has = record { sound = sound_billed bill h fit sound; shows = refl }
  joined_made made Ended has = record { sound = sound_billed bill h fit sound; shows = refl }
  joined_made made Small has = record { sound = sound_billed bill h fit sound; shows = refl }
  joined_made made (Pays paid) has =
      let s = bill.applicant.scheme in
      let G = paid.collected in
      let c = enterings_of s h.entered in
      let terms = terms_at (length start) h sound s has.row has.stands in
      let same_fee : paid.fee ≡ fee c = has.fee ∙ sym terms.fee_same in
      let joining : PaidJoining = record { bill = bill; paid = paid; credits = shared (G - paid.fee) (parties_of s (books_in (length start) h)) } in
      let joins : Joins (joiner_in h joining) c =
      record {
        joins = refl;
        some_capacity = fit.some_capacity;
        pays =
            has.collected
            ∙ ap₂ (λ (cost total : ℕ). contribution cost bill.applicant.capacity total) (sym terms.cost_same)
            (ap capacity_of (parties_shown (length start) h s) ∙ capacity_holdings c);
        fee_within = omega (arith, terms.fee_same, terms.fee_within, has.minimum);
        credits_shared = ap₂ (λ (f : ℕ) (l : List Holding). shared (G - f) l) same_fee (parties_shown (length start) h s);
      } in
      let is : JoinsIn (billed_in bill h) joining =
      record { made = made; some_entering = terms.some_entering; same_fee = same_fee; joins = joins } in
      let sound_now = sound_billed bill h fit sound in
      record { sound = sound_joined (billed_in bill h) joining is sound_now; shows = shows_joined start (billed_in bill h) sound_now joining is }

opened_made : (start : List Party) (h : History) → SoundHistory h → (bill : Bill) → BillWithin bill → (opens : Bool) →
    SoundHistory (opened_in opens bill h) × (opened opens bill (state_in start h) ≡ state_in start (opened_in opens bill h))
opened_made start h sound bill fit false = (sound, refl)
opened_made start h sound bill fit true = (
  sound_opened bill h fit sound,
  shows_opened start bill h sound (opener_opens bill h.next_scheme h.next_entry fit),
)

-- no entry is added
no_more : {room : ℕ} {h after : History} → CountsWithin room h → after.entered ≡ h.entered → CountsWithin room after
no_more within same =
    record {
      schemes_limit = omega (arith, within.schemes_limit, ap (λ (c : List Entering). length (openings c)) same);
      entries_limit = omega (arith, within.entries_limit, ap (λ (c : List Entering). length c) same);
      in_table = omega (arith, within.in_table, ap (λ (c : List Entering). length c) same);
    }

-- ---- a clearing

-- each number that goes is that of one scheme that stands
goes_once : (room : ℕ) (h : History) → SoundHistory h → (month n : ℕ) →
    count_of n (map (λ row. row.number) (filter (goes (books_in room h) month) (books_in room h).schemes)) ≤ 1
goes_once room h sound month n =
    let rows = map scheme_particulars_in (oldest_first (openings h.entered)) in
    let given : times (λ e. e.scheme) n (openings h.entered) ≤ 1 = at_most_once n in
    let standing : sum_by (λ row. cond (eqb n row.number) 1 0) rows ≡ times (λ e. e.scheme) n (openings h.entered) =
    sum_by_map (λ (row : SchemeParticulars). cond (eqb n row.number) 1 0) scheme_particulars_in (oldest_first (openings h.entered))
    ∙ sum_by_in_order (λ (e : Entering). cond (eqb n e.scheme) 1 0) (openings h.entered)
    ∙ sum_by_same (λ (e : Entering). cond (eqb n e.scheme) 1 0) (λ (e : Entering). cond (eqb e.scheme n) 1 0)
    (all_any (openings h.entered) (λ e. ap (λ (t : Bool). cond t 1 0) (eqb_sym n e.scheme))) in
    omega (
      arith,
      given,
      standing,
      sum_by_map (λ s. cond (eqb n s) 1 0) (λ (row : SchemeParticulars). row.number) (filter (goes (books_in room h) month) rows),
      fewer (λ (row : SchemeParticulars). cond (eqb n row.number) 1 0) (goes (books_in room h) month) rows,
    )
  where
    fewer : (figure : SchemeParticulars → ℕ) (test : SchemeParticulars → Bool) (rows : List SchemeParticulars) → sum_by figure (filter test rows) ≤ sum_by figure rows
    fewer figure test rows =
        omega (
          arith,
          sum_by_filter figure test rows,
          sum_by_le (λ row. cond (test row) (figure row) 0) figure (all_any rows (λ row. at_most (test row) (figure row))),
        )
      where
        at_most : (t : Bool) (w : ℕ) → cond t w 0 ≤ w
        at_most true w = omega arith
        at_most false w = omega arith

    at_most_once : (n : ℕ) → times (λ e. e.scheme) n (openings h.entered) ≤ 1
    at_most_once n =
        by_test (ltb n h.next_scheme)
        (λ below. by_test (eqb n 0) (λ none.
        subst (λ (m : ℕ). times (λ e. e.scheme) m (openings h.entered) ≤ 1) (sym (eqb-true n 0 none)) (omega (arith, sound.numbers.schemes_once.none_at_0)))
        (λ some. omega (arith, sound.numbers.schemes_once.once n (omega (arith, eqb-false n 0 some)) (ltb-true _ _ below))))
        (λ past. omega (arith, sound.numbers.schemes_once.none_past n (ltb-false _ _ past)))

within_cleared : {room : ℕ} {h : History} (month : ℕ) (gone : List ℕ) → CountsWithin room h → CountsWithin room (cleared_in month gone h)
within_cleared {room} {h} month gone within =
    let stays : Entering → Bool = λ e. not (one_of gone e.scheme) in
    let fewer : length (filter stays h.entered) ≤ length h.entered = length_filter stays h.entered in
    record {
      schemes_limit =
          omega (
            arith,
            within.schemes_limit,
            ap length (filter_swap (λ (e : Entering). e.opens) stays h.entered),
            length_filter stays (openings h.entered),
          );
      entries_limit = omega (arith, within.entries_limit, fewer);
      in_table = omega (arith, within.in_table, fewer);
    }

-- ---- every call
module _ (start : List Party) (h : History) (stands : HistoryStands (length start) h) (whole : at_start (parties_in h) start ≡ start) where
  abbrev books : Books
  books = books_in (length start) h

  accepts : (bill : Bill) → BillWithin bill → (course : Course) → CourseConditions books bill course →
      Step start h (accepted bill course (credits_by books bill course.joining))
  accepts bill fit course has =
      let credits = credits_by books bill course.joining in
      let made =
      joined_made start h stands.sound bill fit has.opened course.joining
      (subst (λ (c : Course). JoiningConditions books bill c.joining) (sym has.is) (joining_conditions books bill)) in
      let last = opened_made start (joined_in course.joining credits bill (billed_in bill h)) made.sound bill fit course.opens in
      record {
        stands = record { sound = last.0; within = within_accepted (length start) h stands.within bill course credits has };
        shows = ap (opened course.opens bill) made.shows ∙ last.1;
      }

  pays_out : (amount : ℕ) (row : EntryParticulars) → EntryIn h row → row.paid_out + amount ≤ row.credited →
      Step start h (paid_out row.scheme row.number amount)
  pays_out amount row entry =
      let x = entry.entering in
      let p : Payment = record { scheme = x.scheme; entry = x.entry; amount = amount } in
      subst (λ (row : EntryParticulars). row.paid_out + amount ≤ row.credited → Step start h (paid_out row.scheme row.number amount)) (sym entry.shown)
      (λ enough. record {
        stands = record {
          sound = sound_paid p h x entry.in_account entry.made entry.scheme_made enough stands.sound;
          within = no_more stands.within refl;
        };
        shows = shows_paid start h p entry.no_other;
      })

  hands_over : (person : ℕ) (row : EntryParticulars) → EntryIn h row → Step start h (handed_over row.number person)
  hands_over person row entry =
      let hand_over : HandOver = record { entry = entry.entering.entry; person = person } in
      subst (λ (row : EntryParticulars). Step start h (handed_over row.number person)) (sym entry.shown)
      (record {
        stands = record { sound = sound_handed hand_over h entry.made stands.sound; within = no_more stands.within refl };
        shows = shows_handed start h hand_over;
      })

  pub step : (call : Call) → Fits call → Step start h (decided books call)
  step =
      by_decision {P = Step start h}
      (record {
        refuses = λ r. record { stands = stands; shows = refl };
        accepts = λ book request fits bill is course has. accepts bill (priced_within book request bill fits.0 fits.1 is) course has;
        pays_out = λ n amount row at enough. pays_out amount row (entry_at_lem (length start) h stands.sound n row at) enough;
        hands_over = λ n person fits row at. hands_over person row (entry_at_lem (length start) h stands.sound n row at);
        clears =
            λ month fits in_order.
            let gone = map (λ row. row.number) (filter (goes books month) books.schemes) in
            let once = goes_once (length start) h stands.sound month in
            record {
              stands = record { sound = sound_cleared month gone h once stands.sound; within = within_cleared month gone stands.within };
              shows = shows_cleared start month gone h once stands.sound whole;
            };
      })
