-- What a decision makes of the state that shows a history is the state that shows the history with the decision recorded.
use Rattle.std.specs.Prelude.{ℕ, zero, suc, ◌+◌, ◌*◌, ◌≤◌, ◌<◌, ◌≡◌, refl, List, [], ◌∷◌, ◌++◌, map, filter, Bool, true, false, cond, not, length, drop, eqb}
use Rattle.std.proofs.Common.{sym, ap, ap₂, ◌∙◌, subst, true≢false, add-one, arith, eqb-true, eq-eqb, ne_eqb}
use Rattle.charge.specs.declared.Bill.{Bill}
use Rattle.ledger.specs.Lists.{oldest_first, sum_by, All, nil, more, at_start}
use Rattle.ledger.specs.Records.{new_ledger}
use Rattle.ledger.specs.RefusalNumbers.{one_of}
use Rattle.ledger.specs.Books.{scheme_particulars, entry_particulars}
use Rattle.ledger.specs.Updates.{with_person, with_credited, with_paid_out, with_fees, with_entry}
use Rattle.ledger.specs.declared.records.Scheme.{Scheme}
use Rattle.ledger.specs.declared.records.Party.{Party}
use Rattle.calls.specs.Rules.{credit_to}
use Rattle.calls.specs.Decision.{cleared}
use Rattle.calls.specs.Carried.{books_on, schemes_on, entries_on, new_party, new_scheme, takes_fee, is_credited, joined, opened, is_paid, is_handed, parties_on, collected_of, paid_out_of, fees_of, carried_out}
use Rattle.calls.specs.Calls.{state_of}
use Rattle.calls.proofs.Theorems.Lists.{all_map, all_any, all_filter, all_kept, all_in_order, filter_rows, filter_swap, map_same, sum_by_append, sum_by_filter, sum_by_in_order, sum_by_map, sum_by_same, cons_if}
use Rattle.calls.proofs.Theorems.ByPlace.{length_at_start}
use Rattle.kept_sound.proofs.Theorems.AtStart.{take_at_start, at_start_again}
use Rattle.kept_sound.proofs.Theorems.Parted.{count_of}
use Rattle.kept_sound.proofs.Theorems.Clearing.{sum_by_times}
use Rattle.calls.specs.declared.courses.Joining.TheVariants.{Pays}
use Rattle.history.specs.History.{Entering, Payment, HandOver, Account, History, account_of, enterings_of, payments_of, fee, fees, collected, credited_to, paid_of, paid_to, person_of, connections, charged, borne, cleared_collected, cleared_paid_out, cleared_fees, openings, scheme_particulars_in, entry_particulars_in, books_in, scheme_in, schemes_in, ledger_in, party_by, party_in, parties_in, enters_in, opener, paid_in, handed_in, cleared_in}
use Rattle.history.proofs.Theorems.Split.{all_below}
use Rattle.history.specs.SoundHistory.{Opens, Joins, Chain, SoundHistory}
use Rattle.history.specs.ShownState.{state_in}
use Rattle.history.proofs.Theorems.Chain.{joiner_uncredited, fees_more, fees_none, opener_uncredited, chain_opened, collected_more, collected_none}
use Rattle.history.proofs.Theorems.SoundHistory.{by_cons_if, unpaid, PaidJoining, joiner_in, JoinsIn, no_enterings, account_stays, openings_stay}
use Rattle.history.proofs.Theorems.Numbering.{length_in_order, length_shown, shown_each, shown_more}

-- ---- the rules read the same
entries_many : (h : History) → length (parties_in h) ≡ length h.entered
entries_many h = length_shown (party_in h) h.entered

schemes_many : (h : History) → length (schemes_in h) ≡ length (openings h.entered)
schemes_many h = length_shown (scheme_in h) (openings h.entered)

module _ (start : List Party) (h : History) where
  pub entries_on_lem : entries_on (state_in start h) ≡ parties_in h
  entries_on_lem = take_at_start (parties_in h) start (length h.entered) (entries_many h)

  schemes_on_lem : schemes_on (state_in start h) ≡ schemes_in h
  schemes_on_lem = take_at_start (schemes_in h) new_ledger.schemes (length (openings h.entered)) (schemes_many h)

  pub table_length : length h.entered ≤ length start → length (state_in start h).table ≡ length start
  table_length fewer = length_at_start (parties_in h) start (omega (arith, entries_many h))

  pub books_shown : length h.entered ≤ length start → books_on (state_in start h) ≡ books_in (length start) h
  books_shown fewer = λ i. record {
    connections = connections h;
    month = h.month;
    next_scheme = h.next_scheme;
    next_entry = h.next_entry;
    room = table_length fewer i;
    schemes =
        (ap (map scheme_particulars) schemes_on_lem
        ∙ shown_each scheme_particulars (scheme_in h) scheme_particulars_in (all_any (openings h.entered) (λ e. refl {a = scheme_particulars_in e}))) i;
    entries =
        (ap (map entry_particulars) entries_on_lem
        ∙ shown_each entry_particulars (party_in h) (entry_particulars_in h) (all_any h.entered (λ e. refl {a = entry_particulars_in h e}))) i;
  }

-- entries at the start of the table that shows a history, where there are no fewer
table_again : (start : List Party) (h after : History) (entries : List Party) → length h.entered ≤ length after.entered → entries ≡ parties_in after →
    at_start entries (state_in start h).table ≡ at_start (parties_in after) start
table_again start h after entries fewer same =
    ap (λ (l : List Party). at_start l (state_in start h).table) same
    ∙ at_start_again (parties_in after) (parties_in h) start (omega (arith, fewer, entries_many h, entries_many after))

-- and so of the places of schemes
places_again : (h after : History) (schemes : List Scheme) → length (openings h.entered) ≤ length (openings after.entered) →
    schemes ≡ schemes_in after → at_start schemes (ledger_in h).schemes ≡ (ledger_in after).schemes
places_again h after schemes fewer same =
    ap (λ (l : List Scheme). at_start l (ledger_in h).schemes) same
    ∙ at_start_again (schemes_in after) (schemes_in h) new_ledger.schemes (omega (arith, fewer, schemes_many h, schemes_many after))

-- ---- one more entering

-- a party, before and after its scheme has one more entering
party_credited : (t : Bool) (e j : Entering) (c : List Entering) (paid : List Payment) (handed : List HandOver) →
    let party = party_by (record { entered = c; paid = paid }) handed e in
    cond t (with_credited (party.credited + credit_to e.entry j.credits) party) party
    ≡ party_by (record { entered = cons_if t j c; paid = paid }) handed e
party_credited true e j c paid handed = refl
party_credited false e j c paid handed = refl

unhanded : (n at_first : ℕ) {handed : List HandOver} → All (λ x. x.entry < n) handed → person_of n at_first handed ≡ at_first
unhanded n at_first nil = refl
unhanded n at_first (more {x} below belows) = rw (ne_eqb x.entry n (λ same. omega (arith, same, below))) (unhanded n at_first belows)

-- the new party has nothing yet
party_new : (next_scheme : ℕ) (e : Entering) (h : History) → SoundHistory h → e.entry ≡ h.next_entry →
    credited_to e.entry (enterings_of e.scheme (e ∷ h.entered)) ≡ 0 → new_party e.entry e.scheme e.bill e.put_in ≡ party_in (enters_in next_scheme e h) e
party_new next_scheme e h sound new uncredited = λ i. record {
  number = e.entry;
  scheme = e.scheme;
  person =
      (sym (unhanded h.next_entry e.bill.applicant.person sound.handed_made)
      ∙ ap (λ (n : ℕ). person_of n e.bill.applicant.person h.handed) (sym new)) i;
  capacity = e.bill.applicant.capacity;
  put_in = e.put_in;
  credited = sym uncredited i;
  paid_out =
      (sym (unpaid h.next_entry (all_filter (λ p. eqb p.scheme e.scheme) sound.paid_made))
      ∙ ap (λ (n : ℕ). paid_to n (payments_of e.scheme h.paid)) (sym new)) i;
}

own_entering : (e : Entering) (c : List Entering) → enterings_of e.scheme (e ∷ c) ≡ e ∷ enterings_of e.scheme c
own_entering e c = ap (λ (t : Bool). cons_if t e (enterings_of e.scheme c)) (eq-eqb e.scheme e.scheme refl)

-- a state with these schemes and entries shows the history with one more entering
record Written (after : History) : Type 0 where
  count : ℕ
  schemes : List Scheme
  entries : List Party
  count_is : count ≡ length (openings after.entered)
  schemes_are : schemes ≡ schemes_in after
  entries_are : entries ≡ parties_in after

shows_entered : (start : List Party) (h : History) (next_scheme : ℕ) (e : Entering) (written : Written (enters_in next_scheme e h)) →
    state_of
    (with_entry (record (ledger_in h) { next_scheme = next_scheme; count = written.count; schemes = at_start written.schemes (ledger_in h).schemes }))
    (at_start written.entries (state_in start h).table)
    ≡ state_in start (enters_in next_scheme e h)
shows_entered start h next_scheme e written =
    let after = enters_in next_scheme e h in
    let no_fewer : length (openings h.entered) ≤ length (openings (e ∷ h.entered)) =
    by_cons_if (λ (c : List Entering). length (openings h.entered) ≤ length c) e.opens e (openings h.entered) (λ opens. omega arith) (omega arith) in
    λ i. record {
      ledger = record {
        month = h.month;
        connections = connections h;
        charged = charged h;
        borne = borne h;
        next_scheme = next_scheme;
        next_entry = h.next_entry + 1;
        cleared_collected = cleared_collected h;
        cleared_paid_out = cleared_paid_out h;
        cleared_fees = cleared_fees h;
        entries = add-one (length h.entered) i;
        count = written.count_is i;
        schemes = places_again h after written.schemes no_fewer written.schemes_are i;
      };
      table = table_again start h after written.entries (omega arith) written.entries_are i;
    }

-- ---- a joining
scheme_joined : (t : Bool) (j : Entering) (c : List Entering) (taken : ℕ) (scheme : Scheme) → (t ≡ true → Joins j c) → (t ≡ true → taken ≡ fee c) →
    scheme.fees ≡ fees c → cond t (with_fees (scheme.fees + taken) scheme) scheme ≡ with_fees (fees (cons_if t j c)) scheme
scheme_joined true j c taken scheme joins same now =
    ap (λ (x : ℕ). with_fees x scheme) (ap₂ (λ (x y : ℕ). x + y) now (same refl) ∙ sym (fees_more j c (joins refl)))
scheme_joined false j c taken scheme joins same now = ap (λ (x : ℕ). with_fees x scheme) now

module _ (start : List Party) (h : History) (sound : SoundHistory h) (joining : PaidJoining) (is : JoinsIn h joining) where
  abbrev s : ℕ
  s = joining.bill.applicant.scheme

  abbrev j : Entering
  j = joiner_in h joining

  abbrev after_joining : History
  after_joining = enters_in h.next_scheme j h

  joiner_new : credited_to h.next_entry (enterings_of s (j ∷ h.entered)) ≡ 0
  joiner_new =
      ap (credited_to h.next_entry) (own_entering j h.entered)
      ∙ joiner_uncredited j (enterings_of s h.entered) is.joins (sound.accounts s).chain
      (all_filter (λ e. eqb e.scheme s) (all_below h.next_entry h.entered sound.numbers.entries_in_order))

  fee_taken : (o : Entering) → takes_fee s joining.paid.fee (scheme_in h o) ≡ scheme_in after_joining o
  fee_taken o =
      scheme_joined (eqb s o.scheme) j (enterings_of o.scheme h.entered) joining.paid.fee (scheme_in h o)
      (λ here. subst (λ (n : ℕ). Joins j (enterings_of n h.entered)) (eqb-true s o.scheme here) is.joins)
      (λ here. is.same_fee ∙ ap (λ (n : ℕ). fee (enterings_of n h.entered)) (eqb-true s o.scheme here))
      refl

  fees_taken : map (takes_fee s joining.paid.fee) (schemes_on (state_in start h)) ≡ schemes_in after_joining
  fees_taken =
      ap (map (takes_fee s joining.paid.fee)) (schemes_on_lem start h)
      ∙ shown_each (takes_fee s joining.paid.fee) (scheme_in h) (scheme_in after_joining)
      (all_any (openings h.entered) fee_taken)

  abbrev credited_entries : List Party
  credited_entries = map (is_credited s joining.credits) (entries_on (state_in start h))

  abbrev joiner_party : Party
  joiner_party = new_party h.next_entry s joining.bill joining.paid.collected

  entries_joined : credited_entries ++ (joiner_party ∷ []) ≡ parties_in after_joining
  entries_joined =
      shown_more (party_in after_joining) j h.entered credited_entries joiner_party
      (ap (map (is_credited s joining.credits)) (entries_on_lem start h)
      ∙ shown_each (is_credited s joining.credits) (party_in h) (party_in after_joining)
      (all_any h.entered
      (λ e. party_credited (eqb s e.scheme) e j (enterings_of e.scheme h.entered) (payments_of e.scheme h.paid) h.handed)))
      (party_new h.next_scheme j h sound refl joiner_new)

  pub shows_joined : joined (Pays joining.paid) joining.credits joining.bill (state_in start h) ≡ state_in start after_joining
  shows_joined =
      shows_entered start h h.next_scheme j
      (record {
        count = length (openings h.entered);
        schemes = map (takes_fee s joining.paid.fee) (schemes_on (state_in start h));
        entries = credited_entries ++ (joiner_party ∷ []);
        count_is = refl;
        schemes_are = fees_taken;
        entries_are = entries_joined;
      })

-- ---- an opening
module _ (start : List Party) (bill : Bill) (h : History) (sound : SoundHistory h) where
  abbrev o : Entering
  o = opener bill h.next_scheme h.next_entry

  abbrev after_opening : History
  after_opening = enters_in (h.next_scheme + 1) o h

  -- it is none of theirs
  not_theirs : (e : Entering) → e.scheme < h.next_scheme → enterings_of e.scheme h.entered ≡ enterings_of e.scheme (o ∷ h.entered)
  not_theirs e below =
      ap (λ (t : Bool). cons_if t o (enterings_of e.scheme h.entered)) (sym (ne_eqb h.next_scheme e.scheme (λ same. omega (arith, same, below))))

  alone : enterings_of h.next_scheme (o ∷ h.entered) ≡ o ∷ []
  alone = own_entering o h.entered ∙ ap (λ (c : List Entering). o ∷ c) (no_enterings h sound)

  schemes_opened : Opens o → schemes_on (state_in start h) ++ (new_scheme h.next_scheme bill ∷ []) ≡ schemes_in after_opening
  schemes_opened is =
      shown_more (scheme_in after_opening) o (openings h.entered) (schemes_on (state_in start h)) (new_scheme h.next_scheme bill)
      (schemes_on_lem start h
      ∙ map_same (scheme_in h) (scheme_in after_opening)
      (all_in_order (all_filter (λ e. e.opens)
      (all_map
      (λ (e : Entering) (below : e.scheme < h.next_scheme). ap (λ (c : List Entering). with_fees (fees c) (scheme_in h e)) (not_theirs e below))
      sound.numbers.schemes_made))))
      (ap (λ (x : ℕ). with_fees x (new_scheme h.next_scheme bill)) (sym (ap fees alone ∙ fees_none o is)))

  abbrev opener_party : Party
  opener_party = new_party h.next_entry h.next_scheme bill bill.reconciliation.x

  entries_opened : Opens o → entries_on (state_in start h) ++ (opener_party ∷ []) ≡ parties_in after_opening
  entries_opened is =
      shown_more (party_in after_opening) o h.entered (entries_on (state_in start h)) opener_party
      (entries_on_lem start h
      ∙ map_same (party_in h) (party_in after_opening)
      (all_in_order
      (all_map
      (λ (e : Entering) (below : e.scheme < h.next_scheme).
      ap (λ (c : List Entering). party_by (record { entered = c; paid = payments_of e.scheme h.paid }) h.handed e) (not_theirs e below))
      sound.numbers.schemes_made)))
      (party_new (h.next_scheme + 1) o h sound refl (ap (credited_to h.next_entry) alone ∙ opener_uncredited o is h.next_entry))

  pub shows_opened : Opens o → opened true bill (state_in start h) ≡ state_in start after_opening
  shows_opened is =
      shows_entered start h (h.next_scheme + 1) o
      (record {
        count = length (openings h.entered) + 1;
        schemes = schemes_on (state_in start h) ++ (new_scheme h.next_scheme bill ∷ []);
        entries = entries_on (state_in start h) ++ (opener_party ∷ []);
        count_is = add-one (length (openings h.entered));
        schemes_are = schemes_opened is;
        entries_are = entries_opened is;
      })

-- ---- a pay-out, a hand-over
paid_more : (t u : Bool) (n : ℕ) (p : Payment) (paid : List Payment) → eqb p.entry n ≡ t → (t ≡ true → u ≡ true) →
    cond t (paid_to n paid + p.amount) (paid_to n paid) ≡ paid_to n (cons_if u p paid)
paid_more true true n p paid same own = omega (arith, ap (λ (t : Bool). cond t p.amount 0) same)
paid_more true false n p paid same own = absurd (true≢false (sym (own refl)))
paid_more false true n p paid same own = omega (arith, ap (λ (t : Bool). cond t p.amount 0) same)
paid_more false false n p paid same own = refl

party_paid : (t : Bool) (party : Party) (x : ℕ) → cond t (with_paid_out x party) party ≡ with_paid_out (cond t x party.paid_out) party
party_paid true party x = refl
party_paid false party x = refl

party_handed : (t : Bool) (party : Party) (person : ℕ) → cond t (with_person person party) party ≡ with_person (cond t person party.person) party
party_handed true party person = refl
party_handed false party person = refl

-- each entry changed, where none is added
shows_changed : (start : List Party) (h after : History) (change : Party → Party) → after.entered ≡ h.entered →
    All (λ e. change (party_in h e) ≡ party_in after e) h.entered →
    at_start (map change (entries_on (state_in start h))) (state_in start h).table ≡ at_start (parties_in after) start
shows_changed start h after change kept same =
    table_again start h after (map change (entries_on (state_in start h))) (omega (arith, ap length kept))
    (ap (map change) (entries_on_lem start h)
    ∙ shown_each change (party_in h) (party_in after) same
    ∙ ap (λ (l : List Entering). map (party_in after) (oldest_first l)) (sym kept))

module _ (start : List Party) (h : History) where
  pub shows_paid : (p : Payment) → All (λ e. eqb p.entry e.entry ≡ true → p.scheme ≡ e.scheme) h.entered →
      record (state_in start h) { table = at_start (map (is_paid p.entry p.amount) (entries_on (state_in start h))) (state_in start h).table } ≡ state_in start (paid_in p h)
  shows_paid p known =
      ap (state_of (ledger_in h))
      (shows_changed start h (paid_in p h) (is_paid p.entry p.amount) refl
      (all_map
      (λ (e : Entering) (own : eqb p.entry e.entry ≡ true → p.scheme ≡ e.scheme).
      party_paid (eqb p.entry e.entry) (party_in h e) ((party_in h e).paid_out + p.amount)
      ∙ ap (λ (x : ℕ). with_paid_out x (party_in h e))
      (paid_more (eqb p.entry e.entry) (eqb p.scheme e.scheme) e.entry p (payments_of e.scheme h.paid) refl
      (λ here. eq-eqb p.scheme e.scheme (own here))))
      known))

  pub shows_handed : (x : HandOver) →
      record (state_in start h) { table = at_start (map (is_handed x.entry x.person) (entries_on (state_in start h))) (state_in start h).table } ≡ state_in start (handed_in x h)
  shows_handed x =
      ap (state_of (ledger_in h))
      (shows_changed start h (handed_in x h) (is_handed x.entry x.person) refl
      (all_any h.entered (λ e. party_handed (eqb x.entry e.entry) (party_in h e) x.person)))

-- ---- a clearing
-- the oldest of a scheme's enterings is its opening, which stands first; the others' put in is collected
oldest_left : (figure : Entering → ℕ) (e d : Entering) (c : List Entering) →
    sum_by figure (drop 1 (oldest_first (e ∷ d ∷ c))) ≡ sum_by figure (drop 1 (oldest_first (d ∷ c))) + figure e
oldest_left figure e d c = by (oldest_first (d ∷ c)) (length_in_order (d ∷ c))
  where
    by : (l : List Entering) → length l ≡ suc (length c) → sum_by figure (drop 1 (l ++ (e ∷ []))) ≡ sum_by figure (drop 1 l) + figure e
    by [] some = absurd (omega (arith, some))
    by (x ∷ l) some = sum_by_append figure l (e ∷ []) ∙ omega arith

chain_collected : (c : List Entering) → Chain c → sum_by (λ e. e.put_in) (drop 1 (oldest_first c)) ≡ collected c
chain_collected [] h = refl
chain_collected (e ∷ []) h = sym (collected_none e h)
chain_collected (e ∷ d ∷ older) h =
    omega (arith, oldest_left (λ e. e.put_in) e d older, chain_collected (d ∷ older) h.1, collected_more e (d ∷ older) h.0)

drop_map : {A B : Type 0} (f : A → B) (n : ℕ) (xs : List A) → drop n (map f xs) ≡ map f (drop n xs)
drop_map f zero xs = refl
drop_map f (suc n) [] = refl
drop_map f (suc n) (x ∷ xs) = drop_map f n xs

module _ (h : History) (sound : SoundHistory h) (s : ℕ) where
  abbrev own : List Entering
  own = enterings_of s h.entered

  -- scheme s's entries, and what they come to
  own_parties : parties_on s (parties_in h) ≡ map (party_in h) (oldest_first own)
  own_parties = filter_rows (λ (party : Party). eqb party.scheme s) (party_in h) h.entered

  own_collected : collected_of (parties_in h) s ≡ collected own
  own_collected =
      ap (λ (l : List Party). sum_by (λ party. party.put_in) (drop 1 l)) own_parties
      ∙ ap (sum_by (λ party. party.put_in)) (drop_map (party_in h) 1 (oldest_first own))
      ∙ sum_by_map (λ party. party.put_in) (party_in h) (drop 1 (oldest_first own))
      ∙ chain_collected own (sound.accounts s).chain

  own_paid_out : paid_out_of (parties_in h) s ≡ paid_of (payments_of s h.paid)
  own_paid_out =
      ap (sum_by (λ (party : Party). party.paid_out)) own_parties
      ∙ sum_by_map (λ (party : Party). party.paid_out) (party_in h) (oldest_first own)
      ∙ sum_by_in_order (λ (e : Entering). paid_to e.entry (payments_of e.scheme h.paid)) own
      ∙ sum_by_same (λ (e : Entering). paid_to e.entry (payments_of e.scheme h.paid)) (λ (e : Entering). paid_to e.entry (payments_of s h.paid))
      (all_kept (λ e. eqb e.scheme s) h.entered
      (λ (e : Entering) (here : eqb e.scheme s ≡ true). ap (λ (n : ℕ). paid_to e.entry (payments_of n h.paid)) (eqb-true e.scheme s here)))
      ∙ sym (sound.accounts s).paid_whole

  -- one opening has the number, or none where no entering has
  opened_weight : (c : List Entering) → Chain c → fees c * sum_by (λ e. cond e.opens 1 0) c ≡ fees c
  opened_weight [] chain = omega arith
  opened_weight (e ∷ c) chain = ap (λ (n : ℕ). fees (e ∷ c) * n) (chain_opened e c chain) ∙ omega arith

  weigh : (w : ℕ) (t : Bool) → cond t w 0 ≡ w * cond t 1 0
  weigh w true = omega arith
  weigh w false = omega arith

  own_fees : fees_of (schemes_in h) s ≡ fees own
  own_fees =
      sum_by_map (λ (scheme : Scheme). cond (eqb scheme.number s) scheme.fees 0) (scheme_in h) (oldest_first (openings h.entered))
      ∙ sum_by_in_order (λ (e : Entering). cond (eqb e.scheme s) (fees (enterings_of e.scheme h.entered)) 0) (openings h.entered)
      ∙ sym (sum_by_filter (λ (e : Entering). fees (enterings_of e.scheme h.entered)) (λ (e : Entering). eqb e.scheme s) (openings h.entered))
      ∙ sum_by_same (λ (e : Entering). fees (enterings_of e.scheme h.entered)) (λ (e : Entering). fees own)
      (all_kept (λ e. eqb e.scheme s) (openings h.entered)
      (λ (e : Entering) (here : eqb e.scheme s ≡ true). ap (λ (n : ℕ). fees (enterings_of n h.entered)) (eqb-true e.scheme s here)))
      ∙ ap (sum_by (λ (e : Entering). fees own)) (filter_swap (λ (e : Entering). eqb e.scheme s) (λ (e : Entering). e.opens) h.entered)
      ∙ sum_by_filter (λ (e : Entering). fees own) (λ (e : Entering). e.opens) own
      ∙ sum_by_same (λ (e : Entering). cond e.opens (fees own) 0) (λ (e : Entering). fees own * cond e.opens 1 0) (all_any own (λ e. weigh (fees own) e.opens))
      ∙ sum_by_times (fees own) (λ (e : Entering). cond e.opens 1 0) own
      ∙ opened_weight own (sound.accounts s).chain

module _ (start : List Party) (month : ℕ) (gone : List ℕ) (h : History) (once : (n : ℕ) → count_of n gone ≤ 1) (sound : SoundHistory h)
    (whole : at_start (parties_in h) start ≡ start) where
  abbrev after : History
  after = cleared_in month gone h

  abbrev stays : Entering → Bool
  stays e = not (one_of gone e.scheme)

  schemes_left : filter (λ scheme. not (one_of gone scheme.number)) (schemes_on (state_in start h)) ≡ schemes_in after
  schemes_left =
      ap (filter (λ (scheme : Scheme). not (one_of gone scheme.number))) (schemes_on_lem start h)
      ∙ filter_rows (λ (scheme : Scheme). not (one_of gone scheme.number)) (scheme_in h) (openings h.entered)
      ∙ ap (λ (l : List Entering). map (scheme_in h) (oldest_first l)) (sym (openings_stay month gone h once sound))
      ∙ map_same (scheme_in h) (scheme_in after)
      (all_in_order
      (subst (All (λ e. scheme_in h e ≡ scheme_in after e)) (sym (openings_stay month gone h once sound))
      (all_kept stays (openings h.entered)
      (λ (e : Entering) (kept : stays e ≡ true).
      ap (λ (account : Account). with_fees (fees account.entered) (scheme_in h e)) (sym (account_stays month gone h e.scheme kept))))))

  entries_left : filter (λ entry. not (one_of gone entry.scheme)) (entries_on (state_in start h)) ≡ parties_in after
  entries_left =
      ap (filter (λ (party : Party). not (one_of gone party.scheme))) (entries_on_lem start h)
      ∙ filter_rows (λ (party : Party). not (one_of gone party.scheme)) (party_in h) h.entered
      ∙ map_same (party_in h) (party_in after)
      (all_in_order
      (all_kept stays h.entered
      (λ (e : Entering) (kept : stays e ≡ true). ap (λ (account : Account). party_by account h.handed e) (sym (account_stays month gone h e.scheme kept)))))

  -- the sums grow by what the accounts that go over come to
  grown : (of_ledger : ℕ → ℕ) (figure : Account → ℕ) → ((s : ℕ) → of_ledger s ≡ figure (account_of s h)) →
      sum_by figure h.cleared + sum_by of_ledger gone ≡ sum_by figure after.cleared
  grown of_ledger figure same =
      omega (
        arith,
        sum_by_same of_ledger (λ s. figure (account_of s h)) (all_any gone same),
        sum_by_map figure (λ s. account_of s h) gone,
        sum_by_append figure (map (λ s. account_of s h) gone) h.cleared,
      )

  pub shows_cleared : carried_out (state_in start h) (cleared month gone) ≡ state_in start after
  shows_cleared = λ i. record {
    ledger = record {
      month = month;
      connections = connections h;
      charged = charged h;
      borne = borne h;
      next_scheme = h.next_scheme;
      next_entry = h.next_entry;
      cleared_collected =
          grown (collected_of (entries_on (state_in start h))) (λ account. collected account.entered)
          (λ s. ap (λ (l : List Party). collected_of l s) (entries_on_lem start h) ∙ own_collected h sound s) i;
      cleared_paid_out =
          grown (paid_out_of (entries_on (state_in start h))) (λ account. paid_of account.paid)
          (λ s. ap (λ (l : List Party). paid_out_of l s) (entries_on_lem start h) ∙ own_paid_out h sound s) i;
      cleared_fees =
          grown (fees_of (schemes_on (state_in start h))) (λ account. fees account.entered)
          (λ s. ap (λ (l : List Scheme). fees_of l s) (schemes_on_lem start h) ∙ own_fees h sound s) i;
      entries = (ap length entries_left ∙ entries_many after) i;
      count = (ap length schemes_left ∙ schemes_many after) i;
      schemes = at_start (schemes_left i) new_ledger.schemes;
    };
    table = at_start (entries_left i) (whole i);
  }
