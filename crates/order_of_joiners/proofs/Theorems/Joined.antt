-- What a list of calls adds to one scheme's enterings, where each accept that names it is answered "joined".
use Rattle.std.specs.Prelude.{ℕ, ◌+◌, ◌≤◌, ◌<◌, ◌≡◌, ◌⊎◌, refl, List, [], ◌∷◌, ◌++◌, map, Bool, true, false, cond, length, eqb, leb, ltb, Err, None, Ok, Option, Some, IsSome, option_to_list}
use Rattle.std.specs.List.{cons_option}
use Rattle.std.proofs.Common.{sym, ap, subst, ◌∙◌, arith, inl, inr, ⊎_elim, append-nil, length-append, ne_eqb}
use Rattle.std.proofs.lemmas.List.{append_assoc, map-append, length-map}
use Rattle.charge.specs.Price.{price_of, Pricing}
use Rattle.charge.specs.declared.Bill.{Bill}
use Rattle.ledger.specs.Lists.{oldest_first, All, nil, more}
use Rattle.ledger.specs.Books.{EntryParticulars, Books, entry_at}
use Rattle.calls.specs.Rules.{Credit}
use Rattle.calls.specs.Verdict.{verdict, Verdict}
use Rattle.calls.specs.Decision.{Call, accept, pay_out, hand_over, clear, credits_by, decided_by, accept_by, pay_out_by, hand_over_by, joining_answer, answer_to}
use Rattle.calls.proofs.Theorems.Lists.{by_cond, all_append}
use Rattle.calls.specs.declared.courses.Joining.{Joining}
use Rattle.calls.specs.declared.courses.Joining.TheVariants.{NotAsked, Ended, Small, Pays}
use Rattle.history.specs.History.{Entering, Account, History, enterings_of, books_in, billed_in, joiner, opener, joined_in, opened_in, recorded, with_call, answer_by, history_from, answers_from}
use Rattle.history.specs.JoinedAnswers.{IsJoined, AnswersJoined}
use Rattle.history.proofs.Theorems.CreditedGrows.{cleared_whole}
use Rattle.order_of_joiners.specs.Orders.{Joiner, joiner_of, joiner_by, joiner_asking, joiners, EachJoins}

-- these joiners came to these enterings, in order
pub record Grown (joined : List Joiner) (before after : List Entering) : Type 0 where
  pub added : List Entering
  pub is : after ≡ added ++ before
  pub joins : All (λ e. e.opens ≡ false) added
  pub joiners : map (λ e. joiner_of e.bill) (oldest_first added) ≡ joined

stays : {before after : List Entering} → after ≡ before → Grown [] before after
stays same = record { added = []; is = same; joins = nil; joiners = refl }

pub oldest_first_append : {A : Type 0} (xs ys : List A) → oldest_first (xs ++ ys) ≡ oldest_first ys ++ oldest_first xs
oldest_first_append [] ys = sym (append-nil (oldest_first ys))
oldest_first_append (x ∷ xs) ys =
    ap (λ zs. zs ++ (x ∷ [])) (oldest_first_append xs ys) ∙ append_assoc (oldest_first ys) (oldest_first xs) (x ∷ [])

then_grown : {first later : List Joiner} {before between after : List Entering} → Grown first before between → Grown later between after →
    Grown (first ++ later) before after
then_grown {first} {before} one two =
    record {
      added = two.added ++ one.added;
      is = two.is ∙ ap (λ entered. two.added ++ entered) one.is ∙ sym (append_assoc two.added one.added before);
      joins = all_append two.joins one.joins;
      joiners =
          ap (map (λ (e : Entering). joiner_of e.bill)) (oldest_first_append two.added one.added)
          ∙ map-append (λ (e : Entering). joiner_of e.bill) (oldest_first one.added) (oldest_first two.added)
          ∙ ap (λ joined. joined ++ map (λ (e : Entering). joiner_of e.bill) (oldest_first two.added)) one.joiners
          ∙ ap (λ joined. first ++ joined) two.joiners;
    }

in_order_length : {A : Type 0} (xs : List A) → length (oldest_first xs) ≡ length xs
in_order_length [] = refl
in_order_length (x ∷ xs) = length-append (oldest_first xs) (x ∷ []) ∙ omega (arith, in_order_length xs)

pub joined_length : {joined : List Joiner} {before after : List Entering} (of : Grown joined before after) → length of.added ≡ length joined
joined_length of =
    sym (in_order_length of.added) ∙ sym (length-map (oldest_first of.added) (λ (e : Entering). joiner_of e.bill)) ∙ ap length of.joiners

grown_length : {joined : List Joiner} {before after : List Entering} → Grown joined before after → length after ≡ length before + length joined
grown_length {before} of = ap length of.is ∙ length-append of.added before ∙ omega (arith, joined_length of)

-- some of them went
abbrev Fewer : List Joiner → List Entering → List Entering → Type 0
Fewer joined before after = length after + 1 ≤ length before + length joined

then_either : {first later : List Joiner} {before between after : List Entering} → Grown first before between ⊎ Fewer first before between →
    Grown later between after ⊎ Fewer later between after → Grown (first ++ later) before after ⊎ Fewer (first ++ later) before after
then_either (inl one) (inl two) = inl (then_grown one two)
then_either {first} {later} (inl one) (inr two) = inr (omega (arith, grown_length one, two, length-append first later))
then_either {first} {later} (inr one) (inl two) = inr (omega (arith, one, grown_length two, length-append first later))
then_either {first} {later} (inr one) (inr two) = inr (omega (arith, one, two, length-append first later))

-- ---- one call

-- by these scheme numbers s isn't given again
record After (s : ℕ) (joined : List Joiner) (h after : History) : Type 0 where
  grown : Grown joined (enterings_of s h.entered) (enterings_of s after.entered)
  given : s < after.next_scheme

-- the same, or some of them went
record Step (s : ℕ) (joined : List Joiner) (h after : History) : Type 0 where
  entered : Grown joined (enterings_of s h.entered) (enterings_of s after.entered) ⊎ Fewer joined (enterings_of s h.entered) (enterings_of s after.entered)
  given : s < after.next_scheme

step_of : {s : ℕ} {joined : List Joiner} {h after : History} → After s joined h after → Step s joined h after
step_of after = record { entered = inl after.grown; given = after.given }

untouched : (s : ℕ) (h after : History) → s < h.next_scheme → after.entered ≡ h.entered → after.next_scheme ≡ h.next_scheme → After s [] h after
untouched s h after given same next = record { grown = stays (ap (enterings_of s) same); given = subst (λ n. s < n) (sym next) given }

module _ (s room : ℕ) (h : History) (given : s < h.next_scheme) where
  abbrev books : Books
  books = books_in room h

  opened : (opens : Bool) (bill : Bill) (joined : List Joiner) (between : History) → After s joined h between → After s joined h (opened_in opens bill between)
  opened false bill joined between after = after
  opened true bill joined between after =
      let e = opener bill between.next_scheme between.next_entry in
      record {
        grown =
            subst (λ t. Grown joined (enterings_of s h.entered) (cond t (e ∷ enterings_of s between.entered) (enterings_of s between.entered)))
            (sym (ne_eqb between.next_scheme s (λ same. omega (arith, same, after.given)))) after.grown;
        given = omega (arith, after.given);
      }

  joined : (bill : Bill) (joining : Joining) (credits : List Credit) (t : Bool) → eqb bill.applicant.scheme s ≡ t →
      (IsSome (cond t (Some (joiner_of bill)) None) → IsJoined (joining_answer books joining)) →
      After s (option_to_list (cond t (Some (joiner_of bill)) None)) h (joined_in joining credits bill (billed_in bill h))
  joined bill NotAsked credits true names joins = absurd (joins refl)
  joined bill NotAsked credits false names joins = untouched s h _ given refl refl
  joined bill Ended credits true names joins = absurd (joins refl)
  joined bill Ended credits false names joins = untouched s h _ given refl refl
  joined bill Small credits true names joins = absurd (joins refl)
  joined bill Small credits false names joins = untouched s h _ given refl refl
  joined bill (Pays paid) credits true names joins =
      let e = joiner bill h.next_entry paid.collected credits in
      record {
        grown =
            record {
              added = e ∷ [];
              is = ap (λ t. cond t (e ∷ enterings_of s h.entered) (enterings_of s h.entered)) names;
              joins = more {x = e} refl nil;
              joiners = refl;
            };
        given = given;
      }
  joined bill (Pays paid) credits false names joins =
      let e = joiner bill h.next_entry paid.collected credits in
      record { grown = stays (ap (λ t. cond t (e ∷ enterings_of s h.entered) (enterings_of s h.entered)) names); given = given }

  -- an accept, by its verdict
  judged : (bill : Bill) (t : Bool) → eqb bill.applicant.scheme s ≡ t → (v : Verdict) →
      (IsSome (cond t (Some (joiner_of bill)) None) → AnswersJoined (answer_to books (decided_by books bill v))) →
      After s (option_to_list (cond t (Some (joiner_of bill)) None)) h (recorded h (decided_by books bill v))
  judged bill t names (Ok course) joins =
      opened course.opens bill _ _ (joined bill course.joining (credits_by books bill course.joining) t names joins)
  judged bill true names (Err r) joins = absurd (joins refl)
  judged bill false names (Err r) joins = untouched s h h given refl refl

  priced : (pricing : Pricing) → (IsSome (joiner_by s pricing) → AnswersJoined (answer_to books (accept_by books pricing))) →
      After s (option_to_list (joiner_by s pricing)) h (recorded h (accept_by books pricing))
  priced (Ok bill) joins = judged bill (eqb bill.applicant.scheme s) refl (verdict books bill) joins
  priced (Err r) joins = untouched s h h given refl refl

  by_pay_out : (row : Option EntryParticulars) (amount : ℕ) → After s [] h (recorded h (pay_out_by row amount))
  by_pay_out None amount = untouched s h h given refl refl
  by_pay_out (Some row) amount =
      by_cond (λ decision. After s [] h (recorded h decision)) (leb (row.paid_out + amount) row.credited) _ _ (λ _. untouched s h _ given refl refl)
      (λ _. untouched s h _ given refl refl)

  by_hand_over : (row : Option EntryParticulars) (person : ℕ) → After s [] h (recorded h (hand_over_by row person))
  by_hand_over None person = untouched s h h given refl refl
  by_hand_over (Some row) person = untouched s h _ given refl refl

  by_clearing : (month : ℕ) → Step s [] h (with_call room h (clear month))
  by_clearing month =
      record {
        entered = by_parties (enterings_of s h.entered) refl;
        given = by_cond (λ decision. s < (recorded h decision).next_scheme) (ltb month h.month) _ _ (λ _. given) (λ _. given);
      }
    where
      after : List Entering
      after = enterings_of s (with_call room h (clear month)).entered

      entered_of : {one other : Account} → one ≡ other → one.entered ≡ other.entered
      entered_of same = ap (λ (account : Account). account.entered) same

      by_parties : (parties : List Entering) → enterings_of s h.entered ≡ parties → Grown [] (enterings_of s h.entered) after ⊎ Fewer [] (enterings_of s h.entered) after
      by_parties [] none = inl (stays (⊎_elim entered_of (λ gone. entered_of gone.0 ∙ sym none) (cleared_whole room h month s)))
      by_parties (e ∷ older) some =
          ⊎_elim (λ whole. inl (stays (entered_of whole)))
          (λ gone. inr (omega (arith, ap length (entered_of gone.0), ap length some))) (cleared_whole room h month s)

  after_call : (call : Call) → (IsSome (joiner_asking s call) → AnswersJoined (answer_by room h call)) →
      Step s (option_to_list (joiner_asking s call)) h (with_call room h call)
  after_call (accept book request) joins = step_of (priced (price_of book request) joins)
  after_call (pay_out e amount) joins = step_of (by_pay_out (entry_at books e) amount)
  after_call (hand_over e person) joins = step_of (by_hand_over (entry_at books e) person)
  after_call (clear month) joins = by_clearing month

-- ---- a list of calls
cons_option_list : {A : Type 0} (x : Option A) (xs : List A) → option_to_list x ++ xs ≡ cons_option x xs
cons_option_list None xs = refl
cons_option_list (Some x) xs = refl

grown_or_fewer : (s room : ℕ) (h : History) (calls : List Call) → s < h.next_scheme → EachJoins s calls (answers_from room h calls) →
    Grown (joiners s calls) (enterings_of s h.entered) (enterings_of s (history_from room h calls).entered)
    ⊎ Fewer (joiners s calls) (enterings_of s h.entered) (enterings_of s (history_from room h calls).entered)
unfolding history_from answers_from
grown_or_fewer s room h [] given each = inl (stays refl)
grown_or_fewer s room h (call ∷ calls) given each =
    let step = after_call s room h given call each.0 in
    let last = enterings_of s (history_from room (with_call room h call) calls).entered in
    subst (λ joined. Grown joined (enterings_of s h.entered) last ⊎ Fewer joined (enterings_of s h.entered) last)
    (cons_option_list (joiner_asking s call) (joiners s calls))
    (then_either step.entered (grown_or_fewer s room (with_call room h call) calls step.given each.1))

-- where as many stand at the end, nothing went
pub grown : (s room : ℕ) (h : History) (calls : List Call) → s < h.next_scheme →
    length (enterings_of s (history_from room h calls).entered) ≡ length (enterings_of s h.entered) + length (joiners s calls) →
    EachJoins s calls (answers_from room h calls) → Grown (joiners s calls) (enterings_of s h.entered) (enterings_of s (history_from room h calls).entered)
grown s room h calls given stand each =
    ⊎_elim (λ all. all) (λ fewer. absurd (omega (arith, fewer, stand))) (grown_or_fewer s room h calls given each)
