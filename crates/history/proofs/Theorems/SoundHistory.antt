-- Each change of a history keeps it sound: a change touches one scheme's account, and gives the next numbers.
use Rattle.std.specs.Prelude.{ℕ, ◌+◌, ◌≤◌, ◌<◌, ◌≡◌, refl, List, [], ◌∷◌, map, Bool, true, false, cond, not, length, eqb, filter}
use Rattle.std.proofs.Common.{sym, ap, subst, ◌∙◌, arith, eqb-true, ne_eqb}
use Rattle.std.proofs.lemmas.Bool.{eqb-false}
use Rattle.charge.specs.BillLimits.{BillWithin}
use Rattle.charge.specs.declared.Bill.{Bill}
use Rattle.ledger.specs.Lists.{sum_by, All, nil, more}
use Rattle.ledger.specs.RefusalNumbers.{one_of}
use Rattle.calls.specs.Rules.{Credit}
use Rattle.calls.proofs.Theorems.Lists.{by_test, all_any, all_append, all_by_key, all_map, all_mapped, all_filter, filter_none, filter_swap, filter_within, filter_apart, sum_by_append, sum_by_filter, sum_by_map, sum_by_none, sum_by_same, cons_if}
use Rattle.calls.proofs.Theorems.Rules.{where_other}
use Rattle.calls.specs.declared.courses.Contribution.{Contribution}
use Rattle.kept_sound.proofs.Theorems.Parted.{count_of, parted}
use Rattle.history.specs.History.{Entering, Payment, HandOver, Account, History, account_of, enterings_of, payments_of, fee, credited_to, paid_to, openings, times, billed_in, enters_in, joiner, opener, paid_in, handed_in, cleared_in, no_history}
use Rattle.history.specs.DemandThree.{Falls, GivenOnce, entries_given, schemes_given}
use Rattle.history.specs.SoundHistory.{Opens, Joins, Chain, SoundAccount, SoundHistory}
use Rattle.history.specs.Split.{Numbered}
use Rattle.history.proofs.Theorems.Chain.{chain_opened}
use Rattle.history.proofs.Theorems.SoundAccount.{sound_account_none, sound_account_joined, sound_account_opened, sound_account_paid}

pub sound_none : SoundHistory no_history
sound_none =
    record {
      accounts = λ s. sound_account_none;
      numbers =
          record {
            entries_in_order = tt;
            schemes_in_order = tt;
            entries_once = record { above_0 = omega arith; once = λ n some below. absurd (omega arith); none_past = λ n past. refl; none_at_0 = refl };
            schemes_once = record { above_0 = omega arith; once = λ n some below. absurd (omega arith); none_past = λ n past. refl; none_at_0 = refl };
            schemes_made = nil;
          };
      paid_schemes = nil;
      paid_made = nil;
      handed_made = nil;
      cleared_sound = nil;
      bills_add_up = refl;
    }

-- one more, where the test says so
pub by_cons_if : {A : Type 0} (P : List A → Type 0) (t : Bool) (x : A) (xs : List A) → (t ≡ true → P (x ∷ xs)) → P xs → P (cons_if t x xs)
by_cons_if P true x xs with_it without = with_it refl
by_cons_if P false x xs with_it without = without

-- ---- numbers fall towards the older ones, also where some are left out
module _ {A : Type 0} (number : A → ℕ) where
  falls_up : (low high : ℕ) (xs : List A) → low ≤ high → Falls number low xs → Falls number high xs
  falls_up low high [] h n = tt
  falls_up low high (x ∷ older) h n = (omega (arith, n.0), n.1)

  pub falls_filter : (test : A → Bool) (next : ℕ) (xs : List A) → Falls number next xs → Falls number next (filter test xs)
  falls_filter test next [] n = tt
  falls_filter test next (x ∷ older) n =
      let kept : Falls number (number x) (filter test older) = falls_filter test (number x) older n.1 in
      by_cons_if (Falls number next) (test x) x (filter test older) (λ here. (n.0, kept)) (falls_up (number x) next (filter test older) (omega (arith, n.0)) kept)

pub numbered_in : (h : History) → SoundHistory h → (s : ℕ) → Numbered h.next_entry (account_of s h).entered
numbered_in h sound s = falls_filter (λ e. e.entry) (λ e. eqb e.scheme s) h.next_entry h.entered sound.numbers.entries_in_order

-- ---- the next number is given
given_more : (next : ℕ) (given after : ℕ → ℕ) → ((n : ℕ) → after n ≡ given n + cond (eqb next n) 1 0) → GivenOnce next given → GivenOnce (next + 1) after
given_more next given after grown h =
    record {
      above_0 = omega (arith, h.above_0);
      once =
          λ n some below.
          by_test (eqb next n)
          (λ here.
          let same : next ≡ n = eqb-true next n here in
          omega (arith, grown n, h.none_past n (omega arith), ap {B = ℕ} (λ (t : Bool). cond t 1 0) here))
          (λ other.
          let apart : next ≡ n → ⊥ = eqb-false next n other in
          omega (arith, grown n, h.once n some (omega (arith, apart)), ap {B = ℕ} (λ (t : Bool). cond t 1 0) other));
      none_past = λ n past. omega (arith, grown n, h.none_past n (omega arith), where_other next n 1 (λ same. omega arith));
      none_at_0 = omega (arith, grown 0, h.none_at_0, where_other next 0 1 (λ same. omega (arith, h.above_0)));
    }

-- as many as before
given_same : (next : ℕ) (given after : ℕ → ℕ) → ((n : ℕ) → after n ≡ given n) → GivenOnce next given → GivenOnce next after
given_same next given after same h =
    record {
      above_0 = h.above_0;
      once = λ n some below. same n ∙ h.once n some below;
      none_past = λ n past. same n ∙ h.none_past n past;
      none_at_0 = same 0 ∙ h.none_at_0;
    }

-- ---- the scheme of every entry was opened
opened_times : (s : ℕ) (c : List Entering) →
    times (λ e. e.scheme) s (openings c) ≡ sum_by (λ e. cond e.opens 1 0) (enterings_of s c)
opened_times s c =
    sym (sum_by_filter (λ (e : Entering). 1) (λ (e : Entering). eqb e.scheme s) (openings c))
    ∙ ap (sum_by (λ (e : Entering). 1)) (filter_swap (λ (e : Entering). eqb e.scheme s) (λ (e : Entering). e.opens) c)
    ∙ sum_by_filter (λ (e : Entering). 1) (λ (e : Entering). e.opens) (enterings_of s c)

pub schemes_opened : (h : History) → SoundHistory h →
    All (λ e. times (λ o. o.scheme) e.scheme (openings h.entered) ≡ 1) h.entered
schemes_opened h sound =
    all_by_key (λ (s : ℕ) (e : Entering). times (λ o. o.scheme) s (openings h.entered) ≡ 1) (λ (e : Entering). e.scheme) h.entered
    (λ s. of_account s (enterings_of s h.entered) (opened_times s h.entered) (sound.accounts s).chain)
  where
    of_account : (s : ℕ) (c : List Entering) → times (λ o. o.scheme) s (openings h.entered) ≡ sum_by (λ e. cond e.opens 1 0) c → Chain c →
        All (λ e. times (λ o. o.scheme) s (openings h.entered) ≡ 1) c
    of_account s [] same chain = nil
    of_account s (e ∷ c) same chain = all_any (e ∷ c) (λ _. same ∙ chain_opened e c chain)

-- ---- billed
pub sound_billed : (bill : Bill) (h : History) → BillWithin bill → SoundHistory h → SoundHistory (billed_in bill h)
sound_billed bill h fit sound =
    record {
      accounts = sound.accounts;
      numbers =
          record {
            entries_in_order = sound.numbers.entries_in_order;
            schemes_in_order = sound.numbers.schemes_in_order;
            entries_once = sound.numbers.entries_once;
            schemes_once = sound.numbers.schemes_once;
            schemes_made = sound.numbers.schemes_made;
          };
      paid_schemes = sound.paid_schemes;
      paid_made = sound.paid_made;
      handed_made = sound.handed_made;
      cleared_sound = sound.cleared_sound;
      bills_add_up = omega (arith, fit.figures.entered, sound.bills_add_up);
    }

-- ---- one more entering

-- nothing was paid to a number not given yet
pub unpaid : (n : ℕ) {paid : List Payment} → All (λ p. p.entry < n) paid → paid_to n paid ≡ 0
unpaid n paid =
    sum_by_none (λ (p : Payment). cond (eqb p.entry n) p.amount 0)
    (all_map (λ (p : Payment) (below : p.entry < n). where_other p.entry n p.amount (λ same. omega (arith, same, below))) paid)

-- what keeps a history sound with this entering, after which the next scheme gets this number
record Enters (h : History) (next_scheme : ℕ) (e : Entering) : Type 0 where
  no_fewer : h.next_scheme ≤ next_scheme
  made : e.scheme < next_scheme
  next : e.entry ≡ h.next_entry
  schemes_in_order : Falls (λ e. e.scheme) next_scheme (openings (e ∷ h.entered))
  schemes_once : GivenOnce next_scheme (schemes_given (enters_in next_scheme e h))
  stands : SoundAccount (record { entered = e ∷ enterings_of e.scheme h.entered; paid = payments_of e.scheme h.paid })

sound_entered : (h : History) (next_scheme : ℕ) (e : Entering) → Enters h next_scheme e → SoundHistory h → SoundHistory (enters_in next_scheme e h)
sound_entered h next_scheme e enters sound =
    record {
      accounts =
          λ s.
          by_cons_if (λ (c : List Entering). SoundAccount (record { entered = c; paid = payments_of s h.paid })) (eqb e.scheme s) e
          (enterings_of s h.entered)
          (λ here.
          subst (λ (n : ℕ). SoundAccount (record { entered = e ∷ enterings_of n h.entered; paid = payments_of n h.paid })) (eqb-true e.scheme s here)
          enters.stands)
          (sound.accounts s);
      numbers =
          record {
            entries_in_order = (omega (arith, enters.next), rw (← enters.next) at sound.numbers.entries_in_order);
            schemes_in_order = enters.schemes_in_order;
            entries_once =
                given_more h.next_entry (entries_given h) (entries_given (enters_in next_scheme e h))
                (λ n. omega (arith, ap {B = ℕ} (λ (m : ℕ). cond (eqb m n) 1 0) enters.next)) sound.numbers.entries_once;
            schemes_once = enters.schemes_once;
            schemes_made =
                more {x = e} enters.made
                (all_map (λ (p : Entering) (b : p.scheme < h.next_scheme). omega (arith, b, enters.no_fewer)) sound.numbers.schemes_made);
          };
      paid_schemes = all_map (λ (p : Payment) (b : p.scheme < h.next_scheme). omega (arith, b, enters.no_fewer)) sound.paid_schemes;
      paid_made = all_map (λ (p : Payment) (b : p.entry < h.next_entry). omega (arith, b)) sound.paid_made;
      handed_made = all_map (λ (p : HandOver) (b : p.entry < h.next_entry). omega (arith, b)) sound.handed_made;
      cleared_sound = sound.cleared_sound;
      bills_add_up = sound.bills_add_up;
    }

-- ---- a joining that pays
pub record PaidJoining : Type 0 where
  pub bill : Bill
  pub paid : Contribution
  pub credits : List Credit

abbrev pub joiner_in : History → PaidJoining → Entering
joiner_in h joining = joiner joining.bill h.next_entry joining.paid.collected joining.credits

-- the enterings of the scheme joined
abbrev pub earlier_in : History → PaidJoining → List Entering
earlier_in h joining = enterings_of joining.bill.applicant.scheme h.entered

pub record JoinsIn (h : History) (joining : PaidJoining) : Type 0 where
  pub made : joining.bill.applicant.scheme < h.next_scheme
  pub some_entering : 1 ≤ length (earlier_in h joining)
  pub same_fee : joining.paid.fee ≡ fee (earlier_in h joining)
  pub joins : Joins (joiner_in h joining) (earlier_in h joining)

pub sound_joined : (h : History) (joining : PaidJoining) → JoinsIn h joining → SoundHistory h →
    SoundHistory (enters_in h.next_scheme (joiner_in h joining) h)
sound_joined h joining is sound =
    let s = joining.bill.applicant.scheme in
    sound_entered h h.next_scheme (joiner_in h joining)
    (record {
      no_fewer = omega arith;
      made = is.made;
      next = refl;
      schemes_in_order = sound.numbers.schemes_in_order;
      schemes_once = given_same h.next_scheme (schemes_given h) (schemes_given (enters_in h.next_scheme (joiner_in h joining) h)) (λ n. refl) sound.numbers.schemes_once;
      stands =
          sound_account_joined (joiner_in h joining) (account_of s h) is.some_entering is.joins
          (unpaid h.next_entry (all_filter (λ p. eqb p.scheme s) sound.paid_made)) (sound.accounts s);
    })
    sound

-- ---- an opening

-- a number not given yet stands nowhere
none_with : {A : Type 0} (number : A → ℕ) (next : ℕ) {xs : List A} → All (λ x. number x < next) xs → filter (λ x. eqb (number x) next) xs ≡ []
none_with {A} number next below =
    filter_none (all_map (λ (x : A) (b : number x < next). ne_eqb (number x) next (λ same. omega (arith, same, b))) below)

pub no_enterings : (h : History) → SoundHistory h → enterings_of h.next_scheme h.entered ≡ []
no_enterings h sound = none_with (λ (e : Entering). e.scheme) h.next_scheme sound.numbers.schemes_made

pub opener_opens : (bill : Bill) (s e : ℕ) → BillWithin bill → Opens (opener bill s e)
opener_opens bill s e fit = record { opens = refl; some_capacity = fit.some_capacity; fee_within = fit.fee; credits_none = refl }

pub sound_opened : (bill : Bill) (h : History) → BillWithin bill → SoundHistory h →
    SoundHistory (enters_in (h.next_scheme + 1) (opener bill h.next_scheme h.next_entry) h)
sound_opened bill h fit sound =
    let e = opener bill h.next_scheme h.next_entry in
    sound_entered h (h.next_scheme + 1) e
    (record {
      no_fewer = omega arith;
      made = omega arith;
      next = refl;
      schemes_in_order = (omega arith, sound.numbers.schemes_in_order);
      schemes_once =
          given_more h.next_scheme (schemes_given h) (schemes_given (enters_in (h.next_scheme + 1) e h)) (λ n. omega arith) sound.numbers.schemes_once;
      stands =
          rw (no_enterings h sound, none_with (λ (p : Payment). p.scheme) h.next_scheme sound.paid_schemes)
          (sound_account_opened e (opener_opens bill h.next_scheme h.next_entry fit));
    })
    sound

-- ---- a pay-out, a hand-over
pub sound_paid : (p : Payment) (h : History) (x : Entering) →
    filter (λ e. eqb p.entry e.entry) (enterings_of p.scheme h.entered) ≡ x ∷ [] → p.entry < h.next_entry → p.scheme < h.next_scheme →
    paid_to p.entry (payments_of p.scheme h.paid) + p.amount ≤ credited_to p.entry (enterings_of p.scheme h.entered) →
    SoundHistory h → SoundHistory (paid_in p h)
sound_paid p h x one made of_made enough sound =
    record {
      accounts =
          λ s.
          by_cons_if (λ (paid : List Payment). SoundAccount (record { entered = enterings_of s h.entered; paid = paid })) (eqb p.scheme s) p
          (payments_of s h.paid)
          (λ here.
          subst (λ (n : ℕ). SoundAccount (record { entered = enterings_of n h.entered; paid = p ∷ payments_of n h.paid })) (eqb-true p.scheme s here)
          (sound_account_paid p (account_of p.scheme h) x one enough (sound.accounts p.scheme)))
          (sound.accounts s);
      numbers =
          record {
            entries_in_order = sound.numbers.entries_in_order;
            schemes_in_order = sound.numbers.schemes_in_order;
            entries_once = sound.numbers.entries_once;
            schemes_once = sound.numbers.schemes_once;
            schemes_made = sound.numbers.schemes_made;
          };
      paid_schemes = more {x = p} of_made sound.paid_schemes;
      paid_made = more {x = p} made sound.paid_made;
      handed_made = sound.handed_made;
      cleared_sound = sound.cleared_sound;
      bills_add_up = sound.bills_add_up;
    }

pub sound_handed : (x : HandOver) (h : History) → x.entry < h.next_entry → SoundHistory h → SoundHistory (handed_in x h)
sound_handed x h made sound =
    record {
      accounts = sound.accounts;
      numbers =
          record {
            entries_in_order = sound.numbers.entries_in_order;
            schemes_in_order = sound.numbers.schemes_in_order;
            entries_once = sound.numbers.entries_once;
            schemes_once = sound.numbers.schemes_once;
            schemes_made = sound.numbers.schemes_made;
          };
      paid_schemes = sound.paid_schemes;
      paid_made = sound.paid_made;
      handed_made = more {x = x} made sound.handed_made;
      cleared_sound = sound.cleared_sound;
      bills_add_up = sound.bills_add_up;
    }

-- ---- a clearing: an account goes whole or stays as it is
module _ (month : ℕ) (gone : List ℕ) (h : History) (s : ℕ) where
  kept_by : {stays : Bool} → not (one_of gone s) ≡ stays → (n : ℕ) → eqb n s ≡ true → not (one_of gone n) ≡ stays
  kept_by is n same = ap (λ (m : ℕ). not (one_of gone m)) (eqb-true n s same) ∙ is

  pub account_stays : not (one_of gone s) ≡ true → account_of s (cleared_in month gone h) ≡ account_of s h
  account_stays stays = λ i. record {
    entered = filter_within (λ (e : Entering). eqb e.scheme s) (λ (e : Entering). not (one_of gone e.scheme)) h.entered (λ (e : Entering). kept_by stays e.scheme) i;
    paid = filter_within (λ (p : Payment). eqb p.scheme s) (λ (p : Payment). not (one_of gone p.scheme)) h.paid (λ (p : Payment). kept_by stays p.scheme) i;
  }

  pub account_goes : not (one_of gone s) ≡ false → account_of s (cleared_in month gone h) ≡ record { entered = []; paid = [] }
  account_goes goes = λ i. record {
    entered = filter_apart (λ (e : Entering). eqb e.scheme s) (λ (e : Entering). not (one_of gone e.scheme)) h.entered (λ (e : Entering). kept_by goes e.scheme) i;
    paid = filter_apart (λ (p : Payment). eqb p.scheme s) (λ (p : Payment). not (one_of gone p.scheme)) h.paid (λ (p : Payment). kept_by goes p.scheme) i;
  }

module _ (month : ℕ) (gone : List ℕ) (h : History) (once : (n : ℕ) → count_of n gone ≤ 1) (sound : SoundHistory h) where
  abbrev after : History
  after = cleared_in month gone h

  abbrev stays : Entering → Bool
  stays e = not (one_of gone e.scheme)

  pub openings_stay : openings after.entered ≡ filter stays (openings h.entered)
  openings_stay = filter_swap (λ (e : Entering). e.opens) stays h.entered

  -- the numbers of the accounts that went over are still given
  moved : (weight : Account → ℕ) → sum_by weight after.cleared ≡ sum_by (λ s. weight (account_of s h)) gone + sum_by weight h.cleared
  moved weight =
      sum_by_append weight (map (λ s. account_of s h) gone) h.cleared ∙ ap (λ n. n + sum_by weight h.cleared) (sum_by_map weight (λ s. account_of s h) gone)

  entries_same : (n : ℕ) → entries_given after n ≡ entries_given h n
  entries_same n =
      omega (
        arith,
        moved (λ account. times (λ e. e.entry) n account.entered),
        parted (λ (e : Entering). e.scheme) (λ e. cond (eqb e.entry n) 1 0) gone once h.entered,
      )

  schemes_same : (n : ℕ) → schemes_given after n ≡ schemes_given h n
  schemes_same n =
      omega (
        arith,
        ap (times (λ e. e.scheme) n) openings_stay,
        moved (λ account. times (λ e. e.scheme) n (openings account.entered)),
        sum_by_same (λ s. times (λ e. e.scheme) n (openings (enterings_of s h.entered))) (λ s. times (λ e. e.scheme) n (enterings_of s (openings h.entered)))
            (all_any gone (λ s. ap (times (λ e. e.scheme) n) (filter_swap (λ (e : Entering). e.opens) (λ (e : Entering). eqb e.scheme s) h.entered))),
        parted (λ (e : Entering). e.scheme) (λ e. cond (eqb e.scheme n) 1 0) gone once (openings h.entered),
      )

  pub sound_cleared : SoundHistory after
  sound_cleared =
      record {
        accounts =
            λ s.
            by_test (not (one_of gone s)) (λ stays. rw (account_stays month gone h s stays) (sound.accounts s))
            (λ goes. rw (account_goes month gone h s goes) sound_account_none);
        numbers =
            record {
              entries_in_order = falls_filter (λ e. e.entry) stays h.next_entry h.entered sound.numbers.entries_in_order;
              schemes_in_order =
                  rw openings_stay (falls_filter (λ e. e.scheme) stays h.next_scheme (openings h.entered) sound.numbers.schemes_in_order);
              entries_once = given_same h.next_entry (entries_given h) (entries_given after) entries_same sound.numbers.entries_once;
              schemes_once = given_same h.next_scheme (schemes_given h) (schemes_given after) schemes_same sound.numbers.schemes_once;
              schemes_made = all_filter stays sound.numbers.schemes_made;
            };
        paid_schemes = all_filter (λ p. not (one_of gone p.scheme)) sound.paid_schemes;
        paid_made = all_filter (λ p. not (one_of gone p.scheme)) sound.paid_made;
        handed_made = sound.handed_made;
        cleared_sound =
            all_append
            (all_mapped (λ s. account_of s h)
            (all_any gone (λ s. record { next = h.next_entry; in_order = numbered_in h sound s; sound = sound.accounts s })))
            sound.cleared_sound;
        bills_add_up = sound.bills_add_up;
      }
