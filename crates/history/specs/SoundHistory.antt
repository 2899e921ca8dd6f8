-- What is known of a history between calls. One scheme's enterings, newest first, are joinings, each right over the tail, and at the end the opening: all the
-- accounts and bounds follow from this.
use Rattle.std.specs.Prelude.{ℕ, ◌+◌, ◌-◌, ◌≤◌, ◌<◌, ◌≡◌, List, [], ◌∷◌, map, true, false}
use Rattle.ledger.specs.Lists.{oldest_first, sum_by, All}
use Rattle.calls.specs.Rules.{Holding, contribution, shared}
use Rattle.history.specs.History.{Entering, Account, History, account_of, cost, fee, paid_of, capacity, credited_to, paid_to, charged, borne, cost_entered, openings}
use Rattle.history.specs.DemandThree.{Falls, GivenOnce, entries_given, schemes_given}
use Rattle.history.specs.Split.{Numbered}

-- ---- one scheme

-- a party that entered, as the split takes it
abbrev pub holding_of : Entering → Holding
holding_of e = record { entry = e.entry; capacity = e.bill.applicant.capacity }

pub record Opens (e : Entering) : Type 0 where
  pub opens : e.opens ≡ true
  pub some_capacity : 1 ≤ e.bill.applicant.capacity
  pub fee_within : e.bill.terms.fee ≤ e.bill.terms.minimum
  pub credits_none : e.credits ≡ []

pub record Joins (e : Entering) (older : List Entering) : Type 0 where
  pub joins : e.opens ≡ false
  pub some_capacity : 1 ≤ e.bill.applicant.capacity
  pub pays : e.put_in ≡ contribution (cost older) e.bill.applicant.capacity (capacity older)
  pub fee_within : fee older ≤ e.put_in
  pub credits_shared : e.credits ≡ shared (e.put_in - fee older) (map holding_of (oldest_first older))

abbrev pub Chain : List Entering → Type 0
Chain [] = Unit {0}
Chain (e ∷ []) = Opens e
Chain (e ∷ d ∷ older) = Joins e (d ∷ older) × Chain (d ∷ older)

pub record SoundAccount (account : Account) : Type 0 where
  pub chain : Chain account.entered
  -- every pay-out is to a party that stands
  pub paid_whole : paid_of account.paid ≡ sum_by (λ e. paid_to e.entry account.paid) account.entered
  pub paid_within : All (λ e. paid_to e.entry account.paid ≤ credited_to e.entry account.entered) account.entered

-- of a scheme that was cleared: as it stood, with its parties below some number
pub record ClearedAccount (account : Account) : Type 0 where
  pub next : ℕ
  pub in_order : Numbered next account.entered
  pub sound : SoundAccount account

-- ---- all schemes

pub record Numbers (h : History) : Type 0 where
  pub entries_in_order : Falls (λ e. e.entry) h.next_entry h.entered
  pub schemes_in_order : Falls (λ e. e.scheme) h.next_scheme (openings h.entered)
  pub entries_once : GivenOnce h.next_entry (entries_given h)
  pub schemes_once : GivenOnce h.next_scheme (schemes_given h)
  pub schemes_made : All (λ e. e.scheme < h.next_scheme) h.entered

pub record SoundHistory (h : History) : Type 0 where
  pub accounts : (s : ℕ) → SoundAccount (account_of s h)
  pub numbers : Numbers h
  -- numbers not given yet stand nowhere
  pub paid_schemes : All (λ p. p.scheme < h.next_scheme) h.paid
  pub paid_made : All (λ p. p.entry < h.next_entry) h.paid
  pub handed_made : All (λ x. x.entry < h.next_entry) h.handed
  pub cleared_sound : All ClearedAccount h.cleared
  pub bills_add_up : cost_entered h ≡ charged h + borne h
