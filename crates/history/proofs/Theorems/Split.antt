-- The split over one scheme's parties, newest first: a party's share is over what stood before it, which is the tail.
use Rattle.std.specs.Prelude.{ℕ, ◌+◌, ◌*◌, ◌/◌, ◌≤◌, ◌<◌, ◌≡◌, refl, List, [], ◌∷◌, ◌++◌, map}
use Rattle.std.proofs.Common.{sym, ap, ap₂, ◌∙◌, add-zero, zero-add, mul-zero, arith}
use Rattle.std.proofs.lemmas.List.{map-append}
use Rattle.std.proofs.Math.Nat.{zero-div}
use Rattle.ledger.specs.Lists.{oldest_first, sum_by, All, nil, more}
use Rattle.calls.specs.Rules.{Holding, Credit, capacity_of, share, split, shared, credit_to}
use Rattle.calls.proofs.Theorems.Rules.{growth, share_low, share_high, where_own, where_other}
use Rattle.calls.proofs.Theorems.Lists.{all_both, all_map, sum_by_in_order, sum_by_map, sum_by_same}
use Rattle.history.specs.History.{Entering, amounts, capacity}
use Rattle.history.specs.SoundHistory.{holding_of}
use Rattle.history.specs.Split.{Numbered}

-- ---- the same split, by the tail
abbrev pub shares_back : ℕ → ℕ → List Entering → List Credit
shares_back amount total [] = []
shares_back amount total (e ∷ older) =
    record { entry = e.entry; amount = share amount total (capacity older) e.bill.applicant.capacity } ∷ shares_back amount total older

abbrev single : ℕ → ℕ → ℕ → Holding → List Credit
single amount total before party = record { entry = party.entry; amount = share amount total before party.capacity } ∷ []

split_last : (amount total before : ℕ) (parties : List Holding) (last : Holding) →
    split amount total before (parties ++ (last ∷ [])) ≡ split amount total before parties ++ single amount total (before + capacity_of parties) last
split_last amount total before [] last = ap (λ (n : ℕ). single amount total n last) (sym (add-zero before))
split_last amount total before (party ∷ parties) last =
    let regroup : before + party.capacity + capacity_of parties ≡ before + (capacity_of parties + party.capacity) = omega arith in
    ap
    (λ (l : List Credit). record { entry = party.entry; amount = share amount total before party.capacity } ∷ l)
    (split_last amount total (before + party.capacity) parties last
    ∙ ap (λ (n : ℕ). split amount total (before + party.capacity) parties ++ single amount total n last) regroup)

pub capacity_holdings : (c : List Entering) → capacity_of (map holding_of (oldest_first c)) ≡ capacity c
capacity_holdings c = sum_by_map (λ (party : Holding). party.capacity) holding_of (oldest_first c) ∙ sum_by_in_order (λ (e : Entering). e.bill.applicant.capacity) c

pub split_back : (amount total : ℕ) (c : List Entering) → split amount total 0 (map holding_of (oldest_first c)) ≡ oldest_first (shares_back amount total c)
split_back amount total [] = refl
split_back amount total (e ∷ older) =
    ap (split amount total 0) (map-append holding_of (oldest_first older) (e ∷ []))
    ∙ split_last amount total 0 (map holding_of (oldest_first older)) (holding_of e)
    ∙ ap₂ (λ (l : List Credit) (n : ℕ). l ++ single amount total n (holding_of e)) (split_back amount total older)
    (zero-add (capacity_of (map holding_of (oldest_first older))) ∙ capacity_holdings older)

pub shared_back : (amount : ℕ) (c : List Entering) → shared amount (map holding_of (oldest_first c)) ≡ oldest_first (shares_back amount (capacity c) c)
shared_back amount c =
    ap (λ (total : ℕ). split amount total 0 (map holding_of (oldest_first c))) (capacity_holdings c) ∙ split_back amount (capacity c) c

pub numbered_up : (low high : ℕ) (c : List Entering) → low ≤ high → Numbered low c → Numbered high c
numbered_up low high [] h n = tt
numbered_up low high (e ∷ older) h n = (omega (arith, n.0), n.1)

pub all_below : (next : ℕ) (c : List Entering) → Numbered next c → All (λ e. e.entry < next) c
all_below next [] n = nil
all_below next (e ∷ older) n = more n.0 (all_below next older (numbered_up e.entry next older (omega (arith, n.0)) n.1))

-- ---- what each party gets
pub shares_none : (amount total n : ℕ) {c : List Entering} → All (λ e. e.entry < n) c → credit_to n (shares_back amount total c) ≡ 0
shares_none amount total n nil = refl
shares_none amount total n (more {x = e} {xs = older} h hs) =
    let own = share amount total (capacity older) e.bill.applicant.capacity in
    omega (arith, shares_none amount total n hs, where_other e.entry n own (λ same. omega (arith, same, h)))

pub record Share (amount total capacity x : ℕ) : Type 0 where
  pub low : amount * capacity < x * total + total
  pub high : x * total < amount * capacity + total

-- the newest party's share, and that the others have what they have without it
module _ (amount total : ℕ) (e : Entering) (older : List Entering) (n : Numbered e.entry older) where
  abbrev own : ℕ
  own = share amount total (capacity older) e.bill.applicant.capacity

  newest_share : credit_to e.entry (shares_back amount total (e ∷ older)) ≡ own
  newest_share = omega (arith, shares_none amount total e.entry (all_below e.entry older n), where_own e.entry own)

  older_shares : All (λ p. credit_to p.entry (shares_back amount total (e ∷ older)) ≡ credit_to p.entry (shares_back amount total older)) older
  older_shares =
      all_map (λ p below. omega (arith, where_other e.entry p.entry own (λ equal. omega (arith, equal, below)))) (all_below e.entry older n)

module _ (amount total : ℕ) (positive : 0 < total) where
  pub shares_sum : (c : List Entering) → amounts (shares_back amount total c) ≡ amount * capacity c / total
  shares_sum [] = sym (ap (λ (x : ℕ). x / total) (mul-zero amount) ∙ zero-div total)
  shares_sum (e ∷ older) = omega (arith, shares_sum older, growth amount total (capacity older) e.bill.applicant.capacity positive)

  pub shares_each : (next : ℕ) (c : List Entering) → Numbered next c →
      All (λ e. Share amount total e.bill.applicant.capacity (credit_to e.entry (shares_back amount total c))) c
  shares_each next [] n = nil
  shares_each next (e ∷ older) n =
      let mine = newest_share amount total e older n.1 in
      more {x = e}
      (record {
        low = rw mine (share_low amount total (capacity older) e.bill.applicant.capacity positive);
        high = rw mine (share_high amount total (capacity older) e.bill.applicant.capacity positive);
      })
      (all_both (λ p same was. rw same was) (older_shares amount total e older n.1) (shares_each e.entry older n.1))

-- nothing is lost: over the parties the credits come to their sum
pub shares_whole : (amount total next : ℕ) (c : List Entering) → Numbered next c →
    sum_by (λ e. credit_to e.entry (shares_back amount total c)) c ≡ amounts (shares_back amount total c)
shares_whole amount total next [] n = refl
shares_whole amount total next (e ∷ older) n =
    omega (
      arith,
      sum_by_same (λ (p : Entering). credit_to p.entry (shares_back amount total (e ∷ older)))
          (λ (p : Entering). credit_to p.entry (shares_back amount total older)) (older_shares amount total e older n.1),
      shares_whole amount total e.entry older n.1,
      newest_share amount total e older n.1,
    )
