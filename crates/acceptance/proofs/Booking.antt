-- Crediting, one entry at a time: what the entries passed so far are credited.
use Prim.Native.Nat.{ℕ, zero, suc, ◌+◌, ◌*◌, ◌-◌, ◌/◌, ◌<◌, ◌≤◌, zero-le}
use mathlib.Core.Path.{◌≡◌, refl, sym, ap, ap₂, subst, ◌∙◌}
use mathlib.Core.List.{List, [], ◌∷◌, ◌++◌}
use mathlib.Core.Bool.{cond}
use native.Mathlib.Nat.{mul-zero, zero-div, add-zero, mul-le-mul}
use Rattle.std.proofs.Math.Nat.{div-le_of_le-mul, mul-le-mul_left}
use native.Mathlib.Numerals.{add-one}
use native.Mathlib.Omega.{arith}
use lib.Dec.{eqb}
use lib.ListN.{length, take, drop, get_or, set, length-map}
use lib.Seq.{take-suc, take-length, length-take-le}
use Rattle.std.proofs.lemmas.List.{take_all}
use Rattle.field_values.specs.Limits.{highest_capacity}
use Rattle.ledger.specs.Limits.{most_entries, highest_credited}
use Rattle.ledger.specs.Columns.{scheme_column, sum_over}
use Rattle.ledger.specs.CapacityColumns.{capacity_column, sum_of}
use Rattle.ledger.proofs.Theorems.Columns.{of_own, of_other}
use Rattle.ledger.specs.declared.records.Party.{Party}
use Rattle.calls.specs.CreditColumns.{weights, shares}
use Rattle.calls.proofs.Theorems.CreditColumns.{length_weights, sum_weights, length_shares}
use Rattle.ledger.specs.Records.{no_party}
use Rattle.ledger.specs.Table.{credited_more, credit_each}
use Rattle.ledger.proofs.Theorems.Table.{length_credit_each, credit_none}
use Rattle.calls.specs.ByPlace.{credits_among}
use Rattle.calls.proofs.Theorems.ByPlace.{at_start_credited, length_credits_among}
use Rattle.verdict.proofs.Deciding.{capacity_up_to, capacity_own, capacity_other}

-- ---- one credit more

credited_here : (table : List Party) (credits : List ℕ) → get_or (credit_each table credits) (length credits) no_party ≡ get_or table (length credits) no_party
unfolding credit_each
credited_here [] credits = refl
credited_here (party ∷ table) [] = refl
credited_here (party ∷ table) (credit ∷ credits) = credited_here table credits

credited_one : (table : List Party) (credits : List ℕ) (credit : ℕ) → length credits < length table →
    set (credit_each table credits) (length credits) (credited_more (get_or table (length credits) no_party) credit) ≡ credit_each table (credits ++ (credit ∷ []))
unfolding credit_each
credited_one [] credits credit below = absurd (omega arith)
credited_one (party ∷ table) [] credit below = ap (λ rest. credited_more party credit ∷ rest) (sym (credit_none table))
credited_one (party ∷ table) (first ∷ credits) credit below =
    ap (λ rest. credited_more party first ∷ rest) (credited_one table credits credit (omega arith))

credited_zero : (table : List Party) (credits : List ℕ) → credit_each table (credits ++ (0 ∷ [])) ≡ credit_each table credits
unfolding credit_each
credited_zero [] credits = refl
credited_zero (party ∷ table) [] = rw (add-zero, credit_none table)
credited_zero (party ∷ table) (first ∷ credits) = ap (λ rest. credited_more party first ∷ rest) (credited_zero table credits)

-- ---- one entry more

weights_more : (s : ℕ) (parties : List Party) (party : Party)
    → weights s (scheme_column (parties ++ (party ∷ []))) (capacity_column (parties ++ (party ∷ [])))
    ≡ weights s (scheme_column parties) (capacity_column parties) ++ (cond (eqb party.scheme s) party.capacity 0 ∷ [])
unfolding weights
weights_more s [] party = refl
weights_more s (first ∷ parties) party = ap (λ rest. cond (eqb first.scheme s) first.capacity 0 ∷ rest) (weights_more s parties party)

shares_more : (amount total before weight : ℕ) (weights : List ℕ)
    → shares amount total before (weights ++ (weight ∷ []))
    ≡ shares amount total before weights ++ ((amount * (before + sum_of weights + weight) / total - amount * (before + sum_of weights) / total) ∷ [])
unfolding shares
shares_more amount total before weight [] = rw add-zero
shares_more amount total before weight (first ∷ weights) =
    let e : before + first + sum_of weights ≡ before + (first + sum_of weights) = omega arith in
    rw (shares_more amount total (before + first) weight weights, e)

-- K grows with the entries
capacity_rises : (s : ℕ) (parties : List Party) (i n : ℕ) → i ≤ n → capacity_up_to s parties i ≤ capacity_up_to s parties n
unfolding sum_over
capacity_rises s parties zero n h = zero-le
capacity_rises s [] (suc i) n h = zero-le
capacity_rises s (party ∷ parties) (suc i) zero h = absurd (omega arith)
capacity_rises s (party ∷ parties) (suc i) (suc n) h = omega (arith, capacity_rises s parties i n (omega arith))

pub product_fits : (amount part total : ℕ) → amount < 4294967296 → part ≤ total → total ≤ highest_capacity * most_entries → amount * part < 18446744073709551616
product_fits amount part total a p t =
    let below : amount ≤ 4294967295 = omega arith in
    let few : part ≤ highest_capacity * most_entries = omega arith in
    omega (arith, mul-le-mul below few)

-- a part of the amount is no more than it
pub share_at_most : (amount part total : ℕ) → part ≤ total → amount * part / total ≤ amount
share_at_most amount part total p = div-le_of_le-mul total (omega (arith, mul-le-mul_left amount p))

-- what each of the first i entries is credited of an amount
abbrev pub shares_up_to : ℕ → ℕ → ℕ → List Party → ℕ → List ℕ
shares_up_to s amount total parties i = shares amount total 0 (weights s (scheme_column (take i parties)) (capacity_column (take i parties)))

-- `running` is their capacity in the scheme, `told` what they are credited together
pub record Credited (old : List Party) (s amount total : ℕ) (entries : List Party) (running told i : ℕ) : Type 0 where
  pub each : entries ≡ credit_each old (shares_up_to s amount total old i)
  pub capacity : running ≡ capacity_up_to s old i
  pub together : told ≡ amount * running / total

pub credited_none : (old : List Party) (s amount total : ℕ) → Credited old s amount total old 0 0 0
unfolding shares weights sum_over
credited_none old s amount total = record { each = sym (credit_none old); capacity = refl; together = simp (mul-zero, zero-div) }

module _ {old : List Party} {s amount total : ℕ} {entries : List Party} {running told i : ℕ}
    (before : Credited old s amount total entries running told i) (within : i < length old) where
  shares_more_at : (weight : ℕ) → cond (eqb (get_or old i no_party).scheme s) (get_or old i no_party).capacity 0 ≡ weight →
      shares_up_to s amount total old (i + 1) ≡ shares_up_to s amount total old i ++ ((amount * (running + weight) / total - told) ∷ [])
  shares_more_at weight is =
      let schemes = scheme_column (take i old) in
      let capacities = capacity_column (take i old) in
      let passed = weights s schemes capacities in
      let sum : 0 + sum_of passed ≡ running = omega (arith, before.capacity, sum_weights s schemes capacities) in
      rw (
        add-one,
        take-suc old i no_party within,
        weights_more s (take i old) (get_or old i no_party),
        is,
        shares_more amount total 0 weight passed,
        sum,
      )
      (ap (λ given. shares_up_to s amount total old i ++ ((amount * (running + weight) / total - given) ∷ [])) (sym before.together))

  shares_length : length (shares_up_to s amount total old i) ≡ i
  shares_length =
      length_shares amount total 0 _
      ∙ length_weights s _ _ (length-map (take i old) (λ p. p.scheme) ∙ sym (length-map (take i old) (λ p. p.capacity)))
      ∙ length-map (take i old) (λ p. p.capacity)
      ∙ length-take-le i old (omega arith)

  -- the entry at i as it was
  still : get_or entries i no_party ≡ get_or old i no_party
  still =
      ap (λ table. get_or table i no_party) before.each
      ∙ subst (λ k. get_or (credit_each old (shares_up_to s amount total old i)) k no_party ≡ get_or old k no_party) shares_length
      (credited_here old (shares_up_to s amount total old i))

  -- an entry of the scheme
  module _ (own : (get_or entries i no_party).scheme ≡ s) where
    own_before : (get_or old i no_party).scheme ≡ s
    own_before = ap (λ (p : Party). p.scheme) (sym still) ∙ own

    pub credited_own :
        let grown = amount * (running + (get_or entries i no_party).capacity) / total in
        Credited old s amount total (set entries i (credited_more (get_or entries i no_party) (grown - told))) (running + (get_or entries i no_party).capacity) grown (i + 1)
    credited_own =
        let share = amount * (running + (get_or old i no_party).capacity) / total - told in
        rw still
        (record {
          each =
              ap (λ table. set table i (credited_more (get_or old i no_party) share)) before.each
              ∙ subst (λ k. set (credit_each old (shares_up_to s amount total old i)) k (credited_more (get_or old k no_party) share) ≡ credit_each old (shares_up_to s amount total old i ++ (share ∷ []))) shares_length
              (credited_one old (shares_up_to s amount total old i) share (omega (arith, shares_length)))
              ∙ ap (credit_each old) (sym (shares_more_at _ (of_own (get_or old i no_party).scheme s _ own_before)));
          capacity = omega (arith, before.capacity, capacity_own s old i within own_before);
          together = refl;
        })

    pub running_at_most : total ≡ sum_over s (scheme_column old) (capacity_column old) → running + (get_or entries i no_party).capacity ≤ total
    running_at_most whole =
        let all : capacity_up_to s old (length old) ≡ sum_over s (scheme_column old) (capacity_column old) =
        ap (λ parties. sum_over s (scheme_column parties) (capacity_column parties)) (take-length old) in
        rw still (omega (arith, whole, all, before.capacity, capacity_own s old i within own_before, capacity_rises s old (i + 1) (length old) (omega arith)))

  -- an entry of another scheme
  pub credited_other : ((get_or entries i no_party).scheme ≡ s → ⊥) → Credited old s amount total entries running told (i + 1)
  credited_other other =
      let other_before : (get_or old i no_party).scheme ≡ s → ⊥ = λ own. other (ap (λ (p : Party). p.scheme) still ∙ own) in
      let no_share : amount * (running + 0) / total - told ≡ 0 = rw (add-zero, before.together) (omega arith) in
      let longer : shares_up_to s amount total old (i + 1) ≡ shares_up_to s amount total old i ++ (0 ∷ []) =
      shares_more_at 0 (of_other (get_or old i no_party).scheme s _ other_before)
      ∙ ap (λ share. shares_up_to s amount total old i ++ (share ∷ [])) no_share in
      record {
        each = before.each ∙ sym (credited_zero old (shares_up_to s amount total old i)) ∙ ap (credit_each old) (sym longer);
        capacity = omega (arith, before.capacity, capacity_other s old i within other_before);
        together = before.together;
      }

  -- what the entry at i was credited before
  pub still_fits : ((k : ℕ) → k < length old → (get_or old k no_party).credited ≤ highest_credited) → (get_or entries i no_party).credited ≤ highest_credited
  still_fits fits = rw still (fits i within)

-- after the last entry all have their credits
pub credited_all : {old : List Party} {s amount total : ℕ} {entries : List Party} {running told i : ℕ} → Credited old s amount total entries running told i →
    length old ≤ i → total ≡ sum_over s (scheme_column old) (capacity_column old) → entries ≡ credit_each old (credits_among s amount old)
credited_all {old = old} {s = s} {amount = amount} {total = total} {i = i} h all whole =
    h.each
    ∙ ap (λ parties. credit_each old (shares amount total 0 (weights s (scheme_column parties) (capacity_column parties)))) (take_all i old all)
    ∙ ap (λ k. credit_each old (shares amount k 0 (weights s (scheme_column old) (capacity_column old)))) whole

-- what the goals of the loop over the entries need of these
pub ruleset crediting = (product_fits, share_at_most, running_at_most, still_fits, credited_all)

-- the whole table after its entries were credited
credited_table : (n s amount : ℕ) (table : List Party) → n ≤ length table →
    credit_each (take n table) (credits_among s amount (take n table)) ++ drop n table ≡ credit_each table (credits_among s amount (take n table))
credited_table n s amount table within =
    let earlier : List Party = take n table in
    let amounts : List ℕ = credits_among s amount earlier in
    let same : length (credit_each earlier amounts) ≡ n = length_credit_each earlier amounts ∙ length-take-le n table within in
    ap (λ k. credit_each earlier amounts ++ drop k table) (sym same)
    ∙ at_start_credited n table amounts (omega (arith, length_credits_among s amount earlier, length-take-le n table within))

-- and with the entry that is put after them
pub paid_table : (n s amount given : ℕ) (table : List Party) {entries after : List Party} {party entry : Party} → n ≤ length table → given ≡ amount →
    entries ≡ credit_each (take n table) (credits_among s given (take n table)) → party ≡ entry → after ≡ set (entries ++ drop n table) n party →
    after ≡ set (credit_each table (credits_among s amount (take n table))) n entry
paid_table n s amount given table within is credited new put =
    put
    ∙ ap₂ (λ (records : List Party) party. set records n party)
    (ap (λ (records : List Party). records ++ drop n table) credited
    ∙ ap (λ a. credit_each (take n table) (credits_among s a (take n table)) ++ drop n table) is
    ∙ credited_table n s amount table within)
    new
