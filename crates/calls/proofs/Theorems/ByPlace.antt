-- The definitions as code meets them: a number has its place among the records that stand, a change is a store at a place, and a scheme's parties are a walk
-- over all entries, with weight 0 for another scheme's. Each law holds one entry after the other, since the numbers rise.
use Rattle.std.specs.Prelude.{ℕ, find, zero, suc, ◌+◌, ◌<◌, ◌≤◌, ◌≡◌, List, [], ◌∷◌, ◌++◌, map, Bool, cond, length, get_or, take, set, eqb, None, Option, Some, option_map}
use Rattle.std.proofs.Math.Path.{refl}
use Rattle.std.proofs.Common.{sym, ap, ap₂, ◌∙◌, add-zero, le_of_suc-le-suc, not-suc-le-zero, arith, length-take, get_or-take, length-take-le}
use Rattle.std.proofs.Math.Bool.{true, false}
use Rattle.std.proofs.lemmas.List.{length-map}
use borrow.Author.Tests.{eq-eqb, ne_eqb, eqb-true, eqb-false}
use Rattle.charge.specs.declared.Bill.{Bill}
use Rattle.ledger.specs.Lists.{All, nil, more, at_start}
use Rattle.ledger.specs.Records.{no_scheme, no_party}
use Rattle.ledger.specs.Updates.{with_credited, with_fees, with_entry, with_schemes, with_scheme}
use Rattle.ledger.specs.Books.{EntryParticulars, scheme_particulars, entry_particulars, books_of, scheme_at, entry_at, of_scheme}
use Rattle.ledger.specs.Lookup.{place_of, scheme_place}
use Rattle.ledger.specs.EntryPlace.{entry_place}
use Rattle.ledger.specs.Sound.{rise_to, schemes_rise, entries_rise}
use Rattle.ledger.specs.Columns.{scheme_column, sum_over}
use Rattle.ledger.specs.CapacityColumns.{capacity_column}
use Rattle.ledger.specs.Table.{credited_more, credit_each}
use Rattle.ledger.proofs.Theorems.Columns.{column_at}
use Rattle.ledger.proofs.Theorems.Rising.{rise_later, rise_each, rise_all}
use Rattle.ledger.proofs.Theorems.Lookup.{next_place, place_cons, placed}
use Rattle.ledger.proofs.Theorems.Table.{length_credit_each, credit_none}
use Rattle.ledger.specs.declared.records.Scheme.{Scheme}
use Rattle.ledger.specs.declared.records.Party.{Party}
use Rattle.ledger.specs.declared.records.Ledger.{Ledger}
use Rattle.calls.specs.Rules.{Credit, holding, parties_of, capacity_of, share, split, shared, credit_to}
use Rattle.calls.proofs.Theorems.Rules.{where_own, where_other}
use Rattle.calls.proofs.Theorems.Lists.{by_test, all_map, all_mapped, all_filter, map_same, cons_if}
use Rattle.calls.specs.CreditColumns.{weights, shares, credits}
use Rattle.calls.proofs.Theorems.CreditColumns.{no_share, length_credits}
use Rattle.calls.specs.Carried.{State, books_on, schemes_on, entries_on, new_party, new_scheme, is_credited, joined, opened}
use Rattle.calls.specs.ByPlace.{credits_among}
use Rattle.calls.specs.declared.courses.Contribution.{Contribution}
use Rattle.calls.specs.declared.courses.Joining.TheVariants.{Pays}

pub eqb_sym : (a b : ℕ) → eqb a b ≡ eqb b a
eqb_sym a b =
    by_test (eqb b a) (λ same. eq-eqb a b (sym (eqb-true b a same)) ∙ sym same) (λ other. ne_eqb a b (λ same. eqb-false b a other (sym same)) ∙ sym other)

-- ---- what a number finds
module _ {A : Type 0} (number : A → ℕ) (n : ℕ) where
  -- what is found in what the records give, is what the record at the place gives
  pub found_at_place : {B : Type 0} (f : A → B) (test : B → Bool) → ((x : A) → test (f x) ≡ eqb (number x) n) → (none : A) (xs : List A) →
      find test (map f xs) ≡ option_map (λ k. f (get_or xs k none)) (place_of number n xs)
  unfolding place_of
  found_at_place f test same none [] = refl
  found_at_place f test same none (x ∷ xs) =
      rw (place_cons number n x xs, same x) (by (eqb (number x) n) (place_of number n xs) (found_at_place f test same none xs))
    where
      by : (own : Bool) (at : Option ℕ) → find test (map f xs) ≡ option_map (λ k. f (get_or xs k none)) at →
          cond own (Some (f x)) (find test (map f xs)) ≡ option_map (λ k. f (get_or (x ∷ xs) k none)) (cond own (Some 0) (next_place at))
      by true at h = refl
      by false None h = h
      by false (Some k) h = h

-- ---- a change where the number is n is a store at its place
module _ {A : Type 0} (number : A → ℕ) (change : A → A) where
  unchanged : (n : ℕ) {xs : List A} → All (λ x. n ≡ number x → ⊥) xs → map (λ x. cond (eqb n (number x)) (change x) x) xs ≡ xs
  unchanged n nil = refl
  unchanged n (more {x} {xs} apart rest) =
      ap₂ (λ (y : A) (ys : List A). y ∷ ys) (ap (λ t. cond t (change x) x) (ne_eqb n (number x) apart)) (unchanged n rest)

  change_from : (next before n k : ℕ) (xs : List A) (none : A) → rise_to next before (map number xs) ≡ true → k < length xs → number (get_or xs k none) ≡ n →
      map (λ x. cond (eqb n (number x)) (change x) x) xs ≡ set xs k (change (get_or xs k none))
  change_from next before n k [] none rise below own = absurd (not-suc-le-zero below)
  change_from next before n zero (x ∷ xs) none rise below own =
      rw (eq-eqb n (number x) (sym own))
      (ap (λ ys. change x ∷ ys)
      (unchanged n
      (all_map (λ y (above : (number x < number y) × (number y < next)) same. omega (arith, same, above.0))
      (rise_all number next (number x) xs (rise_later next before (number x) (map number xs) rise)))))
  change_from next before n (suc k) (x ∷ xs) none rise below own =
      let later = rise_later next before (number x) (map number xs) rise in
      let each : number x < get_or (map number xs) k 0 = (rise_each next (number x) (map number xs) later k (omega (arith, length-map xs number))).0 in
      let above : number x < number (get_or xs k none) = rw (column_at number xs k none (omega (arith, length-map xs number))) at each in
      rw (ne_eqb n (number x) (λ same. omega arith))
      (ap (λ ys. x ∷ ys) (change_from next (number x) n k xs none later (le_of_suc-le-suc below) own))

  pub change_by_place : (next n k : ℕ) (xs : List A) (none : A) → rise_to next 0 (map number xs) ≡ true → place_of number n xs ≡ Some k →
      map (λ x. cond (eqb n (number x)) (change x) x) xs ≡ set xs k (change (get_or xs k none))
  change_by_place next n k xs none rise at = let found = placed number xs none n k at in change_from next 0 n k xs none rise found.0 found.1

-- ---- how many stand
module _ (ledger : Ledger) (table : List Party) where
  pub schemes_shown : ledger.count ≤ length ledger.schemes → length (books_of ledger table).schemes ≡ ledger.count
  schemes_shown places = length-map (take ledger.count ledger.schemes) scheme_particulars ∙ length-take-le ledger.count ledger.schemes places

  pub entries_shown : ledger.entries ≤ length table → length (books_of ledger table).entries ≡ ledger.entries
  entries_shown places = length-map (take ledger.entries table) entry_particulars ∙ length-take-le ledger.entries table places

  -- ---- what stands at a number, by its place
  pub scheme_by_place : (s : ℕ) →
      scheme_at (books_of ledger table) s ≡
      option_map (λ k. scheme_particulars (get_or (take ledger.count ledger.schemes) k no_scheme)) (scheme_place s (take ledger.count ledger.schemes))
  scheme_by_place s =
      found_at_place (λ scheme. scheme.number) s scheme_particulars (λ row. eqb row.number s) (λ scheme. refl) no_scheme (take ledger.count ledger.schemes)

  pub entry_by_place : (e : ℕ) →
      entry_at (books_of ledger table) e ≡
      option_map (λ k. entry_particulars (get_or (take ledger.entries table) k no_party)) (entry_place e (take ledger.entries table))
  entry_by_place e =
      found_at_place (λ entry. entry.number) e entry_particulars (λ row. eqb e row.number) (λ entry. eqb_sym e entry.number) no_party
      (take ledger.entries table)

-- ---- K is a sum over all entries, with 0 for another scheme's
capacity_cons_if : (t : Bool) (row : EntryParticulars) (rows : List EntryParticulars) → capacity_of (map holding (cons_if t row rows)) ≡ cond t row.capacity 0 + capacity_of (map holding rows)
capacity_cons_if true row rows = omega arith
capacity_cons_if false row rows = omega arith

pub capacity_of_entries : (s : ℕ) (entries : List Party) →
    capacity_of (map holding (of_scheme s (map entry_particulars entries))) ≡ sum_over s (scheme_column entries) (capacity_column entries)
unfolding sum_over
capacity_of_entries s [] = refl
capacity_of_entries s (party ∷ entries) =
    capacity_cons_if (eqb party.scheme s) (entry_particulars party) (of_scheme s (map entry_particulars entries))
    ∙ ap (λ rest. cond (eqb party.scheme s) party.capacity 0 + rest) (capacity_of_entries s entries)

pub capacity_by_place : (s : ℕ) (ledger : Ledger) (table : List Party) →
    capacity_of (parties_of s (books_of ledger table)) ≡
    sum_over s (scheme_column (take ledger.entries table)) (capacity_column (take ledger.entries table))
capacity_by_place s ledger table = capacity_of_entries s (take ledger.entries table)

-- ---- the split over a scheme's own entries is one walk over all entries
split_none : (amount total before n : ℕ) {rows : List EntryParticulars} → All (λ row. n < row.number) rows → credit_to n (split amount total before (map holding rows)) ≡ 0
split_none amount total before n = from before
  where
    from : (before : ℕ) {rows : List EntryParticulars} → All (λ row. n < row.number) rows → credit_to n (split amount total before (map holding rows)) ≡ 0
    from before nil = refl
    from before (more {x = row} {xs = rows} above rest) =
        omega (
          arith,
          from (before + row.capacity) rest,
          where_other row.number n (share amount total before row.capacity) (λ same. omega (arith, same, above)),
        )

walk : (s amount total from next low : ℕ) (entries : List Party) → rise_to next low (map (λ entry. entry.number) entries) ≡ true →
    map (is_credited s (split amount total from (map holding (of_scheme s (map entry_particulars entries))))) entries ≡
    credit_each entries (shares amount total from (weights s (scheme_column entries) (capacity_column entries)))
unfolding weights shares credit_each
walk s amount total from next low [] rise = refl
walk s amount total from next low (party ∷ entries) rise =
    go (eqb party.scheme s) refl
    (all_map (λ entry (above : (party.number < entry.number) × (entry.number < next)). above.0)
    (rise_all (λ entry. entry.number) next party.number entries (rise_later next low party.number (map (λ entry. entry.number) entries) rise)))
    (λ from. walk s amount total from next party.number entries (rise_later next low party.number (map (λ entry. entry.number) entries) rise))
  where
    rows : List EntryParticulars
    rows = of_scheme s (map entry_particulars entries)

    later : ℕ → List Credit
    later from = split amount total from (map holding rows)

    go : (t : Bool) → eqb party.scheme s ≡ t → All (λ entry. party.number < entry.number) entries →
        ((from : ℕ) → map (is_credited s (later from)) entries ≡
        credit_each entries (shares amount total from (weights s (scheme_column entries) (capacity_column entries)))) →
        is_credited s (split amount total from (map holding (cons_if t (entry_particulars party) rows))) party ∷
        map (is_credited s (split amount total from (map holding (cons_if t (entry_particulars party) rows)))) entries ≡
        credited_more party (share amount total from (cond t party.capacity 0)) ∷
        credit_each entries (shares amount total (from + cond t party.capacity 0) (weights s (scheme_column entries) (capacity_column entries)))
    go true own above rest =
        let after = from + party.capacity in
        let x = share amount total from party.capacity in
        let its : credit_to party.number (later after) + cond (eqb party.number party.number) x 0 ≡ x =
        omega (
          arith,
          where_own party.number x,
          split_none amount total after party.number (all_filter (λ row. eqb row.scheme s) (all_mapped entry_particulars above)),
        ) in
        ap₂ (λ (y : Party) (ys : List Party). y ∷ ys)
        (ap (λ t. cond t (with_credited (party.credited + (credit_to party.number (later after) + cond (eqb party.number party.number) x 0)) party) party) (eqb_sym s party.scheme ∙ own)
        ∙ ap (λ credit. credited_more party credit) its)
        (map_same (is_credited s (record { entry = party.number; amount = x } ∷ later after)) (is_credited s (later after))
        (all_map
        (λ entry (higher : party.number < entry.number).
        ap (λ credit. cond (eqb s entry.scheme) (with_credited (entry.credited + credit) entry) entry)
        (omega (arith, where_other party.number entry.number x (λ same. omega (arith, same, higher)))))
        above)
        ∙ rest after)
    go false other above rest =
        ap₂ (λ (y : Party) (ys : List Party). y ∷ ys)
        (ap (λ t. cond t (with_credited (party.credited + credit_to party.number (later from)) party) party) (eqb_sym s party.scheme ∙ other)
        ∙ ap (λ credited. with_credited credited party) (omega (arith, no_share amount total from)))
        (rest from
        ∙ ap (λ from. credit_each entries (shares amount total from (weights s (scheme_column entries) (capacity_column entries)))) (sym (add-zero from)))

pub credited_by_place : (s amount next : ℕ) (entries : List Party) → rise_to next 0 (map (λ entry. entry.number) entries) ≡ true →
    map (is_credited s (shared amount (map holding (of_scheme s (map entry_particulars entries))))) entries ≡
    credit_each entries (credits s amount (scheme_column entries) (capacity_column entries))
credited_by_place s amount next entries rise =
    walk s amount (capacity_of (map holding (of_scheme s (map entry_particulars entries)))) 0 next 0 entries rise
    ∙ ap (λ total. credit_each entries (shares amount total 0 (weights s (scheme_column entries) (capacity_column entries)))) (capacity_of_entries s entries)

-- ---- records at the start of a list
module _ {A : Type 0} where
  pub at_start_same : (n : ℕ) (xs : List A) → at_start (take n xs) xs ≡ xs
  at_start_same zero xs = refl
  at_start_same (suc n) [] = refl
  at_start_same (suc n) (x ∷ xs) = ap (λ ys. x ∷ ys) (at_start_same n xs)

  pub length_at_start : (ys xs : List A) → length ys ≤ length xs → length (at_start ys xs) ≡ length xs
  length_at_start [] xs within = refl
  length_at_start (y ∷ ys) [] within = absurd (not-suc-le-zero within)
  length_at_start (y ∷ ys) (x ∷ xs) within = ap suc (length_at_start ys xs (le_of_suc-le-suc within))

  pub at_start_more : (ys xs : List A) (x : A) → length ys < length xs → at_start (ys ++ (x ∷ [])) xs ≡ set (at_start ys xs) (length ys) x
  at_start_more ys [] x below = absurd (not-suc-le-zero below)
  at_start_more [] (first ∷ xs) x below = refl
  at_start_more (y ∷ ys) (first ∷ xs) x below = ap (λ zs. y ∷ zs) (at_start_more ys xs x (le_of_suc-le-suc below))

  pub at_start_set : (n place : ℕ) (xs : List A) (x : A) → place < n → at_start (set (take n xs) place x) xs ≡ set xs place x
  at_start_set zero place xs x below = absurd (not-suc-le-zero below)
  at_start_set (suc n) place [] x below = refl
  at_start_set (suc n) zero (first ∷ xs) x below = ap (λ ys. x ∷ ys) (at_start_same n xs)
  at_start_set (suc n) (suc place) (first ∷ xs) x below = ap (λ ys. first ∷ ys) (at_start_set n place xs x (le_of_suc-le-suc below))

pub at_start_credited : (n : ℕ) (parties : List Party) (amounts : List ℕ) → length amounts ≤ n →
    at_start (credit_each (take n parties) amounts) parties ≡ credit_each parties amounts
unfolding credit_each
at_start_credited zero parties [] few = sym (credit_none parties)
at_start_credited zero parties (amount ∷ amounts) few = absurd (not-suc-le-zero few)
at_start_credited (suc n) [] amounts few = refl
at_start_credited (suc n) (party ∷ parties) [] few = ap (λ others. party ∷ others) (at_start_same n parties)
at_start_credited (suc n) (party ∷ parties) (amount ∷ amounts) few =
    ap (λ others. credited_more party amount ∷ others) (at_start_credited n parties amounts (le_of_suc-le-suc few))

-- a change of one of the records at the start
pub change_at_start : {A : Type 0} (number : A → ℕ) (change : A → A) (next n k m : ℕ) (xs : List A) (none : A) → rise_to next 0 (map number (take m xs)) ≡ true →
    place_of number n (take m xs) ≡ Some k →
    at_start (map (λ x. cond (eqb n (number x)) (change x) x) (take m xs)) xs ≡ set xs k (change (get_or xs k none))
change_at_start number change next n k m xs none rise at =
    let below : k < m = omega (arith, (placed number (take m xs) none n k at).0, length-take m xs) in
    ap (λ ys. at_start ys xs) (change_by_place number change next n k (take m xs) none rise at)
    ∙ at_start_set m k xs (change (get_or (take m xs) k none)) below
    ∙ ap (λ x. set xs k (change x)) (get_or-take m xs k none below)

-- ---- what a joining and an opening leave

-- "the fee taken", at the scheme's place
abbrev pub fee_taken_at : ℕ → ℕ → List Scheme → List Scheme
fee_taken_at k fee schemes = let scheme = get_or schemes k no_scheme in set schemes k (with_fees (scheme.fees + fee) scheme)

pub length_credits_among : (s amount : ℕ) (entries : List Party) → length (credits_among s amount entries) ≡ length entries
length_credits_among s amount entries =
    let capacities : length (capacity_column entries) ≡ length entries = length-map entries (λ party. party.capacity) in
    length_credits s amount (scheme_column entries) (capacity_column entries) (length-map entries (λ party. party.scheme) ∙ sym capacities) ∙ capacities

-- the entries with their credits, and one entry more
entered_by_place : (s amount next entries : ℕ) (table : List Party) (party : Party) → entries < length table →
    rise_to next 0 (map (λ entry. entry.number) (take entries table)) ≡ true →
    at_start
    (map (is_credited s (shared amount (map holding (of_scheme s (map entry_particulars (take entries table)))))) (take entries table) ++ (party ∷ []))
    table ≡
    set (credit_each table (credits_among s amount (take entries table))) entries party
entered_by_place s amount next entries table party below rise =
    let earlier : List Party = take entries table in
    let amounts : List ℕ = credits_among s amount earlier in
    let same : length (credit_each earlier amounts) ≡ entries = omega (arith, length_credit_each earlier amounts, length-take entries table) in
    ap (λ l. at_start (l ++ (party ∷ [])) table) (credited_by_place s amount next earlier rise)
    ∙ at_start_more (credit_each earlier amounts) table party (omega arith)
    ∙ ap₂ (λ (l : List Party) (place : ℕ). set l place party)
    (at_start_credited entries table amounts (omega (arith, length_credits_among s amount earlier, length-take entries table))) same

module _ (state : State) (bill : Bill) where
  pub joined_by_place : (amount k : ℕ) (paid : Contribution) → scheme_place bill.applicant.scheme (schemes_on state) ≡ Some k →
      schemes_rise state.ledger ≡ true → entries_rise state.ledger (entries_on state) ≡ true → state.ledger.entries < length state.table →
      joined (Pays paid) (shared amount (parties_of bill.applicant.scheme (books_on state))) bill state ≡
      record {
        ledger = with_entry (with_schemes (fee_taken_at k paid.fee state.ledger.schemes) state.ledger);
        table =
            set (credit_each state.table (credits_among bill.applicant.scheme amount (entries_on state))) state.ledger.entries
            (new_party state.ledger.next_entry bill.applicant.scheme bill paid.collected);
      }
  joined_by_place amount k paid at schemes_in_order entries_in_order below =
      let s = bill.applicant.scheme in
      ap₂
      (λ (schemes : List Scheme) (table : List Party). record { ledger = with_entry (with_schemes schemes state.ledger); table = table })
      (change_at_start (λ scheme. scheme.number) (λ scheme. with_fees (scheme.fees + paid.fee) scheme) state.ledger.next_scheme s k state.ledger.count state.ledger.schemes
      no_scheme schemes_in_order at)
      (entered_by_place s amount state.ledger.next_entry state.ledger.entries state.table (new_party state.ledger.next_entry s bill paid.collected) below
      entries_in_order)

  pub opened_by_place : state.ledger.count < length state.ledger.schemes → state.ledger.entries < length state.table →
      opened true bill state ≡
      record {
        ledger = with_entry (with_scheme (set state.ledger.schemes state.ledger.count (new_scheme state.ledger.next_scheme bill)) state.ledger);
        table = set state.table state.ledger.entries (new_party state.ledger.next_entry state.ledger.next_scheme bill bill.reconciliation.x);
      }
  opened_by_place places below =
      ap₂
      (λ (schemes : List Scheme) (table : List Party). record { ledger = with_entry (with_scheme schemes state.ledger); table = table })
      (added state.ledger.count state.ledger.schemes (new_scheme state.ledger.next_scheme bill) places)
      (added state.ledger.entries state.table (new_party state.ledger.next_entry state.ledger.next_scheme bill bill.reconciliation.x) below)
    where
      added : {A : Type 0} (n : ℕ) (xs : List A) (x : A) → n < length xs → at_start (take n xs ++ (x ∷ [])) xs ≡ set xs n x
      added n xs x below =
          let same : length (take n xs) ≡ n = length-take-le n xs (omega arith) in
          at_start_more (take n xs) xs x (omega arith) ∙ ap₂ (λ l place. set l place x) (at_start_same n xs) same
