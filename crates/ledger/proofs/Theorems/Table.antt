-- What the calls leave of the party table: its entries after credits and one entry more, and their columns.
use Rattle.std.specs.Prelude.{ℕ, zero, suc, ◌+◌, ◌<◌, ◌≤◌, ◌≡◌, refl, List, [], ◌∷◌, ◌++◌, map, cond, length, take, get_or, set, eqb}
use Rattle.std.proofs.Common.{sym, ap, ◌∙◌, not-suc-le-zero, le_of_suc-le-suc, add-one, arith, length-append, take-suc-set}
use Rattle.std.proofs.lemmas.List.{map-append, length-map, length-replicate, get_or_at}
use Rattle.std.proofs.Math.ListN.{get_or-append}
use Rattle.ledger.specs.Limits.{most_entries}
use Rattle.ledger.specs.Records.{no_party, no_parties}
use Rattle.ledger.specs.Columns.{scheme_column, put_in_column, credited_column, ones_column, sum_over, entries_of, first_put_in}
use Rattle.ledger.specs.CapacityColumns.{capacity_column}
use Rattle.ledger.proofs.Theorems.Columns.{ones_again, of_own, of_other, sum_more, first_kept, first_new, add_each, sum_add_each, length_add_each}
use Rattle.ledger.specs.Table.{credited_more, credit_each}
use Rattle.ledger.specs.declared.records.Party.{Party}

-- ---- no_parties
pub length_no_parties : length no_parties ≡ most_entries
unfolding no_parties
length_no_parties = length-replicate most_entries no_party

-- ---- credit_each
pub length_credit_each : (parties : List Party) (credits : List ℕ) → length (credit_each parties credits) ≡ length parties
unfolding credit_each
length_credit_each [] credits = refl
length_credit_each (party ∷ parties) [] = refl
length_credit_each (party ∷ parties) (credit ∷ credits) = ap suc (length_credit_each parties credits)

pub credit_none : (parties : List Party) → credit_each parties [] ≡ parties
unfolding credit_each
credit_none [] = refl
credit_none (party ∷ parties) = refl

pub take_credit_each : (n : ℕ) (parties : List Party) (credits : List ℕ) → take n (credit_each parties credits) ≡ credit_each (take n parties) credits
unfolding credit_each
take_credit_each zero parties credits = refl
take_credit_each (suc n) [] credits = refl
take_credit_each (suc n) (party ∷ parties) [] = refl
take_credit_each (suc n) (party ∷ parties) (credit ∷ credits) = ap (λ others. credited_more party credit ∷ others) (take_credit_each n parties credits)

pub credited_at : (parties : List Party) (credits : List ℕ) (e : ℕ) → e < length parties →
    get_or (credit_each parties credits) e no_party ≡ credited_more (get_or parties e no_party) (get_or credits e 0)
unfolding credit_each
credited_at [] credits e below = absurd (not-suc-le-zero below)
credited_at (party ∷ parties) [] e below = nothing_more (get_or (party ∷ parties) e no_party)
  where
    nothing_more : (entry : Party) → entry ≡ credited_more entry 0
    nothing_more entry = let same : entry.credited + 0 ≡ entry.credited = omega arith in rw same
credited_at (party ∷ parties) (credit ∷ credits) zero below = refl
credited_at (party ∷ parties) (credit ∷ credits) (suc e) below = credited_at parties credits e (le_of_suc-le-suc below)

-- a figure that a credit leaves as it was
kept_column : {A : Type 0} (figure : Party → A) → ((party : Party) (amount : ℕ) → figure (credited_more party amount) ≡ figure party) →
    (parties : List Party) (credits : List ℕ) → map figure (credit_each parties credits) ≡ map figure parties
unfolding credit_each
kept_column figure kept [] credits = refl
kept_column figure kept (party ∷ parties) [] = refl
kept_column figure kept (party ∷ parties) (credit ∷ credits) = rw (kept party credit, kept_column figure kept parties credits)

module _ (parties : List Party) (credits : List ℕ) where
  pub credit_each_schemes : scheme_column (credit_each parties credits) ≡ scheme_column parties
  credit_each_schemes = kept_column (λ party. party.scheme) (λ party amount. refl) parties credits

  pub credit_each_numbers : map (λ party. party.number) (credit_each parties credits) ≡ map (λ party. party.number) parties
  credit_each_numbers = kept_column (λ party. party.number) (λ party amount. refl) parties credits

  pub credit_each_capacities : capacity_column (credit_each parties credits) ≡ capacity_column parties
  credit_each_capacities = kept_column (λ party. party.capacity) (λ party amount. refl) parties credits

  pub credit_each_put_in : put_in_column (credit_each parties credits) ≡ put_in_column parties
  credit_each_put_in = kept_column (λ party. party.put_in) (λ party amount. refl) parties credits

  pub credit_each_ones : ones_column (credit_each parties credits) ≡ ones_column parties
  credit_each_ones = kept_column (λ party. 1) (λ party amount. refl) parties credits

pub credit_each_credited : (parties : List Party) (credits : List ℕ) → credited_column (credit_each parties credits) ≡ add_each (credited_column parties) credits
unfolding credit_each add_each
credit_each_credited [] credits = refl
credit_each_credited (party ∷ parties) [] = refl
credit_each_credited (party ∷ parties) (credit ∷ credits) = ap (λ others. (party.credited + credit) ∷ others) (credit_each_credited parties credits)

-- ---- the entries after credits and one entry more
pub entered_table : {A : Type 0} (table : List A) (entries : ℕ) (party : A) → entries < length table →
    take (entries + 1) (set table entries party) ≡ take entries table ++ (party ∷ [])
entered_table table entries party below = rw add-one (take-suc-set table entries party below)

pub joined_table : (table : List Party) (credits : List ℕ) (entries : ℕ) (party : Party) → entries < length table →
    take (entries + 1) (set (credit_each table credits) entries party) ≡ credit_each (take entries table) credits ++ (party ∷ [])
joined_table table credits entries party below =
    entered_table (credit_each table credits) entries party (omega (arith, length_credit_each table credits))
    ∙ ap (λ kept. kept ++ (party ∷ [])) (take_credit_each entries table credits)

-- ---- what they come to in scheme s

-- the entries after credits and one entry more
abbrev pub after_joining : List Party → List ℕ → Party → List Party
after_joining parties credits party = credit_each parties credits ++ (party ∷ [])

-- how many entries scheme s has more, and by what its sums grew
pub record Grown (s : ℕ) (parties after : List Party) (more_entries more_capacity more_put_in more_credited : ℕ) : Type 0 where
  pub entries : entries_of s after ≡ entries_of s parties + more_entries
  pub capacity : sum_over s (scheme_column after) (capacity_column after) ≡ sum_over s (scheme_column parties) (capacity_column parties) + more_capacity
  pub put_in : sum_over s (scheme_column after) (put_in_column after) ≡ sum_over s (scheme_column parties) (put_in_column parties) + more_put_in
  pub credited : sum_over s (scheme_column after) (credited_column after) ≡ sum_over s (scheme_column parties) (credited_column parties) + more_credited

module _ (parties : List Party) (credits : List ℕ) (party : Party) where
  pub joined_schemes : scheme_column (after_joining parties credits party) ≡ scheme_column parties ++ (party.scheme ∷ [])
  joined_schemes = simp (map-append, credit_each_schemes)

  pub joined_capacities : capacity_column (after_joining parties credits party) ≡ capacity_column parties ++ (party.capacity ∷ [])
  joined_capacities = simp (map-append, credit_each_capacities)

  pub joined_put_in : put_in_column (after_joining parties credits party) ≡ put_in_column parties ++ (party.put_in ∷ [])
  joined_put_in = simp (map-append, credit_each_put_in)

  pub joined_ones : ones_column (after_joining parties credits party) ≡ ones_column parties ++ (1 ∷ [])
  joined_ones = simp (map-append, credit_each_ones)

  pub joined_credited : credited_column (after_joining parties credits party) ≡ add_each (credited_column parties) credits ++ (party.credited ∷ [])
  joined_credited = simp (map-append, credit_each_credited)

  -- where it is looked up
  pub joined_earlier : (e : ℕ) → e < length parties →
      get_or (after_joining parties credits party) e no_party ≡ credited_more (get_or parties e no_party) (get_or credits e 0)
  joined_earlier e below =
      get_or-append (credit_each parties credits) (party ∷ []) no_party e (omega (arith, length_credit_each parties credits))
      ∙ credited_at parties credits e below

  pub joined_last : get_or (after_joining parties credits party) (length parties) no_party ≡ party
  joined_last = get_or_at (credit_each parties credits) party [] no_party (length parties) (length_credit_each parties credits)

  pub length_joined : length (after_joining parties credits party) ≡ length parties + 1
  length_joined = omega (arith, length-append (credit_each parties credits) (party ∷ []), length_credit_each parties credits)

  one_length : (figure : Party → ℕ) → length (scheme_column parties) ≡ length (map figure parties)
  one_length figure = length-map parties (λ entry. entry.scheme) ∙ sym (length-map parties figure)

  module _ (s : ℕ) where
    -- each sum over scheme s grows by the new entry's figure where it is of scheme s; K by its capacity
    pub entries_joined : entries_of s (after_joining parties credits party) ≡ entries_of s parties + cond (eqb party.scheme s) 1 0
    entries_joined =
        rw (joined_schemes, joined_ones) (sum_more s party.scheme 1 (scheme_column parties) (ones_column parties) (one_length (λ entry. 1)))

    pub capacity_joined : sum_over s (scheme_column (after_joining parties credits party)) (capacity_column (after_joining parties credits party)) ≡
        sum_over s (scheme_column parties) (capacity_column parties) + cond (eqb party.scheme s) party.capacity 0
    capacity_joined =
        rw (joined_schemes, joined_capacities)
        (sum_more s party.scheme party.capacity (scheme_column parties) (capacity_column parties) (one_length (λ entry. entry.capacity)))

    pub put_in_joined : sum_over s (scheme_column (after_joining parties credits party)) (put_in_column (after_joining parties credits party)) ≡
        sum_over s (scheme_column parties) (put_in_column parties) + cond (eqb party.scheme s) party.put_in 0
    put_in_joined =
        rw (joined_schemes, joined_put_in)
        (sum_more s party.scheme party.put_in (scheme_column parties) (put_in_column parties) (one_length (λ entry. entry.put_in)))

    -- and what the scheme's entries were credited by the credits too
    pub credited_joined : length credits ≤ length parties →
        sum_over s (scheme_column (after_joining parties credits party)) (credited_column (after_joining parties credits party)) ≡
        sum_over s (scheme_column parties) (credited_column parties) + sum_over s (scheme_column parties) credits + cond (eqb party.scheme s) party.credited 0
    credited_joined few =
        let column = credited_column parties in
        let same : length (scheme_column parties) ≡ length (add_each column credits) =
        one_length (λ entry. entry.credited) ∙ sym (length_add_each column credits) in
        let within : length credits ≤ length column = omega (arith, length-map parties (λ entry. entry.credited)) in
        rw (joined_schemes, joined_credited)
        (sum_more s party.scheme party.credited (scheme_column parties) (add_each column credits) same
        ∙ ap (λ sum. sum + cond (eqb party.scheme s) party.credited 0) (sum_add_each s (scheme_column parties) column credits within))

    -- a scheme's first entry stays its first; the first of a scheme that has none is the new entry
    pub first_joined : 1 ≤ entries_of s parties →
        first_put_in s (scheme_column (after_joining parties credits party)) (put_in_column (after_joining parties credits party)) ≡
        first_put_in s (scheme_column parties) (put_in_column parties)
    first_joined some =
        rw (joined_schemes, joined_put_in)
        (first_kept s party.scheme party.put_in (scheme_column parties) (put_in_column parties) (one_length (λ entry. entry.put_in))
        (rw (ones_again (λ entry. entry.scheme) parties) some))

    pub first_opened : party.scheme ≡ s → entries_of s parties ≡ 0 →
        first_put_in s (scheme_column (after_joining parties credits party)) (put_in_column (after_joining parties credits party)) ≡ party.put_in
    first_opened own none =
        rw (joined_schemes, joined_put_in, own)
        (first_new s party.put_in (scheme_column parties) (put_in_column parties) (one_length (λ entry. entry.put_in))
        (rw (ones_again (λ entry. entry.scheme) parties) none))

    -- the new entry's own scheme: K grows by its capacity
    pub own_grown : length credits ≤ length parties → party.scheme ≡ s →
        Grown s parties (after_joining parties credits party) 1 party.capacity party.put_in
        (sum_over s (scheme_column parties) credits + party.credited)
    own_grown few own =
        record {
          entries = omega (arith, entries_joined, of_own party.scheme s 1 own);
          capacity = omega (arith, capacity_joined, of_own party.scheme s party.capacity own);
          put_in = omega (arith, put_in_joined, of_own party.scheme s party.put_in own);
          credited = omega (arith, credited_joined few, of_own party.scheme s party.credited own);
        }

    -- another scheme, whose entries are credited nothing
    pub other_grown : length credits ≤ length parties → (party.scheme ≡ s → ⊥) → sum_over s (scheme_column parties) credits ≡ 0 →
        Grown s parties (after_joining parties credits party) 0 0 0 0
    other_grown few other none =
        record {
          entries = omega (arith, entries_joined, of_other party.scheme s 1 other);
          capacity = omega (arith, capacity_joined, of_other party.scheme s party.capacity other);
          put_in = omega (arith, put_in_joined, of_other party.scheme s party.put_in other);
          credited = omega (arith, credited_joined few, of_other party.scheme s party.credited other);
        }
