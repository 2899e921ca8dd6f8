-- A clearing keeps a sound ledger sound: the schemes that go had paid out all that they credited, so that what each collected is paid out and fees, and the
-- figures of the schemes that stay are over the entries that stay.
use Rattle.std.specs.Prelude.{ℕ, zero, suc, ◌+◌, ◌*◌, ◌<◌, ◌≤◌, ◌≡◌, refl, List, [], ◌∷◌, map, filter, Bool, true, false, cond, not, ◌&&◌, length, drop, replicate, get_or, leb, eqb}
use Rattle.std.specs.List.{list_all}
use Rattle.std.proofs.Common.{sym, ap, ◌∙◌, arith, not-suc-le-zero, le_of_suc-le-suc, length-take, length-take-le, eqb-true, eq-eqb, ne_eqb}
use Rattle.std.proofs.lemmas.Bool.{false≢true}
use Rattle.std.proofs.lemmas.List.{length-map, length-replicate}
use Rattle.ledger.specs.Limits.{most_schemes, highest_put_in}
use Rattle.ledger.specs.Lists.{sum_by, All, nil, more, at_start}
use Rattle.ledger.specs.Records.{no_scheme, no_party, new_ledger}
use Rattle.ledger.specs.RefusalNumbers.{one_of}
use Rattle.ledger.specs.Books.{scheme_particulars, entry_particulars}
use Rattle.ledger.specs.Columns.{scheme_column, put_in_column, sum_over, first_put_in}
use Rattle.ledger.proofs.Theorems.Lookup.{stands_filter}
use Rattle.ledger.specs.Sound.{rise_to}
use Rattle.ledger.proofs.Theorems.Rising.{rise_later, rise_length, rise_filter, rise_all}
use Rattle.ledger.specs.SoundConditions.{SoundParty, SoundScheme}
use Rattle.ledger.specs.declared.records.Scheme.{Scheme}
use Rattle.ledger.specs.declared.records.Party.{Party}
use Rattle.calls.specs.Decision.{goes}
use Rattle.calls.specs.Carried.{State, books_on, schemes_on, entries_on, parties_on, collected_of, paid_out_of, fees_of, cleared_of}
use Rattle.calls.proofs.Theorems.Lists.{cons_if, head_of, tail_of, all_map, all_both, all_any, all_filter, all_mapped, filter_map_lem, sum_by_none, sum_by_plus, sum_by_same, sum_by_le}
use Rattle.calls.proofs.Theorems.ByPlace.{length_at_start}
use Rattle.kept_sound.specs.SoundState.{SoundState}
use Rattle.kept_sound.proofs.Theorems.AtStart.{take_at_start}
use Rattle.kept_sound.proofs.Theorems.Parted.{rise_once, parted}
use Rattle.kept_sound.proofs.Theorems.Entering.{same_account}
use Rattle.kept_sound.proofs.Theorems.Lengths.{length_filter}

-- ---- lists by place, and all at once
module _ {A : Type 0} {P : A → Type 0} (none : A) where
  pub all_at : {xs : List A} → All P xs → (i : ℕ) → i < length xs → P (get_or xs i none)
  all_at nil i below = absurd (not-suc-le-zero below)
  all_at (more h hs) zero below = h
  all_at (more h hs) (suc i) below = all_at hs i (le_of_suc-le-suc below)

  pub all_from : (xs : List A) → ((i : ℕ) → i < length xs → P (get_or xs i none)) → All P xs
  all_from [] h = nil
  all_from (x ∷ xs) h = more (h 0 (omega arith)) (all_from xs (λ i below. h (suc i) (omega arith)))

past_at_start : (ys xs : List Scheme) (i : ℕ) → length ys ≤ length xs → length ys ≤ i → get_or (at_start ys xs) i no_scheme ≡ get_or xs i no_scheme
past_at_start [] xs i fits past = refl
past_at_start (y ∷ ys) [] i fits past = absurd (not-suc-le-zero fits)
past_at_start (y ∷ ys) (x ∷ xs) zero fits past = absurd (not-suc-le-zero past)
past_at_start (y ∷ ys) (x ∷ xs) (suc i) fits past = past_at_start ys xs i (le_of_suc-le-suc fits) (le_of_suc-le-suc past)

zeros_only : (n i : ℕ) → get_or (replicate n no_scheme) i no_scheme ≡ no_scheme
zeros_only zero i = refl
zeros_only (suc n) zero = refl
zeros_only (suc n) (suc i) = zeros_only n i

-- ---- a scheme's own entries

-- a column's sum over a scheme, over its own entries
sum_own : (figure : Party → ℕ) (s : ℕ) (entries : List Party) → sum_over s (scheme_column entries) (map figure entries) ≡ sum_by figure (parties_on s entries)
unfolding sum_over
sum_own figure s [] = refl
sum_own figure s (entry ∷ entries) = by (eqb entry.scheme s) (sum_own figure s entries)
  where
    by : (own : Bool) → sum_over s (scheme_column entries) (map figure entries) ≡ sum_by figure (parties_on s entries) →
        cond own (figure entry) 0 + sum_over s (scheme_column entries) (map figure entries) ≡ sum_by figure (cons_if own entry (parties_on s entries))
    by true same = omega (arith, same)
    by false same = omega (arith, same)

-- what the first put in and what the others did
put_in_whole : (s : ℕ) (entries : List Party) →
    first_put_in s (scheme_column entries) (put_in_column entries) + collected_of entries s ≡ sum_by (λ entry. entry.put_in) (parties_on s entries)
unfolding first_put_in
put_in_whole s [] = refl
put_in_whole s (entry ∷ entries) = by (eqb entry.scheme s) (put_in_whole s entries)
  where
    by : (own : Bool) → first_put_in s (scheme_column entries) (put_in_column entries) + collected_of entries s ≡ sum_by (λ entry. entry.put_in) (parties_on s entries) →
        cond own entry.put_in (first_put_in s (scheme_column entries) (put_in_column entries))
        + sum_by (λ entry. entry.put_in) (drop 1 (cons_if own entry (parties_on s entries)))
        ≡ sum_by (λ entry. entry.put_in) (cons_if own entry (parties_on s entries))
    by true whole = omega arith
    by false whole = whole

-- what the scheme's entries were credited, they were paid out
credited_paid : (own : List Party) → list_all (λ entry. eqb entry.credited entry.paid_out) (map entry_particulars own) ≡ true →
    sum_by (λ entry. entry.credited) own ≡ sum_by (λ entry. entry.paid_out) own
credited_paid [] h = refl
credited_paid (entry ∷ own) h =
    let each = both (eqb entry.credited entry.paid_out) h in
    omega (arith, eqb-true entry.credited entry.paid_out each.0, credited_paid own each.1)
  where
    both : (b : Bool) {c : Bool} → (b && c) ≡ true → (b ≡ true) × (c ≡ true)
    both true h = (refl, h)
    both false h = absurd (false≢true h)

-- the others put in at most the limit each
collected_within : (own : List Party) → All (λ entry. entry.put_in ≤ highest_put_in) own →
    sum_by (λ entry. entry.put_in) (drop 1 own) ≤ highest_put_in * length own
collected_within [] within = omega arith
collected_within (entry ∷ own) within = omega (arith, all_within own (tail_of within))
  where
    all_within : (own : List Party) → All (λ entry. entry.put_in ≤ highest_put_in) own → sum_by (λ entry. entry.put_in) own ≤ highest_put_in * length own
    all_within [] within = omega arith
    all_within (entry ∷ own) within = omega (arith, head_of within, all_within own (tail_of within))

-- ---- those that pass a test
module _ {A : Type 0} where
  pub all_passing : {P : A → Type 0} (test : A → Bool) {xs : List A} → All (λ x. test x ≡ true → P x) xs → All P (filter test xs)
  all_passing test nil = nil
  all_passing {P} test (more {x} {xs} h hs) = by (test x) h (all_passing test hs)
    where
      by : (t : Bool) → (t ≡ true → P x) → All P (filter test xs) → All P (cons_if t x (filter test xs))
      by true h hs = more (h refl) hs
      by false h hs = hs

  pub sum_by_times : (n : ℕ) (f : A → ℕ) (xs : List A) → sum_by (λ x. n * f x) xs ≡ n * sum_by f xs
  sum_by_times n f [] = omega arith
  sum_by_times n f (x ∷ xs) = omega (arith, sum_by_times n f xs)

length_ones : {A : Type 0} (xs : List A) → sum_by {A = A} (λ x. 1) xs ≡ length xs
length_ones [] = refl
length_ones (x ∷ xs) = omega (arith, length_ones xs)

-- ---- those that stay
module _ (gone : List ℕ) where
  abbrev stays : Party → Bool
  stays entry = not (one_of gone entry.scheme)

  abbrev stays_open : Scheme → Bool
  stays_open scheme = not (one_of gone scheme.number)

  -- a scheme that stays has its figures from the entries that stay
  stays_own : (s : ℕ) → one_of gone s ≡ false → (n : ℕ) → eqb n s ≡ true → not (one_of gone n) ≡ true
  stays_own s remains n own = rw (eqb-true n s own, remains)

  sum_stays : (figure : Party → ℕ) (s : ℕ) → one_of gone s ≡ false → (entries : List Party) →
      sum_over s (scheme_column (filter stays entries)) (map figure (filter stays entries)) ≡ sum_over s (scheme_column entries) (map figure entries)
  unfolding sum_over
  sum_stays figure s remains [] = refl
  sum_stays figure s remains (entry ∷ entries) = by (stays entry) (stays_own s remains entry.scheme) (sum_stays figure s remains entries)
    where
      none : (own : Bool) → (own ≡ true → false ≡ true) → (rest : ℕ) → rest ≡ cond own (figure entry) 0 + rest
      none true keeps rest = absurd (false≢true (keeps refl))
      none false keeps rest = omega arith

      by : (kept : Bool) → (eqb entry.scheme s ≡ true → kept ≡ true) →
          sum_over s (scheme_column (filter stays entries)) (map figure (filter stays entries)) ≡ sum_over s (scheme_column entries) (map figure entries) →
          sum_over s (scheme_column (cons_if kept entry (filter stays entries))) (map figure (cons_if kept entry (filter stays entries)))
          ≡ cond (eqb entry.scheme s) (figure entry) 0 + sum_over s (scheme_column entries) (map figure entries)
      by true keeps same = ap (λ rest. cond (eqb entry.scheme s) (figure entry) 0 + rest) same
      by false keeps same = same ∙ none (eqb entry.scheme s) keeps (sum_over s (scheme_column entries) (map figure entries))

  first_stays : (s : ℕ) → one_of gone s ≡ false → (entries : List Party) →
      first_put_in s (scheme_column (filter stays entries)) (put_in_column (filter stays entries)) ≡ first_put_in s (scheme_column entries) (put_in_column entries)
  unfolding first_put_in
  first_stays s remains [] = refl
  first_stays s remains (entry ∷ entries) = by (stays entry) (stays_own s remains entry.scheme) (first_stays s remains entries)
    where
      none : (own : Bool) → (own ≡ true → false ≡ true) → (rest : ℕ) → rest ≡ cond own entry.put_in rest
      none true keeps rest = absurd (false≢true (keeps refl))
      none false keeps rest = refl

      by : (kept : Bool) → (eqb entry.scheme s ≡ true → kept ≡ true) →
          first_put_in s (scheme_column (filter stays entries)) (put_in_column (filter stays entries)) ≡ first_put_in s (scheme_column entries) (put_in_column entries) →
          first_put_in s (scheme_column (cons_if kept entry (filter stays entries))) (put_in_column (cons_if kept entry (filter stays entries)))
          ≡ cond (eqb entry.scheme s) entry.put_in (first_put_in s (scheme_column entries) (put_in_column entries))
      by true keeps same = ap (λ rest. cond (eqb entry.scheme s) entry.put_in rest) same
      by false keeps same = same ∙ none (eqb entry.scheme s) keeps (first_put_in s (scheme_column entries) (put_in_column entries))

  stays_open_means : (s : ℕ) → not (one_of gone s) ≡ true → one_of gone s ≡ false
  stays_open_means s kept = by (one_of gone s) kept
    where
      by : (t : Bool) → not t ≡ true → t ≡ false
      by true kept = absurd (false≢true kept)
      by false kept = refl

  scheme_stays : (month later : ℕ) (entries : List Party) (scheme : Scheme) → month ≤ later → one_of gone scheme.number ≡ false →
      SoundScheme month entries scheme → SoundScheme later (filter stays entries) scheme
  scheme_stays month later entries scheme in_order remains h =
      same_account
      (record {
        entries = sum_stays (λ entry. 1) scheme.number remains entries;
        first = first_stays scheme.number remains entries;
        put_in = sum_stays (λ entry. entry.put_in) scheme.number remains entries;
        credited = sum_stays (λ entry. entry.credited) scheme.number remains entries;
      })
      (record {
        fee = h.fee;
        minimum = h.minimum;
        term = h.term;
        opening = omega (arith, h.opening);
        some_entry = h.some_entry;
        first = h.first;
        fees = h.fees;
        account = h.account;
      })

-- the entries that go and those that stay are all
counted : (next : ℕ) (gone : List ℕ) → rise_to next 0 gone ≡ true → (entries : List Party) →
    sum_by (λ s. length (parties_on s entries)) gone + length (filter (stays gone) entries) ≡ length entries
counted next gone rise entries =
    let parts = parted (λ entry. entry.scheme) (λ entry. 1) gone (rise_once next 0 gone rise) entries in
    let each : sum_by (λ s. sum_by (λ entry. 1) (parties_on s entries)) gone ≡ sum_by (λ s. length (parties_on s entries)) gone =
    sum_by_same _ _ (all_any gone (λ s. length_ones (parties_on s entries))) in
    omega (arith, parts, each, length_ones (filter (stays gone) entries), length_ones entries)

-- a scheme's fees are found by its number
own_fees : (next before : ℕ) (schemes : List Scheme) → rise_to next before (map (λ scheme. scheme.number) schemes) ≡ true →
    All (λ scheme. fees_of schemes scheme.number ≡ scheme.fees) schemes
own_fees next before [] rise = nil
own_fees next before (scheme ∷ schemes) rise =
    let later = rise_later next before scheme.number (map (λ scheme. scheme.number) schemes) rise in
    let above : All (λ other. scheme.number < other.number) schemes =
    all_map (λ other (above : (scheme.number < other.number) × (other.number < next)). above.0) (rise_all (λ scheme. scheme.number) next scheme.number schemes later) in
    more
    (omega (
      arith,
      sum_by_none (λ other. cond (eqb other.number scheme.number) other.fees 0)
          (all_map (λ other (higher : scheme.number < other.number). ap (λ (t : Bool). cond t other.fees 0) (ne_eqb other.number scheme.number (λ same. omega (arith, same, higher)))) above),
      ap (λ (t : Bool). cond t scheme.fees 0) (eq-eqb scheme.number scheme.number refl),
    ))
    (all_both
    (λ other (higher : scheme.number < other.number) (own : fees_of schemes other.number ≡ other.fees).
    omega (arith, own, ap (λ (t : Bool). cond t scheme.fees 0) (ne_eqb scheme.number other.number (λ same. omega (arith, same, higher)))))
    above (own_fees next scheme.number schemes later))

-- ---- a clearing
module _ (month : ℕ) (state : State) (in_order : state.ledger.month ≤ month) (h : SoundState state) where
  abbrev schemes : List Scheme
  schemes = schemes_on state

  abbrev entries : List Party
  entries = entries_on state

  abbrev pub going : Scheme → Bool
  going scheme = goes (books_on state) month (scheme_particulars scheme)

  abbrev pub gone : List ℕ
  gone = map (λ row. row.number) (filter (goes (books_on state) month) (books_on state).schemes)

  pub gone_is : gone ≡ map (λ scheme. scheme.number) (filter going schemes)
  gone_is = ap (map (λ row. row.number)) (filter_map_lem (goes (books_on state) month) scheme_particulars schemes) ∙ map_map (filter going schemes)
    where
      map_map : (l : List Scheme) → map (λ row. row.number) (map scheme_particulars l) ≡ map (λ scheme. scheme.number) l
      map_map [] = refl
      map_map (x ∷ xs) = ap (λ ns. x.number ∷ ns) (map_map xs)

  gone_rise : rise_to state.ledger.next_scheme 0 gone ≡ true
  gone_rise = rw gone_is (rise_filter state.ledger.next_scheme (λ scheme. scheme.number) going 0 schemes h.numbers.schemes_in_order)

  all_schemes : All (SoundScheme state.ledger.month entries) schemes
  all_schemes = all_from no_scheme schemes h.figures.each_scheme

  pub all_parties : All (SoundParty schemes) entries
  all_parties = all_from no_party entries h.figures.each_party

  entries_many : length entries ≡ state.ledger.entries
  entries_many = length-take-le state.ledger.entries state.table h.figures.in_table

  -- what a scheme that goes collected was paid out or is fees
  settled : (scheme : Scheme) → SoundScheme state.ledger.month entries scheme → fees_of schemes scheme.number ≡ scheme.fees → going scheme ≡ true →
      collected_of entries scheme.number ≡ paid_out_of entries scheme.number + fees_of schemes scheme.number
  settled scheme sound fees goes_now =
      let s = scheme.number in
      let paid = credited_paid (parties_on s entries) (sym (ap (list_all (λ entry. eqb entry.credited entry.paid_out)) (filter_map_lem (λ row. eqb row.scheme s) entry_particulars entries)) ∙ second (leb (scheme.opening + scheme.term) month) goes_now) in
      omega (
        arith,
        paid,
        fees,
        sound.account,
        sound.first,
        put_in_whole s entries,
        sum_own (λ entry. entry.put_in) s entries,
        sum_own (λ entry. entry.credited) s entries,
      )
    where
      second : (b : Bool) {c : Bool} → (b && c) ≡ true → c ≡ true
      second true h = h
      second false h = absurd (false≢true h)

  all_settled : All (λ s. collected_of entries s ≡ paid_out_of entries s + fees_of schemes s) gone
  all_settled =
      rw gone_is
      (all_mapped (λ scheme. scheme.number)
      (all_passing going
      (all_both (λ scheme (sound : SoundScheme state.ledger.month entries scheme) (fees : fees_of schemes scheme.number ≡ scheme.fees). settled scheme sound fees)
      all_schemes
      (own_fees state.ledger.next_scheme 0 schemes h.numbers.schemes_in_order))))

  sums_settled : sum_by (collected_of entries) gone ≡ sum_by (paid_out_of entries) gone + sum_by (fees_of schemes) gone
  sums_settled =
      sum_by_same (collected_of entries) (λ s. paid_out_of entries s + fees_of schemes s) all_settled ∙ sum_by_plus (paid_out_of entries) (fees_of schemes) gone

  -- and is at most the limit for each entry that goes
  within : sum_by (collected_of entries) gone ≤ highest_put_in * sum_by (λ s. length (parties_on s entries)) gone
  within =
      omega (
        arith,
        sum_by_le (collected_of entries) (λ s. highest_put_in * length (parties_on s entries))
            (all_any gone
            (λ s. collected_within (parties_on s entries) (all_filter (λ entry. eqb entry.scheme s) (all_map (λ entry (sound : SoundParty schemes entry). sound.put_in) all_parties)))),
        sum_by_times highest_put_in (λ s. length (parties_on s entries)) gone,
      )

  abbrev pub schemes_left : List Scheme
  schemes_left = filter (stays_open gone) schemes

  abbrev pub entries_left : List Party
  entries_left = filter (stays gone) entries

  pub party_stays : (entry : Party) → SoundParty schemes entry → stays gone entry ≡ true → SoundParty schemes_left entry
  party_stays entry sound kept =
      record {
        stands = stands_filter (λ scheme. scheme.number) entry.scheme (stays_open gone) schemes (λ scheme same. ap (λ n. not (one_of gone n)) same ∙ kept) sound.stands;
        some_capacity = sound.some_capacity;
        capacity = sound.capacity;
        put_in = sound.put_in;
        credited = sound.credited;
        paid_out = sound.paid_out;
      }

  abbrev after : State
  after = cleared_of month gone state

  zeros : length new_ledger.schemes ≡ most_schemes
  zeros = length-replicate most_schemes no_scheme

  few : length schemes_left ≤ most_schemes
  few = omega (arith, length_filter (stays_open gone) schemes, length-take state.ledger.count state.ledger.schemes, h.figures.schemes)

  fewer : length entries_left ≤ state.ledger.entries
  fewer = omega (arith, length_filter (stays gone) entries, entries_many)

  pub schemes_now : schemes_on after ≡ schemes_left
  schemes_now = take_at_start schemes_left new_ledger.schemes (length schemes_left) refl

  pub entries_now : entries_on after ≡ entries_left
  entries_now = take_at_start entries_left state.table (length entries_left) refl

  all_parties_left : All (SoundParty schemes_left) entries_left
  all_parties_left = all_passing (stays gone) (all_map (λ entry (sound : SoundParty schemes entry). party_stays entry sound) all_parties)

  all_schemes_left : All (SoundScheme month entries_left) schemes_left
  all_schemes_left =
      all_passing (stays_open gone)
      (all_map
      (λ scheme (sound : SoundScheme state.ledger.month entries scheme) (kept : stays_open gone scheme ≡ true).
      scheme_stays gone state.ledger.month month entries scheme in_order (stays_open_means gone scheme.number kept) sound)
      all_schemes)

  pub clear_keeps_sound : SoundState after
  clear_keeps_sound =
      let figures = h.figures in
      let numbers = h.numbers in
      record {
        figures =
            record {
              schemes = few;
              entries = omega (arith, fewer, figures.entries);
              in_table = omega (arith, fewer, figures.in_table, length_at_start entries_left state.table (omega (arith, fewer, figures.in_table)));
              connections = figures.connections;
              charged = figures.charged;
              borne = figures.borne;
              each_party = rw (entries_now, schemes_now) (all_at no_party all_parties_left);
              each_scheme = rw (entries_now, schemes_now) (all_at no_scheme all_schemes_left);
              rest_zero =
                  λ i past.
                  past_at_start schemes_left new_ledger.schemes i (omega (arith, few, zeros)) past ∙ zeros_only most_schemes i;
            };
        numbers =
            record {
              schemes_in_order =
                  rw schemes_now (rise_filter state.ledger.next_scheme (λ scheme. scheme.number) (stays_open gone) 0 schemes numbers.schemes_in_order);
              entries_in_order =
                  rw entries_now (rise_filter state.ledger.next_entry (λ entry. entry.number) (stays gone) 0 entries numbers.entries_in_order);
              next_scheme = numbers.next_scheme;
              next_entry = numbers.next_entry;
              cleared_account = omega (arith, numbers.cleared_account, sums_settled);
              cleared_limit =
                  let given : length entries < state.ledger.next_entry =
                  omega (
                    arith,
                    rise_length state.ledger.next_entry 0 (map (λ entry. entry.number) entries) numbers.entries_in_order,
                    length-map entries (λ entry. entry.number),
                  ) in
                  omega (arith, given, numbers.cleared_limit, within, entries_many, counted state.ledger.next_scheme gone gone_rise entries);
            };
      }
