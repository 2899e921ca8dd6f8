-- Closing up, one record after the other: those that stay stand at the start, in order.
use Rattle.std.specs.Prelude.{ℕ, zero, suc, ◌+◌, ◌*◌, ◌-◌, ◌<◌, ◌≤◌, ◌≡◌, refl, List, [], ◌∷◌, ◌++◌, filter, Bool, true, false, cond, not, length, take, replicate, get_or, set}
use Rattle.std.proofs.Common.{sym, ap, ap₂, ◌∙◌, arith, not-suc-le-zero, le_of_suc-le-suc, add-one, append-nil, length-take-le, get_or-take}
use Rattle.std.proofs.lemmas.Bool.{false≢true}
use Rattle.std.proofs.Math.Seq.{take-suc}
use Rattle.ledger.specs.Lists.{sum_by, at_start}
use Rattle.field_values.specs.Limits.{highest_minimum}
use Rattle.ledger.specs.Limits.{most_entries, highest_credited}
use Rattle.ledger.specs.RefusalNumbers.{one_of}
use Rattle.ledger.specs.Records.{no_scheme, no_party}
use Rattle.ledger.specs.Sound.{sound}
use Rattle.ledger.specs.SoundConditions.{SoundParty}
use Rattle.ledger.proofs.Theorems.Sound.{sound_means}
use Rattle.ledger.specs.declared.records.Scheme.{Scheme}
use Rattle.ledger.specs.declared.records.Party.{Party}
use Rattle.ledger.specs.declared.records.Ledger.{Ledger}
use Rattle.calls.proofs.Theorems.Lists.{cons_if, filter_append, sum_by_append}
use Rattle.calls.proofs.Theorems.ByPlace.{at_start_more}
use Rattle.clearing.specs.Clearing.{scheme_stays, entry_stays, scheme_fees, entry_paid_out}

-- ---- records past the start
module _ {A : Type 0} where
  pub past_start : (ys xs : List A) (none : A) (j : ℕ) → length ys ≤ j → length ys ≤ length xs → get_or (at_start ys xs) j none ≡ get_or xs j none
  past_start [] xs none j past fits = refl
  past_start (y ∷ ys) [] none j past fits = absurd (not-suc-le-zero fits)
  past_start (y ∷ ys) (x ∷ xs) none zero past fits = absurd (not-suc-le-zero past)
  past_start (y ∷ ys) (x ∷ xs) none (suc j) past fits = past_start ys xs none j (le_of_suc-le-suc past) (le_of_suc-le-suc fits)

  set_past : (ys xs : List A) (j : ℕ) (x : A) → length ys ≤ j → length ys ≤ length xs → set (at_start ys xs) j x ≡ at_start ys (set xs j x)
  set_past [] xs j x past fits = refl
  set_past (y ∷ ys) [] j x past fits = absurd (not-suc-le-zero fits)
  set_past (y ∷ ys) (first ∷ xs) zero x past fits = absurd (not-suc-le-zero past)
  set_past (y ∷ ys) (first ∷ xs) (suc j) x past fits = ap (λ zs. y ∷ zs) (set_past ys xs j x (le_of_suc-le-suc past) (le_of_suc-le-suc fits))

-- ---- what the first i records leave at the start of a list, and what those of them that go come to, each at most this much
pub record Closing {A : Type 0} (stays : A → Bool) (figure : A → ℕ) (most : ℕ) (old beneath records : List A) (left gone i : ℕ) : Type 0 where
  pub few : left ≤ i
  pub stored : records ≡ at_start (filter stays (take i old)) beneath
  pub many : left ≡ length (filter stays (take i old))
  pub sum : gone ≡ sum_by figure (take i old)
  pub within : gone ≤ most * i

module _ {A : Type 0} {stays : A → Bool} {figure : A → ℕ} {most : ℕ} {old beneath records : List A} {left gone i : ℕ}
    (none : A) (before : Closing stays figure most old beneath records left gone i) where
  filter_more : i < length old → filter stays (take (i + 1) old) ≡ filter stays (take i old) ++ cons_if (stays (get_or old i none)) (get_or old i none) []
  filter_more below = rw (add-one, take-suc old i none below) (filter_append stays (take i old) (get_or old i none ∷ []))

  sum_more : i < length old → sum_by figure (take (i + 1) old) ≡ sum_by figure (take i old) + figure (get_or old i none)
  sum_more below =
      rw (add-one, take-suc old i none below) (omega (arith, sum_by_append figure (take i old) (get_or old i none ∷ [])))

  pub goes_on : i < length old → (amount : ℕ) → stays (get_or old i none) ≡ false → figure (get_or old i none) ≡ amount → amount ≤ most →
      Closing stays figure most old beneath records left (gone + amount) (i + 1)
  goes_on below amount goes is few =
      let same : filter stays (take (i + 1) old) ≡ filter stays (take i old) =
      filter_more below ∙ ap (λ t. filter stays (take i old) ++ cons_if t (get_or old i none) []) goes ∙ append-nil (filter stays (take i old)) in
      record {
        few = omega (arith, before.few);
        stored = before.stored ∙ ap (λ l. at_start l beneath) (sym same);
        many = before.many ∙ ap length (sym same);
        sum = omega (arith, before.sum, sum_more below, is);
        within = omega (arith, before.within, few);
      }

  pub stays_on : i < length old → i < length beneath → stays (get_or old i none) ≡ true → figure (get_or old i none) ≡ 0 →
      Closing stays figure most old beneath (set records left (get_or old i none)) (left + 1) gone (i + 1)
  stays_on below fits stay nothing =
      let more : filter stays (take (i + 1) old) ≡ filter stays (take i old) ++ (get_or old i none ∷ []) =
      filter_more below ∙ ap (λ t. filter stays (take i old) ++ cons_if t (get_or old i none) []) stay in
      record {
        few = omega (arith, before.few);
        stored =
            ap₂ (λ l k. set l k (get_or old i none)) before.stored before.many
            ∙ sym (at_start_more (filter stays (take i old)) beneath (get_or old i none) (omega (arith, before.few, before.many)))
            ∙ ap (λ l. at_start l beneath) (sym more);
        many = omega (arith, before.many, ap length more, length_last (filter stays (take i old)));
        sum = omega (arith, before.sum, sum_more below, nothing);
        within = omega (arith, before.within);
      }
    where
      length_last : (xs : List A) → length (xs ++ (get_or old i none ∷ [])) ≡ length xs + 1
      length_last [] = refl
      length_last (x ∷ xs) = omega (arith, length_last xs)

  -- the record at i is as it was beneath
  pub still : i ≤ length beneath → get_or records i none ≡ get_or beneath i none
  still fits =
      ap (λ l. get_or l i none) before.stored
      ∙ past_start (filter stays (take i old)) beneath none i (omega (arith, before.few, before.many)) (omega (arith, before.few, before.many))

  -- a store past those that stay is one beneath
  pub stored_beneath : (x : A) → i ≤ length beneath → Closing stays figure most old (set beneath i x) (set records i x) left gone i
  stored_beneath x fits =
      record {
        few = before.few;
        stored =
            ap (λ l. set l i x) before.stored
            ∙ set_past (filter stays (take i old)) beneath i x (omega (arith, before.few, before.many)) (omega (arith, before.few, before.many));
        many = before.many;
        sum = before.sum;
        within = before.within;
      }

-- ---- the first n places hold zeros
abbrev pub zeroed : ℕ → List Scheme → List Scheme
zeroed zero schemes = schemes
zeroed (suc n) [] = []
zeroed (suc n) (scheme ∷ schemes) = no_scheme ∷ zeroed n schemes

pub zeroed_more : (n : ℕ) (schemes : List Scheme) → n < length schemes → set (zeroed n schemes) n no_scheme ≡ zeroed (suc n) schemes
zeroed_more n [] below = absurd (not-suc-le-zero below)
zeroed_more zero (scheme ∷ schemes) below = refl
zeroed_more (suc n) (scheme ∷ schemes) below = ap (λ l. no_scheme ∷ l) (zeroed_more n schemes (le_of_suc-le-suc below))

pub zeroed_past : (n j : ℕ) (schemes : List Scheme) → n ≤ j → get_or (zeroed n schemes) j no_scheme ≡ get_or schemes j no_scheme
zeroed_past zero j schemes past = refl
zeroed_past (suc n) j [] past = refl
zeroed_past (suc n) zero (scheme ∷ schemes) past = absurd (not-suc-le-zero past)
zeroed_past (suc n) (suc j) (scheme ∷ schemes) past = zeroed_past n j schemes (le_of_suc-le-suc past)

pub length_zeroed : (n : ℕ) (schemes : List Scheme) → length (zeroed n schemes) ≡ length schemes
length_zeroed zero schemes = refl
length_zeroed (suc n) [] = refl
length_zeroed (suc n) (scheme ∷ schemes) = ap suc (length_zeroed n schemes)

-- all of them, where those past the first n did before
pub zeroed_all : (n : ℕ) (schemes : List Scheme) → ((i : ℕ) → n ≤ i → get_or schemes i no_scheme ≡ no_scheme) → zeroed n schemes ≡ replicate (length schemes) no_scheme
zeroed_all zero [] rest = refl
zeroed_all zero (scheme ∷ schemes) rest =
    ap₂ (λ (x : Scheme) (l : List Scheme). x ∷ l) (rest 0 (omega arith)) (zeroed_all zero schemes (λ i past. rest (suc i) (omega arith)))
zeroed_all (suc n) [] rest = refl
zeroed_all (suc n) (scheme ∷ schemes) rest = ap (λ l. no_scheme ∷ l) (zeroed_all n schemes (λ i past. rest (suc i) (omega (arith, past))))

-- ---- what a sound ledger has of it
module _ (ledger : Ledger) (table : List Party) (stands : sound ledger table (length table) ≡ true) where
  pub in_table : ledger.entries ≤ length table
  in_table = (sound_means ledger table (length table) stands).figures.in_table

  pub paid_within : (i : ℕ) → i < ledger.entries → (get_or table i no_party).paid_out ≤ highest_credited
  paid_within i below =
      let figures = (sound_means ledger table (length table) stands).figures in
      let many : length (take ledger.entries table) ≡ ledger.entries = length-take-le ledger.entries table figures.in_table in
      let its : SoundParty (take ledger.count ledger.schemes) (get_or (take ledger.entries table) i no_party) = figures.each_party i (omega arith) in
      let same : get_or (take ledger.entries table) i no_party ≡ get_or table i no_party = get_or-take ledger.entries table i no_party below in
      omega (arith, its.paid_out, its.credited, ap (λ (party : Party). party.paid_out) same)

-- ---- one entry, and one scheme, more
goes_so : (goes : Bool) (amount : ℕ) → goes ≡ true → (not goes ≡ false) × (cond goes amount 0 ≡ amount)
goes_so true amount is = (refl, refl)
goes_so false amount is = absurd (false≢true is)

stays_so : (goes : Bool) (amount : ℕ) → goes ≡ false → (not goes ≡ true) × (cond goes amount 0 ≡ 0)
stays_so false amount is = (refl, refl)
stays_so true amount is = absurd (false≢true (sym is))

module _ (gone : List ℕ) (old table : List Party) (i : ℕ) {left sum : ℕ}
    (before : Closing (entry_stays gone) (entry_paid_out gone) highest_credited old old table left sum i) (below : i < length old) where
  same_entry : get_or table i no_party ≡ get_or old i no_party
  same_entry = still no_party before (omega (arith, below))

  pub entry_goes_on : one_of gone (get_or table i no_party).scheme ≡ true → (get_or old i no_party).paid_out ≤ highest_credited →
      Closing (entry_stays gone) (entry_paid_out gone) highest_credited old old table left (sum + (get_or table i no_party).paid_out) (i + 1)
  entry_goes_on goes few =
      let so = goes_so (one_of gone (get_or old i no_party).scheme) (get_or old i no_party).paid_out (rw same_entry at goes) in
      rw same_entry (goes_on no_party before below (get_or old i no_party).paid_out so.0 so.1 few)

  pub entry_stays_on : one_of gone (get_or table i no_party).scheme ≡ false →
      Closing (entry_stays gone) (entry_paid_out gone) highest_credited old old (set table left (get_or table i no_party)) (left + 1) sum (i + 1)
  entry_stays_on stays =
      let so = stays_so (one_of gone (get_or old i no_party).scheme) (get_or old i no_party).paid_out (rw same_entry at stays) in
      rw same_entry (stays_on no_party before below below so.0 so.1)

abbrev pub highest_fees : ℕ
highest_fees = highest_minimum * (most_entries - 1)

module _ (gone : List ℕ) (old schemes : List Scheme) (k : ℕ) {left sum : ℕ}
    (before : Closing (scheme_stays gone) (scheme_fees gone) highest_fees old (zeroed k old) schemes left sum k) (below : k < length old) where
  pub same_scheme : get_or schemes k no_scheme ≡ get_or old k no_scheme
  same_scheme = still no_scheme before (omega (arith, below, length_zeroed k old)) ∙ zeroed_past k k old (omega arith)

  zeroed_here : Closing (scheme_stays gone) (scheme_fees gone) highest_fees old (zeroed (k + 1) old) (set schemes k no_scheme) left sum k
  zeroed_here =
      let more : set (zeroed k old) k no_scheme ≡ zeroed (k + 1) old = rw add-one (zeroed_more k old below) in
      rw more at (stored_beneath no_scheme before no_scheme (omega (arith, below, length_zeroed k old)))

  pub scheme_goes_on : one_of gone (get_or old k no_scheme).number ≡ true → (get_or old k no_scheme).fees ≤ highest_fees →
      Closing (scheme_stays gone) (scheme_fees gone) highest_fees old (zeroed (k + 1) old) (set schemes k no_scheme) left
      (sum + (get_or schemes k no_scheme).fees) (k + 1)
  scheme_goes_on goes few =
      let so = goes_so (one_of gone (get_or old k no_scheme).number) (get_or old k no_scheme).fees goes in
      rw same_scheme (goes_on no_scheme zeroed_here below (get_or old k no_scheme).fees so.0 so.1 few)

  pub scheme_stays_on : one_of gone (get_or old k no_scheme).number ≡ false →
      Closing (scheme_stays gone) (scheme_fees gone) highest_fees old (zeroed (k + 1) old) (set (set schemes k no_scheme) left (get_or schemes k no_scheme))
      (left + 1) sum (k + 1)
  scheme_stays_on stays =
      let so = stays_so (one_of gone (get_or old k no_scheme).number) (get_or old k no_scheme).fees stays in
      rw same_scheme (stays_on no_scheme zeroed_here below (omega (arith, below, length_zeroed (k + 1) old)) so.0 so.1)
