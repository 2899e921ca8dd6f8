-- What closing up leaves is what the call does: each sum over the schemes that go is one walk over all records.
use Rattle.std.specs.Prelude.{ℕ, ◌+◌, ◌<◌, ◌≤◌, ◌≡◌, refl, List, [], ◌∷◌, map, filter, Bool, true, false, cond, length, take, eqb}
use Rattle.std.proofs.Common.{ap, ap₂, ◌∙◌, arith, le-ltb, ne_eqb, eqb-true}
use Rattle.std.proofs.lemmas.Bool.{lt-ltb}
use Rattle.tagged.specs.File.{refusal}
use Rattle.tagged.specs.Refusals.{month_before_last}
use Rattle.ledger.specs.Lists.{sum_by, at_start, All}
use Rattle.ledger.specs.Records.{new_ledger}
use Rattle.ledger.specs.RefusalNumbers.{one_of}
use Rattle.ledger.specs.Books.{scheme_particulars, books_of}
use Rattle.ledger.specs.Sound.{rise_to, sound}
use Rattle.ledger.specs.SoundConditions.{SoundLedger}
use Rattle.ledger.proofs.Theorems.Sound.{sound_means}
use Rattle.ledger.proofs.Theorems.Rising.{rise_later, rise_filter, rise_all}
use Rattle.ledger.specs.declared.records.Scheme.{Scheme}
use Rattle.ledger.specs.declared.records.Party.{Party}
use Rattle.ledger.specs.declared.records.Ledger.{Ledger}
use Rattle.calls.specs.Decision.{goes, clear, is_done, is_refused}
use Rattle.calls.specs.Carried.{collected_of, paid_out_of, fees_of, cleared_of}
use Rattle.calls.specs.Calls.{state_of, answered, leaves, Promised}
use Rattle.calls.proofs.Theorems.Lists.{filter_map_lem, all_map, sum_by_none, sum_by_plus, sum_by_same, sum_by_filter, all_any}
use Rattle.calls.proofs.Theorems.Promised.{promise_from}
use Rattle.kept_sound.specs.SoundState.{SoundState}
use Rattle.kept_sound.proofs.Theorems.Clearing.{clear_keeps_sound}
use Rattle.clearing.specs.Clearing.{schemes_left, entries_left, fees_gone, paid_out_gone}

-- ---- the numbers that go, by the schemes
numbers_again : (schemes : List Scheme) → map (λ row. row.number) (map scheme_particulars schemes) ≡ map (λ scheme. scheme.number) schemes
numbers_again [] = refl
numbers_again (scheme ∷ schemes) = ap (λ numbers. scheme.number ∷ numbers) (numbers_again schemes)

pub gone_is : (ledger : Ledger) (table : List Party) (month : ℕ) →
    map (λ row. row.number) (filter (goes (books_of ledger table) month) (books_of ledger table).schemes) ≡
    map (λ scheme. scheme.number) (filter (λ scheme. goes (books_of ledger table) month (scheme_particulars scheme)) (take ledger.count ledger.schemes))
gone_is ledger table month =
    ap (map (λ row. row.number)) (filter_map_lem (goes (books_of ledger table) month) scheme_particulars (take ledger.count ledger.schemes))
    ∙ numbers_again (filter (λ scheme. goes (books_of ledger table) month (scheme_particulars scheme)) (take ledger.count ledger.schemes))

-- ---- a sum over the numbers that go, of each one's records, is one over all records
one_weight : (next before : ℕ) (gone : List ℕ) → rise_to next before gone ≡ true → (n weight : ℕ) →
    sum_by (λ s. cond (eqb n s) weight 0) gone ≡ cond (one_of gone n) weight 0
one_weight next before [] rise n weight = refl
one_weight next before (s ∷ later) rise n weight =
    by (eqb n s) refl (one_weight next s later (rise_later next before s later rise) n weight)
  where
    above : All (λ m. (s < m) × (m < next)) later
    above = rise_all (λ m. m) next s later (rise_same later (rise_later next before s later rise))
      where
        rise_same : (numbers : List ℕ) → rise_to next s numbers ≡ true → rise_to next s (map (λ m. m) numbers) ≡ true
        rise_same numbers h = ap (rise_to next s) (same numbers) ∙ h
          where
            same : (numbers : List ℕ) → map (λ (m : ℕ). m) numbers ≡ numbers
            same [] = refl
            same (m ∷ numbers) = ap (λ l. m ∷ l) (same numbers)

    by : (own : Bool) → eqb n s ≡ own → sum_by (λ s. cond (eqb n s) weight 0) later ≡ cond (one_of later n) weight 0 →
        sum_by (λ s. cond (eqb n s) weight 0) later + cond own weight 0 ≡ cond (cond own true (one_of later n)) weight 0
    by true own told =
        omega (
          arith,
          sum_by_none (λ s. cond (eqb n s) weight 0)
              (all_map (λ m (higher : (s < m) × (m < next)). ap (λ (t : Bool). cond t weight 0) (ne_eqb n m (λ same. omega (arith, same, higher.0, eqb-true n s own))))
              above),
        )
    by false own told = omega (arith, told)

module _ {A : Type 0} (key figure : A → ℕ) (next : ℕ) (gone : List ℕ) (rise : rise_to next 0 gone ≡ true) where
  pub over_gone : (xs : List A) →
      sum_by (λ s. sum_by (λ x. cond (eqb (key x) s) (figure x) 0) xs) gone ≡ sum_by (λ x. cond (one_of gone (key x)) (figure x) 0) xs
  over_gone [] = sum_by_none (λ s. 0) (all_any gone (λ s. refl {a = 0}))
  over_gone (x ∷ xs) =
      sum_by_plus (λ s. sum_by (λ x. cond (eqb (key x) s) (figure x) 0) xs) (λ s. cond (eqb (key x) s) (figure x) 0) gone
      ∙ ap₂ (λ m n. m + n) (over_gone xs) (one_weight next 0 gone rise (key x) (figure x))

-- ---- the call
module _ (ledger : Ledger) (table : List Party) (month : ℕ) (stands : sound ledger table (length table) ≡ true) where
  abbrev pub gone : List ℕ
  gone = map (λ row. row.number) (filter (goes (books_of ledger table) month) (books_of ledger table).schemes)

  abbrev schemes : List Scheme
  schemes = take ledger.count ledger.schemes

  abbrev entries : List Party
  entries = take ledger.entries table

  means : SoundLedger ledger table (length table)
  means = sound_means ledger table (length table) stands

  gone_rise : rise_to ledger.next_scheme 0 gone ≡ true
  gone_rise =
      rw (gone_is ledger table month)
      (rise_filter ledger.next_scheme (λ scheme. scheme.number) (λ scheme. goes (books_of ledger table) month (scheme_particulars scheme)) 0 schemes
      means.numbers.schemes_in_order)

  paid_out_is : sum_by (paid_out_of entries) gone ≡ paid_out_gone gone entries
  paid_out_is =
      sum_by_same (paid_out_of entries) (λ s. sum_by (λ entry. cond (eqb entry.scheme s) entry.paid_out 0) entries)
      (all_any gone (λ s. sum_by_filter (λ entry. entry.paid_out) (λ entry. eqb entry.scheme s) entries))
      ∙ over_gone (λ entry. entry.scheme) (λ entry. entry.paid_out) ledger.next_scheme gone gone_rise entries

  fees_are : sum_by (fees_of schemes) gone ≡ fees_gone gone schemes
  fees_are = over_gone (λ scheme. scheme.number) (λ scheme. scheme.fees) ledger.next_scheme gone gone_rise schemes

  module _ (in_order : ledger.month ≤ month) where
    -- the cleared sums' account holds before and after
    collected_is : sum_by (collected_of entries) gone ≡ paid_out_gone gone entries + fees_gone gone schemes
    collected_is =
        let after : SoundState (cleared_of month gone (state_of ledger table)) = clear_keeps_sound month (state_of ledger table) in_order means in
        omega (arith, means.numbers.cleared_account, after.numbers.cleared_account, paid_out_is, fees_are)

    pub cleared_leaves :
        state_of
        (record ledger {
          month = month;
          cleared_collected = ledger.cleared_collected + (paid_out_gone gone entries + fees_gone gone schemes);
          cleared_paid_out = ledger.cleared_paid_out + paid_out_gone gone entries;
          cleared_fees = ledger.cleared_fees + fees_gone gone schemes;
          entries = length (entries_left gone entries);
          count = length (schemes_left gone schemes);
          schemes = at_start (schemes_left gone schemes) new_ledger.schemes;
        })
        (at_start (entries_left gone entries) table)
        ≡ leaves (state_of ledger table) (clear month)
    unfolding leaves
    cleared_leaves = rw (stands, le-ltb _ _ in_order, collected_is, paid_out_is, fees_are) refl

    pub cleared_answers : answered (state_of ledger table) (clear month) ≡ is_done
    unfolding answered
    cleared_answers = rw (stands, le-ltb _ _ in_order) refl

  pub early_promised : month < ledger.month → Promised (state_of ledger table) (clear month) (is_refused (refusal month_before_last 0 0)) (state_of ledger table)
  unfolding answered leaves
  early_promised early = promise_from (rw (stands, lt-ltb _ _ early) refl) (rw (stands, lt-ltb _ _ early) refl)
