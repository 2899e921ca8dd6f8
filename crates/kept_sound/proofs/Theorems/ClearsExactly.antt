-- A clearing removes the schemes that must go, and their entries, and no other: numbers rise, so that each record is found by its own.
use Rattle.std.specs.Prelude.{ℕ, suc, ◌+◌, ◌<◌, ◌≤◌, ◌≡◌, refl, List, [], ◌∷◌, map, filter, Bool, true, false, not, ◌&&◌, length, get_or, leb, eqb, None, Some, is_some}
use Rattle.std.specs.List.{list_all}
use Rattle.std.proofs.Common.{sym, ap, ◌∙◌, arith, leb-true, le-leb, le-ltb, eqb-true, eq-eqb, ne_eqb}
use Rattle.std.proofs.lemmas.Bool.{false≢true}
use Rattle.ledger.specs.Lists.{All, nil, more}
use Rattle.ledger.specs.Records.{no_scheme, no_party}
use Rattle.ledger.specs.RefusalNumbers.{one_of}
use Rattle.ledger.specs.Books.{scheme_particulars, entry_particulars, of_scheme}
use Rattle.ledger.specs.Lookup.{place_of, scheme_place}
use Rattle.ledger.specs.EntryPlace.{entry_place}
use Rattle.ledger.specs.Sound.{rise_to}
use Rattle.ledger.proofs.Theorems.Lookup.{next_place, place_cons, own_place}
use Rattle.ledger.proofs.Theorems.Rising.{rise_later, rise_filter, rise_all}
use Rattle.ledger.proofs.Theorems.Sound.{sound_means}
use Rattle.ledger.specs.SoundConditions.{SoundParty}
use Rattle.ledger.specs.declared.records.Scheme.{Scheme}
use Rattle.ledger.specs.declared.records.Party.{Party}
use Rattle.calls.specs.Decision.{goes}
use Rattle.calls.specs.Carried.{State, books_on, schemes_on, entries_on, parties_on, cleared_of}
use Rattle.calls.specs.Calls.{answered, leaves}
use Rattle.calls.proofs.Theorems.Lists.{by_test, cons_if, all_map, all_both, all_filter, all_kept, all_of_kept, filter_map_lem}
use Rattle.kept_sound.specs.SoundState.{SoundState}
use Rattle.kept_sound.specs.Laws.{MustGo, Clears, ClearsExactly}
use Rattle.kept_sound.proofs.Theorems.Clearing.{all_from, all_passing, gone, going, gone_is, all_parties, party_stays, schemes_left, entries_left, schemes_now, entries_now}

-- ---- records by number, where numbers rise
module _ {A : Type 0} (number : A → ℕ) where
  -- no record has it
  place_none : (n : ℕ) {xs : List A} → All (λ x. number x ≡ n → ⊥) xs → place_of number n xs ≡ None
  unfolding place_of
  place_none n nil = refl
  place_none n (more {x} {xs} other others) = place_cons number n x xs ∙ rw (ne_eqb (number x) n other) (ap next_place (place_none n others))

  module _ (none : A) where
    -- each is found at its place
    pub all_stand : (next : ℕ) (xs : List A) → rise_to next 0 (map number xs) ≡ true →
        All (λ x. (k : ℕ) × (place_of number (number x) xs ≡ Some k) × (get_or xs k none ≡ x)) xs
    all_stand next xs rise = all_from none xs (λ k below. (k, own_place number xs none next 0 rise k below, refl))

    -- and each that passes a test, among those that do
    kept_at : (test : A → Bool) (xs : List A) → All (λ x. test x ≡ true → (k : ℕ) × (k < length (filter test xs)) × (get_or (filter test xs) k none ≡ x)) xs
    kept_at test [] = nil
    kept_at test (x ∷ xs) = more (λ kept. rw kept (0, omega arith, refl)) (by (test x) (kept_at test xs))
      where
        by : (t : Bool) → All (λ y. test y ≡ true → (k : ℕ) × (k < length (filter test xs)) × (get_or (filter test xs) k none ≡ y)) xs →
            All (λ y. test y ≡ true → (k : ℕ) × (k < length (cons_if t x (filter test xs))) × (get_or (cons_if t x (filter test xs)) k none ≡ y)) xs
        by true h = all_map (λ y at kept. let there = at kept in (suc there.0, omega (arith, there.1), there.2)) h
        by false h = h

    kept_stand : (test : A → Bool) (next : ℕ) (xs : List A) → rise_to next 0 (map number xs) ≡ true →
        All (λ x. test x ≡ true → (k : ℕ) × (place_of number (number x) (filter test xs) ≡ Some k) × (get_or (filter test xs) k none ≡ x)) xs
    kept_stand test next xs rise =
        all_map
        (λ x at kept.
        let there = at kept in (
          there.0,
          ap (λ y. place_of number (number y) (filter test xs)) (sym there.2)
              ∙ own_place number (filter test xs) none next 0 (rise_filter next number test 0 xs rise) there.0 there.1,
          there.2,
        ))
        (kept_at test xs)

  above : (next before : ℕ) (x : A) (xs : List A) → rise_to next before (number x ∷ map number xs) ≡ true → All (λ y. number x < number y) xs
  above next before x xs rise =
      all_map (λ y (h : (number x < number y) × (number y < next)). h.0) (rise_all number next (number x) xs (rise_later next before (number x) (map number xs) rise))

  -- one that fails the test isn't found among those that pass
  gone_none : (test : A → Bool) (next before : ℕ) (xs : List A) → rise_to next before (map number xs) ≡ true →
      All (λ x. test x ≡ false → place_of number (number x) (filter test xs) ≡ None) xs
  gone_none test next before [] rise = nil
  gone_none test next before (x ∷ xs) rise =
      let later = above next before x xs rise in
      more
      (λ fails. rw fails (place_none (number x) (all_filter test (all_map (λ y (higher : number x < number y) same. omega (arith, same, higher)) later))))
      (all_both
      (λ y (higher : number x < number y) (none : test y ≡ false → place_of number (number y) (filter test xs) ≡ None) fails. by (test x) y higher (none fails))
      later (gone_none test next (number x) xs (rise_later next before (number x) (map number xs) rise)))
    where
      by : (t : Bool) (y : A) → number x < number y → place_of number (number y) (filter test xs) ≡ None → place_of number (number y) (cons_if t x (filter test xs)) ≡ None
      by true y higher none =
          place_cons number (number y) x (filter test xs) ∙ rw (ne_eqb (number x) (number y) (λ same. omega (arith, same, higher))) (ap next_place none)
      by false y higher none = none

  -- whether a record's number is one of those that pass
  none_one : (n : ℕ) {xs : List A} → All (λ x. n < number x) xs → one_of (map number xs) n ≡ false
  none_one n nil = refl
  none_one n (more {x} {xs} higher others) = rw (ne_eqb n (number x) (λ same. omega (arith, same, higher))) (none_one n others)

  one_passing : (test : A → Bool) (next before : ℕ) (xs : List A) → rise_to next before (map number xs) ≡ true →
      All (λ x. one_of (map number (filter test xs)) (number x) ≡ test x) xs
  one_passing test next before [] rise = nil
  one_passing test next before (x ∷ xs) rise =
      let later = above next before x xs rise in
      more (own (test x) (none_one (number x) (all_filter test later)))
      (all_both (λ y (higher : number x < number y) (same : one_of (map number (filter test xs)) (number y) ≡ test y). by (test x) y higher same)
      later (one_passing test next (number x) xs (rise_later next before (number x) (map number xs) rise)))
    where
      own : (t : Bool) → one_of (map number (filter test xs)) (number x) ≡ false → one_of (map number (cons_if t x (filter test xs))) (number x) ≡ t
      own true none = rw (eq-eqb (number x) (number x) refl)
      own false none = none

      by : (t : Bool) (y : A) → number x < number y → one_of (map number (filter test xs)) (number y) ≡ test y →
          one_of (map number (cons_if t x (filter test xs))) (number y) ≡ test y
      by true y higher same = rw (ne_eqb (number y) (number x) (λ equal. omega (arith, equal, higher))) same
      by false y higher same = same

-- ---- the test is what must go
all_even : (own : List Party) → list_all (λ row. eqb row.credited row.paid_out) (map entry_particulars own) ≡ true → All (λ entry. entry.credited ≡ entry.paid_out) own
all_even [] h = nil
all_even (entry ∷ own) h = let each = both_of (eqb entry.credited entry.paid_out) h in more (eqb-true _ _ each.0) (all_even own each.1)
  where
    both_of : (b : Bool) {c : Bool} → (b && c) ≡ true → (b ≡ true) × (c ≡ true)
    both_of true h = (refl, h)
    both_of false h = absurd (false≢true h)

even_all : {own : List Party} → All (λ entry. entry.credited ≡ entry.paid_out) own → list_all (λ row. eqb row.credited row.paid_out) (map entry_particulars own) ≡ true
even_all nil = refl
even_all (more {x = entry} h hs) = rw (eq-eqb entry.credited entry.paid_out h) (even_all hs)

module _ (month : ℕ) (state : State) (scheme : Scheme) where
  abbrev s : ℕ
  s = scheme.number

  own_rows : of_scheme s (books_on state).entries ≡ map entry_particulars (parties_on s (entries_on state))
  own_rows = filter_map_lem (λ row. eqb row.scheme s) entry_particulars (entries_on state)

  goes_means : goes (books_on state) month (scheme_particulars scheme) ≡ true → MustGo month (entries_on state) scheme
  goes_means h = by (leb (scheme.opening + scheme.term) month) refl h
    where
      by : (b : Bool) → leb (scheme.opening + scheme.term) month ≡ b →
          (b && list_all (λ row. eqb row.credited row.paid_out) (of_scheme s (books_on state).entries)) ≡ true → MustGo month (entries_on state) scheme
      by true ended even =
          record {
            ended = leb-true _ _ ended;
            paid_out =
                all_map (λ entry of_it (same : entry.scheme ≡ s). of_it (eq-eqb entry.scheme s same))
                (all_of_kept (λ entry. eqb entry.scheme s) (entries_on state)
                (all_even (parties_on s (entries_on state)) (sym (ap (list_all (λ row. eqb row.credited row.paid_out)) own_rows) ∙ even)));
          }
      by false ended even = absurd (false≢true even)

  means_goes : MustGo month (entries_on state) scheme → goes (books_on state) month (scheme_particulars scheme) ≡ true
  means_goes h =
      rw (le-leb _ _ h.ended)
      (ap (list_all (λ row. eqb row.credited row.paid_out)) own_rows
      ∙ even_all
      (all_passing (λ entry. eqb entry.scheme s)
      (all_map (λ entry (paid : entry.scheme ≡ s → entry.credited ≡ entry.paid_out) (own : eqb entry.scheme s ≡ true). paid (eqb-true entry.scheme s own)) h.paid_out)))

-- ---- a clearing
module _ (month : ℕ) (state : State) (in_order : state.ledger.month ≤ month) (h : SoundState state) where
  abbrev numbers : List ℕ
  numbers = gone month state in_order h

  abbrev after : State
  after = cleared_of month numbers state

  abbrev schemes : List Scheme
  schemes = schemes_on state

  abbrev entries : List Party
  entries = entries_on state

  abbrev left : List Scheme
  left = schemes_left month state in_order h

  abbrev kept : List Party
  kept = entries_left month state in_order h

  -- a scheme's number is one of those that go where the scheme must
  all_going : All (λ scheme. one_of numbers scheme.number ≡ goes (books_on state) month (scheme_particulars scheme)) schemes
  all_going =
      rw (gone_is month state in_order h)
      (one_passing (λ scheme. scheme.number) (going month state in_order h) state.ledger.next_scheme 0 schemes h.numbers.schemes_in_order)

  schemes_go : All (λ scheme. MustGo month entries scheme → scheme_place scheme.number left ≡ None) schemes
  schemes_go =
      all_both
      (λ scheme (is : one_of numbers scheme.number ≡ goes (books_on state) month (scheme_particulars scheme))
      (none : not (one_of numbers scheme.number) ≡ false → scheme_place scheme.number left ≡ None) must.
      none (ap not (is ∙ means_goes month state scheme must)))
      all_going
      (gone_none (λ scheme. scheme.number) (λ scheme. not (one_of numbers scheme.number)) state.ledger.next_scheme 0 schemes h.numbers.schemes_in_order)

  schemes_stay : All (λ scheme. (MustGo month entries scheme → ⊥) → (k : ℕ) × (scheme_place scheme.number left ≡ Some k) × (get_or left k no_scheme ≡ scheme)) schemes
  schemes_stay =
      all_both
      (λ scheme (is : one_of numbers scheme.number ≡ goes (books_on state) month (scheme_particulars scheme))
      (stands : not (one_of numbers scheme.number) ≡ true → (k : ℕ) × (scheme_place scheme.number left ≡ Some k) × (get_or left k no_scheme ≡ scheme)) other.
      stands (ap not (is ∙ by_test (goes (books_on state) month (scheme_particulars scheme)) (λ all_go. absurd (other (goes_means month state scheme all_go))) (λ stays. stays))))
      all_going
      (kept_stand (λ scheme. scheme.number) no_scheme (λ scheme. not (one_of numbers scheme.number)) state.ledger.next_scheme schemes h.numbers.schemes_in_order)

  -- an entry's scheme stands where the entry stays
  scheme_none : (s : ℕ) → one_of numbers s ≡ true → scheme_place s left ≡ None
  scheme_none s goes_now =
      place_none (λ scheme. scheme.number) s
      (all_kept (λ scheme. not (one_of numbers scheme.number)) schemes
      (λ scheme (stays : not (one_of numbers scheme.number) ≡ true) same.
      false≢true (sym (ap not goes_now) ∙ ap (λ n. not (one_of numbers n)) (sym same) ∙ stays)))

  entry_there : (n : ℕ) → is_some (scheme_place n left) ≡ true → not (one_of numbers n) ≡ true
  entry_there n stands =
      by_test (one_of numbers n) (λ goes_now. absurd (false≢true (ap is_some (sym (scheme_none n goes_now)) ∙ stands))) (λ stays. ap not stays)

  entries_go : All (λ entry. scheme_place entry.scheme left ≡ None → entry_place entry.number kept ≡ None) entries
  entries_go =
      all_both
      (λ entry (sound : SoundParty schemes entry) (none : not (one_of numbers entry.scheme) ≡ false → entry_place entry.number kept ≡ None) gone_now.
      none
      (by_test (not (one_of numbers entry.scheme))
      (λ stays. absurd (false≢true (ap is_some (sym gone_now) ∙ (party_stays month state in_order h entry sound stays).stands))) (λ goes_now. goes_now)))
      (all_parties month state in_order h)
      (gone_none (λ entry. entry.number) (λ entry. not (one_of numbers entry.scheme)) state.ledger.next_entry 0 entries h.numbers.entries_in_order)

  entries_stay : All (λ entry. is_some (scheme_place entry.scheme left) ≡ true → (k : ℕ) × (entry_place entry.number kept ≡ Some k) × (get_or kept k no_party ≡ entry)) entries
  entries_stay =
      all_map
      (λ entry (stands : not (one_of numbers entry.scheme) ≡ true → (k : ℕ) × (entry_place entry.number kept ≡ Some k) × (get_or kept k no_party ≡ entry)) there.
      stands (entry_there entry.scheme there))
      (kept_stand (λ entry. entry.number) no_party (λ entry. not (one_of numbers entry.scheme)) state.ledger.next_entry entries h.numbers.entries_in_order)

  clears : Clears month state after
  clears =
      record {
        schemes_go = rw (schemes_now month state in_order h) schemes_go;
        schemes_stay = rw (schemes_now month state in_order h) schemes_stay;
        entries_go = rw (schemes_now month state in_order h, entries_now month state in_order h) entries_go;
        entries_stay = rw (schemes_now month state in_order h, entries_now month state in_order h) entries_stay;
        schemes_before =
            rw (schemes_now month state in_order h)
            (all_filter (λ scheme. not (one_of numbers scheme.number)) (all_stand (λ scheme. scheme.number) no_scheme state.ledger.next_scheme schemes h.numbers.schemes_in_order));
        entries_before =
            rw (entries_now month state in_order h)
            (all_filter (λ entry. not (one_of numbers entry.scheme)) (all_stand (λ entry. entry.number) no_party state.ledger.next_entry entries h.numbers.entries_in_order));
      }

pub clears_exactly : ClearsExactly
unfolding answered leaves
clears_exactly state month stands in_order =
    let h : SoundState state = sound_means state.ledger state.table (length state.table) stands in
    rw (stands, le-ltb month state.ledger.month in_order) (refl, clears month state in_order h)
