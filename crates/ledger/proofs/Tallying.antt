-- The tallies of the entries: one more adds to its own scheme's and leaves every other as it was; and what the loop over the entries keeps of them.
use Rattle.std.specs.Prelude.{None, Some}
use Prim.Native.Nat.{ℕ, ◌+◌, ◌<◌, ◌≤◌}
use mathlib.Core.Path.{◌≡◌, refl, sym, ap, subst, ◌∙◌}
use mathlib.Core.List.{List, [], ◌∷◌, ◌++◌, map, map-append}
use mathlib.Core.Bool.{Bool, true, false, cond}
use native.Mathlib.Omega.{arith}
use native.Mathlib.Numerals.{add-one}
use lib.Dec.{eqb}
use lib.ListN.{length, take, drop, get_or, set, length-set, drop_of_length-le, length-replicate, length-map, get_or-replicate}
use lib.Seq.{get_or-set_same, get_or-set_other, drop-cons, take-suc}
use borrow.Author.Tests.{leb-true, eqb-true, eqb-false}
use Rattle.ledger.specs.Columns.{scheme_column, put_in_column, sum_over, first_put_in}
use Rattle.ledger.proofs.Theorems.Columns as columns
use Rattle.ledger.proofs.Theorems.Columns.{ones_again, of_own, of_other}
use Rattle.std.proofs.lemmas.Bool.{cond-true, cond-false}
use Rattle.std.proofs.lemmas.List.{take_all}
use Rattle.ledger.specs.Limits.{most_schemes, most_entries, highest_put_in, highest_credited}
use Rattle.ledger.specs.Records.{no_scheme, no_party}
use Rattle.ledger.specs.Lookup.{scheme_place}
use Rattle.ledger.proofs.Theorems.Lookup.{placed}
use Rattle.ledger.specs.Sound.{all_hold, figures_within, party_sound, parties_sound, tally_of}
use Rattle.ledger.proofs.Theorems.Sound.{held}
use Rattle.ledger.specs.Tallied.{no_tally, no_tallies, tally_with, Tallied, TallyWithin, TalliesWithin}
use Rattle.ledger.specs.declared.records.Scheme.{Scheme}
use Rattle.ledger.specs.declared.records.Party.{Party}
use Rattle.ledger.specs.declared.sound.Tally.{Tally}

-- ---- the tally of scheme s

one_length : (f g : Party → ℕ) (parties : List Party) → length (map f parties) ≡ length (map g parties)
one_length f g parties = length-map parties f ∙ sym (length-map parties g)

pub sum_more : (s : ℕ) (f g : Party → ℕ) (party : Party) (parties : List Party) →
    sum_over s (map f parties ++ (f party ∷ [])) (map g parties ++ (g party ∷ [])) ≡
    sum_over s (map f parties) (map g parties) + cond (eqb (f party) s) (g party) 0
sum_more s f g party parties = columns.sum_more s (f party) (g party) (map f parties) (map g parties) (one_length f g parties)

none_case : (own : Bool) (figure rest later : ℕ) → cond own 1 0 + rest ≡ 0 → (rest ≡ 0 → later ≡ 0) → cond own figure later ≡ 0
none_case true figure rest later e z = omega arith
none_case false figure rest later e z = z (omega arith)

first_none : (s : ℕ) (parties : List Party) → (tally_of s parties).entries ≡ 0 → (tally_of s parties).first ≡ 0
unfolding sum_over first_put_in
first_none s [] e = refl
first_none s (first ∷ parties) e =
    none_case (eqb first.scheme s) first.put_in (tally_of s parties).entries (tally_of s parties).first e (first_none s parties)

module _ (s : ℕ) (party : Party) (parties : List Party) where
  figure_more : (figure : Party → ℕ) →
      sum_over s (scheme_column (parties ++ (party ∷ []))) (map figure (parties ++ (party ∷ []))) ≡
      sum_over s (scheme_column parties) (map figure parties) + cond (eqb party.scheme s) (figure party) 0
  figure_more figure = simp map-append (sum_more s (λ entry. entry.scheme) figure party parties)

  first_of_more : (tally_of s (parties ++ (party ∷ []))).first ≡
      cond (eqb (tally_of s parties).entries 0) (cond (eqb party.scheme s) party.put_in 0) (tally_of s parties).first
  first_of_more =
      simp map-append
      (rw (ones_again (λ entry. entry.scheme) parties) at
      (columns.first_more s party.scheme party.put_in (scheme_column parties) (put_in_column parties)
      (one_length (λ entry. entry.scheme) (λ entry. entry.put_in) parties)))

  assembled : {entries first credited put_in entries' first' credited' put_in' : ℕ} → entries ≡ entries' → first ≡ first' → credited ≡ credited' → put_in ≡ put_in' →
      ◌≡◌ {A = Tally} (record { entries = entries; first = first; credited = credited; put_in = put_in })
      (record { entries = entries'; first = first'; credited = credited'; put_in = put_in' })
  assembled a b c d = rw (a, b, c, d)

  own_more : party.scheme ≡ s → tally_of s (parties ++ (party ∷ [])) ≡ tally_with (tally_of s parties) party
  own_more own =
      assembled (figure_more (λ entry. 1) ∙ ap (λ n. (tally_of s parties).entries + n) (of_own party.scheme s 1 own))
      (first_of_more ∙ ap (λ n. cond (eqb (tally_of s parties).entries 0) n (tally_of s parties).first) (of_own party.scheme s party.put_in own))
      (figure_more (λ entry. entry.credited) ∙ ap (λ n. (tally_of s parties).credited + n) (of_own party.scheme s party.credited own))
      (figure_more (λ entry. entry.put_in) ∙ ap (λ n. (tally_of s parties).put_in + n) (of_own party.scheme s party.put_in own))

  other_more : (party.scheme ≡ s → ⊥) → tally_of s (parties ++ (party ∷ [])) ≡ tally_of s parties
  other_more other =
      let none : (n : ℕ) → cond (eqb party.scheme s) n 0 ≡ 0 = λ n. of_other party.scheme s n other in
      assembled (omega (arith, figure_more (λ entry. 1), none 1))
      (first_of_more
      ∙ ap (λ n. cond (eqb (tally_of s parties).entries 0) n (tally_of s parties).first) (none party.put_in)
      ∙ kept (eqb (tally_of s parties).entries 0) (λ e. first_none s parties (eqb-true _ _ e)))
      (omega (arith, figure_more (λ entry. entry.credited), none party.credited))
      (omega (arith, figure_more (λ entry. entry.put_in), none party.put_in))
    where
      kept : {first : ℕ} (nothing : Bool) → (nothing ≡ true → first ≡ 0) → cond nothing 0 first ≡ first
      kept true z = sym (z refl)
      kept false z = refl

-- ---- the tallies, each at its scheme's place

module _ (schemes : List Scheme) (few : length schemes ≤ most_schemes) (tallies : List Tally) (sized : length tallies ≡ most_schemes) (party : Party) (j : ℕ)
    (here : scheme_place party.scheme schemes ≡ Some j) where
  within : (s k : ℕ) → scheme_place s schemes ≡ Some k → k < length tallies
  within s k place = omega (arith, (placed (λ scheme. scheme.number) schemes no_scheme s k place).0)

  tallied_more : (parties : List Party) → Tallied schemes tallies parties →
      Tallied schemes (set tallies j (tally_with (get_or tallies j no_tally) party)) (parties ++ (party ∷ []))
  tallied_more parties told s k place = by (eqb party.scheme s) refl
    where
      by : (own : Bool) → eqb party.scheme s ≡ own →
          get_or (set tallies j (tally_with (get_or tallies j no_tally) party)) k no_tally ≡ tally_of s (parties ++ (party ∷ []))
      by true own =
          let same : party.scheme ≡ s = eqb-true party.scheme s own in
          let both : Some j ≡ Some k = sym here ∙ ap (λ n. scheme_place n schemes) same ∙ place in
          let at : j ≡ k = cc in
          rw at
          (get_or-set_same tallies k (tally_with (get_or tallies k no_tally) party) no_tally (within s k place)
          ∙ ap (λ tally. tally_with tally party) (told s k place)
          ∙ sym (own_more s party parties same))
      by false own =
          let other : party.scheme ≡ s → ⊥ = eqb-false party.scheme s own in
          get_or-set_other tallies j k (tally_with (get_or tallies j no_tally) party) no_tally
          (λ same.
          other
          (sym (placed (λ scheme. scheme.number) schemes no_scheme party.scheme k (rw same here)).1
          ∙ (placed (λ scheme. scheme.number) schemes no_scheme s k place).1))
          ∙ told s k place
          ∙ sym (other_more s party parties other)

within_more : (n : ℕ) (tally : Tally) (party : Party) → party.put_in ≤ highest_put_in → party.credited ≤ highest_credited → TallyWithin n tally →
    TallyWithin (n + 1) (tally_with tally party)
within_more n tally party p q w = record { many = omega (arith, w.many); credits = omega (arith, w.credits); put = omega (arith, w.put) }

within_le : (m n : ℕ) (tally : Tally) → m ≤ n → TallyWithin m tally → TallyWithin n tally
within_le m n tally l w = record { many = omega (arith, w.many); credits = omega (arith, w.credits); put = omega (arith, w.put) }

bounded_more : (n : ℕ) (tallies : List Tally) (j : ℕ) (party : Party) → length tallies ≡ most_schemes → party.put_in ≤ highest_put_in →
    party.credited ≤ highest_credited → TalliesWithin n tallies → TalliesWithin (n + 1) (set tallies j (tally_with (get_or tallies j no_tally) party))
bounded_more n tallies j party sized p q b k h = by (eqb j k) refl
  where
    by : (own : Bool) → eqb j k ≡ own → TallyWithin (n + 1) (get_or (set tallies j (tally_with (get_or tallies j no_tally) party)) k no_tally)
    by true own =
        let same : j ≡ k = eqb-true j k own in
        rw (same, get_or-set_same tallies k (tally_with (get_or tallies k no_tally) party) no_tally (omega arith))
        (within_more n (get_or tallies k no_tally) party p q (b k h))
    by false own =
        rw (get_or-set_other tallies j k (tally_with (get_or tallies j no_tally) party) no_tally (λ same. eqb-false j k own (sym same)))
        (within_le n (n + 1) (get_or tallies k no_tally) (omega arith) (b k h))

-- ---- the loop

-- what the loop keeps when the first i entries are passed: the entries from place i on decide
pub record Kept (schemes : List Scheme) (tallies : List Tally) (parties : List Party) (i : ℕ) : Type 0 where
  pub undecided : parties_sound schemes parties ≡ parties_sound schemes (drop i parties)
  pub sized : length tallies ≡ most_schemes
  pub tallied : Tallied schemes tallies (take i parties)
  pub bounded : TalliesWithin i tallies

pub kept_start : (schemes : List Scheme) (tallies : List Tally) (parties : List Party) → tallies ≡ no_tallies → length schemes ≤ most_schemes → Kept schemes tallies parties 0
unfolding no_tallies sum_over first_put_in
kept_start schemes tallies parties new few =
    rw new
    (record {
      undecided = refl;
      sized = length-replicate most_schemes no_tally;
      tallied = λ s k place. get_or-replicate most_schemes k no_tally no_tally (omega (arith, (placed (λ scheme. scheme.number) schemes no_scheme s k place).0));
      bounded = λ k h. rw (get_or-replicate most_schemes k no_tally no_tally h) (record { many = omega arith; credits = omega arith; put = omega arith });
    })

module _ {schemes : List Scheme} {tallies : List Tally} {parties : List Party} {i : ℕ} (kept : Kept schemes tallies parties i) where
  module _ (h : i < length parties) where
    from_here : parties_sound schemes parties ≡ cond (party_sound schemes (get_or parties i no_party)) (parties_sound schemes (drop (i + 1) parties)) false
    unfolding parties_sound
    from_here = kept.undecided ∙ rw (add-one, drop-cons parties i no_party h)

    -- an entry whose scheme was never opened
    pub never_opened : scheme_place (get_or parties i no_party).scheme schemes ≡ None → parties_sound schemes parties ≡ false
    never_opened none = rw none at from_here

    -- one whose scheme has a place is judged by its figures
    module _ {j : ℕ} (here : scheme_place (get_or parties i no_party).scheme schemes ≡ Some j) where
      by_figures : parties_sound schemes parties ≡ cond (all_hold (figures_within (get_or parties i no_party))) (parties_sound schemes (drop (i + 1) parties)) false
      by_figures = rw here at from_here

      pub figures_fail : all_hold (figures_within (get_or parties i no_party)) ≡ false → parties_sound schemes parties ≡ false
      figures_fail failed = by_figures ∙ cond-false _ _ _ failed

      pub kept_more : {tally : Tally} → tally ≡ tally_with (get_or tallies j no_tally) (get_or parties i no_party) → length schemes ≤ most_schemes →
          all_hold (figures_within (get_or parties i no_party)) ≡ true → Kept schemes (set tallies j tally) parties (i + 1)
      kept_more more_tallied few sound =
          let party : Party = get_or parties i no_party in
          let each = held (figures_within party) sound in
          let more : take (i + 1) parties ≡ take i parties ++ (party ∷ []) = rw add-one (take-suc parties i no_party h) in
          rw more_tallied
          (record {
            undecided = by_figures ∙ cond-true _ _ _ sound;
            sized = simp length-set kept.sized;
            tallied = rw more (tallied_more schemes few tallies kept.sized party j here (take i parties) kept.tallied);
            bounded = bounded_more i tallies j party kept.sized (leb-true _ _ (each 2)) (leb-true _ _ (each 3)) kept.bounded;
          })

  -- after the last entry
  pub kept_all : length parties ≤ most_entries → length parties ≡ i → (parties_sound schemes parties ≡ true) × Tallied schemes tallies parties × TalliesWithin most_entries tallies
  unfolding parties_sound
  kept_all few all =
      let past : length parties ≤ i = omega arith in (
        kept.undecided ∙ rw (drop_of_length-le parties past),
        subst (Tallied schemes tallies) (take_all i parties past) kept.tallied,
        λ k h. within_le i most_entries (get_or tallies k no_tally) (omega arith) (kept.bounded k h),
      )

-- a scheme's place is among the tallies
pub scheme_within : (schemes : List Scheme) (s k : ℕ) → scheme_place s schemes ≡ Some k → k < length schemes
scheme_within schemes s k place = (placed (λ scheme. scheme.number) schemes no_scheme s k place).0

-- what the loop's goals need of these
pub ruleset tallying = (scheme_within, never_opened, figures_fail, kept_all)
