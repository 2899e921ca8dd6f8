-- A sound ledger and table that a call has kept can be handed over as they are: 64 places, and each value within its width. Most widths follow from
-- soundness, the others are kept.
use Rattle.std.specs.Prelude.{ℕ, zero, suc, ◌<◌, ◌≡◌, refl, length, get_or, map, take, true, ltb, is_some, None, Option, Some}
use Rattle.std.proofs.Common.{sym, ap, subst, ⊎_elim, arith, ltb-true, ltb-false}
use Rattle.std.proofs.lemmas.List.{length-map, get_or-take}
use Rattle.std.proofs.lemmas.Bool.{false≢true}
use Rattle.std.proofs.Math.Seq.{length-take-le}
use mathlib.Core.List.Memᴰ
use mathlib.Core.List.{List, [], ◌∷◌, Memᴰ}
use mathlib.Mathlib.Data.Bool.Basic.{dichotomy}
use Rattle.ledger.specs.Lists.{All, nil, more}
use Rattle.ledger.specs.Lookup.{scheme_place}
use Rattle.ledger.specs.Records.{no_scheme, no_party}
use Rattle.ledger.proofs.Theorems.Columns.{column_at}
use Rattle.ledger.proofs.Theorems.Lookup.{placed}
use Rattle.ledger.proofs.Theorems.Rising.{rise_each}
use Rattle.ledger.specs.SoundConditions.{SoundLedger}
use Rattle.ledger.proofs.Theorems.Sound.{cost_at_most, fees_at_most}
use Rattle.ledger.specs.declared.records.Scheme.{Scheme}
use Rattle.ledger.specs.declared.records.Party.{Party}
use Rattle.calls.specs.Carried.{State, entries_on}
use Rattle.stored.specs.Layout.{scheme_widths, scheme_values, party_widths, party_values}
use Rattle.stored.specs.Fit.{Fit}
use Rattle.stored.specs.FormFields.{FormFits}
use Rattle.kept_sound.specs.Kept.{Kept}

-- ---- a fact of each element, and by place
module _ {A : Type 0} {P : A → Type 0} where
  all_at : {xs : List A} → All P xs → (none : A) (i : ℕ) → i < length xs → P (get_or xs i none)
  all_at nil none i below = absurd (omega arith)
  all_at (more h hs) none zero below = h
  all_at (more h hs) none (suc i) below = all_at hs none i (omega arith)

  all_places : (xs : List A) (none : A) → ((i : ℕ) → i < length xs → P (get_or xs i none)) → All P xs
  all_places [] none each = nil
  all_places (x ∷ xs) none each = more (each 0 (omega arith)) (all_places xs none (λ i below. each (suc i) (omega arith)))

  of_all : {xs : List A} → All P xs → (x : A) → Memᴰ x xs → P x
  of_all nil x among = absurd (Memᴰ.not-nil among)
  of_all (more h hs) x among = ⊎_elim (λ same. subst P (sym same) h) (of_all hs x) (Memᴰ.cases_cons among)

-- ---- widths
abbrev SchemeFits : Scheme → Type 0
SchemeFits scheme = Fit (4 ∷ scheme_widths) (scheme.number ∷ scheme_values scheme)

abbrev PartyFits : Party → Type 0
PartyFits party = Fit (4 ∷ party_widths) (party.number ∷ party_values party)

no_scheme_fits : SchemeFits no_scheme
no_scheme_fits = (omega arith, (omega arith, (omega arith, (omega arith, (omega arith, (omega arith, (omega arith, tt)))))))

module _ (room : ℕ) (state : State) (kept : Kept room state) (facts : SoundLedger state.ledger state.table (length state.table)) where
  abbrev schemes : List Scheme
  schemes = take state.ledger.count state.ledger.schemes

  abbrev entries : List Party
  entries = entries_on state

  schemes_counted : length schemes ≡ state.ledger.count
  schemes_counted = length-take-le state.ledger.count state.ledger.schemes (omega (arith, facts.figures.schemes, kept.places))

  -- numbers stay below the next ones
  scheme_number : (k : ℕ) → k < length schemes → (get_or schemes k no_scheme).number < 65536
  scheme_number k below =
      let same : length (map (λ scheme. scheme.number) schemes) ≡ length schemes = length-map schemes (λ scheme. scheme.number) in
      let here = column_at (λ scheme. scheme.number) schemes k no_scheme (omega arith) in
      omega (
        arith,
        here,
        (rise_each state.ledger.next_scheme 0 (map (λ scheme. scheme.number) schemes) facts.numbers.schemes_in_order k (omega arith)).1,
        facts.numbers.next_scheme,
      )

  entry_number : (k : ℕ) → k < length entries → (get_or entries k no_party).number < 4294967296
  entry_number k below =
      let same : length (map (λ entry. entry.number) entries) ≡ length entries = length-map entries (λ entry. entry.number) in
      let here = column_at (λ entry. entry.number) entries k no_party (omega arith) in
      omega (
        arith,
        here,
        (rise_each state.ledger.next_entry 0 (map (λ entry. entry.number) entries) facts.numbers.entries_in_order k (omega arith)).1,
        facts.numbers.next_entry,
        facts.figures.connections,
      )

  -- an entry's scheme is one that stands
  entrys_scheme : (s : ℕ) → is_some (scheme_place s schemes) ≡ true → s < 65536
  entrys_scheme s stands = by (scheme_place s schemes) refl stands
    where
      by : (place : Option ℕ) → scheme_place s schemes ≡ place → is_some place ≡ true → s < 65536
      by (Some k) at some =
          let found = placed (λ scheme. scheme.number) schemes no_scheme s k at in
          omega (arith, found.1, scheme_number k found.0)
      by None at some = absurd (false≢true some)

  scheme_fits : (i : ℕ) → i < length state.ledger.schemes → SchemeFits (get_or state.ledger.schemes i no_scheme)
  scheme_fits i below =
      ⊎_elim (λ past. rw (facts.figures.rest_zero i (ltb-false _ _ past)) no_scheme_fits) (λ stands. opened (ltb-true _ _ stands))
      (dichotomy (ltb i state.ledger.count))
    where
      opened : i < state.ledger.count → SchemeFits (get_or state.ledger.schemes i no_scheme)
      opened stands =
          let here : get_or schemes i no_scheme ≡ get_or state.ledger.schemes i no_scheme = get_or-take state.ledger.count state.ledger.schemes i no_scheme stands in
          let within : i < length schemes = omega (arith, schemes_counted) in
          let scheme = facts.figures.each_scheme i within in
          let term : (get_or state.ledger.schemes i no_scheme).term < 65536 = all_at kept.terms no_scheme i below in
          subst SchemeFits here (
            omega (arith, scheme_number i within),
            (
              omega (arith, cost_at_most state.ledger state.table (length state.table) facts.figures i within),
              (
                omega (arith, scheme.fee, scheme.minimum),
                (
                  omega (arith, scheme.minimum),
                  (
                    omega (arith, scheme.opening, kept.month),
                    (
                      omega (arith, ap (λ (one : Scheme). one.term) here, term),
                      (omega (arith, fees_at_most state.ledger state.table (length state.table) facts.figures i within), tt),
                    ),
                  ),
                ),
              ),
            ),
          )

  party_fits : (i : ℕ) → i < length entries → PartyFits (get_or entries i no_party)
  party_fits i below =
      let party = facts.figures.each_party i below in (
        entry_number i below,
        (
          entrys_scheme (get_or entries i no_party).scheme party.stands,
          (
            all_at kept.persons no_party i below,
            (omega (arith, party.capacity), (omega (arith, party.put_in), (omega (arith, party.credited), (omega (arith, party.credited, party.paid_out), tt)))),
          ),
        ),
      )

  pub form_fits_of_kept : FormFits state.ledger state.table
  form_fits_of_kept =
      let figures = facts.figures in
      let numbers = facts.numbers in
      let entry : state.ledger.next_entry < 4294967296 = omega (arith, numbers.next_entry, figures.connections) in
      let collected : state.ledger.cleared_collected < 18446744073709551616 = omega (arith, numbers.cleared_limit, numbers.next_entry, figures.connections) in
      record {
        places = kept.places;
        head_fits = (
          kept.month,
          (
            omega (arith, figures.connections),
            (
              omega (arith, figures.connections, figures.charged),
              (
                omega (arith, figures.connections, figures.borne),
                (
                  omega (arith, numbers.next_scheme),
                  (entry, (collected, (omega (arith, numbers.cleared_account, collected), (omega (arith, numbers.cleared_account, collected), tt)))),
                ),
              ),
            ),
          ),
        );
        schemes_fit = of_all (all_places state.ledger.schemes no_scheme scheme_fits);
        parties_fit = of_all (all_places entries no_party party_fits);
      }
