-- A change of one entry's person, or of what it was paid out up to its credit, keeps a sound ledger sound: no scheme's account reads these.
use Rattle.std.specs.Prelude.{ℕ, ◌+◌, ◌<◌, ◌≤◌, ◌≡◌, refl, List, map, cond, ◌⊎◌, length, take, get_or, set, eqb, Some}
use Rattle.std.proofs.Common.{sym, subst, inl, inr, arith, length-set, length-take, get_or-set_same, get_or-set_other, get_or-take}
use Rattle.std.proofs.Math.Seq.{map-set_same, take-set-lt}
use Rattle.ledger.specs.Lists.{at_start}
use Rattle.ledger.specs.Records.{no_party}
use Rattle.ledger.specs.Updates.{with_person, with_paid_out}
use Rattle.ledger.specs.EntryPlace.{entry_place}
use Rattle.ledger.proofs.Theorems.Lookup.{placed}
use Rattle.ledger.specs.declared.records.Scheme.{Scheme}
use Rattle.ledger.specs.Columns.{scheme_column, put_in_column, credited_column, ones_column}
use Rattle.ledger.specs.SoundConditions.{SoundParty}
use Rattle.ledger.specs.declared.records.Party.{Party}
use Rattle.calls.specs.Carried.{State, schemes_on, entries_on}
use Rattle.calls.proofs.Theorems.ByPlace.{change_at_start}
use Rattle.kept_sound.specs.SoundState.{SoundState}
use Rattle.kept_sound.proofs.Theorems.Entering.{same_or_other, SameFigures, same_account}

-- a record that has the entry's scheme, put in and credited, and is as sound as the entry
pub record Alike (schemes : List Scheme) (old new : Party) : Type 0 where
  pub number : new.number ≡ old.number
  pub scheme : new.scheme ≡ old.scheme
  pub put_in : new.put_in ≡ old.put_in
  pub credited : new.credited ≡ old.credited
  pub sound : SoundParty schemes old → SoundParty schemes new

-- another person, and another sum paid out, up to what is credited
changed_alike : (schemes : List Scheme) (party : Party) (person paid_out : ℕ) → (SoundParty schemes party → paid_out ≤ party.credited) →
    Alike schemes party (with_person person (with_paid_out paid_out party))
changed_alike schemes party person paid_out within =
    record {
      number = refl;
      scheme = refl;
      put_in = refl;
      credited = refl;
      sound =
          λ h.
          record {
            stands = h.stands;
            some_capacity = h.some_capacity;
            capacity = h.capacity;
            put_in = h.put_in;
            credited = h.credited;
            paid_out = within h;
          };
    }

pub paid_alike : (schemes : List Scheme) (party : Party) (amount : ℕ) → party.paid_out + amount ≤ party.credited →
    Alike schemes party (with_paid_out (party.paid_out + amount) party)
paid_alike schemes party amount within = changed_alike schemes party party.person (party.paid_out + amount) (λ h. within)

pub handed_alike : (schemes : List Scheme) (party : Party) (person : ℕ) → Alike schemes party (with_person person party)
handed_alike schemes party person = changed_alike schemes party person party.paid_out (λ h. h.paid_out)

-- a scheme's account is over these columns alone
same_columns : {s : ℕ} {parties later : List Party} → scheme_column later ≡ scheme_column parties → put_in_column later ≡ put_in_column parties →
    credited_column later ≡ credited_column parties → ones_column later ≡ ones_column parties → SameFigures s parties later
same_columns numbers put_in credited ones =
    record { entries = rw (numbers, ones); first = rw (numbers, put_in); put_in = rw (numbers, put_in); credited = rw (numbers, credited) }

module _ (state : State) (place : ℕ) (party : Party) (there : place < state.ledger.entries)
    (alike : Alike (schemes_on state) (get_or state.table place no_party) party) (h : SoundState state) where
  abbrev entries : List Party
  entries = entries_on state

  same_place : get_or entries place no_party ≡ get_or state.table place no_party
  same_place = get_or-take state.ledger.entries state.table place no_party there

  each_party_kept : (i : ℕ) → i < length (set entries place party) → SoundParty (schemes_on state) (get_or (set entries place party) i no_party)
  each_party_kept i below =
      let within : i < length entries = omega (arith, length-set entries place party) in
      by within (same_or_other place i)
    where
      by : i < length entries → (place ≡ i) ⊎ (place ≡ i → ⊥) → SoundParty (schemes_on state) (get_or (set entries place party) i no_party)
      by within (inl same) =
          let told : SoundParty (schemes_on state) (get_or entries place no_party) = h.figures.each_party place (omega arith) in
          rw (sym same, get_or-set_same entries place party no_party (omega arith)) (alike.sound (rw same_place at told))
      by within (inr other) = rw (get_or-set_other entries place i party no_party (λ same. other (sym same))) (h.figures.each_party i within)

  replaced_keeps_sound : SoundState (record { ledger = state.ledger; table = set state.table place party })
  replaced_keeps_sound =
      let now : take state.ledger.entries (set state.table place party) ≡ set entries place party =
      take-set-lt state.ledger.entries state.table place party there in
      let numbers = h.numbers in
      record {
        figures =
            record {
              schemes = h.figures.schemes;
              entries = h.figures.entries;
              in_table = omega (arith, h.figures.in_table, length-set state.table place party);
              connections = h.figures.connections;
              charged = h.figures.charged;
              borne = h.figures.borne;
              each_party = rw now each_party_kept;
              each_scheme =
                  λ k below.
                  rw now
                  (same_account
                  (same_columns (map-set_same (λ p. p.scheme) entries place party no_party (rw same_place alike.scheme))
                  (map-set_same (λ p. p.put_in) entries place party no_party (rw same_place alike.put_in))
                  (map-set_same (λ p. p.credited) entries place party no_party (rw same_place alike.credited))
                  (map-set_same (λ p. 1) entries place party no_party (refl {a = 1})))
                  (h.figures.each_scheme k below));
              rest_zero = h.figures.rest_zero;
            };
        numbers =
            record {
              schemes_in_order = numbers.schemes_in_order;
              entries_in_order =
                  rw (now, map-set_same (λ p. p.number) entries place party no_party (rw same_place alike.number)) numbers.entries_in_order;
              next_scheme = numbers.next_scheme;
              next_entry = numbers.next_entry;
              cleared_account = numbers.cleared_account;
              cleared_limit = numbers.cleared_limit;
            };
      }

-- the entry with number e changed
pub changed_keeps_sound : (state : State) (change : Party → Party) (e k : ℕ) → entry_place e (entries_on state) ≡ Some k →
    Alike (schemes_on state) (get_or (entries_on state) k no_party) (change (get_or (entries_on state) k no_party)) → SoundState state →
    SoundState (record state { table = at_start (map (λ party. cond (eqb e party.number) (change party) party) (entries_on state)) state.table })
changed_keeps_sound state change e k at alike h =
    let there : k < state.ledger.entries =
    omega (arith, (placed (λ entry. entry.number) (entries_on state) no_party e k at).0, length-take state.ledger.entries state.table) in
    let told =
    change_at_start (λ entry. entry.number) change state.ledger.next_entry e k state.ledger.entries state.table no_party h.numbers.entries_in_order at in
    subst (λ table. SoundState (record { ledger = state.ledger; table = table })) (sym told)
    (replaced_keeps_sound state k (change (get_or state.table k no_party)) there
    (subst (λ party. Alike (schemes_on state) party (change party)) (get_or-take state.ledger.entries state.table k no_party there) alike) h)
