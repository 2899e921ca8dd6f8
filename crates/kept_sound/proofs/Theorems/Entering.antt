-- One entry more, and what the earlier ones are credited, keep a ledger sound where each scheme's account stays balanced: what an entry was credited is
-- then at most what its scheme's entries put in.
use Rattle.std.specs.Prelude.{ℕ, ◌+◌, ◌*◌, ◌-◌, ◌<◌, ◌≤◌, ◌≡◌, refl, List, [], ◌∷◌, ◌++◌, map, Bool, true, false, ◌⊎◌, length, take, get_or, set, eqb, None, Option, Some, is_some}
use Rattle.std.proofs.Common.{sym, ap, ap₂, ◌∙◌, inl, inr, arith, length-take, length-set, eqb-true}
use Rattle.std.proofs.lemmas.List.{length-map, map-append}
use Rattle.std.proofs.lemmas.Bool.{eqb-false, false≢true}
use Rattle.field_values.specs.Limits.{highest_capacity}
use Rattle.charge.specs.BillLimits.{BillWithin}
use Rattle.charge.specs.declared.Bill.{Bill}
use Rattle.ledger.specs.Limits.{most_schemes, most_entries, highest_put_in, highest_credited, highest_next_scheme}
use Rattle.ledger.specs.Records.{no_scheme, no_party}
use Rattle.ledger.specs.Updates.{with_fees, with_entry}
use Rattle.ledger.specs.Columns.{scheme_column, put_in_column, credited_column, ones_column, sum_over, entries_of, first_put_in}
use Rattle.ledger.proofs.Theorems.Columns.{column_at, own_le_sum, sum_at_most, sum_none}
use Rattle.ledger.specs.Lookup.{scheme_place}
use Rattle.ledger.proofs.Theorems.Lookup.{placed}
use Rattle.ledger.proofs.Theorems.Rising.{rise_more}
use Rattle.ledger.specs.Sound.{rise_to}
use Rattle.ledger.specs.Table.{credited_more, credit_each}
use Rattle.ledger.proofs.Theorems.Table.{after_joining, length_credit_each, credit_each_numbers, joined_table, joined_earlier, joined_last, length_joined, first_joined, first_opened, own_grown, other_grown}
use Rattle.ledger.specs.SoundConditions.{SoundParty, SoundScheme}
use Rattle.ledger.specs.declared.records.Scheme.{Scheme}
use Rattle.ledger.specs.declared.records.Party.{Party}
use Rattle.calls.specs.Carried.{State, schemes_on, entries_on, new_party, new_scheme}
use Rattle.kept_sound.specs.SoundState.{SoundState, RoomFor}

pub same_or_other : (a b : ℕ) → (a ≡ b) ⊎ (a ≡ b → ⊥)
same_or_other a b = by (eqb a b) refl
  where
    by : (test : Bool) → eqb a b ≡ test → (a ≡ b) ⊎ (a ≡ b → ⊥)
    by true e = inl (eqb-true a b e)
    by false e = inr (eqb-false a b e)

pub some_same : {A : Type 0} {x y : A} → Some x ≡ Some y → x ≡ y
some_same e = cc

-- ---- one scheme

-- what a scheme's account reads of its entries
pub record SameFigures (s : ℕ) (parties later : List Party) : Type 0 where
  pub entries : entries_of s later ≡ entries_of s parties
  pub first : first_put_in s (scheme_column later) (put_in_column later) ≡ first_put_in s (scheme_column parties) (put_in_column parties)
  pub put_in : sum_over s (scheme_column later) (put_in_column later) ≡ sum_over s (scheme_column parties) (put_in_column parties)
  pub credited : sum_over s (scheme_column later) (credited_column later) ≡ sum_over s (scheme_column parties) (credited_column parties)

pub same_account : {month : ℕ} {parties later : List Party} {scheme : Scheme} → SameFigures scheme.number parties later → SoundScheme month parties scheme →
    SoundScheme month later scheme
same_account {scheme} same h =
    record {
      fee = h.fee;
      minimum = h.minimum;
      term = h.term;
      opening = h.opening;
      some_entry = omega (arith, h.some_entry, same.entries);
      first = same.first ∙ h.first;
      fees = h.fees ∙ ap (λ n. scheme.fee * (n - 1)) (sym same.entries);
      account = omega (arith, h.account, same.credited, same.put_in);
    }

-- one entry more: the entries before it, what each of them is credited, and the new one
pub record Addition : Type 0 where
  pub earlier : List Party
  pub amounts : List ℕ
  pub party : Party
  pub few : length amounts ≤ length earlier

abbrev pub after_addition : Addition → List Party
after_addition added = after_joining added.earlier added.amounts added.party

abbrev pub credited_in : ℕ → Addition → ℕ
credited_in s added = sum_over s (scheme_column added.earlier) added.amounts

-- another scheme: its account stays
pub other_scheme : (month : ℕ) (added : Addition) (scheme : Scheme) → (added.party.scheme ≡ scheme.number → ⊥) → credited_in scheme.number added ≡ 0 →
    SoundScheme month added.earlier scheme → SoundScheme month (after_addition added) scheme
other_scheme month added scheme other none h =
    let s = scheme.number in
    let grown = other_grown added.earlier added.amounts added.party s added.few other none in
    same_account
    (record {
      entries = omega (arith, grown.entries);
      first = first_joined added.earlier added.amounts added.party s h.some_entry;
      put_in = omega (arith, grown.put_in);
      credited = omega (arith, grown.credited);
    })
    h

-- the new entry is of this scheme: what it put in is collected, of which the fee is taken and the rest credited
pub record Contributes (added : Addition) (scheme : Scheme) (fee : ℕ) : Type 0 where
  pub due : fee ≡ scheme.fee
  pub own : added.party.scheme ≡ scheme.number
  pub uncredited : added.party.credited ≡ 0
  pub shared : credited_in scheme.number added + fee ≡ added.party.put_in

pub joined_scheme : (month : ℕ) (added : Addition) (scheme : Scheme) (fee : ℕ) → Contributes added scheme fee →
    SoundScheme month added.earlier scheme → SoundScheme month (after_addition added) (with_fees (scheme.fees + fee) scheme)
joined_scheme month added scheme fee by h =
    let s = scheme.number in
    let grown = own_grown added.earlier added.amounts added.party s added.few by.own in
    let joinings : entries_of s (after_addition added) - 1 ≡ (entries_of s added.earlier - 1) + 1 =
    omega (arith, grown.entries, h.some_entry) in
    record {
      fee = h.fee;
      minimum = h.minimum;
      term = h.term;
      opening = h.opening;
      some_entry = omega (arith, grown.entries);
      first = first_joined added.earlier added.amounts added.party s h.some_entry ∙ h.first;
      fees = omega (arith, by.due, h.fees, ap (λ n. scheme.fee * n) joinings);
      account = omega (arith, by.shared, by.uncredited, h.account, grown.credited, grown.put_in);
    }

-- the scheme opened: its one entry put in its cost
pub opened_scheme : (month s e : ℕ) (parties : List Party) (bill : Bill) → BillWithin bill → bill.applicant.month ≤ month →
    ((e : ℕ) → e < length parties → (get_or parties e no_party).scheme ≡ s → ⊥) →
    SoundScheme month (after_joining parties [] (new_party e s bill bill.reconciliation.x)) (new_scheme s bill)
opened_scheme month s e parties bill within passed none =
    let party = new_party e s bill bill.reconciliation.x in
    let no_sum : (figures : List ℕ) → sum_over s (scheme_column parties) figures ≡ 0 =
    λ figures.
    sum_none s (scheme_column parties) figures
    (λ e below same.
    absurd
    (none e (omega (arith, length-map parties (λ entry. entry.scheme))) (sym (column_at (λ entry. entry.scheme) parties e no_party below) ∙ same))) in
    let grown = own_grown parties [] party s (omega arith) refl in
    let entries : entries_of s (after_joining parties [] party) ≡ 1 = omega (arith, grown.entries, no_sum (ones_column parties)) in
    record {
      fee = within.fee;
      minimum = within.minimum;
      term = within.term;
      opening = passed;
      some_entry = omega arith;
      first = first_opened parties [] party s refl (no_sum (ones_column parties));
      fees = omega (arith, ap (λ n. bill.terms.fee * (n - 1)) entries);
      account =
          omega (arith, grown.credited, grown.put_in, no_sum (credited_column parties), no_sum (put_in_column parties), no_sum []);
    }

-- ---- the ledger with one entry more
pub new_party_sound : (schemes : List Scheme) (e s : ℕ) (bill : Bill) (put_in_given : ℕ) → BillWithin bill → is_some (scheme_place s schemes) ≡ true →
    put_in_given ≤ highest_put_in → SoundParty schemes (new_party e s bill put_in_given)
new_party_sound schemes e s bill put_in_given within stands put_in =
    record {
      stands = stands;
      some_capacity = within.some_capacity;
      capacity = within.capacity;
      put_in = put_in;
      credited = omega arith;
      paid_out = omega arith;
    }

-- its schemes after that, what the earlier entries are credited, and the new entry
pub record NewEntry : Type 0 where
  pub next_scheme : ℕ
  pub count : ℕ
  pub schemes : List Scheme
  pub amounts : List ℕ
  pub party : Party

-- the ledger's entries with it, and the schemes that stand then
abbrev pub entries_with : State → NewEntry → List Party
entries_with state new = after_joining (entries_on state) new.amounts new.party

abbrev pub standing : NewEntry → List Scheme
standing new = take new.count new.schemes

abbrev pub state_with : State → NewEntry → State
state_with state new =
    record {
      ledger = with_entry (record state.ledger { next_scheme = new.next_scheme; count = new.count; schemes = new.schemes });
      table = set (credit_each state.table new.amounts) state.ledger.entries new.party;
    }

pub record Enters (state : State) (new : NewEntry) : Type 0 where
  pub before : SoundState state
  pub room : RoomFor 1 state
  pub limit : new.count ≤ most_schemes
  pub schemes_in_order : rise_to new.next_scheme 0 (map (λ scheme. scheme.number) (standing new)) ≡ true
  pub next_scheme : new.next_scheme ≤ highest_next_scheme
  -- what stood still stands
  pub grown : (s : ℕ) → is_some (scheme_place s (schemes_on state)) ≡ true → is_some (scheme_place s (standing new)) ≡ true
  pub numbered : new.party.number ≡ state.ledger.next_entry
  pub new_party_stands : SoundParty (standing new) new.party
  pub each_scheme : (k : ℕ) → k < length (standing new) → SoundScheme state.ledger.month (entries_with state new) (get_or (standing new) k no_scheme)
  pub rest_zero : (i : ℕ) → new.count ≤ i → get_or new.schemes i no_scheme ≡ no_scheme

module _ (state : State) (new : NewEntry) (h : Enters state new) where
  abbrev earlier : List Party
  earlier = entries_on state

  abbrev later : List Party
  later = entries_with state new

  -- what holds of each earlier entry with its credit, and of the new one
  at_each : (P : Party → Type 0) →
      ((e : ℕ) → SoundParty (schemes_on state) (get_or earlier e no_party) → P (credited_more (get_or earlier e no_party) (get_or new.amounts e 0))) →
      P new.party → (e : ℕ) → e < length later → P (get_or later e no_party)
  at_each P of_earlier of_new e below = by (same_or_other (length earlier) e)
    where
      by : (length earlier ≡ e) ⊎ (length earlier ≡ e → ⊥) → P (get_or later e no_party)
      by (inl same) = rw (sym same, joined_last earlier new.amounts new.party) of_new
      by (inr other) =
          let within : e < length earlier = omega (arith, length_joined earlier new.amounts new.party) in
          rw (joined_earlier earlier new.amounts new.party e within) (of_earlier e (h.before.figures.each_party e within))

  put_in_within : (e : ℕ) → e < length later → (get_or later e no_party).put_in ≤ highest_put_in
  put_in_within = at_each (λ entry. entry.put_in ≤ highest_put_in) (λ e sound. sound.put_in) h.new_party_stands.put_in

  -- a scheme's entries were credited at most what they put in
  credited_within : (e : ℕ) → e < length later → is_some (scheme_place (get_or later e no_party).scheme (standing new)) ≡ true →
      (get_or later e no_party).credited ≤ highest_credited
  credited_within e below stands = by (scheme_place (get_or later e no_party).scheme (standing new)) refl stands
    where
      by : (at : Option ℕ) → scheme_place (get_or later e no_party).scheme (standing new) ≡ at → is_some at ≡ true → (get_or later e no_party).credited ≤ highest_credited
      by None at stands = absurd (false≢true stands)
      by (Some k) at stands =
          let s : ℕ = (get_or later e no_party).scheme in
          let found = placed (λ scheme. scheme.number) (standing new) no_scheme s k at in
          let numbers : length (scheme_column later) ≡ length later = length-map later (λ entry. entry.scheme) in
          let puts : length (put_in_column later) ≡ length later = length-map later (λ entry. entry.put_in) in
          let credits : length (credited_column later) ≡ length later = length-map later (λ entry. entry.credited) in
          let few : length later ≤ most_entries =
          omega (arith, h.room.limit, length_joined earlier new.amounts new.party, length-take state.ledger.entries state.table) in
          let account : sum_over s (scheme_column later) (credited_column later) ≤ sum_over s (scheme_column later) (put_in_column later) =
          rw (sym found.1) (omega (arith, (h.each_scheme k found.0).account)) in
          omega (
            arith,
            account,
            own_le_sum s (scheme_column later) (credited_column later) e (omega arith) (column_at (λ entry. entry.scheme) later e no_party (omega arith)),
            column_at (λ entry. entry.credited) later e no_party (omega arith),
            sum_at_most s highest_put_in (scheme_column later) (put_in_column later)
                (λ i within. rw (column_at (λ entry. entry.put_in) later i no_party within) (put_in_within i (omega arith))),
          )

  each_later : (e : ℕ) → e < length later → SoundParty (standing new) (get_or later e no_party)
  each_later e below =
      let stands : is_some (scheme_place (get_or later e no_party).scheme (standing new)) ≡ true =
      at_each (λ entry. is_some (scheme_place entry.scheme (standing new)) ≡ true)
      (λ e sound. h.grown (get_or earlier e no_party).scheme sound.stands) h.new_party_stands.stands e below in
      record {
        stands = stands;
        some_capacity = at_each (λ entry. 1 ≤ entry.capacity) (λ e sound. sound.some_capacity) h.new_party_stands.some_capacity e below;
        capacity = at_each (λ entry. entry.capacity ≤ highest_capacity) (λ e sound. sound.capacity) h.new_party_stands.capacity e below;
        put_in = put_in_within e below;
        credited = credited_within e below stands;
        paid_out = at_each (λ entry. entry.paid_out ≤ entry.credited) (λ e sound. omega (arith, sound.paid_out)) h.new_party_stands.paid_out e below;
      }

  -- the new entry has the next number
  numbers_later : map (λ entry. entry.number) later ≡ map (λ entry. entry.number) earlier ++ (state.ledger.next_entry ∷ [])
  numbers_later =
      map-append (λ entry. entry.number) (credit_each earlier new.amounts) (new.party ∷ [])
      ∙ ap₂ (λ (numbers : List ℕ) (number : ℕ). numbers ++ (number ∷ [])) (credit_each_numbers earlier new.amounts) h.numbered

  pub entering_keeps_sound : SoundState (state_with state new)
  entering_keeps_sound =
      let now : entries_on (state_with state new) ≡ later = joined_table state.table new.amounts state.ledger.entries new.party (omega (arith, h.room.in_table)) in
      let numbers = h.before.numbers in
      record {
        figures =
            record {
              schemes = h.limit;
              entries = h.room.limit;
              in_table =
                  omega (
                    arith,
                    h.room.in_table,
                    length-set (credit_each state.table new.amounts) state.ledger.entries new.party,
                    length_credit_each state.table new.amounts,
                  );
              connections = h.before.figures.connections;
              charged = h.before.figures.charged;
              borne = h.before.figures.borne;
              each_party = rw now each_later;
              each_scheme = λ k below. rw now (h.each_scheme k below);
              rest_zero = h.rest_zero;
            };
        numbers =
            record {
              schemes_in_order = h.schemes_in_order;
              entries_in_order =
                  rw (now, numbers_later)
                  (rise_more state.ledger.next_entry (state.ledger.next_entry + 1) 0 (map (λ entry. entry.number) earlier) (omega arith) numbers.entries_in_order);
              next_scheme = h.next_scheme;
              next_entry = h.room.numbers;
              cleared_account = numbers.cleared_account;
              cleared_limit =
                  let same : state.ledger.next_entry + 1 - 1 - (state.ledger.entries + 1) ≡ state.ledger.next_entry - 1 - state.ledger.entries = omega arith in
                  rw same numbers.cleared_limit;
            };
      }
