-- Which schemes go: by what is said of each place, and by number.
use Rattle.std.specs.Prelude.{ℕ, suc, ◌+◌, ◌<◌, ◌≤◌, ◌≡◌, refl, List, [], ◌∷◌, map, filter, Bool, true, false, cond, ◌&&◌, length, take, get_or, set, eqb, None, Option, Some}
use Rattle.std.specs.List.{list_all}
use Rattle.std.proofs.Common.{sym, ap, subst, ◌∙◌, arith, not-suc-le-zero, le_of_suc-le-suc, add-one, length-take-le, get_or-take, eq-eqb, ne_eqb, eqb-true}
use Rattle.std.proofs.lemmas.Bool.{eqb-false}
use Rattle.std.proofs.lemmas.List.{length-set, get_or-set_same, get_or-set_other}
use Rattle.std.proofs.lemmas.Option.{none-some}
use Rattle.std.proofs.Math.Seq.{take-suc}
use Rattle.std.proofs.lemmas.List.Folds.{list_all-append, list_all-map}
use Rattle.ledger.specs.Limits.{most_schemes}
use Rattle.ledger.specs.Records.{no_scheme, no_party}
use Rattle.ledger.specs.RefusalNumbers.{one_of}
use Rattle.ledger.specs.Books.{entry_particulars, scheme_particulars, books_of, of_scheme}
use Rattle.ledger.specs.Lookup.{place_of, scheme_place}
use Rattle.ledger.specs.Sound.{rise_to}
use Rattle.ledger.specs.Tallied.{OwnPlaces}
use Rattle.ledger.proofs.Theorems.Lookup.{next_place, place_cons, placed, own_places}
use Rattle.ledger.proofs.Theorems.Rising.{rise_first, rise_later, rise_weaker}
use Rattle.ledger.specs.declared.records.Scheme.{Scheme}
use Rattle.ledger.specs.declared.records.Party.{Party}
use Rattle.ledger.specs.declared.records.Ledger.{Ledger}
use Rattle.calls.specs.Decision.{goes}
use Rattle.calls.specs.Carried.{parties_on}
use Rattle.calls.proofs.Theorems.Lists.{by_test, cons_if, filter_append, filter_map_lem}
use Rattle.clearing.specs.Clearing.{ended_by, settled, gone_numbers}
use Rattle.clearing.proofs.Theorems.ClearingIsCall.{gone_is}

-- ---- by number

-- what is said of a number's place
abbrev pub said_at : List Bool → Option ℕ → Bool
said_at going None = false
said_at going (Some k) = get_or going k false

said_next : (said : Bool) (going : List Bool) (at : Option ℕ) → said_at (said ∷ going) (next_place at) ≡ said_at going at
said_next said going None = refl
said_next said going (Some k) = refl

-- later numbers are others
none_gone : (next n : ℕ) (going : List Bool) (schemes : List Scheme) → rise_to next n (map (λ scheme. scheme.number) schemes) ≡ true →
    one_of (gone_numbers going schemes) n ≡ false
none_gone next n [] schemes rise = refl
none_gone next n (said ∷ going) [] rise = refl
none_gone next n (said ∷ going) (scheme ∷ schemes) rise =
    let numbers : List ℕ = map (λ scheme. scheme.number) schemes in
    let first : n < scheme.number = rise_first next n scheme.number numbers rise in
    let later = rise_weaker next n scheme.number numbers (omega arith) (rise_later next n scheme.number numbers rise) in
    by said first (none_gone next n going schemes later)
  where
    by : (said : Bool) → n < scheme.number → one_of (gone_numbers going schemes) n ≡ false →
        one_of (cond said (scheme.number ∷ gone_numbers going schemes) (gone_numbers going schemes)) n ≡ false
    by true first none = rw (ne_eqb n scheme.number (λ same. omega (arith, same, first))) none
    by false first none = none

pub said_by_number : (next before n : ℕ) (going : List Bool) (schemes : List Scheme) → rise_to next before (map (λ scheme. scheme.number) schemes) ≡ true →
    length schemes ≤ length going → said_at going (scheme_place n schemes) ≡ one_of (gone_numbers going schemes) n
unfolding place_of
said_by_number next before n [] [] rise fits = refl
said_by_number next before n [] (scheme ∷ schemes) rise fits = absurd (not-suc-le-zero fits)
said_by_number next before n (said ∷ going) [] rise fits = refl
said_by_number next before n (said ∷ going) (scheme ∷ schemes) rise fits =
    let later = rise_later next before scheme.number (map (λ scheme. scheme.number) schemes) rise in
    rw (place_cons (λ scheme. scheme.number) n scheme schemes)
    (by (eqb scheme.number n) refl said later (said_by_number next scheme.number n going schemes later (le_of_suc-le-suc fits)))
  where
    by : (own : Bool) → eqb scheme.number n ≡ own → (said : Bool) → rise_to next scheme.number (map (λ scheme. scheme.number) schemes) ≡ true →
        said_at going (scheme_place n schemes) ≡ one_of (gone_numbers going schemes) n →
        said_at (said ∷ going) (cond own (Some 0) (next_place (scheme_place n schemes)))
        ≡ one_of (cond said (scheme.number ∷ gone_numbers going schemes) (gone_numbers going schemes)) n
    by true own true later told = rw (eq-eqb n scheme.number (sym (eqb-true _ _ own))) refl
    by true own false later told =
        sym (subst (λ m. one_of (gone_numbers going schemes) m ≡ false) (eqb-true _ _ own) (none_gone next scheme.number going schemes later))
    by false own true later told =
        rw (ne_eqb n scheme.number (λ same. eqb-false _ _ own (sym same))) (said_next true going (scheme_place n schemes) ∙ told)
    by false own false later told = said_next false going (scheme_place n schemes) ∙ told

pub placed_below : (n k : ℕ) (schemes : List Scheme) → scheme_place n schemes ≡ Some k → k < length schemes
placed_below n k schemes at = (placed (λ scheme. scheme.number) schemes no_scheme n k at).0

-- what is said of a scheme's place is whether it goes
pub said_here : (next count k : ℕ) (going : List Bool) (schemes : List Scheme) → rise_to next 0 (map (λ scheme. scheme.number) (take count schemes)) ≡ true →
    count ≤ length going → count ≤ length schemes → k < count →
    get_or going k false ≡ one_of (gone_numbers going (take count schemes)) (get_or schemes k no_scheme).number
said_here next count k going schemes rise fits all below =
    let many : length (take count schemes) ≡ count = length-take-le count schemes all in
    let same : get_or (take count schemes) k no_scheme ≡ get_or schemes k no_scheme = get_or-take count schemes k no_scheme below in
    ap (said_at going) (sym (own_places next (take count schemes) rise k (omega arith)))
    ∙ said_by_number next 0 (get_or (take count schemes) k no_scheme).number going (take count schemes) rise (omega arith)
    ∙ ap (λ (scheme : Scheme). one_of (gone_numbers going (take count schemes)) scheme.number) same

-- ---- by place
numbers_of : (goes_here : Scheme → Bool) (going : List Bool) (schemes : List Scheme) → length schemes ≤ length going →
    ((k : ℕ) → k < length schemes → get_or going k false ≡ goes_here (get_or schemes k no_scheme)) →
    gone_numbers going schemes ≡ map (λ scheme. scheme.number) (filter goes_here schemes)
numbers_of goes_here [] [] fits said = refl
numbers_of goes_here [] (scheme ∷ schemes) fits said = absurd (not-suc-le-zero fits)
numbers_of goes_here (here ∷ going) [] fits said = refl
numbers_of goes_here (here ∷ going) (scheme ∷ schemes) fits said =
    rw (said 0 (omega arith)) (by (goes_here scheme) (numbers_of goes_here going schemes (le_of_suc-le-suc fits) (λ k below. said (suc k) (omega arith))))
  where
    by : (t : Bool) → gone_numbers going schemes ≡ map (λ scheme. scheme.number) (filter goes_here schemes) →
        cond t (scheme.number ∷ gone_numbers going schemes) (gone_numbers going schemes)
        ≡ map (λ scheme. scheme.number) (cons_if t scheme (filter goes_here schemes))
    by true later = ap (λ numbers. scheme.number ∷ numbers) later
    by false later = later

settled_rows : (s : ℕ) (entries : List Party) → list_all (λ row. eqb row.credited row.paid_out) (of_scheme s (map entry_particulars entries)) ≡ settled s entries
settled_rows s entries =
    ap (list_all (λ row. eqb row.credited row.paid_out)) (filter_map_lem (λ row. eqb row.scheme s) entry_particulars entries)
    ∙ list_all-map (λ row. eqb row.credited row.paid_out) entry_particulars (parties_on s entries)

pub going_is : (ledger : Ledger) (table : List Party) (month : ℕ) (going : List Bool) → length (take ledger.count ledger.schemes) ≤ length going →
    ((k : ℕ) → k < length (take ledger.count ledger.schemes) →
    get_or going k false ≡
    (ended_by month (get_or (take ledger.count ledger.schemes) k no_scheme)
    && settled (get_or (take ledger.count ledger.schemes) k no_scheme).number (take ledger.entries table))) →
    gone_numbers going (take ledger.count ledger.schemes) ≡
    map (λ row. row.number) (filter (goes (books_of ledger table) month) (books_of ledger table).schemes)
going_is ledger table month going fits said =
    let schemes : List Scheme = take ledger.count ledger.schemes in
    let entries : List Party = take ledger.entries table in
    numbers_of (λ scheme. goes (books_of ledger table) month (scheme_particulars scheme)) going schemes fits
    (λ k below.
    said k below
    ∙ ap (λ t. ended_by month (get_or schemes k no_scheme) && t) (sym (settled_rows (get_or schemes k no_scheme).number entries)))
    ∙ sym (gone_is ledger table month)

-- ---- one entry more
settled_more : (s : ℕ) (entries : List Party) (i : ℕ) → i < length entries →
    let entry = get_or entries i no_party in
    settled s (take (i + 1) entries) ≡ (settled s (take i entries) && cond (eqb entry.scheme s) (eqb entry.credited entry.paid_out) true)
settled_more s entries i below =
    let entry : Party = get_or entries i no_party in
    rw (add-one, take-suc entries i no_party below)
    (ap (list_all (λ entry. eqb entry.credited entry.paid_out)) (filter_append (λ entry. eqb entry.scheme s) (take i entries) (entry ∷ []))
    ∙ list_all-append (λ entry. eqb entry.credited entry.paid_out) (parties_on s (take i entries)) (cons_if (eqb entry.scheme s) entry [])
    ∙ ap (λ t. settled s (take i entries) && t) (one (eqb entry.scheme s) (eqb entry.credited entry.paid_out) entry refl))
  where
    one : (own : Bool) (t : Bool) (entry : Party) → eqb entry.credited entry.paid_out ≡ t →
        list_all (λ entry. eqb entry.credited entry.paid_out) (cons_if own entry []) ≡ cond own t true
    one true true entry e = rw e refl
    one true false entry e = rw e refl
    one false t entry e = refl

-- what is said of each place, after these entries
pub record Owing (old : List Bool) (schemes : List Scheme) (entries : List Party) (going : List Bool) : Type 0 where
  pub places : length going ≡ most_schemes
  pub said : (k : ℕ) → k < length schemes → get_or going k false ≡ (get_or old k false && settled (get_or schemes k no_scheme).number entries)

and_true : (b : Bool) → (b && true) ≡ b
and_true true = refl
and_true false = refl

and_false : (b : Bool) → (b && false) ≡ false
and_false true = refl
and_false false = refl

abbrev entry_at : List Party → ℕ → Party
entry_at entries i = get_or entries i no_party

abbrev number_at : List Scheme → ℕ → ℕ
number_at schemes k = (get_or schemes k no_scheme).number

module _ {old going : List Bool} {schemes : List Scheme} (entries : List Party) (i : ℕ) (own : OwnPlaces schemes) (fits : length schemes ≤ most_schemes)
    (before : Owing old schemes (take i entries) going) (within : i < length entries) where
  -- one that says nothing against the scheme at a place
  same : (k : ℕ) → k < length schemes → cond (eqb (entry_at entries i).scheme (number_at schemes k)) (eqb (entry_at entries i).credited (entry_at entries i).paid_out) true ≡ true →
      get_or going k false ≡ (get_or old k false && settled (number_at schemes k) (take (i + 1) entries))
  same k below says =
      before.said k below
      ∙ ap (λ t. get_or old k false && t)
      (sym (settled_more (number_at schemes k) entries i within ∙ ap (λ t. settled (number_at schemes k) (take i entries) && t) says ∙ and_true (settled (number_at schemes k) (take i entries))))

  pub paid_up : (entry_at entries i).credited ≡ (entry_at entries i).paid_out → Owing old schemes (take (i + 1) entries) going
  paid_up paid =
      record {
        places = before.places;
        said =
            λ k below.
            same k below
            (rw (eq-eqb (entry_at entries i).credited (entry_at entries i).paid_out paid) (either (eqb (entry_at entries i).scheme (number_at schemes k))));
      }
    where
      either : (t : Bool) → cond t true true ≡ true
      either true = refl
      either false = refl

  other_place : (k : ℕ) → ((entry_at entries i).scheme ≡ number_at schemes k → ⊥) → cond (eqb (entry_at entries i).scheme (number_at schemes k)) (eqb (entry_at entries i).credited (entry_at entries i).paid_out) true ≡ true
  other_place k other = rw (ne_eqb (entry_at entries i).scheme (number_at schemes k) other) refl

  pub nowhere : scheme_place (entry_at entries i).scheme schemes ≡ None → Owing old schemes (take (i + 1) entries) going
  nowhere none =
      record {
        places = before.places;
        said =
            λ k below.
            same k below (other_place k (λ its. none-some k (sym none ∙ ap (λ n. scheme_place n schemes) its ∙ own k below)));
      }

  some_same : {m n : ℕ} → Some m ≡ Some n → m ≡ n
  some_same e = cc

  pub owed : (at : ℕ) → scheme_place (entry_at entries i).scheme schemes ≡ Some at → ((entry_at entries i).credited ≡ (entry_at entries i).paid_out → ⊥) →
      Owing old schemes (take (i + 1) entries) (set going at false)
  owed at place owing = record { places = length-set going at false ∙ before.places; said = lost }
    where
      lost : (k : ℕ) → k < length schemes → get_or (set going at false) k false ≡ (get_or old k false && settled (number_at schemes k) (take (i + 1) entries))
      lost k below =
          by_test (eqb (entry_at entries i).scheme (number_at schemes k))
          (λ its.
          let is : (entry_at entries i).scheme ≡ number_at schemes k = eqb-true _ _ its in
          let here : at ≡ k = some_same (sym place ∙ ap (λ n. scheme_place n schemes) is ∙ own k below) in
          let not_settled : settled (number_at schemes k) (take (i + 1) entries) ≡ false =
          settled_more (number_at schemes k) entries i within
          ∙ ap (λ t. settled (number_at schemes k) (take i entries) && t)
          (rw (its, ne_eqb (entry_at entries i).credited (entry_at entries i).paid_out owing) refl)
          ∙ and_false (settled (number_at schemes k) (take i entries)) in
          ap (λ (j : ℕ). get_or (set going j false) k false) here
          ∙ get_or-set_same going k false false (omega (arith, fits, before.places, below))
          ∙ sym (ap (λ t. get_or old k false && t) not_settled ∙ and_false (get_or old k false)))
          (λ not_its.
          let other : (entry_at entries i).scheme ≡ number_at schemes k → ⊥ = eqb-false _ _ not_its in
          let its : number_at schemes at ≡ (entry_at entries i).scheme =
          (placed (λ scheme. scheme.number) schemes no_scheme (entry_at entries i).scheme at place).1 in
          get_or-set_other going at k false false (λ same_place. other (sym its ∙ ap (number_at schemes) (sym same_place)))
          ∙ same k below (other_place k other))

-- ---- one place more
pub said_more : (going : List Bool) (k : ℕ) (here : Bool) (test : ℕ → Bool) → k < length going → ((j : ℕ) → j < k → get_or going j false ≡ test j) →
    here ≡ test k → (j : ℕ) → j < k + 1 → get_or (set going k here) j false ≡ test j
said_more going k here test within before is j below =
    by_test (eqb j k)
    (λ same.
    let at : j ≡ k = eqb-true _ _ same in
    rw at (get_or-set_same going k here false within ∙ is))
    (λ other.
    let apart : j ≡ k → ⊥ = eqb-false _ _ other in
    get_or-set_other going k j here false apart ∙ before j (omega (arith, apart)))
