-- What the rules find in the books of a sound history: a scheme's row is its opening's, an entry's row is its entering's, and a number names one entry.
use Rattle.std.specs.Prelude.{ℕ, ◌≤◌, ◌<◌, ◌≡◌, refl, List, [], ◌∷◌, map, Bool, true, cond, length, eqb, Some, filter}
use Rattle.std.proofs.Common.{sym, ap, ◌∙◌, subst, arith, eqb-true, eq-eqb, ne_eqb}
use Rattle.std.proofs.lemmas.Simd.{map-map}
use Rattle.tagged.proofs.Theorems.Impossible.{impossible}
use Rattle.ledger.specs.Lists.{oldest_first, All, nil, more}
use Rattle.ledger.specs.Books.{SchemeParticulars, EntryParticulars, scheme_at, entry_at, of_scheme}
use Rattle.calls.specs.Rules.{holding, parties_of}
use Rattle.calls.proofs.Theorems.Lists.{filter_swap, filter_none, first, find_first, filter_rows, map_same, all_map, all_filter, all_kept, all_of_kept, all_in_order, head_of, cons_if}
use Rattle.history.specs.History.{Entering, History, account_of, enterings_of, cost, fee, openings, scheme_particulars_in, entry_particulars_by, entry_particulars_in, books_in}
use Rattle.history.specs.SoundHistory.{holding_of, Chain, SoundHistory}
use Rattle.history.specs.Split.{Numbered}
use Rattle.history.proofs.Theorems.Split.{all_below}
use Rattle.history.proofs.Theorems.Chain.{cost_kept, fee_kept, cost_opened}
use Rattle.history.proofs.Theorems.SoundHistory.{by_cons_if}

pub record Terms (c : List Entering) (row : SchemeParticulars) : Type 0 where
  pub some_entering : 1 ≤ length c
  pub cost_same : cost c ≡ row.cost
  pub fee_same : fee c ≡ row.fee
  pub fee_within : row.fee ≤ row.minimum

chain_terms : (c : List Entering) (row : SchemeParticulars) → Chain c → first (map scheme_particulars_in (oldest_first (openings c))) ≡ Some row → Terms c row
chain_terms [] row h at = impossible cc
chain_terms (e ∷ []) row h at =
    let here : Some (scheme_particulars_in e) ≡ Some row =
    ap (λ (t : Bool). first (map scheme_particulars_in (oldest_first (cons_if t e [])))) (sym h.opens) ∙ at in
    let same : scheme_particulars_in e ≡ row = cc in
    record {
      some_entering = omega arith;
      cost_same = cost_opened e h ∙ ap (λ (row : SchemeParticulars). row.cost) same;
      fee_same = omega (arith, ap (λ (t : Bool). cond t e.bill.terms.fee 0) h.opens, ap (λ (row : SchemeParticulars). row.fee) same);
      fee_within = omega (arith, h.fee_within, ap (λ (row : SchemeParticulars). row.fee) same, ap (λ (row : SchemeParticulars). row.minimum) same);
    }
chain_terms (e ∷ d ∷ older) row h at =
    let before : Terms (d ∷ older) row =
    chain_terms (d ∷ older) row h.1
    (ap (λ (t : Bool). first (map scheme_particulars_in (oldest_first (cons_if t e (openings (d ∷ older)))))) (sym h.0.joins) ∙ at) in
    record {
      some_entering = omega arith;
      cost_same = cost_kept e (d ∷ older) h.0 ∙ before.cost_same;
      fee_same = fee_kept e (d ∷ older) h.0 ∙ before.fee_same;
      fee_within = before.fee_within;
    }

pub scheme_shown : (room : ℕ) (h : History) (s : ℕ) → scheme_at (books_in room h) s ≡ first (map scheme_particulars_in (oldest_first (openings (enterings_of s h.entered))))
scheme_shown room h s =
    find_first (λ (row : SchemeParticulars). eqb row.number s) (books_in room h).schemes
    ∙ ap first (filter_rows (λ (row : SchemeParticulars). eqb row.number s) scheme_particulars_in (openings h.entered)
    ∙ ap (λ (l : List Entering). map scheme_particulars_in (oldest_first l)) (filter_swap (λ (e : Entering). eqb e.scheme s) (λ (e : Entering). e.opens) h.entered))

pub terms_at : (room : ℕ) (h : History) → SoundHistory h → (s : ℕ) (row : SchemeParticulars) → scheme_at (books_in room h) s ≡ Some row →
    Terms (enterings_of s h.entered) row
terms_at room h sound s row at = chain_terms (enterings_of s h.entered) row (sound.accounts s).chain (sym (scheme_shown room h s) ∙ at)

-- a scheme's rows, over its own account
rows_of : (room : ℕ) (h : History) (s : ℕ) → of_scheme s (books_in room h).entries ≡ map (entry_particulars_by (account_of s h)) (oldest_first (enterings_of s h.entered))
rows_of room h s =
    filter_rows (λ (row : EntryParticulars). eqb row.scheme s) (entry_particulars_in h) h.entered
    ∙ map_same (entry_particulars_in h) (entry_particulars_by (account_of s h))
    (all_in_order (all_kept (λ e. eqb e.scheme s) h.entered
    (λ (e : Entering) (here : eqb e.scheme s ≡ true). ap (λ (n : ℕ). entry_particulars_by (account_of n h) e) (eqb-true e.scheme s here))))

pub parties_shown : (room : ℕ) (h : History) (s : ℕ) → parties_of s (books_in room h) ≡ map holding_of (oldest_first (enterings_of s h.entered))
parties_shown room h s = ap (map holding) (rows_of room h s) ∙ map-map holding (entry_particulars_by (account_of s h)) (oldest_first (enterings_of s h.entered))

-- ---- an entry by its number
data One : List Entering → Type 0 where
  no_one : One []
  only : (x : Entering) → One (x ∷ [])

one_at : (n next : ℕ) (c : List Entering) → Numbered next c → One (filter (λ e. eqb n e.entry) c)
one_at n next [] h = no_one
one_at n next (e ∷ older) h =
    by_cons_if One (eqb n e.entry) e (filter (λ e. eqb n e.entry) older)
    (λ here.
    let same : n ≡ e.entry = eqb-true n e.entry here in
    let alone : filter (λ e. eqb n e.entry) older ≡ [] =
    filter_none
    (all_map (λ (p : Entering) (below : p.entry < e.entry). ne_eqb n p.entry (λ equal. omega (arith, equal, same, below)))
    (all_below e.entry older h.1)) in
    subst (λ (l : List Entering). One (e ∷ l)) (sym alone) (only e))
    (one_at n e.entry older h.1)

-- the one entering that a row shows, in the history and in its scheme's account
pub record EntryIn (h : History) (row : EntryParticulars) : Type 0 where
  pub entering : Entering
  pub shown : row ≡ entry_particulars_in h entering
  pub made : entering.entry < h.next_entry
  pub scheme_made : entering.scheme < h.next_scheme
  pub in_account : filter (λ e. eqb entering.entry e.entry) (enterings_of entering.scheme h.entered) ≡ entering ∷ []
  pub no_other : All (λ e. eqb entering.entry e.entry ≡ true → entering.scheme ≡ e.scheme) h.entered

entry_of : (h : History) → SoundHistory h → (n : ℕ) (x : Entering) → filter (λ e. eqb n e.entry) h.entered ≡ x ∷ [] → EntryIn h (entry_particulars_in h x)
entry_of h sound n x one =
    let number : n ≡ x.entry = eqb-true n x.entry (of_it (all_kept (λ e. eqb n e.entry) h.entered (λ (e : Entering) here. here))) in
    let here : filter (λ e. eqb x.entry e.entry) h.entered ≡ x ∷ [] =
    ap (λ (m : ℕ). filter (λ (e : Entering). eqb m e.entry) h.entered) (sym number) ∙ one in
    record {
      entering = x;
      shown = refl;
      made = of_it (all_filter (λ e. eqb n e.entry) (all_below h.next_entry h.entered sound.numbers.entries_in_order));
      scheme_made = of_it (all_filter (λ e. eqb n e.entry) sound.numbers.schemes_made);
      in_account =
          filter_swap (λ (e : Entering). eqb x.entry e.entry) (λ (e : Entering). eqb e.scheme x.scheme) h.entered
          ∙ ap (filter (λ (e : Entering). eqb e.scheme x.scheme)) here
          ∙ ap (λ (t : Bool). cons_if t x []) (eq-eqb x.scheme x.scheme refl);
      no_other =
          all_of_kept (λ e. eqb x.entry e.entry) h.entered
          (subst (λ (l : List Entering). All (λ e. x.scheme ≡ e.scheme) l) (sym here) (more refl nil));
    }
  where
    -- what holds of all that have the number
    of_it : {P : Entering → Type 0} → All P (filter (λ e. eqb n e.entry) h.entered) → P x
    of_it {P} all = head_of (subst (All P) one all)

pub entry_at_lem : (room : ℕ) (h : History) → SoundHistory h → (n : ℕ) (row : EntryParticulars) → entry_at (books_in room h) n ≡ Some row → EntryIn h row
entry_at_lem room h sound n row at =
    by (filter (λ e. eqb n e.entry) h.entered) refl (one_at n h.next_entry h.entered sound.numbers.entries_in_order)
    (sym
    (find_first (λ (row : EntryParticulars). eqb n row.number) (books_in room h).entries
    ∙ ap first (filter_rows (λ (row : EntryParticulars). eqb n row.number) (entry_particulars_in h) h.entered))
    ∙ at)
  where
    by : (l : List Entering) → filter (λ e. eqb n e.entry) h.entered ≡ l → One l → first (map (entry_particulars_in h) (oldest_first l)) ≡ Some row → EntryIn h row
    by l is no_one shown = impossible cc
    by l is (only x) shown =
        let same : entry_particulars_in h x ≡ row = cc in
        subst (EntryIn h) same (entry_of h sound n x is)
