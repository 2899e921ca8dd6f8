-- The page's lines: each has 64 bytes, the listed label and byte 0A at its end alone, and its amount can be read in one way only, as the charge's.
use Rattle.std.specs.Prelude.{ℕ, zero, suc, ◌+◌, ◌*◌, ◌-◌, ◌/◌, ◌%◌, ◌^◌, ◌<◌, ◌≤◌, ◌≡◌, refl, Bool, true, false, cond, ltb, eqb, ℤ, pos, nat_abs, length, get_or, take, drop, Err, Ok}
use Rattle.std.proofs.Common.{ap, sym, ◌∙◌, subst, arith, eq-eqb, le-ltb, ltb-true, ltb-false, length-append, length-drop, get_or-append-add, take_at, drop_at}
use mathlib.Core.List.{List, [], ◌∷◌, ◌++◌, flatten}
use Rattle.std.proofs.lemmas.List.{length-replicate, take-append-le, drop-append-le}
use Rattle.std.proofs.Math.ListN.{get_or-append}
use Rattle.std.proofs.Math.Seq.{drop-append-add}
use Rattle.tagged.specs.File.{refusal}
use Rattle.tagged.specs.declared.file.Refusal.{Refusal}
use Rattle.reconciliation.specs.FigureLimits.{FiguresWithin}
use Rattle.reconciliation.specs.declared.Reconciliation.{Reconciliation}
use Rattle.charge.specs.Price.{price_of, Pricing}
use Rattle.numbers.specs.BigEndian.{Bytes}
use Rattle.charge.proofs.Theorems.Bill.{priced_within}
use Rattle.charge.specs.declared.Bill.{Bill}
use Rattle.page_text.specs.AmountGrammar.{AmountColumns, OnlyAmount}
use Rattle.page_text.specs.Page.{amount_text, label_text, right_aligned, line, page_lines, page_of, page_size, page_written, page_output, PageWritten}
use Rattle.page_text.specs.PageShape.{Lines}
use Rattle.page_text.specs.PageColumns.{names, amounts_of, line_of, label_columns, amount_columns, AmountsFit}
use Rattle.page_text.proofs.Theorems.Page.{amount_short}
use Rattle.page_text.proofs.Theorems.ReadBack.{columns_written, only_amount, amount_no_end}

-- ---- lines of 64 bytes, one behind the other
lines_first : (n : ℕ) (l : List ℕ) (ls : List (List ℕ)) → Lines (suc n) (l ∷ ls) → (length l ≡ 64) × Lines n ls
lines_first n l ls e = (cc, cc)

no_lines : (n : ℕ) → Lines (suc n) [] → ⊥
no_lines n e = let z : ◌≡◌ {A = ℕ} 0 1 = cc in omega arith

pub lines_size : (n : ℕ) (ls : List (List ℕ)) → Lines n ls → length (flatten ls) ≡ n * 64
unfolding flatten
lines_size zero [] e = refl
lines_size zero (l ∷ ls) e = let z : ◌≡◌ {A = ℕ} 0 1 = cc in absurd (omega arith)
lines_size (suc n) [] e = absurd (no_lines n e)
lines_size (suc n) (l ∷ ls) e =
    let first = lines_first n l ls e in
    length-append l (flatten ls) ∙ omega (arith, first.0, lines_size n ls first.1)

-- the byte at a place is its line's
pub byte_of_line : (n : ℕ) (ls : List (List ℕ)) → Lines n ls → (k : ℕ) → k < n * 64 → get_or (flatten ls) k 0 ≡ get_or (get_or ls (k / 64) []) (k % 64) 0
unfolding flatten
byte_of_line zero ls e k h = absurd (omega arith)
byte_of_line (suc n) [] e k h = absurd (no_lines n e)
byte_of_line (suc n) (l ∷ ls) e k h =
    let first = lines_first n l ls e in
    by first (λ b. byte_of_line n ls first.1 (k - 64) b) (ltb k 64) refl
  where
    by : (length l ≡ 64) × Lines n ls → (k - 64 < n * 64 → get_or (flatten ls) (k - 64) 0 ≡ get_or (get_or ls ((k - 64) / 64) []) ((k - 64) % 64) 0)
        → (inside : Bool) → ltb k 64 ≡ inside → get_or (l ++ flatten ls) k 0 ≡ get_or (get_or (l ∷ ls) (k / 64) []) (k % 64) 0
    by first rest true t =
        let below : k < 64 = ltb-true k 64 t in
        let within : k < length l = omega (arith, first.0) in
        let row : k / 64 ≡ 0 = omega arith in
        let column : k % 64 ≡ k = omega arith in
        get_or-append l (flatten ls) 0 k within ∙ rw (row, column)
    by first rest false t =
        let past : 64 ≤ k = ltb-false k 64 t in
        let place : k ≡ length l + (k - 64) = omega (arith, first.0) in
        let row : k / 64 ≡ suc ((k - 64) / 64) = omega arith in
        let column : k % 64 ≡ (k - 64) % 64 = omega arith in
        ap (λ (i : ℕ). get_or (l ++ flatten ls) i 0) place ∙ get_or-append-add l (flatten ls) (k - 64) 0 ∙ rest (omega arith) ∙ rw (row, column)

line_at : (n : ℕ) (ls : List (List ℕ)) → Lines n ls → (i : ℕ) → i < n → take 64 (drop (64 * i) (flatten ls)) ≡ get_or ls i []
unfolding flatten
line_at zero ls e i h = absurd (omega arith)
line_at (suc n) [] e i h = absurd (no_lines n e)
line_at (suc n) (l ∷ ls) e zero h = take_at l (flatten ls) 64 (lines_first n l ls e).0
line_at (suc n) (l ∷ ls) e (suc i) h =
    let first = lines_first n l ls e in
    let place : 64 * suc i ≡ length l + 64 * i = omega (arith, first.0) in
    rw (place, drop-append-add l (flatten ls) (64 * i)) (line_at n ls first.1 i (omega arith))

-- ---- the lines of the page
page_line : (r : Reconciliation) (i : ℕ) → i < 12 → get_or (page_lines r) i [] ≡ line (get_or names i []) (amount_text (get_or (amounts_of r) i (pos 0)))
page_line r zero h = refl
page_line r (suc zero) h = refl
page_line r (suc (suc zero)) h = refl
page_line r (suc (suc (suc zero))) h = refl
page_line r (suc (suc (suc (suc zero)))) h = refl
page_line r (suc (suc (suc (suc (suc zero))))) h = refl
page_line r (suc (suc (suc (suc (suc (suc zero)))))) h = refl
page_line r (suc (suc (suc (suc (suc (suc (suc zero))))))) h = refl
page_line r (suc (suc (suc (suc (suc (suc (suc (suc zero)))))))) h = refl
page_line r (suc (suc (suc (suc (suc (suc (suc (suc (suc zero))))))))) h = refl
page_line r (suc (suc (suc (suc (suc (suc (suc (suc (suc (suc zero)))))))))) h = refl
page_line r (suc (suc (suc (suc (suc (suc (suc (suc (suc (suc (suc zero))))))))))) h = refl
page_line r (suc (suc (suc (suc (suc (suc (suc (suc (suc (suc (suc (suc i)))))))))))) h = absurd (omega arith)

-- no name is longer than a label, and none has byte 0A
abbrev plain : List ℕ → Bool
plain [] = true
plain (byte ∷ bytes) = cond (eqb byte 10) false (plain bytes)

first_no_end : (byte : ℕ) (bytes : List ℕ) → plain (byte ∷ bytes) ≡ true → byte ≡ 10 → ⊥
first_no_end byte bytes p e = let z : ◌≡◌ {A = ℕ} 0 1 = cc (eq-eqb byte 10 e) in omega arith

plain_no_end : (bytes : List ℕ) → plain bytes ≡ true → (k : ℕ) → get_or bytes k 0 ≡ 10 → ⊥
plain_no_end [] p k e = omega arith
plain_no_end (byte ∷ bytes) p zero e = first_no_end byte bytes p e
plain_no_end (byte ∷ bytes) p (suc k) e = by (λ q. plain_no_end bytes q k e) (eqb byte 10) p
  where
    by : (plain bytes ≡ true → ⊥) → (ends : Bool) → cond ends false (plain bytes) ≡ true → ⊥
    by rest true q = let z : ◌≡◌ {A = ℕ} 0 1 = cc in omega arith
    by rest false q = rest q

name_fits : (i : ℕ) → i < 12 → (length (get_or names i []) ≤ 32) × (plain (label_text (get_or names i [])) ≡ true)
name_fits zero h = (omega arith, refl)
name_fits (suc zero) h = (omega arith, refl)
name_fits (suc (suc zero)) h = (omega arith, refl)
name_fits (suc (suc (suc zero))) h = (omega arith, refl)
name_fits (suc (suc (suc (suc zero)))) h = (omega arith, refl)
name_fits (suc (suc (suc (suc (suc zero))))) h = (omega arith, refl)
name_fits (suc (suc (suc (suc (suc (suc zero)))))) h = (omega arith, refl)
name_fits (suc (suc (suc (suc (suc (suc (suc zero))))))) h = (omega arith, refl)
name_fits (suc (suc (suc (suc (suc (suc (suc (suc zero)))))))) h = (omega arith, refl)
name_fits (suc (suc (suc (suc (suc (suc (suc (suc (suc zero))))))))) h = (omega arith, refl)
name_fits (suc (suc (suc (suc (suc (suc (suc (suc (suc (suc zero)))))))))) h = (omega arith, refl)
name_fits (suc (suc (suc (suc (suc (suc (suc (suc (suc (suc (suc zero))))))))))) h = (omega arith, refl)
name_fits (suc (suc (suc (suc (suc (suc (suc (suc (suc (suc (suc (suc i)))))))))))) h = absurd (omega arith)

label_size : (name : List ℕ) → length name ≤ 32 → length (label_text name) ≡ 32
label_size name h = simp (length-append, length-replicate) (omega arith)

aligned_size : (amount : ℤ) → length (right_aligned (amount_text amount)) ≡ 31
aligned_size amount = let short = amount_short amount in simp (length-append, length-replicate) (omega arith)

line_size : (name : List ℕ) (amount : ℤ) → length name ≤ 32 → length (line name (amount_text amount)) ≡ 64
line_size name amount h =
    length-append (label_text name) (right_aligned (amount_text amount) ++ (10 ∷ []))
    ∙ omega (arith, label_size name h, aligned_size amount, length-append (right_aligned (amount_text amount)) (10 ∷ []))

pub page_lines_long : (r : Reconciliation) → Lines 12 (page_lines r)
page_lines_long r = cc (
  line_size (get_or names 0 []) (pos r.me) (omega arith),
  line_size (get_or names 1 []) (pos r.mc) (omega arith),
  line_size (get_or names 2 []) (pos r.ce) (omega arith),
  line_size (get_or names 3 []) (pos r.cc2) (omega arith),
  line_size (get_or names 4 []) (pos r.tw) (omega arith),
  line_size (get_or names 5 []) (pos r.hr) (omega arith),
  line_size (get_or names 6 []) (pos r.ol) (omega arith),
  line_size (get_or names 7 []) (pos r.ic) (omega arith),
  line_size (get_or names 8 []) (pos r.ir) (omega arith),
  line_size (get_or names 9 []) (pos r.cc) (omega arith),
  line_size (get_or names 10 []) r.nic (omega arith),
  line_size (get_or names 11 []) r.nc (omega arith),
)

-- ---- what is promised of the page
module _ (r : Reconciliation) where
  -- "12 lines of 64 bytes"
  pub page_size_lem : length (page_of r) ≡ page_size
  unfolding page_of
  page_size_lem = lines_size 12 (page_lines r) (page_lines_long r)

  line_is : (i : ℕ) → i < 12 → line_of i (page_of r) ≡ line (get_or names i []) (amount_text (get_or (amounts_of r) i (pos 0)))
  unfolding page_of
  line_is i h = line_at 12 (page_lines r) (page_lines_long r) i h ∙ page_line r i h

  -- each label is the listed one, from the left, then blanks
  pub labels_listed : (i : ℕ) → i < 12 → label_columns (line_of i (page_of r)) ≡ label_text (get_or names i [])
  labels_listed i h = ap label_columns (line_is i h) ∙ take_at (label_text (get_or names i [])) _ 32 (label_size (get_or names i []) (name_fits i h).0)

  amount_is : (i : ℕ) → i < 12 → amount_columns (line_of i (page_of r)) ≡ right_aligned (amount_text (get_or (amounts_of r) i (pos 0)))
  amount_is i h =
      let amount = get_or (amounts_of r) i (pos 0) in
      ap amount_columns (line_is i h)
      ∙ ap (take 31) (drop_at (label_text (get_or names i [])) (right_aligned (amount_text amount) ++ (10 ∷ [])) 32 (label_size (get_or names i []) (name_fits i h).0))
      ∙ take_at (right_aligned (amount_text amount)) (10 ∷ []) 31 (aligned_size amount)

  amount_stands : (i : ℕ) → i < 12 → nat_abs (get_or (amounts_of r) i (pos 0)) < 2 ^ 64 → AmountColumns (amount_columns (line_of i (page_of r))) (get_or (amounts_of r) i (pos 0))
  amount_stands i h below =
      let amount = get_or (amounts_of r) i (pos 0) in
      subst (λ columns. AmountColumns columns amount) (sym (amount_is i h)) (columns_written amount below)

  -- "the amount can be read off the page in one way only, and it is that of the charge", for any amounts of 64 bits
  pub amount_read_back : (i : ℕ) → i < 12 → nat_abs (get_or (amounts_of r) i (pos 0)) < 2 ^ 64 →
      OnlyAmount (amount_columns (line_of i (page_of r))) (get_or (amounts_of r) i (pos 0))
  amount_read_back i h below = only_amount (amount_stands i h below)

  -- "byte 0A last on each"
  pub line_ends : (i : ℕ) → i < 12 → get_or (line_of i (page_of r)) 63 0 ≡ 10
  line_ends i h =
      let label = label_text (get_or names i []) in
      let amount = get_or (amounts_of r) i (pos 0) in
      let aligned = right_aligned (amount_text amount) in
      let first : length label + 31 ≡ 63 = omega (arith, label_size (get_or names i []) (name_fits i h).0) in
      let second : length aligned + 0 ≡ 31 = omega (arith, aligned_size amount) in
      ap (λ (l : List ℕ). get_or l 63 0) (line_is i h)
      ∙ ap (λ (k : ℕ). get_or (label ++ (aligned ++ (10 ∷ []))) k 0) (sym first)
      ∙ get_or-append-add label (aligned ++ (10 ∷ [])) 31 0
      ∙ ap (λ (k : ℕ). get_or (aligned ++ (10 ∷ [])) k 0) (sym second)
      ∙ get_or-append-add aligned (10 ∷ []) 0 0

-- a byte of a line before its last is not 0A
inner_byte : (name : List ℕ) (amount : ℤ) (column : ℕ) → length name ≤ 32 → plain (label_text name) ≡ true → nat_abs amount < 2 ^ 64 → column < 63 →
    get_or (line name (amount_text amount)) column 0 ≡ 10 → ⊥
inner_byte name amount column short plain_name fits before e = by (ltb column 32) refl
  where
    by : (first : Bool) → ltb column 32 ≡ first → ⊥
    by true t =
        let within : column < length (label_text name) = omega (arith, ltb-true column 32 t, label_size name short) in
        plain_no_end (label_text name) plain_name column (sym (get_or-append (label_text name) (right_aligned (amount_text amount) ++ (10 ∷ [])) 0 column within) ∙ e)
    by false t =
        let place : length (label_text name) + (column - 32) ≡ column = omega (arith, ltb-false column 32 t, label_size name short) in
        let within : column - 32 < length (right_aligned (amount_text amount)) = omega (arith, ltb-false column 32 t, aligned_size amount) in
        amount_no_end (columns_written amount fits) (column - 32)
        (sym (get_or-append (right_aligned (amount_text amount)) (10 ∷ []) 0 (column - 32) within)
        ∙ sym (get_or-append-add (label_text name) (right_aligned (amount_text amount) ++ (10 ∷ [])) (column - 32) 0)
        ∙ ap (λ (k : ℕ). get_or (line name (amount_text amount)) k 0) place
        ∙ e)

-- byte 0A ends a line wherever it stands
pub no_other_end : (r : Reconciliation) → AmountsFit r → (k : ℕ) → k < page_size → get_or (page_of r) k 0 ≡ 10 → k % 64 ≡ 63
unfolding page_of
no_other_end r fit k h e =
    let row : k / 64 < 12 = omega arith in
    by row
    (sym (ap (λ (l : List ℕ). get_or l (k % 64) 0) (page_line r (k / 64) row)) ∙ sym (byte_of_line 12 (page_lines r) (page_lines_long r) k (omega arith)) ∙ e)
    (ltb (k % 64) 63) refl
  where
    by : k / 64 < 12 → get_or (line (get_or names (k / 64) []) (amount_text (get_or (amounts_of r) (k / 64) (pos 0)))) (k % 64) 0 ≡ 10
        → (inner : Bool) → ltb (k % 64) 63 ≡ inner → k % 64 ≡ 63
    by row ends true t =
        let name = name_fits (k / 64) row in
        absurd (inner_byte (get_or names (k / 64) []) (get_or (amounts_of r) (k / 64) (pos 0)) (k % 64) name.0 name.1 (fit (k / 64) row) (ltb-true (k % 64) 63 t) ends)
    by row ends false t = omega (arith, ltb-false (k % 64) 63 t)

-- ---- the page that the call writes

-- every amount of a charge has 64 bits
pub charge_fits : (book_file request_file : List ℕ) (bill : Bill) → Bytes book_file → Bytes request_file → price_of book_file request_file ≡ Ok bill → AmountsFit bill.reconciliation
charge_fits book_file request_file bill bytes bytes' priced = by (priced_within book_file request_file bill bytes bytes' priced).figures
  where
    by : FiguresWithin bill.reconciliation → AmountsFit bill.reconciliation
    by b zero h = omega (arith, b.parts, b.ic)
    by b (suc zero) h = omega (arith, b.parts, b.ic)
    by b (suc (suc zero)) h = omega (arith, b.parts, b.ic)
    by b (suc (suc (suc zero))) h = omega (arith, b.parts, b.ic)
    by b (suc (suc (suc (suc zero)))) h = omega (arith, b.parts, b.ic)
    by b (suc (suc (suc (suc (suc zero))))) h = omega (arith, b.parts, b.ic)
    by b (suc (suc (suc (suc (suc (suc zero)))))) h = omega (arith, b.parts, b.ic)
    by b (suc (suc (suc (suc (suc (suc (suc zero))))))) h = omega (arith, b.ic)
    by b (suc (suc (suc (suc (suc (suc (suc (suc zero)))))))) h = omega (arith, b.ir)
    by b (suc (suc (suc (suc (suc (suc (suc (suc (suc zero))))))))) h = omega (arith, b.cc)
    by b (suc (suc (suc (suc (suc (suc (suc (suc (suc (suc zero)))))))))) h = omega (arith, b.nic)
    by b (suc (suc (suc (suc (suc (suc (suc (suc (suc (suc (suc zero))))))))))) h = omega (arith, b.nc)
    by b (suc (suc (suc (suc (suc (suc (suc (suc (suc (suc (suc (suc i)))))))))))) h = absurd (omega arith)

-- a line of a page is the same with what is past the page behind it
line_in_output : (page rest : List ℕ) (i : ℕ) → length page ≡ page_size → i < 12 → line_of i (page ++ rest) ≡ line_of i page
line_in_output page rest i long h =
    let start : 64 * i ≤ length page = omega arith in
    let whole : 64 ≤ length (drop (64 * i) page) = simp length-drop (omega arith) in
    rw (drop-append-le (64 * i) page rest start) (take-append-le 64 (drop (64 * i) page) rest whole)

-- "For each line, the amount can be read off the page in one way only, and it is that of the charge."
pub page_one_way : (book_file request_file out : List ℕ) (bill : Bill) → Bytes book_file → Bytes request_file → price_of book_file request_file ≡ Ok bill → page_size ≤ length out →
    (i : ℕ) → i < 12 →
    OnlyAmount (amount_columns (line_of i (page_output (price_of book_file request_file) out))) (get_or (amounts_of bill.reconciliation) i (pos 0))
unfolding page_output
page_one_way book_file request_file out bill bytes bytes' priced enough i h =
    let r = bill.reconciliation in
    rw (priced, le-ltb (length out) page_size enough, line_in_output (page_of r) (drop page_size out) i (page_size_lem r) h)
    (amount_read_back r i h (charge_fits book_file request_file bill bytes bytes' priced i h))

-- a refused page leaves the output as it was
pub refused_page_changes_nothing : (pricing : Pricing) (out : List ℕ) (refused : Refusal) → page_written pricing out ≡ Err refused → page_output pricing out ≡ out
unfolding page_written page_output
refused_page_changes_nothing (Err r) out refused e = refl
refused_page_changes_nothing (Ok bill) out refused e = by (ltb (length out) page_size) e
  where
    by : (short : Bool) → ◌≡◌ {A = PageWritten} (cond short (Err (refusal 14 0 0)) (Ok tt)) (Err refused) → cond short out (page_of bill.reconciliation ++ drop page_size out) ≡ out
    by true e = refl
    by false e = let z : ◌≡◌ {A = ℕ} 0 1 = cc in absurd (omega arith)
