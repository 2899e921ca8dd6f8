-- What a page is read by: its lines, their label and amount columns, the names and the amounts in the order of document 02.
use Rattle.std.specs.Prelude.{ℕ, ◌*◌, ◌^◌, ◌<◌, List, [], ◌∷◌, ℤ, pos, nat_abs, take, drop, slice_index_or}
use Rattle.slip_text.specs.SlipReading.{ascii}
use Rattle.reconciliation.specs.declared.Reconciliation.{Reconciliation}

-- "12 lines of 64 bytes"
abbrev pub line_of : ℕ → List ℕ → List ℕ
line_of i page = take 64 (drop (64 * i) page)

-- "a label of 32 bytes", "then 31 bytes of amount"
abbrev pub label_columns : List ℕ → List ℕ
label_columns line = take 32 line

abbrev pub amount_columns : List ℕ → List ℕ
amount_columns line = take 31 (drop 32 line)

-- "The lines are ME, MC, CE, CC2, TW, HR, OL, IC, IR, CC, NIC, NC, under the names of document 01."
abbrev pub names : List (List ℕ)
names =
    ascii "ME" ∷ ascii "MC" ∷ ascii "CE" ∷ ascii "CC2" ∷ ascii "TW" ∷ ascii "HR" ∷ ascii "OL" ∷ ascii "IC" ∷ ascii "IR" ∷ ascii "CC" ∷ ascii "NIC" ∷ ascii "NC" ∷ []

-- "it is that of the charge"
abbrev pub amounts_of : Reconciliation → List ℤ
amounts_of r =
    pos r.me ∷
    pos r.mc ∷
    pos r.ce ∷
    pos r.cc2 ∷
    pos r.tw ∷
    pos r.hr ∷
    pos r.ol ∷
    pos r.ic ∷
    pos r.ir ∷
    pos r.cc ∷
    r.nic ∷
    r.nc ∷
    []

-- 64 bits for each amount
abbrev pub AmountsFit : Reconciliation → Type 0
AmountsFit r = (i : ℕ) → i < 12 → nat_abs (slice_index_or (amounts_of r) i (pos 0)) < 2 ^ 64
