-- Laws of layouts, over any widths: a record's values and its bytes, both ways round; its bytes written number by number.
use Rattle.std.specs.Prelude.{ℕ, ◌+◌, ◌^◌, ◌<◌, ◌≤◌, ◌≡◌, refl, List, [], ◌∷◌, ◌++◌, length, take, drop, set}
use Rattle.std.proofs.Common.{sym, ap, ap₂, ◌∙◌, append_assoc, append-nil, add-zero, zero-add, add-one, arith, length-append, length-take, length-drop, take-append-drop, take_all, take_at, take-add, drop-cons, drop-drop}
use Rattle.std.proofs.Math.Nat.{suc_inj}
use Rattle.std.proofs.Math.Seq.{take-append_seam, drop-append_seam, set-append_seam}
use Rattle.ledger.specs.Lists.{at_start}
use Rattle.ledger.specs.CapacityColumns.{sum_of}
use Rattle.numbers.specs.BigEndian.{Bytes, number, bytes_of}
use Rattle.numbers.specs.Written.{written}
use Rattle.numbers.proofs.Theorems.BigEndian.{Bytes-append, Bytes-take, Bytes-drop, length_bytes_of, bytes_of_bytes, bytes_of_number, number_of_bytes_of, length_written, written_written}
use Rattle.stored.specs.Layout.{record_bytes, values_at, record_values, number_first, number_in, past_number}
use Rattle.stored.specs.Fit.{Fit}
use Rattle.stored.specs.declared.form.Form.{Form}
use Rattle.stored.specs.declared.form.Form.TheVariants.{Pion, Pio2}

pub length_record_bytes : (widths values : List ℕ) → length values ≡ length widths → length (record_bytes widths values) ≡ sum_of widths
unfolding record_bytes
length_record_bytes [] values same = refl
length_record_bytes (width ∷ widths) [] same = absurd (omega arith)
length_record_bytes (width ∷ widths) (value ∷ values) same =
    rw (length-append, length_bytes_of) (ap (λ n. width + n) (length_record_bytes widths values (suc_inj same)))

pub record_bytes_bytes : (widths values : List ℕ) → Fit widths values → Bytes (record_bytes widths values)
unfolding record_bytes
record_bytes_bytes [] values fit = λ k. omega arith
record_bytes_bytes (width ∷ widths) [] fit = absurd fit
record_bytes_bytes (width ∷ widths) (value ∷ values) fit =
    Bytes-append (bytes_of width value) (record_bytes widths values) (bytes_of_bytes width value fit.0) (record_bytes_bytes widths values fit.1)

-- a record's bytes hold its values, wherever they stand
pub values_at_record_bytes : (widths values before after : List ℕ) → Fit widths values →
    values_at widths (length before) (before ++ (record_bytes widths values ++ after)) ≡ values
unfolding values_at record_bytes
values_at_record_bytes [] [] before after fit = refl
values_at_record_bytes [] (value ∷ values) before after fit = absurd fit
values_at_record_bytes (width ∷ widths) [] before after fit = absurd fit
values_at_record_bytes (width ∷ widths) (value ∷ values) before after fit =
    let first = bytes_of width value in
    let others = record_bytes widths values ++ after in
    let here : take width (drop (length before) (before ++ (first ++ others))) ≡ first =
    ap (take width) (drop-append_seam before (first ++ others)) ∙ take_at first others width (length_bytes_of width value) in
    let until : length (before ++ first) ≡ length before + width = rw (length-append, length_bytes_of) in
    let after_it : values_at widths (length before + width) (before ++ (first ++ others)) ≡ values =
    rw (until, append_assoc) at (values_at_record_bytes widths values (before ++ first) after fit.1) in
    rw append_assoc (ap₂ ◌∷◌ (ap number here ∙ number_of_bytes_of width value fit.0) after_it)

pub values_of_record : (widths values : List ℕ) → Fit widths values → record_values widths (record_bytes widths values) ≡ values
values_of_record widths values fit = rw append-nil at (values_at_record_bytes widths values [] [] fit)

-- two layouts one after the other
pub record_bytes_append : (widths others values more : List ℕ) → length values ≡ length widths →
    record_bytes (widths ++ others) (values ++ more) ≡ record_bytes widths values ++ record_bytes others more
unfolding record_bytes
record_bytes_append [] others [] more same = refl
record_bytes_append [] others (value ∷ values) more same = absurd (omega arith)
record_bytes_append (width ∷ widths) others [] more same = absurd (omega arith)
record_bytes_append (width ∷ widths) others (value ∷ values) more same =
    rw (record_bytes_append widths others values more (suc_inj same), append_assoc)

-- the bytes of the values at a place are the bytes there
pub record_bytes_values_at : (widths bytes : List ℕ) (at : ℕ) → Bytes bytes → at + sum_of widths ≤ length bytes →
    record_bytes widths (values_at widths at bytes) ≡ take (sum_of widths) (drop at bytes)
unfolding values_at record_bytes
record_bytes_values_at [] bytes at are fits = refl
record_bytes_values_at (width ∷ widths) bytes at are fits =
    let here = take width (drop at bytes) in
    let long : length here ≡ width = simp (length-take, length-drop) (omega arith) in
    let first : bytes_of width (number here) ≡ here = rw long at (bytes_of_number here (Bytes-take width (drop at bytes) (Bytes-drop at bytes are))) in
    rw (take-add, drop-drop) (ap₂ ◌++◌ first (record_bytes_values_at widths bytes (at + width) are (omega arith)))

-- bytes of a record's length are the bytes of their values
pub record_of_values : (widths bytes : List ℕ) → Bytes bytes → length bytes ≡ sum_of widths → record_bytes widths (record_values widths bytes) ≡ bytes
record_of_values widths bytes are long =
    record_bytes_values_at widths bytes 0 are (omega arith) ∙ take_all (sum_of widths) bytes (omega arith)

-- ---- the number that a record begins with

-- the number that is read of a record with this one, in this place
abbrev pub kept_number : Form → ℕ → ℕ → ℕ
kept_number Pion place number = place
kept_number Pio2 place number = number

module _ (widths values : List ℕ) (place n : ℕ) where
  pub number_of_record : (form : Form) → n < 256 ^ 4 →
      number_in form place (record_bytes (number_first form 4 widths) (number_first form n values)) ≡ kept_number form place n
  unfolding record_bytes
  number_of_record Pion below = refl
  number_of_record Pio2 below =
      ap number (take_at (bytes_of 4 n) (record_bytes widths values) 4 (length_bytes_of 4 n)) ∙ number_of_bytes_of 4 n below

  pub figures_of_record : (form : Form) → past_number form (record_bytes (number_first form 4 widths) (number_first form n values)) ≡ record_bytes widths values
  unfolding record_bytes
  figures_of_record Pion = refl
  figures_of_record Pio2 =
      let first = bytes_of 4 n in
      rw (length_bytes_of 4 n) at (drop-append_seam first (record_bytes widths values))

-- bytes of a record's length with its number are those of their values
pub numbered_record : (form : Form) (widths bytes : List ℕ) (place : ℕ) → Bytes bytes → length bytes ≡ sum_of (number_first form 4 widths) →
    record_bytes (number_first form 4 widths) (number_first form (number_in form place bytes) (record_values widths (past_number form bytes))) ≡ bytes
unfolding record_bytes
numbered_record Pion widths bytes place are long = record_of_values widths bytes are long
numbered_record Pio2 widths bytes place are long =
    let first = take 4 bytes in
    let size : length first ≡ 4 = simp length-take (omega arith) in
    ap₂ ◌++◌ (rw size at (bytes_of_number first (Bytes-take 4 bytes are)))
    (record_of_values widths (drop 4 bytes) (Bytes-drop 4 bytes are) (simp length-drop (omega arith)))
    ∙ take-append-drop 4 bytes

-- to write no bytes changes nothing
pub written_none : (out : List ℕ) (at : ℕ) → written out at [] ≡ out
unfolding written
written_none out at = rw add-zero (take-append-drop at out)

-- `out` with a record's numbers written one after the other from a place on
unfoldable pub written_each : List ℕ → ℕ → List ℕ → List ℕ → List ℕ
written_each out at [] values = out
written_each out at (width ∷ widths) [] = out
written_each out at (width ∷ widths) (value ∷ values) = written_each (written out at (bytes_of width value)) (at + width) widths values

-- that is the record's bytes written there
pub written_each_lem : (widths values out : List ℕ) (at : ℕ) → length values ≡ length widths → at + sum_of widths ≤ length out →
    written_each out at widths values ≡ written out at (record_bytes widths values)
unfolding written_each record_bytes
written_each_lem [] values out at same fits = sym (written_none out at)
written_each_lem (width ∷ widths) [] out at same fits = absurd (omega arith)
written_each_lem (width ∷ widths) (value ∷ values) out at same fits =
    let first = bytes_of width value in
    let others = record_bytes widths values in
    let long : length first ≡ width = length_bytes_of width value in
    let more : length others ≡ sum_of widths = length_record_bytes widths values (suc_inj same) in
    let kept : length (written out at first) ≡ length out = length_written out at first (omega arith) in
    written_each_lem widths values (written out at first) (at + width) (suc_inj same) (omega arith)
    ∙ rw long at (written_written out at first others (omega arith))

-- ---- elements in the first places of a list
module _ {A : Type 0} (elements others : List A) where
  pub length_at_start : length elements ≤ length others → length (at_start elements others) ≡ length others
  length_at_start fits = simp (length-append, length-drop) (omega arith)

  pub take_at_start : take (length elements) (at_start elements others) ≡ elements
  take_at_start = take-append_seam elements (drop (length elements) others)

  pub at_start_one_more : (x : A) → length elements < length others → set (at_start elements others) (length elements) x ≡ at_start (elements ++ (x ∷ [])) others
  at_start_one_more x fits =
      rw (drop-cons others (length elements) x, set-append_seam, length-append, add-one, append_assoc)

-- bytes written from the start of a list on
pub written_at_start : (out bytes : List ℕ) → written out 0 bytes ≡ at_start bytes out
unfolding written
written_at_start out bytes = rw zero-add
