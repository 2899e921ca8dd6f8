-- The stored form stands, and its fields hold what was stored.
use Prim.Native.Nat.{ℕ, ◌+◌, ◌<◌, ◌≤◌}
use Rattle.std.specs.Prelude.{◌≡◌, true, length, get_or, drop, Ok}
use Rattle.std.proofs.Math.Path.{refl, ap, subst}
use Rattle.std.proofs.Common.{sym, ap₂, ◌∙◌, inl, arith, take-append-drop}
use mathlib.Core.List.Memᴰ
use mathlib.Core.List.{List, [], ◌∷◌, ◌++◌, append-nil, map, Memᴰ}
use Rattle.std.proofs.Math.ListN.{take, length-map, length-take}
use Rattle.field_walk.specs.Walk.{tag_of, permitted_by, fields, walk}
use Rattle.tagged.specs.Find.{fields_of, first_with, part_of, field_value}
use Rattle.tagged.specs.File.{fields_part, file_answer}
use Rattle.tagged.specs.WalkRelations.{Stand, end}
use Rattle.tagged.specs.Encoded.{encoded_parts}
use Rattle.tagged.specs.WalkEncoded.{parts_of, places_from}
use Rattle.tagged.proofs.Theorems.FoundFields.{walk_fields_of}
use Rattle.tagged.proofs.Theorems.WalkEncoded.{short_rows, Stand-parts, Stand-short, walk_in_form, walk_of_encoded, walk_parts_of_encoded}
use Rattle.tagged.proofs.Theorems.ClosedFiles.{fields_of_closed, closed_stands}
use Rattle.ledger.specs.Limits.{most_schemes, most_entries}
use Rattle.ledger.specs.declared.records.Scheme.{Scheme}
use Rattle.ledger.specs.declared.records.Party.{Party}
use Rattle.ledger.specs.declared.records.Ledger.{Ledger}
use Rattle.stored.specs.StoredRows.{head_size, scheme_size, entry_size, stored_rows}
use Rattle.stored.specs.Cases.StoredRows.{stored_rows_rise}
use Rattle.stored.specs.Layout.{record_bytes, record_values, head_widths, head_values, added_widths, added_values, added_in, scheme_widths, scheme_values, scheme_from, party_widths, party_values, party_from}
use Rattle.stored.specs.Fit.{Fit}
use Rattle.stored.proofs.Theorems.Layout.{kept_number, number_of_record, figures_of_record, length_record_bytes, values_at_record_bytes, values_of_record, record_bytes_append}
use Rattle.stored.proofs.Theorems.Numbered.{numbered_same}
use Rattle.stored.specs.Form.{letters, letters_part, head_part, scheme_part, party_part, scheme_parts, party_parts, stored_parts, stored_form, scheme_of_bytes, party_of_bytes, stored_schemes, stored_entries}
use Rattle.stored.proofs.Theorems.PartsWith.{Reads, reads_past, reads_mine, reads_none_of, reads_all_of}
use Rattle.stored.specs.Numbered.{numbered_from}
use Rattle.stored.proofs.Theorems.Form.{scheme_sized, entry_sized, head_sized}
use Rattle.stored.proofs.Theorems.StoredFields.{row_at}
use Rattle.stored.specs.FormFields.{FormFits}
use Rattle.stored.specs.declared.form.Form.{Form}
use Rattle.stored.specs.declared.form.Form.TheVariants.{Pion, Pio2}

-- its fields are all but its last five bytes
pub fields_of_form : (form : Form) (ledger : Ledger) (parties : List Party) →
    fields_part (stored_form form ledger parties) ≡ encoded_parts (stored_parts form ledger parties)
unfolding stored_form
fields_of_form form ledger parties = fields_of_closed (stored_parts form ledger parties)

-- ---- what a form holds of a record: PION has no numbers, so that a record is read with its place's

abbrev pub placed_scheme : Form → ℕ → Scheme → Scheme
placed_scheme form place scheme = record scheme { number = kept_number form place scheme.number }

abbrev pub placed_party : Form → ℕ → Party → Party
placed_party form place party = record party { number = kept_number form place party.number }

-- numbers that are the places, next numbers that are the counts plus one, and nothing cleared
pub record NumbersPlaced (ledger : Ledger) (parties : List Party) : Type 0 where
  pub of_schemes : numbered_from 1 (placed_scheme Pion) (take ledger.count ledger.schemes) ≡ take ledger.count ledger.schemes
  pub of_parties : numbered_from 1 (placed_party Pion) (take ledger.entries parties) ≡ take ledger.entries parties
  pub of_ledger : added_values ledger ≡ (ledger.count + 1) ∷ (ledger.entries + 1) ∷ 0 ∷ 0 ∷ 0 ∷ []

-- what a form can hold
abbrev pub Held : Form → Ledger → List Party → Type 0
Held Pion ledger parties = NumbersPlaced ledger parties
Held Pio2 ledger parties = Unit {0}

module _ (ledger : Ledger) (parties : List Party) where
  pub schemes_held : (form : Form) → Held form ledger parties → numbered_from 1 (placed_scheme form) (take ledger.count ledger.schemes) ≡ take ledger.count ledger.schemes
  schemes_held Pion held = held.of_schemes
  schemes_held Pio2 held = numbered_same 1 (placed_scheme Pio2) (λ k scheme. refl) (take ledger.count ledger.schemes)

  pub parties_held : (form : Form) → Held form ledger parties → numbered_from 1 (placed_party form) (take ledger.entries parties) ≡ take ledger.entries parties
  parties_held Pion held = held.of_parties
  parties_held Pio2 held = numbered_same 1 (placed_party Pio2) (λ k party. refl) (take ledger.entries parties)

-- ---- it stands, and its fields hold what was stored

-- the parts of some elements count to a row, where they have its tag and all of them one length
of_row : {A : Type 0} (row : List ℕ) (part : A → ℕ × List ℕ) (size : ℕ) → ((x : A) → (part x).0 ≡ tag_of row) → ((x : A) → length (part x).1 ≡ size) →
    permitted_by row size ≡ true → (xs : List A) (p : ℕ × List ℕ) → Memᴰ p (map part xs) →
    (p.0 ≡ tag_of row) × (permitted_by row (length p.1) ≡ true)
of_row row part size tagged sized permitted xs p among =
    let found = Memᴰ.of_map part xs among in (
      sym (ap (λ q. q.0) found.2) ∙ tagged found.0,
      ap (λ q. permitted_by row (length q.1)) (sym found.2) ∙ ap (permitted_by row) (sized found.0) ∙ permitted,
    )

-- the lengths that the rows permit
lengths_permitted : (form : Form) →
    (permitted_by (row_at form 1) (head_size form) ≡ true) × (permitted_by (row_at form 2) (scheme_size form) ≡ true) × (permitted_by (row_at form 3) (entry_size form) ≡ true)
lengths_permitted Pion = (refl, refl, refl)
lengths_permitted Pio2 = (refl, refl, refl)

rows_short : (form : Form) → short_rows (stored_rows form) ≡ true
rows_short Pion = refl
rows_short Pio2 = refl

letters_long : (form : Form) → length (letters form) ≡ 4
letters_long Pion = refl
letters_long Pio2 = refl

-- a record is read of its own bytes
module _ (form : Form) (place : ℕ) where
  scheme_back : (scheme : Scheme) → Fit (4 ∷ scheme_widths) (scheme.number ∷ scheme_values scheme) →
      scheme_of_bytes form place (scheme_part form scheme).1 ≡ placed_scheme form place scheme
  scheme_back scheme fit =
      let values = scheme_values scheme in
      ap₂ scheme_from (number_of_record scheme_widths values place scheme.number form fit.0)
      (ap (record_values scheme_widths) (figures_of_record scheme_widths values place scheme.number form) ∙ values_of_record scheme_widths values fit.1)

  party_back : (party : Party) → Fit (4 ∷ party_widths) (party.number ∷ party_values party) →
      party_of_bytes form place (party_part form party).1 ≡ placed_party form place party
  party_back party fit =
      let values = party_values party in
      ap₂ party_from (number_of_record party_widths values place party.number form fit.0)
      (ap (record_values party_widths) (figures_of_record party_widths values place party.number form) ∙ values_of_record party_widths values fit.1)

-- and so is the head
module _ (ledger : Ledger) (parties : List Party) (fits : Fit (head_widths ++ added_widths) (head_values ledger ++ added_values ledger)) where
  head_first : Fit head_widths (head_values ledger)
  head_first = (fits.0, (fits.1.0, (fits.1.1.0, (fits.1.1.1.0, tt))))

  pub head_back : (form : Form) → record_values head_widths (head_part form ledger).1 ≡ head_values ledger
  head_back Pion = values_of_record head_widths (head_values ledger) head_first
  head_back Pio2 =
      ap (record_values head_widths) (record_bytes_append head_widths added_widths (head_values ledger) (added_values ledger) refl)
      ∙ values_at_record_bytes head_widths (head_values ledger) [] (record_bytes added_widths (added_values ledger)) head_first

  pub added_back : (form : Form) → Held form ledger parties → added_in form ledger.count ledger.entries (head_part form ledger).1 ≡ added_values ledger
  added_back Pion held = sym held.of_ledger
  added_back Pio2 held =
      let front = record_bytes head_widths (head_values ledger) in
      let added = record_bytes added_widths (added_values ledger) in
      let here : length front ≡ 22 = length_record_bytes head_widths (head_values ledger) refl in
      ap (added_in Pio2 ledger.count ledger.entries) (record_bytes_append head_widths added_widths (head_values ledger) (added_values ledger) refl ∙ ap (λ l. front ++ l) (sym (append-nil added)))
      ∙ rw here at (values_at_record_bytes added_widths (added_values ledger) front [] fits.1.1.1.1)

-- an element of the first elements of a list is one of the list
of_taken : {A : Type 0} {x : A} (n : ℕ) (xs : List A) → Memᴰ x (take n xs) → Memᴰ x xs
of_taken {x} n xs among = subst (Memᴰ x) (take-append-drop n xs) (Memᴰ.append_left (drop n xs) among)

module _ (form : Form) (ledger : Ledger) where
  -- the letters and the head stand before all others
  past_front : (s : List ℕ) {A : Type 0} (read : ℕ → List ℕ → A) (tag : ℕ) → 2 < tag → (others : List (ℕ × List ℕ)) (values : List A) →
      Reads read tag s 1 others values → Reads read tag s 1 (letters_part form ∷ head_part form ledger ∷ others) values
  past_front s read tag above others values later =
      reads_past read tag s (head_part form ledger ∷ others) (λ (one : Ledger). letters_part form) (λ one e. omega arith) (ledger ∷ []) 1 values
      (reads_past read tag s others (λ (one : Ledger). head_part form one) (λ one e. omega arith) (ledger ∷ []) 1 values later)

  module _ (parties : List Party) (count : ledger.count ≤ most_schemes) (entries : ledger.entries ≤ most_entries) where
    abbrev bytes : List ℕ
    bytes = encoded_parts (stored_parts form ledger parties)

    entries_stand : (at : ℕ) → Stand (drop 3 (stored_rows form)) 0 (places_from at (party_parts form ledger parties))
    unfolding places_from party_parts
    entries_stand at =
        let kept = take ledger.entries parties in
        subst (λ parts. Stand (drop 3 (stored_rows form)) 0 (places_from at parts)) (append-nil (map (party_part form) kept))
        (Stand-parts (row_at form 3) [] 0 at (map (party_part form) kept) []
        (of_row (row_at form 3) (party_part form) (entry_size form) (λ party. refl) (entry_sized form) (lengths_permitted form).2 kept) (omega arith)
        (omega (arith, length-map kept (party_part form), length-take ledger.entries parties)) (λ end_at. end))

    schemes_stand : (at : ℕ) → Stand (drop 2 (stored_rows form)) 0 (places_from at (scheme_parts form ledger ++ party_parts form ledger parties))
    unfolding scheme_parts
    schemes_stand at =
        let schemes = take ledger.count ledger.schemes in
        Stand-parts (row_at form 2) (drop 3 (stored_rows form)) 0 at (map (scheme_part form) schemes) (party_parts form ledger parties)
        (of_row (row_at form 2) (scheme_part form) (scheme_size form) (λ scheme. refl) (scheme_sized form) (lengths_permitted form).1 schemes) (omega arith)
        (omega (arith, length-map schemes (scheme_part form), length-take ledger.count ledger.schemes)) entries_stand

    head_stands : (at : ℕ) →
        Stand (drop 1 (stored_rows form)) 0 (places_from at (head_part form ledger ∷ scheme_parts form ledger ++ party_parts form ledger parties))
    head_stands at =
        Stand-parts (row_at form 1) (drop 2 (stored_rows form)) 0 at (head_part form ledger ∷ []) (scheme_parts form ledger ++ party_parts form ledger parties)
        (of_row (row_at form 1) (head_part form) (head_size form) (λ one. refl) (head_sized form) (lengths_permitted form).0 (ledger ∷ [])) (omega arith)
        (omega arith) schemes_stand

    places_stand : Stand (stored_rows form) 0 (places_from 0 (stored_parts form ledger parties))
    places_stand =
        Stand-parts (row_at form 0) (drop 1 (stored_rows form)) 0 0 (letters_part form ∷ [])
        (head_part form ledger ∷ scheme_parts form ledger ++ party_parts form ledger parties)
        (of_row (row_at form 0) (λ (one : Ledger). letters_part form) 4 (λ one. refl) (λ one. letters_long form) refl (ledger ∷ [])) (omega arith) (omega arith)
        head_stands

    form_walks : walk (stored_rows form) bytes ≡ fields (places_from 0 (stored_parts form ledger parties))
    form_walks =
        walk_in_form (stored_rows form) bytes (places_from 0 (stored_parts form ledger parties))
        (inl (walk_of_encoded (stored_rows form) (stored_parts form ledger parties) (stored_rows_rise form) places_stand (Stand-short places_stand (rows_short form))))

    fields_found : fields_of bytes ≡ places_from 0 (stored_parts form ledger parties)
    fields_found = walk_fields_of (stored_rows form) bytes (places_from 0 (stored_parts form ledger parties)) form_walks

    parts_found : parts_of bytes (fields_of bytes) ≡ stored_parts form ledger parties
    parts_found = ap (parts_of bytes) fields_found ∙ walk_parts_of_encoded (stored_parts form ledger parties)

    pub letters_of_form : field_value 1 bytes ≡ letters form
    unfolding places_from first_with
    letters_of_form =
        ap (λ fs. part_of (first_with 1 fs) bytes) fields_found
        ∙ ap (λ parts. (get_or {A = ℕ × List ℕ} parts 0 (0, [])).1) (walk_parts_of_encoded (stored_parts form ledger parties))

    pub head_of_form : field_value 2 bytes ≡ (head_part form ledger).1
    unfolding places_from first_with
    head_of_form =
        ap (λ fs. part_of (first_with 2 fs) bytes) fields_found
        ∙ ap (λ parts. (get_or {A = ℕ × List ℕ} parts 1 (0, [])).1) (walk_parts_of_encoded (stored_parts form ledger parties))

    pub form_stands : file_answer (stored_rows form) 1 (stored_form form ledger parties) ≡ Ok tt
    unfolding stored_form
    form_stands = closed_stands (stored_parts form ledger parties) (walk (stored_rows form)) 1 _ form_walks

    module _ (handed : FormFits ledger parties) where
      pub schemes_of_form : stored_schemes form bytes ≡ numbered_from 1 (placed_scheme form) (take ledger.count ledger.schemes)
      unfolding stored_schemes scheme_parts party_parts
      schemes_of_form =
          let schemes = take ledger.count ledger.schemes in
          let kept = take ledger.entries parties in
          let at_entries = reads_none_of (scheme_of_bytes form) 3 bytes (party_part form) (λ party e. omega arith) kept in
          let at_schemes =
          reads_mine (scheme_of_bytes form) 3 bytes (map (party_part form) kept) (scheme_part form) (placed_scheme form) (λ scheme. refl) at_entries schemes
          (λ scheme among place. scheme_back form place scheme (handed.schemes_fit scheme (of_taken ledger.count ledger.schemes among))) 1 in
          past_front bytes (scheme_of_bytes form) 3 (omega arith) (map (scheme_part form) schemes ++ map (party_part form) kept)
          (numbered_from 1 (placed_scheme form) schemes) at_schemes (fields_of bytes) parts_found

      pub entries_of_form : stored_entries form bytes ≡ numbered_from 1 (placed_party form) (take ledger.entries parties)
      unfolding stored_entries scheme_parts party_parts
      entries_of_form =
          let schemes = take ledger.count ledger.schemes in
          let kept = take ledger.entries parties in
          let at_entries =
          reads_all_of (party_of_bytes form) 4 bytes (party_part form) (placed_party form) (λ party. refl) kept
          (λ party among place. party_back form place party (handed.parties_fit party among)) 1 in
          let at_schemes =
          reads_past (party_of_bytes form) 4 bytes (map (party_part form) kept) (scheme_part form) (λ scheme e. omega arith) schemes 1
          (numbered_from 1 (placed_party form) kept) at_entries in
          past_front bytes (party_of_bytes form) 4 (omega arith) (map (scheme_part form) schemes ++ map (party_part form) kept)
          (numbered_from 1 (placed_party form) kept) at_schemes (fields_of bytes) parts_found
