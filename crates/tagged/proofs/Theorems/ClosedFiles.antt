-- The file of some fields, closed by the check: it stands where its fields walk, and every file that stands is the file of its own fields.
use Rattle.std.specs.Prelude.{ℕ, suc, ◌+◌, ◌-◌, ◌≤◌, ◌≡◌, List, [], ◌∷◌, ◌++◌, Bool, true, false, length, get_or, take, drop, eqb, Ok}
use Rattle.std.proofs.Common.{sym, ap, ap₂, ◌∙◌, append_assoc, arith, length-append, length-drop, take-append-drop, take_all, take_at, drop_at, take-add, drop-cons, get_or-append-add, eqb-true, eq-eqb, le-ltb}
use Rattle.std.proofs.lemmas.Bool.{false≢true}
use Rattle.numbers.specs.BigEndian.{Bytes, number, bytes_of}
use Rattle.numbers.proofs.Theorems.BigEndian.{Bytes-take, Bytes-drop, length_bytes_of, number_of_bytes_of, bytes_of_number}
use Rattle.numbers.specs.Check.{check}
use Rattle.numbers.proofs.Theorems.Check.{check_below}
use Rattle.field_walk.specs.Walk.{FieldAt, Walk, fields}
use Rattle.tagged.specs.Encoded.{encoded_parts, closed}
use Rattle.tagged.specs.WalkEncoded.{parts_of}
use Rattle.tagged.specs.WalkRelations.{Fields}
use Rattle.tagged.proofs.Theorems.FoundFields.{Fields-encoded}
use Rattle.tagged.proofs.Theorems.Walk.{by_test}
use Rattle.tagged.specs.File.{tail_stands, check_stands, fields_part, of_walk, answer_by_walk}
use Rattle.tagged.specs.FileStands.{StandsBy}
use Rattle.tagged.proofs.Theorems.File.{walk_decides}

-- what the check of a closed file is over
abbrev checked : List (ℕ × List ℕ) → List ℕ
checked parts = encoded_parts parts ++ (255 ∷ 0 ∷ 2 ∷ [])

module _ (parts : List (ℕ × List ℕ)) where
  pub length_closed : length (closed parts) ≡ length (encoded_parts parts) + 5
  length_closed = simp (length-append, length_bytes_of) (omega arith)

  -- the five bytes after the fields
  closed_split : closed parts ≡ encoded_parts parts ++ (255 ∷ 0 ∷ 2 ∷ bytes_of 2 (check (checked parts)))
  closed_split = append_assoc (encoded_parts parts) (255 ∷ 0 ∷ 2 ∷ []) (bytes_of 2 (check (checked parts)))

  -- its fields are all but its last five bytes
  pub fields_of_closed : fields_part (closed parts) ≡ encoded_parts parts
  fields_of_closed =
      let size : length (encoded_parts parts) ≡ length (closed parts) - 5 = omega (arith, length_closed) in
      ap (take (length (closed parts) - 5)) closed_split ∙ take_at (encoded_parts parts) _ (length (closed parts) - 5) size

  closed_at : (place k : ℕ) → place ≡ length (encoded_parts parts) + k →
      get_or (closed parts) place 0 ≡ get_or (255 ∷ 0 ∷ 2 ∷ bytes_of 2 (check (checked parts))) k 0
  closed_at place k e = ap₂ (λ l n. get_or l n 0) closed_split e ∙ get_or-append-add (encoded_parts parts) _ k 0

  closed_tail : tail_stands (closed parts) ≡ true
  closed_tail =
      let size = length (closed parts) in
      rw (
        le-ltb size 5 (omega (arith, length_closed)),
        eq-eqb _ _ (closed_at (size - 5) 0 (omega (arith, length_closed))),
        eq-eqb _ _ (closed_at (size - 4) 1 (omega (arith, length_closed))),
        eq-eqb _ _ (closed_at (size - 3) 2 (omega (arith, length_closed))),
      )

  closed_check : check_stands (closed parts) ≡ true
  closed_check =
      let last = bytes_of 2 (check (checked parts)) in
      let place = length (closed parts) - 2 in
      let size : length (checked parts) ≡ place = simp (length-append, length_bytes_of) (omega arith) in
      let two : take 2 (drop place (closed parts)) ≡ last =
      ap (take 2) (drop_at (checked parts) last place size) ∙ take_all 2 last (omega (arith, length_bytes_of 2 (check (checked parts)))) in
      let spelt : number last ≡ check (checked parts) = number_of_bytes_of 2 _ (omega (arith, check_below 0 (checked parts) (omega arith))) in
      eq-eqb _ _ (ap number two ∙ spelt ∙ ap check (sym (take_at (checked parts) last place size)))

  -- The file of fields that walk stands.
  pub closed_stands : (walk : List ℕ → Walk) (file : ℕ) (fs : List FieldAt) → walk (encoded_parts parts) ≡ fields fs →
      answer_by_walk file (closed parts) (walk (fields_part (closed parts))) ≡ Ok tt
  closed_stands walk file fs walks =
      walk_decides file (closed parts) (walk (fields_part (closed parts))) closed_tail closed_check
      ∙ ap (λ s. of_walk file (walk s)) fields_of_closed
      ∙ ap (of_walk file) walks

-- the three bytes before the check of a file that ends as it should
tail_bytes : (s : List ℕ) → 5 ≤ length s → tail_stands s ≡ true → take 3 (drop (length s - 5) s) ≡ 255 ∷ 0 ∷ 2 ∷ []
tail_bytes s size tail =
    by_test P (eqb (get_or s (length s - 5) 0) 255) _ _
    (λ first.
    by_test P (eqb (get_or s (length s - 4) 0) 0) _ _ (λ second third. are (eqb-true _ _ first) (eqb-true _ _ second) (eqb-true _ _ third)) never)
    never
    (rw (le-ltb (length s) 5 size) at tail)
  where
    P : Bool → Type 0
    P b = b ≡ true → take 3 (drop (length s - 5) s) ≡ 255 ∷ 0 ∷ 2 ∷ []

    never : {A : Type 0} → A → P false
    never a e = absurd (false≢true e)

    are : get_or s (length s - 5) 0 ≡ 255 → get_or s (length s - 4) 0 ≡ 0 → get_or s (length s - 3) 0 ≡ 2 →
        take 3 (drop (length s - 5) s) ≡ 255 ∷ 0 ∷ 2 ∷ []
    are first second third =
        let at = length s - 5 in
        let fourth : length s - 4 ≡ suc at = omega arith in
        let fifth : length s - 3 ≡ suc (suc at) = omega arith in
        rw (drop-cons s at 0 (omega arith), drop-cons s (suc at) 0 (omega arith), drop-cons s (suc (suc at)) 0 (omega arith))
        (ap₂ ◌∷◌ first (ap₂ ◌∷◌ (rw fourth at second) (ap (λ byte. byte ∷ []) (rw fifth at third))))

-- A file of bytes that stands is the file of its fields.
pub stands_closed : {walked : Walk} (s : List ℕ) → Bytes s → (stands : StandsBy walked s) → Fields (fields_part s) 0 stands.field_list →
    s ≡ closed (parts_of (fields_part s) stands.field_list)
stands_closed s bytes stands follow =
    let parts = parts_of (fields_part s) stands.field_list in
    let last = drop (length s - 2) s in
    let until : length s - 2 ≡ length s - 5 + 3 = omega (arith, stands.size) in
    let walked : fields_part s ≡ encoded_parts parts =
    Fields-encoded follow (Bytes-take (length s - 5) s bytes) in
    let before : take (length s - 2) s ≡ checked parts =
    ap (λ n. take n s) until ∙ take-add (length s - 5) 3 s ∙ ap₂ ◌++◌ walked (tail_bytes s stands.size stands.tail) in
    let long : length last ≡ 2 = simp length-drop (omega (arith, stands.size)) in
    let spelt : bytes_of 2 (number last) ≡ last = rw long at (bytes_of_number last (Bytes-drop (length s - 2) s bytes)) in
    let right : number last ≡ check (checked parts) =
    ap number (sym (take_all 2 last (omega arith))) ∙ eqb-true _ _ stands.right_check ∙ ap check before in
    sym (take-append-drop (length s - 2) s) ∙ ap₂ ◌++◌ before (sym spelt ∙ ap (bytes_of 2) right)
