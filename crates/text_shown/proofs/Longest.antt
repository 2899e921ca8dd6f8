-- No text is longer than the longest: each line has at most as many bytes as its name and any number of its unit, and a field has so many lines.
use Rattle.std.specs.Prelude.{ℕ, zero, suc, ◌+◌, ◌*◌, ◌/◌, ◌^◌, ◌≤◌, ◌<◌, ◌≡◌, List, [], ◌∷◌, ◌++◌, Bool, true, false, cond, ◌&&◌, length, drop, get_or, ltb, leb, refl}
use Rattle.std.proofs.Common.{arith, length-append, leb-true}
use Rattle.std.specs.List.{list_all}
use Rattle.std.proofs.lemmas.Bool.Decides.{nat_tests}
use Rattle.std.proofs.Math.Nat.{mul-le-mul_right}
use Rattle.numbers.specs.Written.{written}
use Rattle.text_output.specs.Pieces.{each}
use Rattle.text_output.specs.Digits.{decimal_from, grouped_from, last_digits}
use Rattle.text_output.proofs.Theorems.Digits.{decimal_short}
use Rattle.unit_text.specs.Measure.{words_of}
use Rattle.unit_text.specs.Shown.{pointed, percent_text, shown}
use Rattle.unit_text.proofs.Showing.{pointed_length, percent_length, month_length}
use Rattle.unit_text.specs.declared.measure.Words.{Words}
use Rattle.unit_text.specs.declared.measure.Words.TheVariants.{Forms, YesNo, Classes, Modes, Marks}
use Rattle.unit_text.specs.declared.measure.Measure.{Measure}
use Rattle.unit_text.specs.declared.measure.Measure.TheVariants.{Number, Dollars, DollarsPerKva, ThousandDollars, Kva, Percent, Factor, Month, Choice}
use Rattle.text_names.specs.Table.{book_fields, request_fields, book_rows, request_rows, field_at, row_at}
use Rattle.text_names.specs.Names.{book_names, request_names, row_name, tier_names, ordinals, name_front, name_back, value_name}
use Rattle.text_names.specs.Notes.{from_to, only_text, sums_text, allowed_text, described, names_text, note_line, field_notes}
use Rattle.text_names.proofs.Rows.{all_at}
use Rattle.text_names.specs.declared.table.Kind.{Kind}
use Rattle.text_names.specs.declared.table.Kind.TheVariants.{Book, Request}
use Rattle.text_names.specs.declared.table.Over.{Over}
use Rattle.text_names.specs.declared.table.Over.TheVariants.{Nothing, Pairs, Tiers, Years, Zones}
use Rattle.text_names.specs.declared.table.Field.{Field}
use Rattle.text_shown.specs.Values.{is_wide, has_two_bytes, rounds, rounds_by, value_number}
use Rattle.text_shown.specs.Lines.{value_line, round_lines, all_small, form_line, field_text, head_text, file_text}
use Rattle.text_shown.specs.Show.{longest_text}

pub written_first : (out text : List ℕ) → written out 0 text ≡ text ++ drop (length text) out
unfolding written
written_first out text = let e : 0 + length text ≡ length text = omega arith in rw e

-- ---- numbers
nothing_short : (most : ℕ) → leb 0 most ≡ true
nothing_short most = grind (arith, nat_tests)

one_of_most : (most : ℕ) (texts : List (List ℕ)) → list_all (λ (text : List ℕ). leb (length text) most) texts ≡ true → (k : ℕ) → length (get_or texts k []) ≤ most
one_of_most most texts e k = leb-true _ _ (all_at (λ (text : List ℕ). leb (length text) most) texts [] e (nothing_short most) k)

word_short : (words : Words) (n : ℕ) → length (get_or (words_of words) n []) ≤ 20
word_short Forms n = one_of_most 20 (words_of Forms) refl n
word_short YesNo n = one_of_most 20 (words_of YesNo) refl n
word_short Classes n = one_of_most 20 (words_of Classes) refl n
word_short Modes n = one_of_most 20 (words_of Modes) refl n
word_short Marks n = one_of_most 20 (words_of Marks) refl n

percent_short : (n : ℕ) → length (percent_text n) ≤ 24
percent_short n = by (ltb 0 n && ltb n 100)
  where
    by : (t : Bool) → length (cond t (pointed 2 n ++ (37 ∷ [])) (pointed 2 n)) ≤ 24
    by true = omega (arith, percent_length n, pointed_length 2 n, decimal_short (n / 10 ^ 2))
    by false = omega (arith, pointed_length 2 n, decimal_short (n / 10 ^ 2))

pub shown_short : (measure : Measure) (n : ℕ) → length (shown measure n) ≤ 25
shown_short Number n = omega (arith, decimal_short n)
shown_short Dollars n = omega (arith, pointed_length 2 n, decimal_short (n / 10 ^ 2))
shown_short DollarsPerKva n = omega (arith, pointed_length 2 n, decimal_short (n / 10 ^ 2))
shown_short ThousandDollars n = omega (arith, decimal_short n)
shown_short Kva n = omega (arith, pointed_length 2 n, decimal_short (n / 10 ^ 2))
shown_short Percent n = omega (arith, percent_short n)
shown_short Factor n = omega (arith, pointed_length 4 n, decimal_short (n / 10 ^ 4))
shown_short Month n = omega (arith, month_length n)
shown_short (Choice words) n = omega (arith, word_short words n)

-- ---- names
front_most : Over → ℕ
front_most Tiers = 24
front_most Zones = 13
front_most over = 0

front_short : (over : Over) (round : ℕ) → length (name_front over round) ≤ front_most over
unfolding tier_names ordinals front_most
front_short Nothing round = omega arith
front_short Pairs round = omega arith
front_short Tiers round = omega (arith, length-append (get_or tier_names round []) (32 ∷ []), one_of_most 23 tier_names refl round)
front_short Years round = omega arith
front_short Zones round = omega (arith, length-append (get_or ordinals round []) (32 ∷ 122 ∷ 111 ∷ 110 ∷ 101 ∷ 32 ∷ []), one_of_most 7 ordinals refl round)

back_most : Over → ℕ
back_most Pairs = 21
back_most Years = 26
back_most over = 0

back_short : (over : Over) (round : ℕ) → length (name_back over round) ≤ back_most over
unfolding back_most
back_short Nothing round = omega arith
back_short Pairs round = omega (arith, decimal_short (round + 1))
back_short Tiers round = omega arith
back_short Years round = omega (arith, decimal_short round)
back_short Zones round = omega arith

pub row_name_short : (kind : Kind) (number : ℕ) → length (row_name kind number) ≤ 33
unfolding book_names request_names
row_name_short Book number = one_of_most 33 book_names refl number
row_name_short Request number = one_of_most 33 request_names refl number

-- a line: its name, a comma, a number and byte 0A
line_most : Over → ℕ
line_most over = front_most over + 33 + back_most over + 27

module _ (kind : Kind) (f : Field) (wide : Bool) (s : List ℕ) where
  line_short : (round number : ℕ) → length (value_line kind f wide s round number) ≤ line_most f.over
  unfolding value_line value_name line_most
  line_short round number =
      simp length-append
      (omega (arith, front_short f.over round, row_name_short kind number, back_short f.over round, shown_short (row_at kind number).measure (value_number kind f wide s round number)))

  each_short : (piece : ℕ → List ℕ) (most : ℕ) → ((i : ℕ) → length (piece i) ≤ most) → (n i : ℕ) → length (each piece n i) ≤ n * most
  unfolding each
  each_short piece most h zero i = omega arith
  each_short piece most h (suc n) i = omega (arith, length-append (piece i) (each piece n (i + 1)), h i, each_short piece most h n (i + 1))

  round_short : (round : ℕ) → length (round_lines kind f wide s round) ≤ f.rows * line_most f.over
  unfolding round_lines
  round_short round = each_short (value_line kind f wide s round) (line_most f.over) (line_short round) f.rows f.first

rounds_most : Over → ℕ
rounds_most Nothing = 1
rounds_most Pairs = 5
rounds_most Tiers = 5
rounds_most Years = 8
rounds_most Zones = 8

rounds_few : (wide : Bool) (f : Field) (s : List ℕ) → rounds wide f s ≤ rounds_most f.over
unfolding rounds rounds_most
rounds_few wide f s = by f.over
  where
    by : (over : Over) → rounds_by wide f s over ≤ rounds_most over
    by Nothing = omega arith
    by Pairs = omega arith
    by Tiers = omega arith
    by Years = omega arith
    by Zones = omega arith

form_short : (kind : Kind) (f : Field) (wide : Bool) (s : List ℕ) → length (form_line kind f wide s) ≤ 20
unfolding form_line
form_short kind f wide s = by (has_two_bytes wide f && all_small kind f wide s (rounds wide f s) 0)
  where
    by : (t : Bool) → length {A = ℕ} (cond t (122 ∷ 111 ∷ 110 ∷ 101 ∷ 32 ∷ 110 ∷ 117 ∷ 109 ∷ 98 ∷ 101 ∷ 114 ∷ 32 ∷ 98 ∷ 121 ∷ 116 ∷ 101 ∷ 115 ∷ 44 ∷ 50 ∷ 10 ∷ []) []) ≤ 20
    by true = omega arith
    by false = omega arith

-- ---- a field, and all of them
field_most : Field → ℕ
field_most f = 320 + rounds_most f.over * (f.rows * line_most f.over)

field_short : (kind : Kind) (wide : Bool) (s : List ℕ) (k : ℕ) → length (field_notes kind (field_at kind k)) ≤ 300 → length (field_text kind wide s k) ≤ field_most (field_at kind k)
unfolding field_text field_most
field_short kind wide s k h =
    let f = field_at kind k in
    let lines = f.rows * line_most f.over in
    let all : length (each (round_lines kind f wide s) (rounds wide f s) 0) ≤ rounds wide f s * lines =
    each_short kind f wide s (round_lines kind f wide s) lines (round_short kind f wide s) (rounds wide f s) 0 in
    let most : rounds wide f s * lines ≤ rounds_most f.over * lines = mul-le-mul_right lines (rounds_few wide f s) in
    simp length-append (omega (arith, h, form_short kind f wide s, all, most))

notes_short : (kind : Kind) (k : ℕ) → leb (length (field_notes kind (field_at kind k))) 300 ≡ true → length (field_notes kind (field_at kind k)) ≤ 300
notes_short kind k e = leb-true _ _ e

book_short : (wide : Bool) (s : List ℕ) (k : ℕ) → k < 7 → length (field_text Book wide s k) ≤ field_most (field_at Book k)
unfolding book_fields book_rows book_names from_to sums_text allowed_text described names_text note_line field_notes each decimal_from grouped_from last_digits
book_short wide s zero h = field_short Book wide s 0 (notes_short Book 0 refl)
book_short wide s (suc zero) h = field_short Book wide s 1 (notes_short Book 1 refl)
book_short wide s (suc (suc zero)) h = field_short Book wide s 2 (notes_short Book 2 refl)
book_short wide s (suc (suc (suc zero))) h = field_short Book wide s 3 (notes_short Book 3 refl)
book_short wide s (suc (suc (suc (suc zero)))) h = field_short Book wide s 4 (notes_short Book 4 refl)
book_short wide s (suc (suc (suc (suc (suc zero))))) h = field_short Book wide s 5 (notes_short Book 5 refl)
book_short wide s (suc (suc (suc (suc (suc (suc zero)))))) h = field_short Book wide s 6 (notes_short Book 6 refl)
book_short wide s (suc (suc (suc (suc (suc (suc (suc k))))))) h = absurd (omega arith)

seven : (piece : ℕ → List ℕ) → length (each piece 7 0) ≡ length (piece 0) + length (piece 1) + length (piece 2) + length (piece 3) + length (piece 4) + length (piece 5) + length (piece 6)
unfolding each
seven piece = simp length-append (omega arith)

book_text_short : (s : List ℕ) → length (file_text Book s) ≤ longest_text
unfolding file_text head_text book_fields field_most line_most front_most back_most rounds_most
book_text_short s =
    let wide = is_wide Book s in
    let fits : (k : ℕ) → k < 7 → length (field_text Book wide s k) ≤ field_most (field_at Book k) = book_short wide s in
    simp length-append
    (omega (
      arith,
      seven (field_text Book wide s),
      fits 0 (omega arith),
      fits 1 (omega arith),
      fits 2 (omega arith),
      fits 3 (omega arith),
      fits 4 (omega arith),
      fits 5 (omega arith),
      fits 6 (omega arith),
    ))

request_short : (wide : Bool) (s : List ℕ) (k : ℕ) → k < 11 → length (field_text Request wide s k) ≤ field_most (field_at Request k)
unfolding request_fields request_rows request_names from_to only_text allowed_text described names_text note_line field_notes each decimal_from grouped_from last_digits
request_short wide s zero h = field_short Request wide s 0 (notes_short Request 0 refl)
request_short wide s (suc zero) h = field_short Request wide s 1 (notes_short Request 1 refl)
request_short wide s (suc (suc zero)) h = field_short Request wide s 2 (notes_short Request 2 refl)
request_short wide s (suc (suc (suc zero))) h = field_short Request wide s 3 (notes_short Request 3 refl)
request_short wide s (suc (suc (suc (suc zero)))) h = field_short Request wide s 4 (notes_short Request 4 refl)
request_short wide s (suc (suc (suc (suc (suc zero))))) h = field_short Request wide s 5 (notes_short Request 5 refl)
request_short wide s (suc (suc (suc (suc (suc (suc zero)))))) h = field_short Request wide s 6 (notes_short Request 6 refl)
request_short wide s (suc (suc (suc (suc (suc (suc (suc zero))))))) h = field_short Request wide s 7 (notes_short Request 7 refl)
request_short wide s (suc (suc (suc (suc (suc (suc (suc (suc zero)))))))) h = field_short Request wide s 8 (notes_short Request 8 refl)
request_short wide s (suc (suc (suc (suc (suc (suc (suc (suc (suc zero))))))))) h = field_short Request wide s 9 (notes_short Request 9 refl)
request_short wide s (suc (suc (suc (suc (suc (suc (suc (suc (suc (suc zero)))))))))) h = field_short Request wide s 10 (notes_short Request 10 refl)
request_short wide s (suc (suc (suc (suc (suc (suc (suc (suc (suc (suc (suc k))))))))))) h = absurd (omega arith)

eleven : (piece : ℕ → List ℕ) → length (each piece 11 0) ≡ length (each piece 7 0) + length (piece 7) + length (piece 8) + length (piece 9) + length (piece 10)
unfolding each
eleven piece = simp length-append (omega arith)

request_text_short : (s : List ℕ) → length (file_text Request s) ≤ longest_text
unfolding file_text head_text request_fields field_most line_most front_most back_most rounds_most
request_text_short s =
    let wide = is_wide Request s in
    let fits : (k : ℕ) → k < 11 → length (field_text Request wide s k) ≤ field_most (field_at Request k) = request_short wide s in
    simp length-append
    (omega (
      arith,
      seven (field_text Request wide s),
      eleven (field_text Request wide s),
      fits 0 (omega arith),
      fits 1 (omega arith),
      fits 2 (omega arith),
      fits 3 (omega arith),
      fits 4 (omega arith),
      fits 5 (omega arith),
      fits 6 (omega arith),
      fits 7 (omega arith),
      fits 8 (omega arith),
      fits 9 (omega arith),
      fits 10 (omega arith),
    ))

pub file_text_short : (kind : Kind) (s : List ℕ) → length (file_text kind s) ≤ longest_text
file_text_short Book s = book_text_short s
file_text_short Request s = request_text_short s
