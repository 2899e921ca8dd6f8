-- Every refusal is told whole: its number, its file and whether it is of the stored ledger always, its place where no file has 2^56 bytes or more.
use Prim.Native.Nat.{ℕ, zero, suc, ◌+◌, ◌≤◌}
use Rattle.std.specs.Prelude.{◌≡◌, refl, List, [], ◌∷◌, Bool, true, false, cond, ltb, leb, eqb, length, get_or, take, Err, None, Ok, Option, Some, Result}
use Rattle.std.proofs.Common.{sym, subst, ap, ◌∙◌}
use native.Mathlib.Omega.{arith}
use Rattle.std.specs.Option.{ok_or}
use Rattle.tagged.specs.File.{◌>>=◌, file_answer, answer_of, fields_part, refusal, FileAnswer}
use Rattle.tagged.specs.Find.{field_start, field_value}
use Rattle.tagged.proofs.Theorems.Walk.{by_test}
use Rattle.tagged.proofs.Theorems.Impossible.{impossible}
use Rattle.tagged.specs.Refusals.{zone_not_in_book, month_before_last, numbers_not_counts, bespoke_not_allowed, no_entry_left, pay_out_above_credit, ledger_unsound, output_too_short}
use Rattle.tagged.specs.declared.file.Refusal.{Refusal}
use Rattle.field_values.specs.Judged.{judge, same_bytes}
use Rattle.rate_book.specs.Book.{book_of}
use Rattle.rate_book.specs.declared.book.Book.{Book}
use Rattle.request.specs.Request.{request_of}
use Rattle.request.specs.declared.values.Request.{Request}
use Rattle.capacity.specs.Capacity.{tier_allowed, first_not_allowed}
use Rattle.charge.specs.Price.{zone_found, tiers_of, if_allowed, values_priced, request_priced, price_of, Pricing}
use Rattle.charge.proofs.Theorems.PriceRefusals.{pricing_refusal_numbers}
use Rattle.charge.specs.declared.Bill.{Bill}
use Rattle.slip_text.specs.Slip.{slip_of}
use Rattle.ledger.specs.Books.{EntryParticulars, Books, entry_at}
use Rattle.ledger.specs.Records.{no_parties, new_ledger}
use Rattle.ledger.specs.RefusalNumbers.{one_of, one_to}
use Rattle.ledger.specs.NumberLists.{Among}
use Rattle.ledger.proofs.Theorems.RefusalNumbers.{one_of_more, one_to_within}
use Rattle.ledger.specs.Limits.{most_entries}
use Rattle.ledger.specs.Sound.{all_hold, sound}
use Rattle.ledger.specs.declared.records.Party.{Party}
use Rattle.ledger.specs.declared.records.Ledger.{Ledger}
use Rattle.calls.specs.Verdict.{verdict, Verdict}
use Rattle.calls.proofs.Theorems.VerdictConditions.{verdict_by}
use Rattle.calls.specs.Decision.{Call, accept, pay_out, hand_over, clear, decided_by, accept_by, pay_out_by, hand_over_by, decided, CallAnswer, is_accepted, is_done, is_refused, answer_to}
use Rattle.calls.specs.Carried.{State, books_on}
use Rattle.calls.specs.Calls.{state_of, answered, leaves}
use Rattle.stored.specs.StoredRows.{stored_rows}
use Rattle.stored.specs.Form.{letters, stored_entries, stored_ledger, stored_form}
use Rattle.stored.specs.Reading.{in_turn, letters_answer, form_of_file, form_sound, table_answer, read_answer}
use Rattle.stored.specs.FormOutput.{form_end}
use Rattle.stored.specs.Moves.{numbers_are_counts, numbers_answer, moved_by}
use Rattle.stored.specs.RefusedWith.{RefusesWith, moving_numbers, moving_back_numbers}
use Rattle.stored.proofs.Theorems.MoveEnds.{move_refusal_numbers, move_back_refusal_numbers}
use Rattle.stored.specs.declared.form.Form.{Form}
use Rattle.stored.specs.declared.form.Form.TheVariants.{Pion, Pio2}
use Rattle.stored.specs.StoredNumbers.{reading_numbers}
use Rattle.stored.specs.Writing.{write_of}
use Rattle.stored_calls.specs.StoredCalls.{StoredCallAnswer, not_read, not_made, made_accepted, made_done, stored_read, written_answer, end_by, once_read, new_stored_of, stored_call_of, check_by}
use Rattle.stored_calls.specs.StoredRefusals.{stored_numbers}
use Rattle.stored_calls.specs.StoredRefuses.{StoredRefuses}
use Rattle.stored_calls.proofs.Theorems.StoredCalls.{answer_of_read, stored_refusal_numbers, check_refusal_numbers, StoredCheckRefuses}
use Rattle.stored_calls.proofs.Theorems.StoredCallsRefusals.{new_refusal_numbers}
use Rattle.stored.specs.Writing as writing
use Rattle.quoting_unit.specs.Interface.{last_number, highest_place, UnitEnding, place_in, outcome_of, Lent}
use Rattle.quoting_unit.specs.Unit.{UnitCall, price, slip_text, on_ledger, check_ledger, move_to_new, move_back, move_ending, too_short, price_made, unit_slip_ending, unit_call_ending, check_ending, made, unit_call}
use Rattle.quoting_unit.proofs.Theorems.UnitBuffers.{leaves_if}
use Rattle.quoting_unit.specs.ResultParts.{ResultParts}
use Rattle.quoting_unit.proofs.Theorems.ResultParts.{told_apart}
use Rattle.quoting_unit.specs.RefusalPlaces.{PlacedBy, FileAnswerBy}
use Rattle.quoting_unit.proofs.Theorems.RefusalPlaces.{file_answer_placed, book_placed, request_placed, letters_within}
use Rattle.quoting_unit.specs.UnitPlaces.{CallFiles, FilesWithin, ending_of}
use Rattle.quoting_unit.specs.Interface as unit
use Rattle.quoting_unit.specs.Unit as calls

-- ---- pricing
abbrev TierBy : Option ℕ → Type 0
TierBy None = Unit {0}
TierBy (Some tier) = tier ≤ 5

tiers_placed : (first second third fourth fifth : Bool) →
    TierBy
    (cond first
    (cond second (cond third (cond fourth (cond fifth None (Some 5)) (Some 4)) (Some 3)) (Some 2))
    (Some 1))
tiers_placed false second third fourth fifth = omega arith
tiers_placed true false third fourth fifth = omega arith
tiers_placed true true false fourth fifth = omega arith
tiers_placed true true true false fifth = omega arith
tiers_placed true true true true false = omega arith
tiers_placed true true true true true = tt

abbrev PricingBy : ℕ → Pricing → Type 0
PricingBy size (Ok bill) = Unit {0}
PricingBy size (Err r) = PlacedBy size r

module _ (size : ℕ) (five : 5 ≤ size) where
  if_allowed_lem : (allowed : Option ℕ) (bill : Bill) → TierBy allowed → PricingBy size (if_allowed allowed bill)
  if_allowed_lem None bill h = tt
  if_allowed_lem (Some tier) bill h = (omega arith, omega arith)

  in_zone_lem : (k zones : ℕ) (numbers : List ℕ) (number : ℕ) (priced : ℕ → Pricing) → ((zone : ℕ) → PricingBy size (priced zone)) →
      PricingBy size (ok_or (zone_found k zones numbers number) (refusal zone_not_in_book 2 0) >>= priced)
  unfolding zone_found
  in_zone_lem k zero numbers number priced h = (omega arith, omega arith)
  in_zone_lem k (suc zones) numbers number priced h =
      by_test (λ zone. PricingBy size (ok_or zone (refusal zone_not_in_book 2 0) >>= priced)) (eqb (get_or numbers k 0) number) _ _ (λ _. h k)
      (λ _. in_zone_lem (k + 1) zones numbers number priced h)

  if_stands_lem : {Values : Type 0} (low : ℕ) (read : Result Values Refusal) (priced : Values → Pricing) → low ≤ size → FileAnswerBy low (answer_of read) →
      ((values : Values) → PricingBy size (priced values)) → PricingBy size (read >>= priced)
  if_stands_lem low (Ok values) priced within h p = p values
  if_stands_lem low (Err r) priced within h p = (h.0, omega (arith, h.1))

  values_placed : (book : Book) (rates : List (List ℕ)) (request : Request) (distribution transmission : ℕ) →
      PricingBy size (values_priced book rates request distribution transmission)
  unfolding values_priced
  values_placed book rates request distribution transmission =
      in_zone_lem 0 book.zones book.zone_numbers request.zone _
      (λ zone.
      let tiers = tiers_of (get_or rates zone []) request in
      if_allowed_lem (first_not_allowed tiers) _
      (tiers_placed (tier_allowed tiers 0) (tier_allowed tiers 1) (tier_allowed tiers 2) (tier_allowed tiers 3) (tier_allowed tiers 4)))

  request_priced_placed : (book : Book) (rates : List (List ℕ)) (file : List ℕ) → length file ≤ size → PricingBy size (request_priced book rates file)
  unfolding request_priced
  request_priced_placed book rates file within =
      if_stands_lem (length file) (request_of 2 file) _ within (request_placed file) (λ request. values_placed _ _ request _ _)

  price_placed : (book request : List ℕ) → length book ≤ size → length request ≤ size → PricingBy size (price_of book request)
  unfolding price_of
  price_placed book request within within' =
      if_stands_lem (length book) (book_of 1 book) _ within (book_placed book) (λ values. request_priced_placed values _ request within')

-- ---- the calls on a ledger
abbrev AnswerBy : ℕ → CallAnswer → Type 0
AnswerBy size (is_accepted acceptance) = Unit {0}
AnswerBy size is_done = Unit {0}
AnswerBy size (is_refused r) = PlacedBy size r

module _ (size : ℕ) (five : 5 ≤ size) (books : Books) where
  by_verdict : (bill : Bill) (v : Verdict) → ((r : Refusal) → v ≡ Err r → r ≡ refusal r.number 0 0) → AnswerBy size (answer_to books (decided_by books bill v))
  by_verdict bill (Ok course) told = tt
  by_verdict bill (Err r) told = subst (PlacedBy size) (sym (told r refl)) (omega arith, omega arith)

  -- what a verdict refuses with names no file and no place
  no_file : (bill : Bill) (r : Refusal) → verdict books bill ≡ Err r → r ≡ refusal r.number 0 0
  no_file bill =
      verdict_by (λ v. (r : Refusal) → v ≡ Err r → r ≡ refusal r.number 0 0) books bill
      (λ number one r e. let same : refusal number 0 0 ≡ r = cc in subst (λ x. x ≡ refusal x.number 0 0) same refl) (λ has r e. impossible cc)

  by_pricing : (pricing : Pricing) → PricingBy size pricing → AnswerBy size (answer_to books (accept_by books pricing))
  by_pricing (Ok bill) h = by_verdict bill (verdict books bill) (no_file bill)
  by_pricing (Err r) h = h

  pay_out_placed : (at : Option EntryParticulars) (amount : ℕ) → AnswerBy size (answer_to books (pay_out_by at amount))
  pay_out_placed None amount = (omega arith, omega arith)
  pay_out_placed (Some row) amount =
      by_test (λ decision. AnswerBy size (answer_to books decision)) (leb (row.paid_out + amount) row.credited) _ _ (λ _. tt)
      (λ _. let here : PlacedBy size (refusal pay_out_above_credit 0 0) = (omega arith, omega arith) in here)

  hand_over_placed : (at : Option EntryParticulars) (person : ℕ) → AnswerBy size (answer_to books (hand_over_by at person))
  hand_over_placed None person = (omega arith, omega arith)
  hand_over_placed (Some row) person = tt

  decided_placed : (call : Call) → CallFiles size call → AnswerBy size (answer_to books (decided books call))
  decided_placed (accept book request) h = by_pricing (price_of book request) (price_placed size five book request h.0 h.1)
  decided_placed (pay_out entry amount) h = pay_out_placed (entry_at books entry) amount
  decided_placed (hand_over entry person) h = hand_over_placed (entry_at books entry) person
  decided_placed (clear month) h =
      by_test (λ decision. AnswerBy size (answer_to books decision)) (ltb month books.month) _ _
      (λ _. let here : PlacedBy size (refusal month_before_last 0 0) = (omega arith, omega arith) in here) (λ _. tt)

call_placed : (size : ℕ) → 5 ≤ size → (state : State) (call : Call) → CallFiles size call → AnswerBy size (answered state call)
unfolding answered
call_placed size five state call h =
    by_test (λ decision. AnswerBy size (answer_to (books_on state) decision)) (sound state.ledger state.table (length state.table)) _ _
    (λ _. decided_placed size five (books_on state) call h)
    (λ _. let here : PlacedBy size (refusal ledger_unsound 0 0) = (omega arith, omega arith) in here)

-- ---- reading and writing
found_placed : (form : Form) (file : List ℕ) → FileAnswerBy (length file) (form_of_file form file)
found_placed form file = by (file_answer (stored_rows form) 1 file) refl (file_answer_placed (stored_rows form) 1 file (omega arith))
  where
    s : List ℕ
    s = fields_part file

    by_letters : file_answer (stored_rows form) 1 file ≡ Ok tt → (same : Bool) → FileAnswerBy (length file) (letters_answer (judge same (field_start 1 s)))
    by_letters e false = (omega arith, letters_within form file e)
    by_letters e true = tt

    by : (stands : FileAnswer) → file_answer (stored_rows form) 1 file ≡ stands → FileAnswerBy (length file) stands →
        FileAnswerBy (length file) (in_turn stands (letters_answer (judge (same_bytes (field_value 1 s) (letters form)) (field_start 1 s))))
    by (Err r) e h = h
    by (Ok _) e h = by_letters e (same_bytes (field_value 1 s) (letters form))

in_turn_placed : (size : ℕ) (first second : FileAnswer) → FileAnswerBy size first → FileAnswerBy size second → FileAnswerBy size (in_turn first second)
in_turn_placed size (Ok _) second h later = later
in_turn_placed size (Err r) second h later = h

read_placed : (form : Form) (room : ℕ) (file : List ℕ) → FileAnswerBy (length file) (read_answer form room file)
unfolding read_answer table_answer
read_placed form room file =
    let s = fields_part file in
    in_turn_placed (length file) (form_of_file form file) (table_answer form room s) (found_placed form file)
    (by (leb (length (stored_entries form s)) room) (form_sound form (stored_ledger form s) (stored_entries form s) room))
  where
    by : (fits holds : Bool) →
        FileAnswerBy (length file) (cond fits (cond holds (Ok tt) (Err (refusal ledger_unsound 0 0))) (Err (refusal no_entry_left 0 0)))
    by true true = tt
    by true false = (omega arith, omega arith)
    by false holds = (omega arith, omega arith)

numbers_placed : (size : ℕ) (ledger : Ledger) → FileAnswerBy size (numbers_answer ledger)
numbers_placed size ledger = by (all_hold (numbers_are_counts ledger))
  where
    by : (holds : Bool) → FileAnswerBy size (cond holds (Ok tt) (Err (refusal numbers_not_counts 0 0)))
    by true = tt
    by false = (omega arith, omega arith)

abbrev StoredBy : ℕ → StoredCallAnswer → Type 0
StoredBy size (not_read r) = PlacedBy size r
StoredBy size (not_made r) = PlacedBy size r
StoredBy size (made_accepted acceptance length) = Unit {0}
StoredBy size (made_done length) = Unit {0}

written_placed : (size : ℕ) (told : ℕ → StoredCallAnswer) → ((n : ℕ) → StoredBy size (told n)) → (ledger : Ledger) (table : List Party) (out : List ℕ) →
    StoredBy size (written_answer told (write_of ledger table out).answer)
unfolding writing.written_answer
written_placed size told done ledger table out =
    by (sound ledger table (length table)) (leb (length (stored_form Pio2 ledger table)) (length out)) (length (stored_form Pio2 ledger table))
  where
    by : (holds fits : Bool) (n : ℕ) →
        StoredBy size (written_answer told (cond holds (cond fits (Ok n) (Err (refusal output_too_short 0 0))) (Err (refusal ledger_unsound 0 0))))
    by true true n = done n
    by true false n = (omega arith, omega arith)
    by false fits n = (omega arith, omega arith)

module _ (size : ℕ) (five : 5 ≤ size) (call : Call) (files : CallFiles size call) (out : List ℕ) where
  end_placed : (state : State) (answer : CallAnswer) → AnswerBy size answer →
      StoredBy size (end_by answer (write_of (leaves state call).ledger (leaves state call).table out) out).answer
  end_placed state (is_accepted acceptance) h =
      written_placed size (made_accepted acceptance) (λ n. tt) (leaves state call).ledger (leaves state call).table out
  end_placed state is_done h = written_placed size made_done (λ n. tt) (leaves state call).ledger (leaves state call).table out
  end_placed state (is_refused r) h = h

  read_call_placed : (low : ℕ) (state : State) (read : FileAnswer) → low ≤ size → FileAnswerBy low read → StoredBy size (once_read read state call out).answer
  read_call_placed low state (Ok _) within h = end_placed state (answered state call) (call_placed size five state call files)
  read_call_placed low state (Err r) within h = (h.0, omega (arith, h.1))

stored_read_placed : (file : List ℕ) (room : ℕ) → FileAnswerBy (length file) (stored_read file room).answer
stored_read_placed file room = subst (FileAnswerBy (length file)) (sym (answer_of_read file room)) (read_placed Pio2 (length (take room no_parties)) file)

abbrev EndingBy : ℕ → UnitEnding → Type 0
EndingBy size (unit.is_done told) = Unit {0}
EndingBy size (unit.is_refused r of_ledger) = (r.number ≤ last_number) × PlacedBy size r × (of_ledger ≤ 1)

-- one of the numbers that a call refuses with
within_table : (numbers : List ℕ) (n : ℕ) → Among numbers (one_to last_number) → one_of numbers n ≡ true → n ≤ last_number
within_table numbers n among told = (one_to_within last_number n (one_of_more numbers (one_to last_number) n among told)).1

price_ending : (size : ℕ) (pricing : Pricing) (lent : Lent) → ((r : Refusal) → pricing ≡ Err r → (1 ≤ r.number) × (r.number ≤ bespoke_not_allowed)) →
    PricingBy size pricing → EndingBy size (price_made pricing lent).ending
price_ending size (Ok bill) lent numbers h = tt
price_ending size (Err r) lent numbers h = let both = numbers r refl in (omega arith, h, omega arith)

slip_ending : (size : ℕ) (short : Bool) (n : ℕ) → EndingBy size (unit_slip_ending (cond short (Err (refusal output_too_short 0 0)) (Ok n)))
slip_ending size true n = (omega arith, (omega arith, omega arith), omega arith)
slip_ending size false n = tt

stored_ending : (size : ℕ) (numbers : List ℕ) (told : StoredCallAnswer) → Among numbers (one_to last_number) → StoredRefuses numbers told → StoredBy size told →
    EndingBy size (unit_call_ending told)
stored_ending size numbers (not_read r) among number h = (within_table numbers r.number among number, h, omega arith)
stored_ending size numbers (not_made r) among number h = (within_table numbers r.number among number, h, omega arith)
stored_ending size numbers (made_accepted acceptance n) among number h = tt
stored_ending size numbers (made_done n) among number h = tt

check_ending_lem : (size low : ℕ) (file : List ℕ) (room : ℕ) (read : FileAnswer) → low ≤ size → FileAnswerBy low read →
    StoredCheckRefuses reading_numbers (check_by read (stored_read file room).ledger) → EndingBy size (check_ending (check_by read (stored_read file room).ledger))
check_ending_lem size low file room (Ok _) within h number = tt
check_ending_lem size low file room (Err r) within h number =
    (within_table reading_numbers r.number refl number, (h.0, omega (arith, h.1)), omega arith)

in_table : (call : Call) → Among (stored_numbers call) (one_to last_number)
in_table (accept book request) = refl
in_table (pay_out entry amount) = refl
in_table (hand_over entry person) = refl
in_table (clear month) = refl

-- a move: the file's refusal, or that of writing, which names no file and no place
moved_ending : (size low : ℕ) (numbers : List ℕ) (answer : FileAnswer) → low ≤ size → FileAnswerBy low answer → (form : Form) (ledger : Ledger) (parties : List Party) (out : List ℕ) →
    Among numbers (one_to last_number) → RefusesWith numbers (moved_by answer (form_end form ledger parties out) out).answer →
    EndingBy size (move_ending (moved_by answer (form_end form ledger parties out) out).answer)
moved_ending size low numbers (Err r) within h form ledger parties out among told =
    (within_table numbers r.number among told, (h.0, omega (arith, h.1)), flag (one_of reading_numbers r.number))
  where
    flag : (own : Bool) → cond own 1 0 ≤ 1
    flag true = omega arith
    flag false = omega arith
moved_ending size low numbers (Ok _) within h form ledger parties out among told =
    by (leb (length (stored_form form ledger parties)) (length out)) (length (stored_form form ledger parties))
  where
    by : (fits : Bool) (n : ℕ) → EndingBy size (move_ending (cond fits (Ok n) (Err (refusal output_too_short 0 0))))
    by true n = tt
    by false n = (omega arith, (omega arith, omega arith), omega arith)

made_placed : (size : ℕ) → 5 ≤ size → (call : UnitCall) (lent : Lent) → FilesWithin size call → EndingBy size (made call lent).ending
made_placed size five (price book request) lent h =
    price_ending size (price_of book request) lent (pricing_refusal_numbers book request) (price_placed size five book request h.0 h.1)
made_placed size five (slip_text book request) lent h =
    let slip = slip_of (price_of book request) in
    slip_ending size (ltb (length lent.output) (length slip)) (length slip)
made_placed size five calls.new_ledger lent h =
    stored_ending size (output_too_short ∷ []) (new_stored_of lent.output).answer refl (new_refusal_numbers lent.output)
    (written_placed size made_done (λ n. tt) new_ledger no_parties lent.output)
made_placed size five (on_ledger stored table_size call) lent h =
    let read = stored_read stored table_size in
    let out = lent.output in
    stored_ending size (stored_numbers call) (stored_call_of stored table_size call out).answer (in_table call) (stored_refusal_numbers stored table_size call out)
    (read_call_placed size five call h.1 out (length stored) (state_of read.ledger read.table) read.answer h.0
    (stored_read_placed stored table_size))
made_placed size five (move_to_new file) lent h =
    moved_ending size (length file) moving_numbers (read_answer Pion most_entries file) h (read_placed Pion most_entries file)
    Pio2 (stored_ledger Pion (fields_part file)) (stored_entries Pion (fields_part file)) lent.output refl (move_refusal_numbers file lent.output)
made_placed size five (move_back file) lent h =
    let ledger = stored_ledger Pio2 (fields_part file) in
    moved_ending size (length file) moving_back_numbers (in_turn (read_answer Pio2 most_entries file) (numbers_answer ledger)) h
    (in_turn_placed (length file) (read_answer Pio2 most_entries file) (numbers_answer ledger) (read_placed Pio2 most_entries file) (numbers_placed (length file) ledger))
    Pion ledger (stored_entries Pio2 (fields_part file)) lent.output refl (move_back_refusal_numbers file lent.output)
made_placed size five (check_ledger stored table_size) lent h =
    check_ending_lem size (length stored) stored table_size (stored_read stored table_size).answer h (stored_read_placed stored table_size)
    (check_refusal_numbers stored table_size)

ending_placed : (size : ℕ) → 5 ≤ size → (call : UnitCall) (lent : Lent) → FilesWithin size call → EndingBy size (ending_of call lent)
ending_placed size five call lent h =
    by_test (EndingBy size) (too_short call lent) _ _
    (λ _. let short : EndingBy size (unit.is_refused (refusal output_too_short 0 0) 0) = (omega arith, (omega arith, omega arith), omega arith) in short)
    (λ _. made_placed size five call lent h)

-- the result is how it ends
result_of_ending : (call : UnitCall) (lent : Lent) → (unit_call call lent).result ≡ (outcome_of (ending_of call lent)).result
result_of_ending call lent = by (too_short call lent)
  where
    by : (short : Bool) →
        (leaves_if call lent short).result ≡ (outcome_of (cond short (unit.is_refused (refusal output_too_short 0 0) 0) (made call lent).ending)).result
    by true = refl
    by false = refl

-- the files that a call is handed, together
abbrev together : UnitCall → ℕ
together (price book request) = length book + length request
together (slip_text book request) = 0
together calls.new_ledger = 0
together (on_ledger stored table_size (accept book request)) = length stored + length book + length request
together (on_ledger stored table_size (pay_out entry amount)) = length stored
together (on_ledger stored table_size (hand_over entry person)) = length stored
together (on_ledger stored table_size (clear month)) = length stored
together (check_ledger stored table_size) = length stored
together (move_to_new file) = length file
together (move_back file) = length file

within_together : (call : UnitCall) → FilesWithin (5 + together call) call
within_together (price book request) = (omega arith, omega arith)
within_together (slip_text book request) = tt
within_together calls.new_ledger = tt
within_together (on_ledger stored table_size (accept book request)) = (omega arith, (omega arith, omega arith))
within_together (on_ledger stored table_size (pay_out entry amount)) = (omega arith, tt)
within_together (on_ledger stored table_size (hand_over entry person)) = (omega arith, tt)
within_together (on_ledger stored table_size (clear month)) = (omega arith, tt)
within_together (check_ledger stored table_size) = omega arith
within_together (move_to_new file) = omega arith
within_together (move_back file) = omega arith

module _ (call : UnitCall) (lent : Lent) (r : Refusal) (of_ledger : ℕ) (ends : ending_of call lent ≡ unit.is_refused r of_ledger) where
  placed : (size : ℕ) → 5 ≤ size → FilesWithin size call → EndingBy size (unit.is_refused r of_ledger)
  placed size five h = subst (EndingBy size) ends (ending_placed size five call lent h)

  -- by the header's macros
  pub refusal_told : ResultParts r of_ledger (unit_call call lent).result
  refusal_told =
      let known = placed (5 + together call) (omega arith) (within_together call) in
      subst (ResultParts r of_ledger) (sym (result_of_ending call lent ∙ ap (λ ending. (outcome_of ending).result) ends))
      (told_apart r of_ledger (omega (arith, known.0)) (omega (arith, known.1.0)) (omega (arith, known.2)))

  pub place_told : FilesWithin highest_place call → place_in (unit_call call lent).result ≡ r.place
  place_told h =
      let known = placed highest_place (omega arith) h in
      refusal_told.place (omega (arith, known.1.1))
