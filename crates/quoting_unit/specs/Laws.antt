-- The laws that the functions of src/laws.rt are there for, one statement each; the proofs stand in proofs/.
use Rattle.std.specs.Prelude.{ℕ, ◌<◌, ◌≤◌, ◌^◌, ◌≡◌, ◌≢◌, Bool, [], ◌∷◌, ◌++◌, map, take, false, pos, Option}
use Rattle.tagged.specs.Refusals.{output_too_short}
use Rattle.tagged.specs.declared.file.Refusal.{Refusal}
use Rattle.calls.specs.CallEnding.{joining_values, opening_value}
use Rattle.calls.specs.declared.answers.JoiningAnswer.{JoiningAnswer}
use Rattle.quoting_unit.specs.Interface.{highest_place, is_refused, place_in, result_of, Lent}
use Rattle.quoting_unit.specs.ResultParts.{ResultParts}
use Rattle.quoting_unit.specs.Unit.{UnitCall, acceptance_places, leaves_by, made, too_short, unit_call}
use Rattle.quoting_unit.specs.UnitPlaces.{FilesWithin, ending_of}
use Rattle.quoting_unit.specs.UnitResults.{Results, IsDone, refusals_of}

-- a result of 0 is of no refusal numbered 1 to 31, whatever its file and place, and of whatever ledger
abbrev pub NoRefusalIsDone : Type 0
NoRefusalIsDone = (r : Refusal) (of_ledger : ℕ) → 1 ≤ r.number → r.number ≤ 31 → result_of r of_ledger ≢ 0

-- taken apart as the header does it, a result gives each refusal numbered up to 31
abbrev pub EveryRefusalTold : Type 0
EveryRefusalTold = (r : Refusal) (of_ledger : ℕ) → r.number ≤ 31 → r.file < 4 → of_ledger < 2 → ResultParts r of_ledger (result_of r of_ledger)

-- so does the result of a call that ends with one
abbrev pub CallRefusalTold : Type 0
CallRefusalTold =
    (call : UnitCall) (lent : Lent) (r : Refusal) (of_ledger : ℕ) → ending_of call lent ≡ is_refused r of_ledger →
    ResultParts r of_ledger (unit_call call lent).result

-- and each place below 2^56, whatever number, file and flag
abbrev pub EveryPlaceTold : Type 0
EveryPlaceTold = (r : Refusal) (of_ledger : ℕ) → r.place < 2 ^ 56 → place_in (result_of r of_ledger) ≡ r.place

-- that of a call whose files are that short
abbrev pub CallPlaceTold : Type 0
CallPlaceTold =
    (call : UnitCall) (lent : Lent) (r : Refusal) (of_ledger : ℕ) → ending_of call lent ≡ is_refused r of_ledger → FilesWithin highest_place call →
    place_in (unit_call call lent).result ≡ r.place

-- Document 01, 'How calls end': 0 exactly where the call is done, otherwise the number of a refusal that this call can come to
abbrev pub UnitResults : Type 0
UnitResults = (call : UnitCall) (lent : Lent) → Results ((too_short call lent ≡ false) × IsDone call lent) (refusals_of call) (unit_call call lent).result

-- the answer's places before the last are the values with which accept ends: the joining's kind, entry and G, and the scheme opened
abbrev pub AnswerPlacesTold : Type 0
AnswerPlacesTold =
    (joining : JoiningAnswer) (opening : Option ℕ) (size : ℕ) →
    map pos (take 4 (acceptance_places joining opening size)) ≡ joining_values joining ++ (opening_value opening ∷ [])

-- "A refusal .. changes nothing"
abbrev pub RefusedChangesNoBuffer : Type 0
RefusedChangesNoBuffer = (call : UnitCall) (lent : Lent) → (unit_call call lent).result ≢ 0 → (unit_call call lent).lent ≡ lent

-- a call that judges its buffers by this test: 14 before anything else where one is too short, every buffer as it was, and otherwise what the call's own definition says
abbrev pub ShortIs14 : (Lent → Bool) → (Lent → Type 0) → Type 0
ShortIs14 test is_short =
    (call : UnitCall) (lent : Lent) → too_short call lent ≡ test lent → is_short lent → unit_call call lent ≡ record { result = output_too_short; lent = lent }

abbrev pub LongIsMade : (Lent → Bool) → (Lent → Type 0) → Type 0
LongIsMade test is_long = (call : UnitCall) (lent : Lent) → too_short call lent ≡ test lent → is_long lent → unit_call call lent ≡ leaves_by (made call lent) lent
