-- Demand 3 for stored ledgers: the bytes kept are at each call the form of what the same calls come to in memory.
use Rattle.std.specs.Prelude.{ℕ, ◌*◌, ◌≤◌, ◌≡◌, refl, List, [], ◌∷◌, true, length, take, Ok}
use Rattle.std.proofs.Common.{zero-le, sym, ap₂, subst, ◌∙◌, arith, take_all}
use Rattle.std.proofs.Math.Path.{ap}
use Rattle.std.proofs.lemmas.List.{length-replicate}
use Rattle.std.proofs.Math.Seq.{length-take-le}
use Rattle.tagged.specs.declared.file.Refusal.{Refusal}
use Rattle.ledger.specs.Limits.{most_schemes}
use Rattle.ledger.specs.Lists.{All, nil, at_start, sum_by}
use Rattle.ledger.specs.Records.{no_scheme, no_parties, new_ledger}
use Rattle.ledger.specs.Sound.{sound}
use Rattle.ledger.specs.SoundConditions.{SoundLedger}
use Rattle.ledger.proofs.Theorems.SameEntries.{sound_in}
use Rattle.ledger.proofs.Theorems.Sound.{sound_means, new_ledger_sound}
use Rattle.ledger.specs.declared.records.Party.{Party}
use Rattle.ledger.specs.declared.records.Ledger.{Ledger}
use Rattle.calls.specs.Decision.{Call, CallAnswer, is_accepted, is_done, is_refused}
use Rattle.calls.specs.Carried.{State, entries_on}
use Rattle.calls.specs.Laws.{SameByEntries}
use Rattle.calls.proofs.Theorems.ByEntries.{by_entries}
use Rattle.calls.specs.Calls.{state_of, answered, leaves, Promised, Trace, Fits, AllFit}
use Rattle.calls.proofs.Theorems.Calls.{refused_changes_nothing}
use Rattle.calls.proofs.Theorems.Promised.{promise_kept}
use Rattle.stored.proofs.Theorems.Layout.{take_at_start, length_at_start}
use Rattle.stored.specs.declared.form.Form.TheVariants.{Pio2}
use Rattle.stored.specs.Form.{stored_form, shortest_form, longest_form}
use Rattle.stored.proofs.Theorems.Form.{length_form}
use Rattle.stored.specs.Writing.{write_of}
use Rattle.stored.proofs.Theorems.Writing.{write_done, output_done}
use Rattle.stored.proofs.Theorems.SameForm.{same_form}
use Rattle.stored.proofs.Theorems.RoundTrips.{read_of_form}
use Rattle.stored_calls.specs.StoredCalls.{stored_read, written_answer, written_end, end_by, call_on_read, StoredCallAnswer, made_accepted, made_done, new_stored_of}
use Rattle.history.specs.History.{History, collected, paid_of, fee, joinings, party_in, parties_in, ledger_in, history_of}
use Rattle.history.specs.DemandThree.{HoldsAfter}
use Rattle.history.proofs.Theorems.Numbering.{length_shown}
use Rattle.history.proofs.Theorems.EveryListOfCalls.{every_list_of_calls}
use Rattle.kept_sound.proofs.Theorems.KeptSound.{call_keeps_sound}
use Rattle.kept_sound.proofs.Theorems.KeptByCalls.{no_terms, call_kept}
use Rattle.kept_sound.specs.Kept.{PersonFits, Kept}
use Rattle.stored_calls.proofs.Theorems.FormFits.{form_fits_of_kept}
use Rattle.calls.specs.Calls as calling
use Rattle.stored_history.specs.StoredDemandThree.{StoredStep, step_by, stored_step, StoredTrace, none, more, EveryListOfStoredCalls}
use Rattle.stored_history.specs.EveryListOfStoredCalls.{form_of}

-- ---- what the bytes kept stand for

-- a state whose form is read back as its ledger and entries, into a table of as many records, and which a call keeps so
pub record InMemory (room : ℕ) (state : State) : Type 0 where
  pub kept : Kept (length (take room no_parties)) state
  pub stands : sound state.ledger state.table (length state.table) ≡ true

module _ (room : ℕ) (state : State) (h : InMemory room state) where
  facts : SoundLedger state.ledger state.table (length state.table)
  facts = sound_means state.ledger state.table (length state.table) h.stands

  -- the table that is made anew
  abbrev pub anew : List Party
  anew = at_start (entries_on state) (take room no_parties)

  pub reads_back : stored_read (form_of state) room ≡ record { answer = Ok tt; ledger = state.ledger; table = anew }
  unfolding stored_read
  reads_back =
      read_of_form state.ledger state.table (form_fits_of_kept (length (take room no_parties)) state h.kept facts) h.stands new_ledger (take room no_parties)
      (omega (arith, facts.figures.in_table, h.kept.as_long))

  entries_counted : length (entries_on state) ≡ state.ledger.entries
  entries_counted = length-take-le state.ledger.entries state.table facts.figures.in_table

  anew_entries : take state.ledger.entries state.table ≡ take state.ledger.entries anew
  anew_entries = sym (ap (λ n. take n anew) (sym entries_counted) ∙ take_at_start (entries_on state) (take room no_parties))

  anew_long : length state.table ≡ length anew
  anew_long = h.kept.as_long ∙ sym (length_at_start (entries_on state) (take room no_parties) (omega (arith, facts.figures.in_table, entries_counted, h.kept.as_long)))

-- ---- one call
longest_form_lem : (ledger : Ledger) (table : List Party) → length ledger.schemes ≡ most_schemes → sound ledger table (length table) ≡ true →
    length (stored_form Pio2 ledger table) ≤ longest_form Pio2
longest_form_lem ledger table places stands =
    let figures = (sound_means ledger table (length table) stands).figures in
    omega (arith, length_form Pio2 ledger table (omega (arith, figures.schemes)) figures.in_table, figures.schemes, figures.entries)

-- what is written of a sound ledger: its form, at the start of an output that has room for it
written_form : (ledger : Ledger) (table : List Party) (output : List ℕ) → sound ledger table (length table) ≡ true →
    length (stored_form Pio2 ledger table) ≤ length output →
    write_of ledger table output ≡ record { answer = Ok (length (stored_form Pio2 ledger table)); output = at_start (stored_form Pio2 ledger table) output }
written_form ledger table output stands fits =
    let written = write_done ledger table (length table) output stands fits in
    λ i. record { answer = written i; output = output_done ledger table (length table) output written i }

-- what a call comes to, once the ledger was read
module _ (before : List ℕ) (after : State) (output : List ℕ) (stands : sound after.ledger after.table (length after.table) ≡ true)
    (fits : length (form_of after) ≤ length output) where
  made_ends : (answer : CallAnswer) (told : ℕ → StoredCallAnswer) →
      ((size : ℕ) (bytes : List ℕ) → step_by (record { answer = told size; output = bytes }) before ≡ record { answer = answer; kept = take size bytes }) →
      step_by (written_end told (write_of after.ledger after.table output)) before ≡ record { answer = answer; kept = form_of after }
  made_ends answer told tells =
      ap (λ written. step_by (written_end told written) before) (written_form after.ledger after.table output stands fits)
      ∙ tells (length (form_of after)) (at_start (form_of after) output)
      ∙ ap (λ kept. record { answer = answer; kept = kept }) (take_at_start (form_of after) output)

  call_ends : (answer : CallAnswer) → ((r : Refusal) → answer ≡ is_refused r → before ≡ form_of after) →
      step_by (end_by answer (write_of after.ledger after.table output) output) before ≡ record { answer = answer; kept = form_of after }
  call_ends (is_accepted acceptance) unchanged = made_ends (is_accepted acceptance) (made_accepted acceptance) (λ size bytes. refl)
  call_ends is_done unchanged = made_ends is_done made_done (λ size bytes. refl)
  call_ends (is_refused r) unchanged = ap (λ kept. record { answer = is_refused r; kept = kept }) (unchanged r refl)

-- a call keeps a state so
in_memory_step : (room : ℕ) (state : State) → InMemory room state → (call : Call) → Fits call → InMemory room (leaves state call)
in_memory_step room state h call fits =
    let kept = call_kept h.kept call fits in
    let same : length (leaves state call).table ≡ length state.table = kept.as_long ∙ sym h.kept.as_long in
    record {
      kept = kept;
      stands = ap (sound (leaves state call).ledger (leaves state call).table) same ∙ call_keeps_sound state call h.kept.places fits h.stands;
    }

module _ (room : ℕ) (state : State) (h : InMemory room state) where
  -- what is read again stands as the state did: its answer and what it leaves are those of the state, by entries and length alone
  abbrev again : State
  again = state_of state.ledger (anew room state h)

  in_memory_again : InMemory room again
  in_memory_again =
      let entries = anew_entries room state h in
      let long = anew_long room state h in
      record {
        kept =
            record {
              places = h.kept.places;
              month = h.kept.month;
              terms = h.kept.terms;
              persons = subst (All PersonFits) entries h.kept.persons;
              in_places = h.kept.in_places;
              in_table = omega (arith, h.kept.in_table, long);
              as_long = sym long ∙ h.kept.as_long;
            };
        stands =
            sound_in state.ledger state.table (anew room state h) (length state.table) (length (anew room state h)) (sym entries)
            (omega (arith, h.kept.in_table, long)) h.stands;
      }

  same : (call : Call) → SameByEntries state again call
  same call = by_entries state.ledger state.table (anew room state h) call (anew_entries room state h) (anew_long room state h)

  same_bytes : (call : Call) → form_of (leaves again call) ≡ form_of (leaves state call)
  same_bytes call =
      same_form Pio2 (leaves again call).table (leaves state call).table (sym (same call).ledger)
      (sym (same call).entries)

  -- a call on the form answers as in memory, and the form of what it leaves there is kept
  stored_step_lem : (call : Call) → Fits call → (output : List ℕ) → longest_form Pio2 ≤ length output →
      stored_step room (form_of state) call output ≡ record { answer = answered state call; kept = form_of (leaves state call) }
  stored_step_lem call fits output long =
      let next = in_memory_step room again in_memory_again call fits in
      let after = leaves again call in
      let before : form_of state ≡ form_of again = same_form Pio2 state.table (anew room state h) refl (anew_entries room state h) in
      ap (λ read. step_by (call_on_read read call output) (form_of state)) (reads_back room state h)
      ∙ call_ends (form_of state) after output next.stands
      (omega (arith, longest_form_lem after.ledger after.table next.kept.places next.stands))
      (answered again call)
      (λ r refused. before ∙ sym (ap form_of (refused_changes_nothing again call r refused)))
      ∙ ap₂ (λ answer kept. record { answer = answer; kept = kept }) (sym (same call).answer) (same_bytes call)

-- ---- the list

-- the same calls in memory, and where they end
record SameInMemory (room : ℕ) (state : State) (calls : List Call) (answers : List CallAnswer) (after : List ℕ) : Type 0 where
  end : State
  trace : Trace state calls answers end
  in_memory_lem : InMemory room end
  kept : after ≡ form_of end

same_in_memory : (room : ℕ) (state : State) (before : List ℕ) (calls : List Call) (answers : List CallAnswer) (after : List ℕ) → InMemory room state →
    before ≡ form_of state → AllFit calls → StoredTrace room before calls answers after → SameInMemory room state calls answers after
same_in_memory room state before [] [] after h e fit none = record { end = state; trace = calling.none; in_memory_lem = h; kept = e }
same_in_memory room state before [] (answer ∷ answers) after h e fit trace = elim trace [ ]
same_in_memory room state before (call ∷ calls) [] after h e fit trace = elim trace [ ]
same_in_memory room state before (call ∷ calls) (answer ∷ answers) after h e fit (more {between} output long step trace) =
    let in_memory : StoredStep = record { answer = answered state call; kept = form_of (leaves state call) } in
    let told : record { answer = answer; kept = between } ≡ in_memory =
    sym step ∙ ap (λ kept. stored_step room kept call output) e ∙ stored_step_lem room state h call fit.0 output long in
    let later =
    same_in_memory room (leaves state call) between calls answers after (in_memory_step room state h call fit.0) (ap (λ one. one.kept) told) fit.1
    trace in
    record {
      end = later.end;
      trace =
          calling.more
          (subst (λ one. Promised state call one (leaves state call)) (sym (ap (λ one. one.answer) told)) (promise_kept state call))
          later.trace;
      in_memory_lem = later.in_memory_lem;
      kept = later.kept;
    }

new_in_memory : (room : ℕ) → InMemory room (state_of new_ledger (take room no_parties))
new_in_memory room =
    record {
      kept =
          record {
            places = length-replicate most_schemes no_scheme;
            month = omega arith;
            terms = no_terms most_schemes;
            persons = nil;
            in_places = omega arith;
            in_table = zero-le;
            as_long = refl;
          };
      stands = new_ledger_sound (take room no_parties) (length (take room no_parties));
    }

-- a new ledger's form is the same with every table
new_form : (table : List Party) → stored_form Pio2 new_ledger [] ≡ stored_form Pio2 new_ledger table
new_form table = same_form Pio2 [] table refl refl

from_new : (room : ℕ) (calls : List Call) (answers : List CallAnswer) (after : List ℕ) → AllFit calls →
    StoredTrace room (stored_form Pio2 new_ledger []) calls answers after → SameInMemory room (state_of new_ledger (take room no_parties)) calls answers after
from_new room calls answers after fit trace =
    let start = take room no_parties in
    same_in_memory room (state_of new_ledger start) (stored_form Pio2 new_ledger []) calls answers after (new_in_memory room) (new_form start) fit trace

-- the running sums, as HoldsAfter has them
abbrev ClearedShown : Ledger → History → Type 0
ClearedShown ledger history =
    (ledger.cleared_collected ≡ sum_by (λ account. collected account.entered) history.cleared)
    × (ledger.cleared_paid_out ≡ sum_by (λ account. paid_of account.paid) history.cleared)
    × (ledger.cleared_fees ≡ sum_by (λ account. fee account.entered * joinings account.entered) history.cleared)

-- what a list of calls comes to in memory, by demand 3
module _ (room : ℕ) (calls : List Call) (answers : List CallAnswer) (end : State)
    (holds : HoldsAfter (length (take room no_parties)) (history_of (length (take room no_parties)) calls) calls answers end) where
  abbrev history : History
  history = history_of (length (take room no_parties)) calls

  many : length (parties_in history) ≡ length history.entered
  many = length_shown (party_in history) history.entered

  entries_shown : entries_on end ≡ parties_in history
  entries_shown = ap (λ ledger. take ledger.entries end.table) holds.ledger_shows ∙ holds.entries_show

  -- of the ledger and the entries that the history comes to, whatever stands past them
  pub holds_anew : (others : List Party) → HoldsAfter (length (take room no_parties)) history calls answers (state_of (ledger_in history) (at_start (parties_in history) others))
  holds_anew others =
      record {
        balanced = holds.balanced;
        parties = holds.parties;
        cleared_hold = holds.cleared_hold;
        cleared_balanced = holds.cleared_balanced;
        schemes_limit = holds.schemes_limit;
        entries_limit = holds.entries_limit;
        in_table = holds.in_table;
        schemes_in_order = holds.schemes_in_order;
        entries_in_order = holds.entries_in_order;
        schemes_once = holds.schemes_once;
        entries_once = holds.entries_once;
        schemes_opened = holds.schemes_opened;
        reconciled = holds.reconciled;
        answered = holds.answered;
        never_13 = holds.never_13;
        ledger_shows = refl;
        entries_show = ap (λ n. take n (at_start (parties_in history) others)) (sym many) ∙ take_at_start (parties_in history) others;
        cleared_shows = subst (λ (ledger : Ledger). ClearedShown ledger history) holds.ledger_shows holds.cleared_shows;
      }

  form_shows : form_of end ≡ stored_form Pio2 (ledger_in history) (parties_in history)
  form_shows =
      same_form Pio2 end.table (parties_in history) holds.ledger_shows
      (entries_shown ∙ sym (take_all (length history.entered) (parties_in history) (omega (arith, many))))

pub every_list_of_stored_calls : EveryListOfStoredCalls
every_list_of_stored_calls room calls answers after fit trace =
    let memory = from_new room calls answers after fit trace in
    let holds = (every_list_of_calls (take room no_parties) calls answers memory.end fit memory.trace).holds in (
      memory.kept ∙ form_shows room calls answers memory.end holds,
      holds_anew room calls answers memory.end holds (take room no_parties),
    )

-- After every list the next call reads what the history comes to: no call is refused for the stored ledger itself.
pub kept_reads_back : (room : ℕ) (calls : List Call) (answers : List CallAnswer) (after : List ℕ) → AllFit calls →
    StoredTrace room (stored_form Pio2 new_ledger []) calls answers after →
    let start = take room no_parties in
    let history = history_of (length start) calls in
    stored_read after room ≡ record { answer = Ok tt; ledger = ledger_in history; table = at_start (parties_in history) start }
kept_reads_back room calls answers after fit trace =
    let memory = from_new room calls answers after fit trace in
    let holds = (every_list_of_calls (take room no_parties) calls answers memory.end fit memory.trace).holds in
    ap (λ kept. stored_read kept room) memory.kept
    ∙ reads_back room memory.end memory.in_memory_lem
    ∙ ap₂ (λ ledger entries. record { answer = Ok tt; ledger = ledger; table = at_start entries (take room no_parties) }) holds.ledger_shows
    (entries_shown room calls answers memory.end holds)

-- every list of calls has such a trace, from any bytes and with any output that has room for the longest form
pub stored_trace_exists : (room : ℕ) (kept : List ℕ) (calls : List Call) (output : List ℕ) → longest_form Pio2 ≤ length output →
    (answers : List CallAnswer) × (after : List ℕ) × StoredTrace room kept calls answers after
stored_trace_exists room kept [] output long = ([], kept, none)
stored_trace_exists room kept (call ∷ calls) output long =
    let first = stored_step room kept call output in
    let later = stored_trace_exists room first.kept calls output long in
    (first.answer ∷ later.0, later.1, more output long refl later.2)

-- what a new ledger's call writes is the form that a list of calls starts from
pub new_stored_kept : (output : List ℕ) → shortest_form Pio2 ≤ length output →
    ((new_stored_of output).answer ≡ made_done (shortest_form Pio2)) × (take (shortest_form Pio2) (new_stored_of output).output ≡ stored_form Pio2 new_ledger [])
new_stored_kept output long =
    let form = stored_form Pio2 new_ledger no_parties in
    let size : length form ≡ shortest_form Pio2 = length_form Pio2 new_ledger no_parties zero-le zero-le in
    let written = written_form new_ledger no_parties output (new_ledger_sound no_parties (length no_parties)) (omega arith) in (
      ap (λ end. written_answer made_done end.answer) written ∙ ap made_done size,
      ap₂ take (sym size) (ap (λ end. end.output) written) ∙ take_at_start form output ∙ sym (new_form no_parties),
    )
