-- A ledger with its table, and what a decision makes of them. Document 01, 'Accept': it "adds the connection, CC and the borne sum, and sets the month"; what it
-- joins comes next, and what it opens last.
use Rattle.std.specs.Prelude.{ℕ, ◌+◌, List, [], ◌∷◌, ◌++◌, map, filter, Bool, true, false, cond, not, length, take, drop, eqb}
use Rattle.charge.specs.declared.Bill.{Bill}
use Rattle.ledger.specs.Lists.{at_start, sum_by}
use Rattle.ledger.specs.Records.{new_ledger}
use Rattle.ledger.specs.RefusalNumbers.{one_of}
use Rattle.ledger.specs.Books.{Books, books_of}
use Rattle.ledger.specs.declared.records.Scheme.{Scheme}
use Rattle.ledger.specs.declared.records.Party.{Party}
use Rattle.ledger.specs.declared.records.Ledger.{Ledger}
use Rattle.calls.specs.Rules.{Credit, credit_to}
use Rattle.calls.specs.Decision.{Decision, accepted, paid_out, handed_over, cleared, refused}
use Rattle.calls.specs.declared.courses.Joining.{Joining}
use Rattle.calls.specs.declared.courses.Joining.TheVariants.{NotAsked, Ended, Small, Pays}

-- what a call is handed, and what it leaves
pub record State : Type 0 where
  pub ledger : Ledger
  pub table : List Party

abbrev pub books_on : State → Books
books_on state = books_of state.ledger state.table

abbrev pub schemes_on : State → List Scheme
schemes_on state = take state.ledger.count state.ledger.schemes

abbrev pub entries_on : State → List Party
entries_on state = take state.ledger.entries state.table

-- one entry more, after these
abbrev pub entered : List Party → Party → State → State
entered entries party state =
    record { ledger = record state.ledger { entries = state.ledger.entries + 1; next_entry = state.ledger.next_entry + 1 }; table = at_start (entries ++ (party ∷ [])) state.table }

-- "an entry": its number, scheme, person and capacity, with this put in; nothing is credited or paid out yet
abbrev pub new_party : ℕ → ℕ → Bill → ℕ → Party
new_party number scheme bill put_in =
    record {
      number = number;
      scheme = scheme;
      person = bill.applicant.person;
      capacity = bill.applicant.capacity;
      put_in = put_in;
      credited = 0;
      paid_out = 0;
    }

-- ---- accept: booked, then joined, then opened

-- a contribution is no part of CC
abbrev pub booked : Bill → State → State
booked bill state =
    record state {
      ledger =
          record state.ledger {
            month = bill.applicant.month;
            connections = state.ledger.connections + 1;
            charged = state.ledger.charged + bill.reconciliation.cc;
            borne = state.ledger.borne + bill.reconciliation.borne;
          };
    }

-- "the fee taken"
abbrev pub takes_fee : ℕ → ℕ → Scheme → Scheme
takes_fee s fee scheme = cond (eqb s scheme.number) (record scheme { fees = scheme.fees + fee }) scheme

abbrev pub is_credited : ℕ → List Credit → Party → Party
is_credited s credits party = cond (eqb s party.scheme) (record party { credited = party.credited + credit_to party.number credits }) party

abbrev pub fee_taken : ℕ → ℕ → State → State
fee_taken s fee state =
    record state { ledger = record state.ledger { schemes = at_start (map (takes_fee s fee) (schemes_on state)) state.ledger.schemes } }

-- "The joiner becomes an entry with G put in."
abbrev pub joined : Joining → List Credit → Bill → State → State
joined NotAsked credits bill state = state
joined Ended credits bill state = state
joined Small credits bill state = state
joined (Pays paid) credits bill state =
    let s = bill.applicant.scheme in
    entered (map (is_credited s credits) (entries_on state)) (new_party state.ledger.next_entry s bill paid.collected) (fee_taken s paid.fee state)

-- "a scheme of cost X opens with the book's fee, minimum and term, and the applicant is its first entry with X put in"
abbrev pub new_scheme : ℕ → Bill → Scheme
new_scheme number bill =
    record {
      number = number;
      cost = bill.reconciliation.x;
      fee = bill.terms.fee;
      minimum = bill.terms.minimum;
      opening = bill.applicant.month;
      term = bill.terms.term;
      fees = 0;
    }

abbrev pub scheme_opened : Bill → State → State
scheme_opened bill state =
    record state {
      ledger =
          record state.ledger {
            next_scheme = state.ledger.next_scheme + 1;
            count = state.ledger.count + 1;
            schemes = at_start (schemes_on state ++ (new_scheme state.ledger.next_scheme bill ∷ [])) state.ledger.schemes;
          };
    }

abbrev pub opened : Bool → Bill → State → State
opened false bill state = state
opened true bill state =
    entered (entries_on state) (new_party state.ledger.next_entry state.ledger.next_scheme bill bill.reconciliation.x) (scheme_opened bill state)

-- ---- pay-out and hand-over leave the ledger as it is
abbrev pub is_paid : ℕ → ℕ → Party → Party
is_paid e amount party = cond (eqb e party.number) (record party { paid_out = party.paid_out + amount }) party

abbrev pub is_handed : ℕ → ℕ → Party → Party
is_handed e person party = cond (eqb e party.number) (record party { person = person }) party

-- ---- clearing: what goes of it into "running sums of what cleared schemes collected, paid out and took in fees" (document 02, E8)
abbrev pub parties_on : ℕ → List Party → List Party
parties_on s entries = filter (λ entry. eqb entry.scheme s) entries

-- put in of a scheme's entries but the first
abbrev pub collected_of : List Party → ℕ → ℕ
collected_of entries s = sum_by (λ entry. entry.put_in) (drop 1 (parties_on s entries))

abbrev pub paid_out_of : List Party → ℕ → ℕ
paid_out_of entries s = sum_by (λ entry. entry.paid_out) (parties_on s entries)

abbrev pub fees_of : List Scheme → ℕ → ℕ
fees_of schemes s = sum_by (λ scheme. cond (eqb scheme.number s) scheme.fees 0) schemes

-- "removes every scheme .. and those entries. The rest close up in order .. The clearing month becomes the last month." Places past the last scheme hold
-- zeros; records past the last entry are as the call found them.
abbrev pub cleared_of : ℕ → List ℕ → State → State
cleared_of month gone state =
    let schemes = filter (λ scheme. not (one_of gone scheme.number)) (schemes_on state) in
    let entries = filter (λ entry. not (one_of gone entry.scheme)) (entries_on state) in
    record {
      ledger =
          record state.ledger {
            month = month;
            cleared_collected = state.ledger.cleared_collected + sum_by (collected_of (entries_on state)) gone;
            cleared_paid_out = state.ledger.cleared_paid_out + sum_by (paid_out_of (entries_on state)) gone;
            cleared_fees = state.ledger.cleared_fees + sum_by (fees_of (schemes_on state)) gone;
            entries = length entries;
            count = length schemes;
            schemes = at_start schemes new_ledger.schemes;
          };
      table = at_start entries state.table;
    }

abbrev pub carried_out : State → Decision → State
carried_out state (accepted bill course credits) = opened course.opens bill (joined course.joining credits bill (booked bill state))
carried_out state (paid_out s e amount) = record state { table = at_start (map (is_paid e amount) (entries_on state)) state.table }
carried_out state (handed_over e person) = record state { table = at_start (map (is_handed e person) (entries_on state)) state.table }
carried_out state (cleared month gone) = cleared_of month gone state
carried_out state (refused r) = state
