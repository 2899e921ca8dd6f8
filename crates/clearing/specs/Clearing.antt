-- A clearing as the code makes it: for each place whether the scheme there goes, and what closing up leaves. By `clearing_is_call` it comes to what the call
-- answers and leaves.
use Rattle.std.specs.Prelude.{ℕ, ◌+◌, List, [], ◌∷◌, filter, Bool, cond, not, leb, eqb}
use Rattle.std.specs.List.{list_all}
use Rattle.ledger.specs.Lists.{sum_by}
use Rattle.ledger.specs.RefusalNumbers.{one_of}
use Rattle.ledger.specs.declared.records.Scheme.{Scheme}
use Rattle.ledger.specs.declared.records.Party.{Party}
use Rattle.calls.specs.Carried.{parties_on}

-- "ended by that month" (document 02, E8)
abbrev pub ended_by : ℕ → Scheme → Bool
ended_by month scheme = leb (scheme.opening + scheme.term) month

-- the entries of scheme s all have standing credit 0
abbrev pub settled : ℕ → List Party → Bool
settled s entries = list_all (λ entry. eqb entry.credited entry.paid_out) (parties_on s entries)

-- the numbers of the schemes that go, by what is said of each place
abbrev pub gone_numbers : List Bool → List Scheme → List ℕ
gone_numbers [] schemes = []
gone_numbers (goes ∷ others) [] = []
gone_numbers (goes ∷ others) (scheme ∷ schemes) = cond goes (scheme.number ∷ gone_numbers others schemes) (gone_numbers others schemes)

-- ---- those that stay
abbrev pub scheme_stays : List ℕ → Scheme → Bool
scheme_stays gone scheme = not (one_of gone scheme.number)

abbrev pub entry_stays : List ℕ → Party → Bool
entry_stays gone entry = not (one_of gone entry.scheme)

abbrev pub schemes_left : List ℕ → List Scheme → List Scheme
schemes_left gone schemes = filter (scheme_stays gone) schemes

abbrev pub entries_left : List ℕ → List Party → List Party
entries_left gone entries = filter (entry_stays gone) entries

-- ---- what those that go come to: in fees, and paid out
abbrev pub scheme_fees : List ℕ → Scheme → ℕ
scheme_fees gone scheme = cond (one_of gone scheme.number) scheme.fees 0

abbrev pub entry_paid_out : List ℕ → Party → ℕ
entry_paid_out gone entry = cond (one_of gone entry.scheme) entry.paid_out 0

abbrev pub fees_gone : List ℕ → List Scheme → ℕ
fees_gone gone schemes = sum_by (scheme_fees gone) schemes

abbrev pub paid_out_gone : List ℕ → List Party → ℕ
paid_out_gone gone entries = sum_by (entry_paid_out gone) entries
