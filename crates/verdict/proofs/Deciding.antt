-- What deciding reads of a ledger and its table: K of a scheme, one entry more at a time, and the rules on the places that the ledger has.
use Rattle.std.specs.Prelude.{None, Some, Err, Ok}
use Prim.Native.Nat.{ℕ, ◌+◌, ◌<◌, ◌≤◌}
use mathlib.Core.Path.{◌≡◌, refl}
use mathlib.Core.List.{List, [], map-append}
use mathlib.Core.Bool.{cond}
use native.Mathlib.Numerals.{add-one}
use native.Mathlib.Omega.{arith}
use lib.Dec.{eqb}
use lib.ListN.{length, take, get_or}
use lib.Seq.{take-suc}
use borrow.Author.Tests.{eq-eqb, ne_eqb}
use Rattle.ledger.specs.Columns.{scheme_column, sum_over}
use Rattle.ledger.specs.CapacityColumns.{capacity_column}
use Rattle.tagged.specs.File.{refusal}
use Rattle.tagged.specs.Refusals.{no_scheme_left, no_entry_left}
use Rattle.charge.specs.declared.Bill.{Bill}
use Rattle.ledger.specs.Books.{Books, scheme_particulars}
use Rattle.ledger.specs.Lookup.{scheme_place}
use Rattle.ledger.specs.Records.{no_scheme, no_party}
use Rattle.ledger.specs.declared.records.Scheme.{Scheme}
use Rattle.ledger.specs.declared.records.Party.{Party}
use Rattle.ledger.specs.declared.records.Ledger.{Ledger}
use Rattle.ledger.proofs.Tallying.{sum_more}
use Rattle.ledger.proofs.Theorems.Lookup.{placed}
use Rattle.ledger.proofs.Theorems.Sound.{sound_means}
use Rattle.calls.specs.Rules.{parties_of, capacity_of}
use Rattle.calls.specs.Verdict.{joining_part, joining_of, schemes_lacking, entries_lacking, entries_needed, course_verdict}
use Rattle.calls.specs.declared.courses.Joining.{Joining}
use Rattle.calls.specs.declared.courses.Joining.TheVariants.{Ended}
use Rattle.calls.specs.declared.courses.Course.{Course}
use Rattle.calls.proofs.Theorems.ByPlace.{scheme_by_place, capacity_by_place}
use Rattle.calls.proofs.Theorems.Verdict.{verdict_refused_10, verdict_refused_7, verdict_refused_6, verdict_course}
use Rattle.verdict.specs.Snapshot.{snapshot_books}
use Rattle.verdict.proofs.Theorems.Snapshot.{snapshot_counted}

-- K of the first i entries
abbrev pub capacity_up_to : ℕ → List Party → ℕ → ℕ
capacity_up_to s parties i = sum_over s (scheme_column (take i parties)) (capacity_column (take i parties))

pub capacity_none : (s : ℕ) (capacities : List ℕ) → sum_over s [] capacities ≡ 0
unfolding sum_over
capacity_none s capacities = refl

module _ (s : ℕ) (parties : List Party) (i : ℕ) (within : i < length parties) where
  capacity_more : capacity_up_to s parties (i + 1) ≡ capacity_up_to s parties i + cond (eqb (get_or parties i no_party).scheme s) (get_or parties i no_party).capacity 0
  capacity_more =
      rw (add-one, take-suc parties i no_party within)
      (simp map-append (sum_more s (λ party. party.scheme) (λ party. party.capacity) (get_or parties i no_party) (take i parties)))

  pub capacity_own : (get_or parties i no_party).scheme ≡ s → capacity_up_to s parties (i + 1) ≡ capacity_up_to s parties i + (get_or parties i no_party).capacity
  capacity_own own = rw (eq-eqb _ _ own) at capacity_more

  pub capacity_other : ((get_or parties i no_party).scheme ≡ s → ⊥) → capacity_up_to s parties (i + 1) ≡ capacity_up_to s parties i
  capacity_other other = omega (arith, rw (ne_eqb _ _ other) at capacity_more)

-- ---- the joining and the course, by what the ledger has at its places

pub scheme_below : (s k : ℕ) (schemes : List Scheme) → scheme_place s schemes ≡ Some k → k < length schemes
scheme_below s k schemes at = (placed (λ scheme. scheme.number) schemes no_scheme s k at).0

module _ (ledger : Ledger) (table : List Party) (room : ℕ) where
  module _ (bill : Bill) (asked : bill.applicant.scheme ≡ 0 → ⊥) where
    pub joining_missing : scheme_place bill.applicant.scheme (take ledger.count ledger.schemes) ≡ None → joining_part (snapshot_books ledger table room) bill ≡ Ended
    joining_missing none = rw (ne_eqb _ _ asked, scheme_by_place ledger table bill.applicant.scheme, none)

    pub joining_placed : (at : ℕ) → scheme_place bill.applicant.scheme (take ledger.count ledger.schemes) ≡ Some at → (joining : Joining) →
        ((books : Books) → capacity_of (parties_of bill.applicant.scheme books) ≡
        sum_over bill.applicant.scheme (scheme_column (take ledger.entries table)) (capacity_column (take ledger.entries table)) →
        joining ≡ joining_of books bill (scheme_particulars (get_or (take ledger.count ledger.schemes) at no_scheme))) →
        joining ≡ joining_part (snapshot_books ledger table room) bill
    joining_placed at place joining told =
        rw (ne_eqb _ _ asked, scheme_by_place ledger table bill.applicant.scheme, place)
        (told (snapshot_books ledger table room) (capacity_by_place bill.applicant.scheme ledger table))

  pub course_by_counts : (course : Course) → ledger.count ≤ length ledger.schemes → ledger.entries ≤ length table → course_verdict (snapshot_books ledger table room) course ≡
      cond (schemes_lacking ledger.count ledger.next_scheme course.opens) (Err (refusal no_scheme_left 0 0))
      (cond (entries_lacking ledger.entries room (entries_needed course)) (Err (refusal no_entry_left 0 0)) (Ok course))
  course_by_counts course places kept =
      let counted = snapshot_counted ledger table room places kept in
      rw (counted.schemes, counted.entries)

-- the refusals in their order, and the course that is left
pub ruleset in_order = (sound_means, verdict_refused_10, verdict_refused_7, verdict_refused_6, verdict_course)
