-- Document 01, 'Accept': what becomes of a priced request, in two parts: the joining that it asks for, and whether a scheme opens.
use Rattle.std.specs.Prelude.{ℕ, ◌+◌, [], ◌∷◌, Bool, true, false, cond, ◌&&◌, ◌||◌, length, leb, ltb, eqb, Err, Ok, Result, None, Some, Option}
use Rattle.tagged.specs.File.{refusal}
use Rattle.tagged.specs.Refusals.{scheme_never_opened, month_before_last, no_scheme_left, no_entry_left, no_connection_left}
use Rattle.tagged.specs.declared.file.Refusal.{Refusal}
use Rattle.charge.specs.declared.Bill.{Bill}
use Rattle.ledger.specs.Limits.{most_schemes, most_entries, most_connections, highest_next_scheme}
use Rattle.ledger.specs.Books.{SchemeParticulars, Books, scheme_at}
use Rattle.ledger.specs.Sound.{all_hold}
use Rattle.calls.specs.Rules.{parties_of, capacity_of, contribution}
use Rattle.calls.specs.declared.courses.Joining.{Joining}
use Rattle.calls.specs.declared.courses.Joining.TheVariants.{NotAsked, Ended, Small, Pays}
use Rattle.calls.specs.declared.courses.Course.{Course}

-- the course of a request that is accepted, or the refusal
abbrev pub Verdict : Type 0
Verdict = Result Course Refusal

-- ---- the joining part

-- "Joined, and month ≥ opening + term: .. "ended". .. Below the minimum: nothing collected, no entry, answer "small". Otherwise G is collected": by the
-- scheme's fee, minimum and term
abbrev pub joining_of : Books → Bill → SchemeParticulars → Joining
joining_of books bill row =
    let K = capacity_of (parties_of bill.applicant.scheme books) in
    let G = contribution row.cost bill.applicant.capacity K in
    cond (leb (row.opening + row.term) bill.applicant.month) Ended
    (cond (ltb G row.minimum) Small (Pays (record { collected = G; fee = row.fee; capacity = K })))

-- a scheme that was opened and doesn't stand was cleared: "Joining a cleared scheme gives "ended"" (document 02, E8)
abbrev pub joining_by : Books → Bill → Option SchemeParticulars → Joining
joining_by books bill None = Ended
joining_by books bill (Some row) = joining_of books bill row

-- scheme 0 is none
abbrev pub joining_part : Books → Bill → Joining
joining_part books bill = cond (eqb bill.applicant.scheme 0) NotAsked (joining_by books bill (scheme_at books bill.applicant.scheme))

-- ---- the opening part

-- "mark 0, and X .. above the threshold", by the request's own book; document 02, E4: "A joiner with mark 0 and X above the threshold opens a scheme as anyone
-- else does. .. "small" or "ended" doesn't prevent it."
abbrev pub opens_scheme : Bill → Bool
opens_scheme bill = all_hold (eqb bill.applicant.mark 0 ∷ ltb bill.terms.threshold bill.reconciliation.x ∷ [])

abbrev pub course_of : Books → Bill → Course
course_of books bill = record { joining = joining_part books bill; opens = opens_scheme bill }

-- ---- 8 and 9, for what both parts need: they "are judged for joining and opening together, before either is booked"

-- a joiner that pays becomes an entry
abbrev pub entries_of_joining : Joining → ℕ
entries_of_joining NotAsked = 0
entries_of_joining Ended = 0
entries_of_joining Small = 0
entries_of_joining (Pays contribution) = 1

-- and a scheme that opens has its first
abbrev pub entries_needed : Course → ℕ
entries_needed course = entries_of_joining course.joining + cond course.opens 1 0

-- a ledger "keeps up to 64 schemes", and "The 65,536th scheme is 8" (document 02, E8); where none opens, none is lacking
abbrev pub schemes_lacking : ℕ → ℕ → Bool → Bool
schemes_lacking schemes next_scheme opens = opens && (leb most_schemes schemes || leb highest_next_scheme next_scheme)

-- entries are "at most 512 and at most the table's length"; where none is needed, none is lacking
abbrev pub entries_lacking : ℕ → ℕ → ℕ → Bool
entries_lacking entries room needed = cond (eqb needed 0) false (cond (ltb most_entries (entries + needed)) true (ltb room (entries + needed)))

abbrev pub course_verdict : Books → Course → Verdict
course_verdict books course =
    cond (schemes_lacking (length books.schemes) books.next_scheme course.opens) (Err (refusal no_scheme_left 0 0))
    (cond (entries_lacking (length books.entries) books.room (entries_needed course)) (Err (refusal no_entry_left 0 0)) (Ok course))

-- the order of the refusals: 10, 7, 6, 8, 9
unfoldable pub verdict : Books → Bill → Verdict
verdict books bill =
    cond (leb most_connections books.connections) (Err (refusal no_connection_left 0 0))
    (cond (ltb bill.applicant.month books.month) (Err (refusal month_before_last 0 0))
    (cond (leb books.next_scheme bill.applicant.scheme) (Err (refusal scheme_never_opened 0 0))
    (course_verdict books (course_of books bill))))
