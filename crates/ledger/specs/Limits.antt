-- Document 01, 'Soundness': "A ledger is sound if it has at most 64 schemes, 512 entries and 1,000,000 connections; put in is at most 2,000,000,000, credited at most
-- 2,000,000,000,000, each of the two sums at most 1,100,000,000,000 × connections".
use Rattle.std.specs.Prelude.{ℕ, ◌+◌, ◌*◌}

abbrev pub most_schemes : ℕ
most_schemes = 64

abbrev pub most_entries : ℕ
most_entries = 512

abbrev pub most_connections : ℕ
most_connections = 1000000

-- in cents, of an entry
abbrev pub highest_put_in : ℕ
highest_put_in = 2000000000

abbrev pub highest_credited : ℕ
highest_credited = 2000000000000

-- in cents, for each connection: charged and borne
abbrev pub highest_sum : ℕ
highest_sum = 1100000000000

-- document 02, E8: "next scheme is at most 65,536", as a scheme's number is written in two bytes where it is named; "next entry is at most 513 + 2 × connections",
-- as a call enters a joiner and an opener at most
abbrev pub highest_next_scheme : ℕ
highest_next_scheme = 65536

abbrev pub highest_next_entry : ℕ → ℕ
highest_next_entry connections = 513 + 2 * connections
