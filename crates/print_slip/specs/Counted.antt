-- Document 01, 'The slip': "An unreadable file counts as empty, one past 4,096 bytes as its first 4,096."
use Rattle.std.specs.Prelude.{ℕ, List, take}

abbrev pub counted_size : ℕ
counted_size = 4096

-- what counts of a file
abbrev pub counted : List ℕ → List ℕ
counted file = take counted_size file
