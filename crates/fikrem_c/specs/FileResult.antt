-- The file that a refusal names where a file is read alone.
use Rattle.std.specs.Prelude.{ℕ}

-- Document 01, 'What a refusal tells': "file (1 book or a file read alone; ..)"
abbrev pub file_read_alone : ℕ
file_read_alone = 1
