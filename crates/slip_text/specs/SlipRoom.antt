-- How many bytes the text and the slip have at most.
use Rattle.std.specs.Prelude.{ℕ}

-- how many bytes a text has room for: eleven lines of any figures of 64 bits
abbrev pub room : ℕ
room = 384

-- how long the slip of two files is at most
abbrev pub longest_slip : ℕ
longest_slip = 236
