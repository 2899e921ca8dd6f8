-- A number's bytes as the library reads and writes them are the definitions'.
use Rattle.std.specs.Prelude.{ℕ, ◌+◌, ◌-◌, ◌*◌, ◌<◌, ◌≤◌, ◌≡◌, ◌^◌, List, length, get_or}
use Rattle.std.proofs.Common.{sym, ◌∙◌, arith, drop-drop}
use Rattle.std.specs.Int.{w16, w32, w64, to_be_bytes}
use Rattle.std.proofs.lemmas.Nat.{be_bytes_2, be_bytes_4, be_bytes_8}
use borrow.Rule.Slice.PartMut.{put_mid}
use Rattle.numbers.specs.BigEndian.{number, number_at, bytes_of}
use Rattle.numbers.specs.Written.{written}
use Rattle.numbers.proofs.Theorems.BigEndian.{number_at_one, number_at_add, length_bytes_of, bytes_of_bytes, number_of_bytes_of}

-- ---- read
module _ (s : List ℕ) where
  abbrev byte : ℕ → ℕ
  byte at = get_or s at 0

  pub read_2 : (at : ℕ) → at + 2 ≤ length s → number_at s at 2 ≡ byte at * 256 + byte (at + 1)
  read_2 at h = omega (arith, number_at_add s at 1 1 h, number_at_one s at (omega arith), number_at_one s (at + 1) (omega arith))

  pub read_4 : (at : ℕ) → at + 4 ≤ length s → number_at s at 4 ≡ byte at * 16777216 + byte (at + 1) * 65536 + byte (at + 2) * 256 + byte (at + 3)
  read_4 at h = grind (arith, number_at_add s at 2 2 h, read_2 at (omega arith), read_2 (at + 2) (omega arith))

  pub read_8 : (at : ℕ) → at + 8 ≤ length s →
      number_at s at 8
      ≡ byte at * 72057594037927936 + byte (at + 1) * 281474976710656 + byte (at + 2) * 1099511627776 + byte (at + 3) * 4294967296 + byte (at + 4) * 16777216
      + byte (at + 5) * 65536 + byte (at + 6) * 256 + byte (at + 7)
  read_8 at h = grind (arith, number_at_add s at 4 4 h, read_4 at (omega arith), read_4 (at + 4) (omega arith))

-- ---- written: the bytes copied into a part of the output
put_written : (out piece bytes : List ℕ) (at width : ℕ) → piece ≡ bytes → length bytes ≡ width → written out at bytes ≡ put_mid at (at + width - at) out piece
unfolding written
put_written out piece bytes at width e long = let k : at + width - at ≡ length bytes = omega arith in rw (e, k, drop-drop)

module _ (out : List ℕ) (at n : ℕ) where
  pub written_2 : n < 2 ^ 16 → written out at (bytes_of 2 n) ≡ put_mid at (at + 2 - at) out (to_be_bytes w16 n)
  unfolding bytes_of number
  written_2 h =
      put_written _ _ _ _ _ (be_bytes_2 (bytes_of 2 n) n (length_bytes_of 2 n) (bytes_of_bytes 2 n h) (sym (number_of_bytes_of 2 n h) ∙ omega arith)) (length_bytes_of 2 n)

  pub written_4 : n < 2 ^ 32 → written out at (bytes_of 4 n) ≡ put_mid at (at + 4 - at) out (to_be_bytes w32 n)
  unfolding bytes_of number
  written_4 h =
      put_written _ _ _ _ _ (be_bytes_4 (bytes_of 4 n) n (length_bytes_of 4 n) (bytes_of_bytes 4 n h) (sym (number_of_bytes_of 4 n h) ∙ omega arith)) (length_bytes_of 4 n)

  pub written_8 : n < 2 ^ 64 → written out at (bytes_of 8 n) ≡ put_mid at (at + 8 - at) out (to_be_bytes w64 n)
  unfolding bytes_of number
  written_8 h =
      put_written _ _ _ _ _ (be_bytes_8 (bytes_of 8 n) n (length_bytes_of 8 n) (bytes_of_bytes 8 n h) (sym (number_of_bytes_of 8 n h) ∙ omega arith)) (length_bytes_of 8 n)
