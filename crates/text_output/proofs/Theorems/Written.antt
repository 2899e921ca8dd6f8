-- What is written, in the library's words; and two pieces that are written one behind the other are written at once.
use Rattle.std.specs.Prelude.{ℕ, ◌+◌, ◌-◌, ◌≤◌, ◌<◌, ◌≡◌, length, slice_set}
use Rattle.std.proofs.Common.{arith, drop-drop, take-append-drop, add-one, length-append}
use mathlib.Core.List.{List, [], ◌∷◌, ◌++◌, append_assoc}
use borrow.Rule.Slice.PartMut.{put_mid}
use Rattle.std.proofs.lemmas.List.{set_split}
use Rattle.numbers.specs.Written.{written}
use Rattle.numbers.proofs.Theorems.BigEndian.{written_written}

pub written_part : (out piece bytes : List ℕ) (at : ℕ) → piece ≡ bytes → put_mid at (at + length bytes - at) out piece ≡ written out at bytes
unfolding written
written_part out piece bytes at e = let k : at + length bytes - at ≡ length bytes = omega arith in rw (e, k, drop-drop)

pub written_byte : (out : List ℕ) (at byte : ℕ) → at < length out → slice_set out at byte ≡ written out at (byte ∷ [])
unfolding written
written_byte out at byte h = rw (add-one, set_split out at byte)

pub written_nothing : (out : List ℕ) (at : ℕ) → written out at [] ≡ out
unfolding written
written_nothing out at = let k : at + 0 ≡ at = omega arith in rw k (take-append-drop at out)

pub written_behind : (out first second : List ℕ) (at next : ℕ) → next ≡ at + length first → at + length first + length second ≤ length out →
    written (written out at first) next second ≡ written out at (first ++ second)
written_behind out first second at next e h = rw e (written_written out at first second h)

-- what pieces one behind the other come to, and how long that is
pub ruleset pieces = (written_behind, append_assoc, length-append)
