-- A number and its bytes at a place within an output.
use Rattle.std.specs.Prelude.{ℕ, ◌+◌, ◌^◌, ◌<◌, ◌≤◌, ◌≡◌, length, take, drop}
use Rattle.std.proofs.Common.{arith, length-drop, take-append-drop, length-take-le, take_at, drop_at, drop-drop}
use mathlib.Core.List.{List}
use Rattle.numbers.specs.BigEndian.{Bytes, number, number_at, bytes_of}
use Rattle.numbers.specs.Written.{written}
use Rattle.numbers.proofs.Theorems.BigEndian.{Bytes-take, Bytes-drop, length_bytes_of, number_of_bytes_of, bytes_of_number}

-- a number that was written at a place is the number there
pub number_at_written : (out : List ℕ) (at width n : ℕ) → n < 256 ^ width → at + width ≤ length out
    → number_at (written out at (bytes_of width n)) at width ≡ n
unfolding written
number_at_written out at width n below h =
    let before : length (take at out) ≡ at = length-take-le at out (omega arith) in
    rw (drop_at (take at out) _ at before, take_at (bytes_of width n) _ width (length_bytes_of width n)) (number_of_bytes_of width n below)

-- to write the number that is at a place changes nothing
pub written_number_at : (out : List ℕ) (at width : ℕ) → Bytes out → at + width ≤ length out
    → written out at (bytes_of width (number_at out at width)) ≡ out
unfolding written
written_number_at out at width bytes h =
    let here = take width (drop at out) in
    let long : length here ≡ width = length-take-le width (drop at out) (simp length-drop (omega arith)) in
    let same : bytes_of width (number here) ≡ here = rw long at (bytes_of_number here (Bytes-take width (drop at out) (Bytes-drop at out bytes))) in
    rw (same, long, ← drop-drop, take-append-drop, take-append-drop)
