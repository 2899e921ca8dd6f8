-- A loop that writes one piece each time: the next piece and those behind it are the pieces from there on.
use Rattle.std.specs.Prelude.{ℕ, suc, ◌+◌, ◌-◌, ◌≤◌, ◌<◌, ◌≡◌, length}
use Rattle.std.proofs.Common.{arith, ap, sym, ◌∙◌, length-append}
use mathlib.Core.List.{List, [], ◌++◌}
use Rattle.numbers.specs.Written.{written}
use Rattle.text_output.specs.Pieces.{each}
use Rattle.text_output.proofs.Theorems.Written.{written_behind, written_nothing}

pub each_on : (piece : ℕ → List ℕ) (n k i : ℕ) → k < n → each piece (n - k) i ≡ piece i ++ each piece (n - (k + 1)) (i + 1)
unfolding each
each_on piece n k i h = let e : n - k ≡ suc (n - (k + 1)) = omega arith in rw e

pub each_end : (piece : ℕ → List ℕ) (n k i : ℕ) → n ≤ k → each piece (n - k) i ≡ []
unfolding each
each_end piece n k i h = let e : n - k ≡ 0 = omega arith in rw e

-- What a loop keeps that has written k of n pieces from `first` on: the rest, written where it is, makes the whole.
pub record Writes (piece : ℕ → List ℕ) (n first : ℕ) (start : List ℕ) (from : ℕ) (k : ℕ) (out : List ℕ) (at : ℕ) : Type 0 where
  pub place : at + length (each piece (n - k) (first + k)) ≡ from + length (each piece n first)
  pub out_after : written out at (each piece (n - k) (first + k)) ≡ written start from (each piece n first)

pub writes_none : (piece : ℕ → List ℕ) (n first : ℕ) (start : List ℕ) (from : ℕ) → Writes piece n first start from 0 start from
writes_none piece n first start from =
    let e : n - 0 ≡ n = omega arith in
    let f : first + 0 ≡ first = omega arith in
    record { place = rw (e, f); out_after = rw (e, f) }

pub writes_on : (piece : ℕ → List ℕ) (n first : ℕ) (start : List ℕ) (from k : ℕ) (out : List ℕ) (at : ℕ) (out' : List ℕ) (at' j : ℕ) → j ≡ first + k → k < n →
    at + length (each piece (n - k) (first + k)) ≤ length out → out' ≡ written out at (piece j) → at' ≡ at + length (piece j) →
    Writes piece n first start from k out at → Writes piece n first start from (k + 1) out' at'
writes_on piece n first start from k out at out' at' j here h room e f kept =
    let next : first + (k + 1) ≡ j + 1 = omega (arith, here) in
    let on : each piece (n - k) (first + k) ≡ piece j ++ each piece (n - (k + 1)) (j + 1) = rw (← here) (each_on piece n k j h) in
    let long : length (each piece (n - k) (first + k)) ≡ length (piece j) + length (each piece (n - (k + 1)) (j + 1)) = ap length on ∙ length-append (piece j) _ in
    record {
      place = rw next (omega (arith, kept.place, long, f));
      out_after =
          rw (next, e) (written_behind out (piece j) (each piece (n - (k + 1)) (j + 1)) at at' f (omega (arith, long))
          ∙ ap (written out at) (sym on) ∙ kept.out_after);
    }

-- there is room for the next piece
pub writes_room : (piece : ℕ → List ℕ) (n first : ℕ) (start : List ℕ) (from k : ℕ) (out : List ℕ) (at j : ℕ) → j ≡ first + k → k < n →
    from + length (each piece n first) ≤ length start → length out ≡ length start → Writes piece n first start from k out at →
    (at + length (piece j) ≤ length out) × (at + length (each piece (n - k) (first + k)) ≤ length out)
writes_room piece n first start from k out at j here h room same kept =
    let on : each piece (n - k) (first + k) ≡ piece j ++ each piece (n - (k + 1)) (j + 1) = rw (← here) (each_on piece n k j h) in
    let long : length (each piece (n - k) (first + k)) ≡ length (piece j) + length (each piece (n - (k + 1)) (j + 1)) = ap length on ∙ length-append (piece j) _ in
    (omega (arith, kept.place, long), omega (arith, kept.place, long))

pub writes_all : (piece : ℕ → List ℕ) (n first : ℕ) (start : List ℕ) (from k : ℕ) (out : List ℕ) (at : ℕ) → n ≤ k →
    Writes piece n first start from k out at → (at ≡ from + length (each piece n first)) × (out ≡ written start from (each piece n first))
writes_all piece n first start from k out at h kept =
    let none : each piece (n - k) (first + k) ≡ [] = each_end piece n k (first + k) h in
    (omega (arith, kept.place, ap length none), sym (written_nothing out at) ∙ ap (written out at) (sym none) ∙ kept.out_after)
