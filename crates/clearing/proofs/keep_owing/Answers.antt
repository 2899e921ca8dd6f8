-- An entry with standing credit speaks against its scheme (owed), and any other against none (paid_up, nowhere).
use Rattle.std.proofs.Common.{sym, ◌∙◌, arith}
use Rattle.clearing.proofs.Going.{placed_below, paid_up, nowhere, owed}
use Rattle.clearing.proofs.keep_owing.Goals as goal
use Rattle.clearing.proofs.keep_owing.Goals.{then-entry+in-Some, then-entry+in_default, else-entry}

pub bounds-going-at : goal.bounds-going-at
bounds-going-at c = omega (arith, placed_below _ _ c.args.schemes.now (sym c.scheme_at.ensures ∙ c.in-Some.is), c.requires.0)

pub loop-entry-preserved : goal.loop-entry-preserved
loop-entry-preserved c = elim c.if-entry.branch [
  | then-entry+in-Some w ↦
      rw w.going-is
      (owed c.args.entries.now c.loop-entry.entry-index c.requires.1 c.requires.0 c.loop-entry.invariant c.loop-entry-test.true w.in-Some.at
      (rw w.from.ensures at (sym w.scheme_at.ensures ∙ w.in-Some.is)) w.if-entry.true)
  | then-entry+in_default w ↦
      rw w.going-is
      (nowhere c.args.entries.now c.loop-entry.entry-index c.requires.1 c.requires.0 c.loop-entry.invariant c.loop-entry-test.true
      (rw w.from.ensures at (sym w.scheme_at.ensures ∙ w.in_default.is)))
  | else-entry w ↦
      rw w.going-is (paid_up c.args.entries.now c.loop-entry.entry-index c.requires.1 c.requires.0 c.loop-entry.invariant c.loop-entry-test.true w.if-entry.false)
]
