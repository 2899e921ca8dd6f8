-- The loops over a line, one byte on and past the last.
use Rattle.std.specs.Prelude.{ℕ, ◌+◌, ◌≤◌, ◌<◌, ◌≡◌, List, Bool, cond, not, ◌&&◌, length, drop, get_or, eqb}
use Rattle.std.proofs.lemmas.List.{at_drop_more, at_drop_all}
use Rattle.text_lines.specs.Columns.{is_separator, column_from, closes_from}

module _ (s : List ℕ) (i : ℕ) (quoted : Bool) where
  pub column_on : (separator : ℕ) → i < length s →
      column_from separator quoted (drop i s)
      ≡ cond (eqb (get_or s i 0) 34) (1 + column_from separator (not quoted) (drop (i + 1) s))
      (cond (not quoted && is_separator separator (get_or s i 0)) 0 (1 + column_from separator quoted (drop (i + 1) s)))
  unfolding column_from
  column_on separator h = at_drop_more (column_from separator quoted) s i 0 h

  pub column_end : (separator : ℕ) → length s ≤ i → column_from separator quoted (drop i s) ≡ 0
  unfolding column_from
  column_end separator h = at_drop_all (column_from separator quoted) s i h

  pub closes_on : i < length s → closes_from quoted (drop i s) ≡ closes_from (cond (eqb (get_or s i 0) 34) (not quoted) quoted) (drop (i + 1) s)
  unfolding closes_from
  closes_on h = at_drop_more (closes_from quoted) s i 0 h

  pub closes_end : length s ≤ i → closes_from quoted (drop i s) ≡ not quoted
  unfolding closes_from
  closes_end h = at_drop_all (closes_from quoted) s i h
