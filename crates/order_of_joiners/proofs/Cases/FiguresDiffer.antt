-- The figures of specs/Cases/OrdersDiffer.antt hold.
use Rattle.std.specs.Prelude.{map, ℕ, ◌≡◌, List, ◌++◌}
use Rattle.std.proofs.Common.{ap, arith}
use Rattle.ledger.specs.Lists.{oldest_first, All}
use Rattle.calls.specs.Verdict.{verdict}
use Rattle.calls.proofs.Theorems.Lists.{all_append}
use Rattle.history.specs.History.{History, account_of, history_from, no_history}
use Rattle.history.proofs.Cases.DecidedCalls.{history_by}
use Rattle.order_of_joiners.specs.Distance.{Part, parts_of}
use Rattle.order_of_joiners.specs.Cases.OrdersDiffer.{Asking, parts_after, FiguresDiffer}
use Rattle.order_of_joiners.proofs.Cases.PricedJoinings.{Billed}
use Rattle.order_of_joiners.proofs.Cases.ByBills.{rules_of, history_by_bills, cleared_by_bills, all_billed}

abbrev parts_in : History → List Part
parts_in h = oldest_first (parts_of (account_of 1 h))

by_bills : (room : ℕ) {opening order : List Asking} → All Billed opening → All Billed order → parts_after room (opening ++ order) ≡ parts_in (history_by room no_history (rules_of (opening ++ order)))
by_bills room opening order = ap parts_in (history_by_bills room no_history (all_append opening order))

pub figures_differ : FiguresDiffer
unfolding history_from history_by verdict
figures_differ =
    record {
      small_one_way = by_bills 3 all_billed.small all_billed.one_then_six;
      small_other_way = by_bills 3 all_billed.small all_billed.six_then_one;
      negative = λ within. omega (arith, within.not_below);
      larger_one_way = by_bills 4 all_billed.larger all_billed.largest_first;
      cleared_one_way = ap (λ (h : History). map (λ account. oldest_first (parts_of account)) h.cleared) cleared_by_bills;
      larger_other_way = by_bills 4 all_billed.larger all_billed.largest_last;
      one_cent = λ within. omega (arith, within.not_below);
      line_one_way = by_bills 11 all_billed.line all_billed.one_way;
      line_other_way = by_bills 11 all_billed.line all_billed.other_way;
      two_cents = λ within. omega (arith, within.not_above);
    }
