-- The lists are computed in proofs/Cases.
use Rattle.order_of_joiners.proofs.Cases.FiguresDiffer.{figures_differ}
use Rattle.order_of_joiners.proofs.Cases.Met.{small_met, larger_met}
use Rattle.order_of_joiners.proofs.Cases.ThreeJoinings.{three_joinings, cleared_joinings}
use Rattle.order_of_joiners.proofs.orders_do_differ.Goals as goal

pub returns : goal.returns
returns c = record { figures = figures_differ; small_met = small_met; larger_met = larger_met; three_joinings = three_joinings; cleared_joinings = cleared_joinings }
