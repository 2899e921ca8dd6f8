pub mod PricedJoinings
pub mod ByBills
pub mod FiguresDiffer
pub mod Met
pub mod ThreeJoinings
