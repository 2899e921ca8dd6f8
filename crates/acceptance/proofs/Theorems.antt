pub mod Plan
pub mod PlanNeeds
pub mod PlanFits
pub mod PlanIsCall
