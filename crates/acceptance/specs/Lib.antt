pub mod PlanCarried
pub mod Plan
pub mod PlanFits
pub mod PlanNeeds
pub mod Cases
