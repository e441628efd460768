pub mod PlanText
pub mod InternalFusions
