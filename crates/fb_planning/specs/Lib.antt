pub mod PlanEndings
