pub mod PlanWriting
pub mod InternalWriting
pub mod Laws
