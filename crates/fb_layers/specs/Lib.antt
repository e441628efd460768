pub mod Layers
pub mod InternalSearch
pub mod PlanByLayers
pub mod Runs
pub mod InternalCovers
pub mod Laws
