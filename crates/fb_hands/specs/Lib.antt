pub mod Gates
pub mod Jobs
