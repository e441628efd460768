pub mod Onward
pub mod Lookups
