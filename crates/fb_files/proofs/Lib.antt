pub mod Inputs
pub mod Lists
pub mod Gathered
pub mod Reported
