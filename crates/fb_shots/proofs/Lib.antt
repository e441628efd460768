pub mod Detectors
pub mod GoingOn
pub mod Readings
pub mod Follows
pub mod Taking
pub mod Turns
