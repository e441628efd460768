pub mod Drawing
pub mod FaultTexts
pub mod Lattice
pub mod TimePlan
pub mod InternalSharing
