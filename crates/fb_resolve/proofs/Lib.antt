pub mod Halves
pub mod Marking
pub mod NumberedLinks
pub mod Openings
pub mod Reached
pub mod Rings
pub mod Roots
pub mod SortedRuns
