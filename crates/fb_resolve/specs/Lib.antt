pub mod InternalMarks
pub mod Openings
pub mod Rows
